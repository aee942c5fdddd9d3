-- The fields are what the calls ensure (congruence); `placed` says that the prefix fits in the span and in a word.
use native.Mathlib.Omega.{arith}
use Rattle.masks.proofs.aligned.SplitLaws.{placed}
use Rattle.masks.proofs.aligned.AddressedSpan.split.Goals as goal

pub overflow_sub-rest : goal.overflow_sub-rest
overflow_sub-rest c =
    omega (
      arith,
      c.prefix_length-prefix_len.ensures,
      (placed c.args.self.now.start
          c.args.self.now.length c.args.self.now.address).fits,
    )

pub flags_word-prefix-requires : goal.flags_word-prefix-requires
flags_word-prefix-requires c =
    omega (
      arith,
      c.prefix_length-prefix_len.ensures,
      (placed c.args.self.now.start
          c.args.self.now.length c.args.self.now.address).word,
    )
