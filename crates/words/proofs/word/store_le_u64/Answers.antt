-- With eight bytes or more the first eight are lent, and `over-part` states it for the whole; with fewer it is what `split` ensures.
use Rattle.std.proofs.Common.{arith}
use Rattle.words.proofs.flags.Bits.{length-bits}
use Rattle.words.proofs.flags.Bytes.{over-part}
use Rattle.words.proofs.word.store_le_u64.Goals as goal

pub returns-then-out-ge8 : goal.returns-then-out-ge8
returns-then-out-ge8 c = over-part 8 _ _ _ (omega arith) (length-bits 64 _) c.split.ensures
