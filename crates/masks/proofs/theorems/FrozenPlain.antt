-- What frozen bytes are: the statements of `proofs/statements/FrozenPlain.antt`, proved.
use Rattle.std.proofs.lemmas.Bool.{cases_lt}
use mathlib.Core.Path.{◌≡◌, sym, ap, ◌∙◌}
use mathlib.Core.Bool.{Bool, false, ◌&&◌}
use mathlib.Core.List.{List}
use mathlib.Core.Logic.{⊎_elim}
use Prim.Native.Nat.{ℕ, ◌+◌, ◌*◌, ◌≤◌, ◌<◌}
use native.Mathlib.Omega.{arith}
use lib.ListN.{length, get_or}
use Rattle.std.proofs.Math.ListN.{get_or-eq_default}
use borrow.Author.Tests.{lt-ltb, le-ltb}
use Rattle.words.specs.Flags.{flag_at}
use Rattle.words.proofs.flags.Windows.{at-window}
use Rattle.words.proofs.theorems.Plain.{at-flags}
use Rattle.masks.specs.Frozen.{frozen, frozen_size}
use Rattle.masks.proofs.bitmap_ops.FrozenLaws.{flags-packed, length-packed}
use Rattle.masks.proofs.statements.FrozenPlain.{FrozenPlain}

each_flag : (l : List Bool) (j : ℕ) → flag_at (frozen l) j ≡ get_or l j false
unfolding frozen
each_flag l j =
    let n : ℕ = 8 * frozen_size (length l) in
    let z : 0 + j ≡ j = omega arith in
    sym (at-flags (frozen l) j) ∙ ap (λ (t : List Bool). get_or t j false) (flags-packed (frozen_size (length l)) l)
    ∙ at-window l 0 n j ∙ ⊎_elim
    (λ (h : j < n). ap (λ (t : Bool). t && get_or l (0 + j) false) (lt-ltb j n h) ∙ ap (λ (i : ℕ). get_or l i false) z)
    (λ (h : n ≤ j). ap (λ (t : Bool). t && get_or l (0 + j) false) (le-ltb j n h) ∙ sym (get_or-eq_default l false (outside l j h)))
    (cases_lt j n)
  where
    outside : (m : List Bool) (i : ℕ) → 8 * frozen_size (length m) ≤ i → length m ≤ i
    outside m i h = omega arith

pub frozen-plain : FrozenPlain
unfolding frozen
frozen-plain =
    record {
      size = λ l. length-packed (frozen_size (length l)) l;
      below = λ l j h. each_flag l j;
      past = λ l j h. each_flag l j ∙ get_or-eq_default l false h;
    }
