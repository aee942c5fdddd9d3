-- The rules on ends: one more end, and ends at a position that is no flag's.
use Rattle.std.proofs.Common.{◌≡◌, refl, ℕ, suc, ◌+◌, ◌<◌, ℤ, true, ◌&&◌, List, [], ◌∷◌, length, drop, get_or}
use Rattle.std.proofs.Common.{min, arith}
use Rattle.std.proofs.Math.Seq.{drop-cons}
use Rattle.std.proofs.lemmas.Bool.{and_parts}
use Rattle.std.specs.Prelude.{nat_lt}
use borrow.Author.Tests.{le-leb, leb-true, lt-ltb, ltb-true}
use Rattle.run_ends.specs.Rules.{end_of, ends_of, rising_to}

-- one end of the check
pub one_end : (n last i : ℕ) (ends : List ℤ) (d : ℤ) → i < length ends
    → rising_to n last (ends_of (drop i ends))
    ≡ (nat_lt last (end_of (get_or ends i d)) && rising_to n (end_of (get_or ends i d)) (ends_of (drop (i + 1) ends)))
unfolding rising_to
one_end n last i ends d p =
    let e : i + 1 ≡ suc i = omega arith in
    rw (drop-cons ends i d p, e) refl

-- ends that rise from above a position rise from above the length too, if it is less
pub rising-least : (n last : ℕ) (es : List ℕ) → rising_to n last es ≡ true → rising_to n (min last n) es ≡ true
unfolding rising_to
rising-least n last [] h = le-leb n (min last n) (omega (arith, leb-true n last h))
rising-least n last (e ∷ es) h =
    let p = and_parts (nat_lt last e) (rising_to n e es) h in
    rw (lt-ltb (min last n) e (omega (arith, ltb-true last e p.0))) p.1
