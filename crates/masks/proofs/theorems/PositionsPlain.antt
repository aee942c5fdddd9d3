-- The plain reading of many positions at once: those that as many calls of `next` return, and the cursor that these calls leave.
use Rattle.std.proofs.lemmas.Bool.{cases_lt}
use mathlib.Core.Path.{◌≡◌, refl, sym, ap, ◌∙◌}
use mathlib.Core.List.{List, [], ◌∷◌}
use mathlib.Core.Logic.{⊎_elim}
use Prim.Native.Nat.{ℕ, zero, suc, ◌+◌, ◌≤◌, ◌<◌}
use native.Mathlib.Omega.{arith}
use lib.ListN.{length, take}
use Rattle.masks.proofs.statements.Listing.{listing, after_calls}
use Rattle.masks.specs.Positions.{left_of, place_after}
use Rattle.masks.specs.TrueIdx.{true_moved}
use Rattle.masks.specs.declared.true_idx.TrueIdxIter.{TrueIdxIter}
use Rattle.masks.proofs.cursor.ListingLaws.{an_item, the_end, after-item, after-end}
use Rattle.masks.proofs.true_idx.PositionLaws.{after-many, after-few, after-none}
use Rattle.masks.proofs.theorems.TrueIdxPlain.{NextOne, one-next, none-next, next_one, IsAccepted, accepted-at, answer-of}

no-calls : (bytes : List ℕ) (c : TrueIdxIter) → listing (answer-of bytes) 0 c ≡ []
unfolding listing
no-calls bytes c = refl

same-cursor : (bytes : List ℕ) (c : TrueIdxIter) → after_calls (answer-of bytes) 0 c ≡ c
unfolding after_calls
same-cursor bytes c = refl

-- The positions written are those that as many calls of `next` return.
pub chunk-lists : (bytes : List ℕ) (k : ℕ) (c : TrueIdxIter) → IsAccepted bytes c → take k (left_of c bytes) ≡ listing (answer-of bytes) k c
chunk-lists bytes zero c ok = sym (no-calls bytes c)
chunk-lists bytes (suc k) c ok = go (next_one bytes c ok) (λ (d : TrueIdxIter) (o : IsAccepted bytes d). chunk-lists bytes k d o)
  where
    go : NextOne bytes c → ((d : TrueIdxIter) → IsAccepted bytes d → take k (left_of d bytes) ≡ listing (answer-of bytes) k d)
        → take (suc k) (left_of c bytes) ≡ listing (answer-of bytes) (suc k) c
    go (one-next p low high e o f) again =
        ap (take (suc k)) f ∙ ap (λ (t : List ℕ). p ∷ t) (again (true_moved c (p + 1)) o)
        ∙ sym (an_item (answer-of bytes) k c (true_moved c (p + 1)) p e)
    go (none-next e f) again = ap (take (suc k)) f ∙ sym (the_end (answer-of bytes) k c (true_moved c c.length) e)

-- the place after one more position
one_more : (c d : TrueIdxIter) (p : ℕ) (left : List ℕ) (k : ℕ) → d.place ≡ p + 1 → d.length ≡ c.length
    → place_after c (p ∷ left) (suc k) ≡ place_after d left k
one_more c d p left zero e f = after-many c (p ∷ left) 0 (omega arith) ∙ sym e ∙ sym (after-none d left)
one_more c d p left (suc k) e f = ⊎_elim
    (λ (h : k < length left). after-many c (p ∷ left) (suc k) (omega arith) ∙ sym (after-many d left k h))
    (λ (h : length left ≤ k). after-few c (p ∷ left) (suc k) (omega arith) ∙ sym f ∙ sym (after-few d left k h))
    (cases_lt k (length left))

-- a cursor at the length stays there
at_the_end : (bytes : List ℕ) (k : ℕ) (c : TrueIdxIter) → IsAccepted bytes c → c.place ≡ c.length → after_calls (answer-of bytes) k c ≡ c
at_the_end bytes zero c ok e = same-cursor bytes c
at_the_end bytes (suc k) c ok e =
    go (next_one bytes c ok) (λ (d : TrueIdxIter) (o : IsAccepted bytes d) (f : d.place ≡ d.length). at_the_end bytes k d o f)
  where
    go : NextOne bytes c → ((d : TrueIdxIter) → IsAccepted bytes d → d.place ≡ d.length → after_calls (answer-of bytes) k d ≡ d)
        → after_calls (answer-of bytes) (suc k) c ≡ c
    go (one-next p low high a o f) again = absurd (omega arith)
    go (none-next a f) again =
        let same : true_moved c c.length ≡ c = ap (true_moved c) (sym e) in
        after-end (answer-of bytes) k c (true_moved c c.length) a
        ∙ again (true_moved c c.length) (accepted-at c (length bytes) c.length ok (omega arith)) refl ∙ same

-- The place of the cursor is the one that as many calls of `next` leave.
pub chunk-leaves : (bytes : List ℕ) (k : ℕ) (c : TrueIdxIter) → IsAccepted bytes c
    → true_moved c (place_after c (left_of c bytes) k) ≡ after_calls (answer-of bytes) k c
chunk-leaves bytes zero c ok = ap (true_moved c) (after-none c (left_of c bytes)) ∙ sym (same-cursor bytes c)
chunk-leaves bytes (suc k) c ok =
    go (next_one bytes c ok) (λ (d : TrueIdxIter) (o : IsAccepted bytes d). chunk-leaves bytes k d o)
  where
    go : NextOne bytes c
        → ((d : TrueIdxIter) → IsAccepted bytes d → true_moved d (place_after d (left_of d bytes) k) ≡ after_calls (answer-of bytes) k d)
        → true_moved c (place_after c (left_of c bytes) (suc k)) ≡ after_calls (answer-of bytes) (suc k) c
    go (one-next p low high a o f) again =
        let d : TrueIdxIter = true_moved c (p + 1) in
        ap (λ (t : List ℕ). true_moved c (place_after c t (suc k))) f ∙ ap (true_moved c) (one_more c d p (left_of d bytes) k refl refl)
        ∙ again d o ∙ sym (after-item (answer-of bytes) k c d p a)
    go (none-next a f) again =
        let d : TrueIdxIter = true_moved c c.length in
        ap (λ (t : List ℕ). true_moved c (place_after c t (suc k))) f ∙ ap (true_moved c) (after-few c [] k (omega arith))
        ∙ sym (after-end (answer-of bytes) k c d a ∙ at_the_end bytes k d (accepted-at c (length bytes) c.length ok (omega arith)) refl)
