-- The combinations: what they write, as flags and as bytes, their shortcuts, and the counts and serials of their results.
use Rattle.std.specs.Bool.{then_some}
use Rattle.std.specs.Prelude.{Option, Some, None}
use Rattle.std.proofs.Math.Nat.{max-zero}
use mathlib.Core.Path.{◌≡◌, refl, sym, ap, ap₂, ◌∙◌}
use mathlib.Core.Logic.{◌⊎◌, inl, inr}
use mathlib.Core.Bool.{Bool, true, false, not, cond, ◌&&◌, ◌||◌}
use mathlib.Core.List.{List, [], ◌∷◌, ◌++◌, map, zip_with}
use Prim.Native.Nat.{ℕ, ◌+◌, ◌*◌, ◌/◌, max}
use native.Mathlib.Omega.{arith}
use lib.Dec.{eqb}
use lib.ListN.{length}
use borrow.Author.Tests.{eqb-true, eqb-false}
use Rattle.words.specs.Flags.{flags_of, over, window}
use Rattle.words.specs.Loops.{whole_words, combined, stretch}
use Rattle.words.specs.Ops.{op_of, or_not, zip3}
use Rattle.words.proofs.ops.Combining.{zip_first, zip_two, zip-same, zip-flip, else-set, else-clear}
use Rattle.words.proofs.flags.Windows.{length-window}
use Rattle.words.specs.declared.ops.Op.{Op}
use Rattle.words.specs.declared.ops.Op.TheVariants.{And, AndNot, Or, OrNot, Xor, Not, Select}
use Rattle.words.proofs.flags.Bytes.{flags-inj, flags-over}
use Rattle.masks.specs.Checks.{Check, check, first_failed, output_checks}
use Rattle.masks.specs.Combine.{shortcut, largest_serial, result_mask, result_count, pair_checks, pair_shortcut}
use Rattle.masks.specs.Workers.{result_flags}
use Rattle.masks.specs.Combine.{pair_flags, pair_mask, select_checks}
use Rattle.masks.specs.Frozen.{packed, frozen, frozen_size, over_from, with_frozen}
use Rattle.masks.specs.Mask.{mask_under, mask_checks, uncounted}
use Rattle.masks.specs.Workers.{either_all, known_or_counted, xor_all, zeros_of_all}
use Rattle.masks.specs.declared.bitmap.Bitmap.{Bitmap}
use Rattle.masks.proofs.statements.TrueCounts.{Truthful}
use Rattle.masks.proofs.bitmap.MaskLaws.{mask-truthful}
use Rattle.masks.proofs.theorems.ShortcutsUnseen.{flags-by_operation, true-count}
use Rattle.masks.proofs.checks.CheckLaws.{both_left, both_right, first-allowed, rest-allowed}
use Rattle.masks.proofs.bitmap_ops.FrozenLaws.{Small, flags-packed, packed-small, over_from-small}

-- ---- from flags to bytes

flags-frozen : (l : List Bool) → flags_of (frozen l) ≡ whole_words l
unfolding frozen whole_words
flags-frozen l =
    let e : 8 * (8 * ((length l + 63) / 64)) ≡ 64 * ((length l + 63) / 64) = omega arith in
    flags-packed (8 * ((length l + 63) / 64)) l ∙ ap (window l 0) e

over-small : (out : List ℕ) (l : List Bool) → Small out → Small (over out (frozen l))
unfolding over_from frozen
over-small out l p = over_from-small out 0 (packed (frozen_size (length l)) l) p (packed-small (frozen_size (length l)) l)

-- if the flags of an output are whole words over its old flags, its bytes are the list's frozen bytes over the old bytes
pub frozen-written : (out out' : List ℕ) (l : List Bool) → Small out → Small out' → flags_of out' ≡ over (flags_of out) (whole_words l)
    → out' ≡ over out (frozen l)
frozen-written out out' l p q e =
    flags-inj out' (over out (frozen l)) q (over-small out l p)
    (e ∙ ap (over (flags_of out)) (sym (flags-frozen l)) ∙ sym (flags-over out (frozen l)))

-- ---- shortcuts

pub either_first : (x l r : Bool) → l ≡ true → Some x ≡ either_all x l r
unfolding either_all
either_first x l r e = rw e

pub either_second : (x l r : Bool) → l ≡ false → then_some r x ≡ either_all x l r
unfolding either_all
either_second x l true e = rw e
either_second x l false e = rw e

-- the operations that have no shortcut
pub not-short : (op : Op) (n l r : ℕ) → (op ≡ AndNot) ⊎ ((op ≡ OrNot) ⊎ ((op ≡ Not) ⊎ (op ≡ Select))) → None ≡ shortcut op n l r
unfolding shortcut
not-short op n l r (inl e) = rw e
not-short op n l r (inr (inl e)) = rw e
not-short op n l r (inr (inr (inl e))) = rw e
not-short op n l r (inr (inr (inr e))) = rw e

pub by-and : (n m l r : ℕ) (s : Option Bool) → n ≡ m → s ≡ either_all false (eqb l (zeros_of_all false n)) (eqb r (zeros_of_all false m))
    → s ≡ shortcut And n l r
unfolding shortcut either_all
by-and n m l r s h p = p ∙ ap (λ (k : ℕ). either_all false (eqb l n) (eqb r k)) (sym h)

pub by-or : (n l r : ℕ) (s : Option Bool) → s ≡ either_all true (eqb l 0) (eqb r 0) → s ≡ shortcut Or n l r
unfolding shortcut either_all
by-or n l r s p = p

pub xor_same : (a b : Bool) → a ≡ true → Some false ≡ xor_all a b
unfolding xor_all
xor_same a b e = rw e

pub xor_opposite : (a b : Bool) → a ≡ false → b ≡ true → Some true ≡ xor_all a b
unfolding xor_all
xor_opposite a b e f = rw (e, f)

pub xor-mixed : (a b : Bool) → a ≡ false → b ≡ false → None ≡ xor_all a b
unfolding xor_all
xor-mixed a b e f = rw (e, f)

-- the shortcut of `xor` by its four tests
pub xor-by : (n l r : ℕ) (a b c d : Bool) (s : Option Bool) → eqb l n ≡ a → eqb r n ≡ b → eqb l 0 ≡ c → eqb r 0 ≡ d
    → s ≡ cond ((a && b) || (c && d)) (Some false) (cond ((c && b) || (a && d)) (Some true) None) → s ≡ shortcut Xor n l r
unfolding shortcut
xor-by n l r a b c d s p q u v e = rw (p, q, u, v) e

-- its shortcut if the first mask is all zeros by its count, and if it is all ones,
pub xor-clear : (n m l r : ℕ) (s : Option Bool) → n ≡ m → eqb l n ≡ true → s ≡ xor_all (eqb r m) (eqb r 0) → s ≡ shortcut Xor n l r
unfolding xor_all
xor-clear n m l r s same e p = go (eqb r n) (eqb r 0) (eqb l 0) refl refl refl
  where
    both : (b d : Bool) → eqb r n ≡ b → eqb r 0 ≡ d → s ≡ xor_all b d
    both b d u v = p ∙ ap₂ xor_all (ap (eqb r) (sym same) ∙ u) v

    go : (b d c : Bool) → eqb r n ≡ b → eqb r 0 ≡ d → eqb l 0 ≡ c → s ≡ shortcut Xor n l r
    go true d c u v w = xor-by n l r true true c d s e u w v (both true d u v)
    go false true true u v w =
        absurd (eqb-false r n u (eqb-true r 0 v ∙ sym (eqb-true l 0 w) ∙ eqb-true l n e))
    go false true false u v w = xor-by n l r true false false true s e u w v (both false true u v)
    go false false true u v w = xor-by n l r true false true false s e u w v (both false false u v)
    go false false false u v w = xor-by n l r true false false false s e u w v (both false false u v)

pub xor-full : (n m l r : ℕ) (s : Option Bool) → n ≡ m → eqb l n ≡ false → eqb l 0 ≡ true → s ≡ xor_all (eqb r 0) (eqb r m)
    → s ≡ shortcut Xor n l r
unfolding xor_all
xor-full n m l r s same e f p = go (eqb r n) (eqb r 0) refl refl
  where
    both : (b d : Bool) → eqb r n ≡ b → eqb r 0 ≡ d → s ≡ xor_all d b
    both b d u v = p ∙ ap₂ xor_all v (ap (eqb r) (sym same) ∙ u)

    go : (b d : Bool) → eqb r n ≡ b → eqb r 0 ≡ d → s ≡ shortcut Xor n l r
    go true true u v = xor-by n l r false true true true s e u f v (both true true u v)
    go true false u v = xor-by n l r false true true false s e u f v (both true false u v)
    go false true u v = xor-by n l r false false true true s e u f v (both false true u v)
    go false false u v = xor-by n l r false false true false s e u f v (both false false u v)

-- and if it is neither
pub xor-other : (n l r : ℕ) → eqb l n ≡ false → eqb l 0 ≡ false → None ≡ shortcut Xor n l r
xor-other n l r e f = xor-by n l r false (eqb r n) false (eqb r 0) None e refl f refl refl

-- ---- the answer of two masks combined

pub pair_lengths : (a : Bitmap) (a_bytes : List ℕ) (b : Bitmap) (b_bytes : List ℕ) (size : ℕ)
    → first_failed (pair_checks a a_bytes b b_bytes size) ≡ 0
    → a.length ≡ b.length
unfolding pair_checks
pair_lengths a a_bytes b b_bytes size e =
    let rest : List Check = check 5 (eqb a.length b.length) ∷ output_checks a.length size in
    eqb-true a.length b.length
    (first-allowed 4 (eqb a.length b.length) (output_checks a.length size)
    (both_right (mask_checks b b_bytes) rest (both_right (mask_checks a a_bytes) (mask_checks b b_bytes ++ rest) e)))

-- the masks of an accepted combination have unknown or true counts
pub pair-counts : (a : Bitmap) (a_bytes : List ℕ) (b : Bitmap) (b_bytes : List ℕ) (size : ℕ)
    → first_failed (pair_checks a a_bytes b b_bytes size) ≡ 0 → Truthful a a_bytes × Truthful b b_bytes
unfolding pair_checks
pair-counts a a_bytes b b_bytes size e =
    let rest : List Check = check 5 (eqb a.length b.length) ∷ output_checks a.length size in (
      mask-truthful a a_bytes (both_left (mask_checks a a_bytes) (mask_checks b b_bytes ++ rest) e),
      mask-truthful b b_bytes
          (both_left (mask_checks b b_bytes) rest (both_right (mask_checks a a_bytes) (mask_checks b b_bytes ++ rest) e)),
    )

-- the shortcut that is found by the known counts is that of the flags
pub true-shortcut : (op : Op) (a : Bitmap) (a_bytes : List ℕ) (b : Bitmap) (b_bytes : List ℕ) (size : ℕ)
    → first_failed (pair_checks a a_bytes b b_bytes size) ≡ 0
    → shortcut op a.length (known_or_counted a a_bytes) (known_or_counted b b_bytes) ≡ pair_shortcut op a a_bytes b b_bytes
true-shortcut op a a_bytes b b_bytes size e =
    let counts = pair-counts a a_bytes b b_bytes size e in
    ap₂ (shortcut op a.length) (true-count a a_bytes counts.0) (true-count b b_bytes counts.1)

module _ (op : Op) (a : Bitmap) (a_bytes : List ℕ) (b : Bitmap) (b_bytes : List ℕ) where
  pub pair-made : (by : Option Bool) (u : Option ℕ) (s : ℕ) (m : Bitmap) → by ≡ pair_shortcut op a a_bytes b b_bytes
      → u ≡ result_count by a.length → s ≡ largest_serial (a ∷ b ∷ []) → m ≡ mask_under s 0 a.length u
      → m ≡ pair_mask op a a_bytes b b_bytes
  unfolding pair_mask
  pair-made by u s m p q largest made =
      made ∙ ap (λ (t : ℕ). mask_under t 0 a.length u) largest
      ∙ ap (λ (v : Option ℕ). result_mask (a ∷ b ∷ []) a.length v) (q ∙ ap (λ (t : Option Bool). result_count t a.length) p)

  pub pair-written : (out : List ℕ) → first_failed (pair_checks a a_bytes b b_bytes (length out)) ≡ 0 → (by : Option Bool) (out' : List ℕ)
      → by ≡ pair_shortcut op a a_bytes b b_bytes → Small out → Small out'
      → flags_of out' ≡ over (flags_of out)
      (whole_words (result_flags by a.length (combined op a_bytes a.start b_bytes b.start b_bytes b.start a.length)))
      → out' ≡ with_frozen out (pair_flags op a a_bytes b b_bytes)
  unfolding pair_flags
  pair-written out e by out' p before after q =
      let same : a.length ≡ b.length = pair_lengths a a_bytes b b_bytes (length out) e in
      frozen-written out out'
      (result_flags by a.length (combined op a_bytes a.start b_bytes b.start b_bytes b.start a.length)) before after q
      ∙ ap₂ (λ (s : Option Bool) (n : ℕ).
      over out
      (frozen (result_flags s a.length
      (zip3 (op_of op) (stretch a_bytes a.start a.length) (stretch b_bytes b.start n) (stretch b_bytes b.start n))))) p same
      ∙ ap (λ (l : List Bool). over out (frozen l)) (flags-by_operation op a a_bytes b b_bytes same)

-- ---- the largest serial

pub one-serial : (a : Bitmap) → a.serial ≡ largest_serial (a ∷ [])
unfolding largest_serial
one-serial a = sym (max-zero a.serial)

pub two-serials : (a b : Bitmap) (s : ℕ) → s ≡ max a.serial b.serial → s ≡ largest_serial (a ∷ b ∷ [])
unfolding largest_serial
two-serials a b s e = e ∙ ap (max a.serial) (sym (max-zero b.serial))

pub three-serials : (a b c : Bitmap) (s t : ℕ) → t ≡ max b.serial c.serial → s ≡ max a.serial t → s ≡ largest_serial (a ∷ b ∷ c ∷ [])
unfolding largest_serial
three-serials a b c s t e f = f ∙ ap (max a.serial) (two-serials b c t e)

-- ---- a combination with no shortcut: its mask and its bytes

pub each-made : (masks : List Bitmap) (n s : ℕ) (u : Option ℕ) (m : Bitmap) → u ≡ uncounted n → s ≡ largest_serial masks
    → m ≡ mask_under s 0 n u
    → m ≡ result_mask masks n (uncounted n)
each-made masks n s u m p largest made = made ∙ ap₂ (λ (t : ℕ) (v : Option ℕ). mask_under t 0 n v) largest p

pub each-written : (out out' : List ℕ) (written flags : List Bool) → Small out → Small out'
    → flags_of out' ≡ over (flags_of out) (whole_words written) → written ≡ flags → out' ≡ with_frozen out flags
each-written out out' written flags before after q r = frozen-written out out' written before after q ∙ ap (with_frozen out) r

pub not-each : (l : List Bool) (s n : ℕ) → zip3 (op_of Not) (window l s n) (window l s n) (window l s n) ≡ map not (window l s n)
not-each l s n = zip_first not (window l s n) (window l s n) (window l s n) refl refl

pub constant-set : (l m : List Bool) (s t n : ℕ)
    → zip3 (op_of OrNot) (window m t n) (window l s n) (window l s n) ≡ zip_with (λ p q. cond p q true) (window l s n) (window m t n)
constant-set l m s t n =
    zip_two or_not (window m t n) (window l s n) (window l s n) (length-window m t n ∙ sym (length-window l s n))
    (length-window m t n ∙ sym (length-window l s n))
    ∙ zip-flip or_not (λ p q. cond p q true) else-set (window l s n) (window m t n)

pub constant-clear : (l m : List Bool) (s t n : ℕ)
    → zip3 (op_of And) (window l s n) (window m t n) (window m t n) ≡ zip_with (λ p q. cond p q false) (window l s n) (window m t n)
constant-clear l m s t n =
    zip_two ◌&&◌ (window l s n) (window m t n) (window m t n) (length-window l s n ∙ sym (length-window m t n))
    (length-window l s n ∙ sym (length-window m t n))
    ∙ zip-same ◌&&◌ (λ p q. cond p q false) else-clear (window l s n) (window m t n)

-- if the checks pass, the lengths are equal
pub select_lengths : (s : Bitmap) (s_bytes : List ℕ) (t : Bitmap) (t_bytes : List ℕ) (f : Bitmap) (f_bytes : List ℕ) (size : ℕ)
    → first_failed (select_checks s s_bytes t t_bytes f f_bytes size) ≡ 0 → (s.length ≡ t.length) × (s.length ≡ f.length)
unfolding select_checks
select_lengths s s_bytes t t_bytes f f_bytes size e =
    let last : List Check = check 5 (eqb s.length f.length) ∷ output_checks s.length size in
    let rest : List Check = check 5 (eqb s.length t.length) ∷ last in
    let third = mask_checks f f_bytes ++ rest in
    let second = mask_checks t t_bytes ++ third in
    let passed =
    both_right (mask_checks f f_bytes) rest (both_right (mask_checks t t_bytes) third (both_right (mask_checks s s_bytes) second e)) in (
      eqb-true s.length t.length (first-allowed 4 (eqb s.length t.length) last passed),
      eqb-true s.length f.length
          (first-allowed 4 (eqb s.length f.length) (output_checks s.length size)
          (rest-allowed (check 5 (eqb s.length t.length)) last passed)),
    )

pub select-each : (A B C : List Bool) (s t u n m k : ℕ) → n ≡ m → n ≡ k
    → zip3 (op_of Select) (window A s n) (window B t n) (window C u n) ≡ zip3 cond (window A s n) (window B t m) (window C u k)
select-each A B C s t u n m k p q = ap₂ (λ (x y : ℕ). zip3 cond (window A s n) (window B t x) (window C u y)) p q

pub constant-length : (A B : List Bool) (x : Bool) (s t n m : ℕ) → n ≡ m
    → zip_with (λ p q. cond p q x) (window A s n) (window B t n) ≡ zip_with (λ p q. cond p q x) (window A s n) (window B t m)
constant-length A B x s t n m p = ap (λ (k : ℕ). zip_with (λ p q. cond p q x) (window A s n) (window B t k)) p

-- what a kernel wrote is what `select_constant` must write
as-constant : (F : List Bool) (a b : List ℕ) (sa sb n : ℕ) (x y : Bool) (out out' : List ℕ)
    → F ≡ zip_with (λ p q. cond p q y) (stretch a sa n) (stretch b sb n) → x ≡ y
    → flags_of out' ≡ over (flags_of out) (whole_words F)
    → flags_of out' ≡ over (flags_of out) (whole_words (zip_with (λ p q. cond p q x) (stretch a sa n) (stretch b sb n)))
as-constant F a b sa sb n x y out out' f h e =
    let same : F ≡ zip_with (λ p q. cond p q x) (stretch a sa n) (stretch b sb n) =
    f ∙ ap (λ (z : Bool). zip_with (λ p q. cond p q z) (stretch a sa n) (stretch b sb n)) (sym h) in
    e ∙ ap (λ (l : List Bool). over (flags_of out) (whole_words l)) same

pub written-set : (a b : List ℕ) (sa sb n : ℕ) (x : Bool) (out out' : List ℕ) → x ≡ true
    → flags_of out' ≡ over (flags_of out) (whole_words (combined OrNot b sb a sa a sa n))
    → flags_of out' ≡ over (flags_of out) (whole_words (zip_with (λ p q. cond p q x) (stretch a sa n) (stretch b sb n)))
written-set a b sa sb n x out out' =
    as-constant (combined OrNot b sb a sa a sa n) a b sa sb n x true out out' (constant-set (flags_of a) (flags_of b) sa sb n)

pub written-clear : (a b : List ℕ) (sa sb n : ℕ) (x : Bool) (out out' : List ℕ) → x ≡ false
    → flags_of out' ≡ over (flags_of out) (whole_words (combined And a sa b sb b sb n))
    → flags_of out' ≡ over (flags_of out) (whole_words (zip_with (λ p q. cond p q x) (stretch a sa n) (stretch b sb n)))
written-clear a b sa sb n x out out' =
    as-constant (combined And a sa b sb b sb n) a b sa sb n x false out out' (constant-clear (flags_of a) (flags_of b) sa sb n)
