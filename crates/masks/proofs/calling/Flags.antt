-- For callers in other crates: the flags of a result, by their index. The premises are the clauses of the call at an `Ok`, in the order in
-- which a proof cites them, `refused`, the record, the bytes: of `let allowed = and_not(..)?` they are `made.refused`, `made.mask` and
-- `made.bytes` of `made = c.in_ok-allowed.ensures`.
use Rattle.std.specs.Prelude.{Some}
use mathlib.Core.Path.{◌≡◌, refl, sym, ap, ap₂, ◌∙◌}
use mathlib.Core.Bool.{Bool, false, not, cond, ◌&&◌, ◌||◌}
use mathlib.Core.List.{List, [], ◌∷◌, map, zip_with}
use Prim.Native.Nat.{ℕ, zero, suc, ◌+◌, ◌*◌, ◌/◌, ◌≤◌, ◌<◌}
use native.Mathlib.Omega.{arith}
use lib.ListN.{length, get_or}
use Rattle.words.specs.Flags.{copies, flags_of, window}
use Rattle.words.specs.Ops.{op_of, zip3}
use Rattle.words.specs.declared.ops.Op.{Op}
use Rattle.words.proofs.ops.Combining.{at-zip-in, zip_two}
use Rattle.words.proofs.flags.Windows.{at_copies, at_in, length-copies, length-window}
use Rattle.masks.specs.Checks.{first_failed}
use Rattle.masks.specs.Combine.{And, AndNot, Or, OrNot, not_checks, not_flags, pair_checks, pair_flags, pair_mask, result_mask}
use Rattle.masks.specs.Combine.{select_checks, select_constant_flags, select_flags}
use Rattle.masks.specs.Frozen.{with_frozen}
use Rattle.masks.specs.Mask.{mask_flags, mask_of, slice_checks, sliced_mask, uncounted, zeroed_checks}
use Rattle.masks.specs.declared.bitmap.Bitmap.{Bitmap}
use Rattle.masks.proofs.builder.FreezeLaws.{frozen-front}
use Rattle.masks.proofs.bitmap_ops.CombineLaws.{pair_lengths}
use Rattle.masks.proofs.calling.Accepted.{not_accepted, pair_accepted, select_accepted, slice_accepted, zeroed_accepted}
use Rattle.masks.proofs.checks.LengthLaws.{length-zip2, length-zip3}
use Rattle.masks.proofs.theorems.PairPlain.{at_each, written-each}
use Rattle.masks.proofs.theorems.SliceTruth.{slice-flags}

-- flag j of a mask is flag start + j of its bytes
pub at_flag : (m : Bitmap) (bytes : List ℕ) (j : ℕ) → j < m.length
    → get_or (mask_flags m bytes) j false ≡ get_or (flags_of bytes) (m.start + j) false
at_flag m bytes j h = at_in (flags_of bytes) m.start m.length j h

-- ---- try_new, slice

pub at_new : (bytes : List ℕ) (start n : ℕ) (m : Bitmap) (j : ℕ) → m ≡ mask_of start n (uncounted n) → j < n
    → get_or (mask_flags m bytes) j false ≡ get_or (flags_of bytes) (start + j) false
at_new bytes start n m j made h =
    ap (λ (x : Bitmap). get_or (mask_flags x bytes) j false) made ∙ at_in (flags_of bytes) start n j h

pub at_slice : (m : Bitmap) (bytes : List ℕ) (offset n : ℕ) (cut : Bitmap) (j : ℕ)
    → 0 ≡ first_failed (slice_checks m bytes offset n) → cut ≡ sliced_mask m bytes offset n → j < n
    → get_or (mask_flags cut bytes) j false ≡ get_or (mask_flags m bytes) (offset + j) false
at_slice m bytes offset n cut j e made h =
    ap (λ (x : Bitmap). get_or (mask_flags x bytes) j false) made
    ∙ ap (λ (l : List Bool). get_or l j false) (slice-flags m bytes offset n (slice_accepted m bytes offset n e).inside)
    ∙ at_in (mask_flags m bytes) offset n j h

-- ---- the combinations of two masks

-- how many flags the mask that a combination returns has
pub pair_length : (op : Op) (a : Bitmap) (a_bytes : List ℕ) (b : Bitmap) (b_bytes : List ℕ) (m : Bitmap)
    → m ≡ pair_mask op a a_bytes b b_bytes → m.length ≡ a.length
unfolding pair_mask
pair_length op a a_bytes b b_bytes m made = ap (λ (x : Bitmap). x.length) made

module _ (a : Bitmap) (a_bytes : List ℕ) (b : Bitmap) (b_bytes out : List ℕ) (m : Bitmap) (new : List ℕ) (j : ℕ)
    (e : 0 ≡ first_failed (pair_checks a a_bytes b b_bytes (length out))) where
  abbrev A : Bool
  A = get_or (mask_flags a a_bytes) j false

  abbrev B : Bool
  B = get_or (mask_flags b b_bytes) j false

  pub at_pair : (op : Op) → m ≡ pair_mask op a a_bytes b b_bytes → new ≡ with_frozen out (pair_flags op a a_bytes b b_bytes) → j < a.length
      → get_or (mask_flags m new) j false
      ≡ op_of op (get_or (mask_flags a a_bytes) j false) (get_or (mask_flags b b_bytes) j false) (get_or (mask_flags b b_bytes) j false)
  at_pair op made written h =
      ap (λ (l : List Bool). get_or l j false) (ap₂ mask_flags made written ∙ written-each op a a_bytes b b_bytes out (sym e))
      ∙ at_each a a_bytes b b_bytes (pair_lengths a a_bytes b b_bytes (length out) (sym e)) op j h

  pub at_and : m ≡ pair_mask And a a_bytes b b_bytes → new ≡ with_frozen out (pair_flags And a a_bytes b b_bytes) → j < a.length
      → get_or (mask_flags m new) j false ≡ (A && B)
  at_and = at_pair And

  pub at_and_not : m ≡ pair_mask AndNot a a_bytes b b_bytes → new ≡ with_frozen out (pair_flags AndNot a a_bytes b b_bytes) → j < a.length
      → get_or (mask_flags m new) j false ≡ (A && not B)
  at_and_not = at_pair AndNot

  pub at_or : m ≡ pair_mask Or a a_bytes b b_bytes → new ≡ with_frozen out (pair_flags Or a a_bytes b b_bytes) → j < a.length
      → get_or (mask_flags m new) j false ≡ (A || B)
  at_or = at_pair Or

  pub at_or_not : m ≡ pair_mask OrNot a a_bytes b b_bytes → new ≡ with_frozen out (pair_flags OrNot a a_bytes b b_bytes) → j < a.length
      → get_or (mask_flags m new) j false ≡ (A || not B)
  at_or_not = at_pair OrNot

-- ---- an output that holds the frozen bytes of a list: the flags of a mask over it

pub written_flags : (m : Bitmap) (out new : List ℕ) (l : List Bool) → m.start ≡ 0 → m.length ≡ length l → new ≡ with_frozen out l
    → 8 * ((length l + 63) / 64) ≤ length out → mask_flags m new ≡ l
written_flags m out new l front long written room =
    ap₂ (λ (s n : ℕ). window (flags_of new) s n) front long
    ∙ ap (λ (b : List ℕ). window (flags_of b) 0 (length l)) written
    ∙ frozen-front out l room

-- ---- new_zeroed, not, select, select_constant

pub at_zeroed : (n : ℕ) (m : Bitmap) (out new : List ℕ) (j : ℕ) → 0 ≡ first_failed (zeroed_checks n (length out))
    → m ≡ mask_of 0 n (Some n) → new ≡ with_frozen out (copies n false) → j < n → get_or (mask_flags m new) j false ≡ false
at_zeroed n m out new j e made written h =
    let long = length-copies n false in
    let room = zeroed_accepted n (length out) e in
    ap (λ (l : List Bool). get_or l j false)
    (written_flags m out new (copies n false) (ap (λ (x : Bitmap). x.start) made) (ap (λ (x : Bitmap). x.length) made ∙ sym long) written
    (omega (arith, long, room)))
    ∙ at_copies n false j h

at_map : (l : List Bool) (j : ℕ) → j < length l → get_or (map not l) j false ≡ not (get_or l j false)
at_map [] j h = absurd (omega arith)
at_map (x ∷ l) zero h = refl
at_map (x ∷ l) (suc j) h = at_map l j (omega arith)

length_map : (l : List Bool) → length (map not l) ≡ length l
length_map [] = refl
length_map (x ∷ l) = ap suc (length_map l)

pub at_not : (a : Bitmap) (a_bytes out : List ℕ) (m : Bitmap) (new : List ℕ) (j : ℕ)
    → 0 ≡ first_failed (not_checks a a_bytes (length out)) → m ≡ result_mask (a ∷ []) a.length (uncounted a.length)
    → new ≡ with_frozen out (not_flags a a_bytes) → j < a.length
    → get_or (mask_flags m new) j false ≡ not (get_or (mask_flags a a_bytes) j false)
at_not a a_bytes out m new j e made written h =
    let long : length (mask_flags a a_bytes) ≡ a.length = length-window (flags_of a_bytes) a.start a.length in
    let all : length (not_flags a a_bytes) ≡ a.length = length_map (mask_flags a a_bytes) ∙ long in
    let room = (not_accepted a a_bytes (length out) e).1 in
    ap (λ (l : List Bool). get_or l j false)
    (written_flags m out new (not_flags a a_bytes) (ap (λ (x : Bitmap). x.start) made)
    (ap (λ (x : Bitmap). x.length) made ∙ sym all) written
    (omega (arith, all, room)))
    ∙ at_map (mask_flags a a_bytes) j (omega (arith, long, h))

-- the flags of `select`, and of `select_constant`, over masks of equal lengths
module _ (s : Bitmap) (s_bytes : List ℕ) (t : Bitmap) (t_bytes : List ℕ) (one : s.length ≡ t.length) (j : ℕ) (h : j < s.length) where
  truthy_at : get_or (flags_of t_bytes) (t.start + j) false ≡ get_or (mask_flags t t_bytes) j false
  truthy_at = sym (at_in (flags_of t_bytes) t.start t.length j (omega (arith, one, h)))

  selector_at : get_or (flags_of s_bytes) (s.start + j) false ≡ get_or (mask_flags s s_bytes) j false
  selector_at = sym (at_in (flags_of s_bytes) s.start s.length j h)

  select_each : (f : Bitmap) (f_bytes : List ℕ) → s.length ≡ f.length
      → get_or (select_flags s s_bytes t t_bytes f f_bytes) j false
      ≡ cond (get_or (mask_flags s s_bytes) j false) (get_or (mask_flags t t_bytes) j false) (get_or (mask_flags f f_bytes) j false)
  select_each f f_bytes two =
      let S = flags_of s_bytes in
      let T = flags_of t_bytes in
      let F = flags_of f_bytes in
      let falsy : get_or F (f.start + j) false ≡ get_or (mask_flags f f_bytes) j false =
      sym (at_in F f.start f.length j (omega (arith, two, h))) in
      ap₂ (λ (n k : ℕ).
      get_or (zip3 cond (window S s.start s.length) (window T t.start n) (window F f.start k)) j false) (sym one) (sym two)
      ∙ at-zip-in cond S T F s.start t.start f.start s.length j h
      ∙ ap₂ (λ (x y : Bool). cond x y (get_or F (f.start + j) false)) selector_at truthy_at
      ∙ ap (cond (get_or (mask_flags s s_bytes) j false) (get_or (mask_flags t t_bytes) j false)) falsy

  constant_each : (x : Bool)
      → get_or (select_constant_flags s s_bytes t t_bytes x) j false
      ≡ cond (get_or (mask_flags s s_bytes) j false) (get_or (mask_flags t t_bytes) j false) x
  constant_each x =
      let S = flags_of s_bytes in
      let T = flags_of t_bytes in
      let lengths : length (window S s.start s.length) ≡ length (window T t.start s.length) =
      length-window S s.start s.length ∙ sym (length-window T t.start s.length) in
      ap (λ (n : ℕ). get_or (zip_with (λ p q. cond p q x) (window S s.start s.length) (window T t.start n)) j false) (sym one)
      ∙ ap (λ (l : List Bool). get_or l j false)
      (sym (zip_two (λ p q. cond p q x) (window S s.start s.length) (window T t.start s.length)
      (window T t.start s.length) lengths lengths))
      ∙ at-zip-in (λ p q r. cond p q x) S T T s.start t.start t.start s.length j h
      ∙ ap₂ (λ (p q : Bool). cond p q x) selector_at truthy_at

select_length : (s t f : Bitmap) (s_bytes t_bytes f_bytes : List ℕ) → s.length ≡ t.length → s.length ≡ f.length
    → length (select_flags s s_bytes t t_bytes f f_bytes) ≡ s.length
select_length s t f s_bytes t_bytes f_bytes one two =
    let first = length-window (flags_of s_bytes) s.start s.length in
    length-zip3 cond (mask_flags s s_bytes) (mask_flags t t_bytes) (mask_flags f f_bytes)
    (first ∙ one ∙ sym (length-window (flags_of t_bytes) t.start t.length))
    (first ∙ two ∙ sym (length-window (flags_of f_bytes) f.start f.length))
    ∙ first

constant_length : (s t : Bitmap) (s_bytes t_bytes : List ℕ) (x : Bool) → s.length ≡ t.length
    → length (select_constant_flags s s_bytes t t_bytes x) ≡ s.length
constant_length s t s_bytes t_bytes x one =
    let first = length-window (flags_of s_bytes) s.start s.length in
    length-zip2 (λ p q. cond p q x) (mask_flags s s_bytes) (mask_flags t t_bytes)
    (first ∙ one ∙ sym (length-window (flags_of t_bytes) t.start t.length))
    ∙ first

pub at_select : (s : Bitmap) (s_bytes : List ℕ) (t : Bitmap) (t_bytes : List ℕ) (f : Bitmap) (f_bytes out : List ℕ) (m : Bitmap)
    (new : List ℕ) (j : ℕ)
    → 0 ≡ first_failed (select_checks s s_bytes t t_bytes f f_bytes (length out))
    → m ≡ result_mask (s ∷ t ∷ f ∷ []) s.length (uncounted s.length) → new ≡ with_frozen out (select_flags s s_bytes t t_bytes f f_bytes)
    → j < s.length
    → get_or (mask_flags m new) j false
    ≡ cond (get_or (mask_flags s s_bytes) j false) (get_or (mask_flags t t_bytes) j false) (get_or (mask_flags f f_bytes) j false)
at_select s s_bytes t t_bytes f f_bytes out m new j e made written h =
    let a = select_accepted s s_bytes t t_bytes f f_bytes (length out) e in
    let all = select_length s t f s_bytes t_bytes f_bytes a.truthy a.falsy in
    ap (λ (l : List Bool). get_or l j false)
    (written_flags m out new (select_flags s s_bytes t t_bytes f f_bytes) (ap (λ (x : Bitmap). x.start) made)
    (ap (λ (x : Bitmap). x.length) made ∙ sym all) written (omega (arith, all, a.room)))
    ∙ select_each s s_bytes t t_bytes a.truthy j h f f_bytes a.falsy

pub at_constant : (s : Bitmap) (s_bytes : List ℕ) (t : Bitmap) (t_bytes : List ℕ) (x : Bool) (out : List ℕ) (m : Bitmap) (new : List ℕ)
    (j : ℕ)
    → 0 ≡ first_failed (pair_checks s s_bytes t t_bytes (length out)) → m ≡ result_mask (s ∷ t ∷ []) s.length (uncounted s.length)
    → new ≡ with_frozen out (select_constant_flags s s_bytes t t_bytes x) → j < s.length
    → get_or (mask_flags m new) j false ≡ cond (get_or (mask_flags s s_bytes) j false) (get_or (mask_flags t t_bytes) j false) x
at_constant s s_bytes t t_bytes x out m new j e made written h =
    let a = pair_accepted s s_bytes t t_bytes (length out) e in
    let all = constant_length s t s_bytes t_bytes x a.equal in
    ap (λ (l : List Bool). get_or l j false)
    (written_flags m out new (select_constant_flags s s_bytes t t_bytes x) (ap (λ (y : Bitmap). y.start) made)
    (ap (λ (y : Bitmap). y.length) made ∙ sym all) written (omega (arith, all, a.room)))
    ∙ constant_each s s_bytes t t_bytes a.equal j h x
