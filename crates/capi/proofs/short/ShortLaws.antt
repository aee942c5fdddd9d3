-- Masks that lie in eight bytes: their checks pass, and what was written is the answer and the bytes of the export's equation.
use Rattle.std.specs.Prelude.{Option, Some, None}
use Rattle.std.proofs.lemmas.Bool.{and_parts}
use mathlib.Core.Path.{◌≡◌, refl, sym, ap, ap₂, ◌∙◌}
use mathlib.Core.Bool.{Bool, true, false, cond, ◌&&◌, ◌||◌}
use mathlib.Core.List.{List, [], ◌∷◌, ◌++◌}
use Prim.Native.Nat.{ℕ, ◌+◌, ◌*◌, ◌/◌, ◌≤◌, max}
use native.Mathlib.Omega.{arith}
use lib.Dec.{eqb, leb}
use lib.ListN.{length}
use borrow.Author.Tests.{le-leb, eq-eqb, leb-true, eqb-true}
use Rattle.words.specs.Flags.{flags_of, over}
use Rattle.words.specs.Loops.{combined, stretch, whole_words}
use Rattle.words.specs.Ops.{op_of, zip3}
use Rattle.words.specs.Short.{lies_near}
use Rattle.words.specs.declared.ops.Op.{Op}
use Rattle.words.specs.declared.ops.Op.TheVariants.{And, AndNot, Or, OrNot, Xor, Not, Select}
use Rattle.words.proofs.short.ShortLaws.{Near, near}
use Rattle.masks.specs.equations.Answer.{decided}
use Rattle.masks.specs.equations.Combine.{each_bytes, each_of, pair_bytes, pair_of}
use Rattle.masks.specs.Checks.{Check, check, first_failed, limit, output_checks, span_checks}
use Rattle.masks.specs.Combine.{not_checks, select_checks}
use Rattle.masks.specs.Combine.{largest_serial, pair_checks, pair_flags, pair_mask, pair_shortcut, result_count, result_mask, shortcut}
use Rattle.masks.specs.Mask.{count_is, count_valid, mask_checks, mask_flags, mask_under, uncounted, zero_count}
use Rattle.masks.specs.Utils.{zeros}
use Rattle.masks.specs.declared.bitmap.Bitmap.{Bitmap}
use Rattle.masks.proofs.bitmap_ops.CombineLaws.{each-written, pair-made, two-serials}
use Rattle.masks.proofs.bitmap_ops.FrozenLaws.{Small}
use Rattle.masks.proofs.checks.CheckLaws.{check-before, is-new, none-earlier, two_pieces, when-ne}
use Rattle.capi.specs.Answers.{as_mask, mask_answer}
use Rattle.capi.specs.Records.{count_in, mask_in, mask_out}
use Rattle.capi.specs.Workers.{all_clear, near_mask, near_output}
use Rattle.capi.specs.declared.records.Mask.{Mask}

-- ---- what the tests say

pub record NearMask (m : Mask) (n size : ℕ) : Type 0 where
  pub uncounted : m.known ≡ 0
  pub long : m.length ≡ n
  pub starts : m.start ≤ limit
  pub lies : Near size m.start n

pub near-mask : (m : Mask) (n size : ℕ) → near_mask m n size ≡ true → NearMask m n size
unfolding near_mask
near-mask m n size e =
    let a = and_parts (eqb m.known 0) (eqb m.length n && (leb m.start limit && lies_near size m.start n)) e in
    let b = and_parts (eqb m.length n) (leb m.start limit && lies_near size m.start n) a.1 in
    let d = and_parts (leb m.start limit) (lies_near size m.start n) b.1 in
    record {
      uncounted = eqb-true m.known 0 a.0;
      long = eqb-true m.length n b.0;
      starts = leb-true m.start limit d.0;
      lies = near size m.start n d.1;
    }

pub record NearOutput (n room : ℕ) : Type 0 where
  pub some : 1 ≤ n
  pub holds : 8 ≤ room

pub near-output : (n room : ℕ) → near_output n room ≡ true → NearOutput n room
unfolding near_output
near-output n room e =
    let a = and_parts (leb 1 n) (leb 8 room) e in
    record { some = leb-true 1 n a.0; holds = leb-true 8 room a.1 }

-- ---- the checks pass

pub both-pass : (A B : List Check) → 0 ≡ first_failed A → 0 ≡ first_failed B → 0 ≡ first_failed (A ++ B)
both-pass A B p q = two_pieces 0 0 0 A B (sym (none-earlier 0)) p q

pass-before : (n : ℕ) (t : Bool) (cs : List Check) → true ≡ t → 0 ≡ first_failed cs → 0 ≡ first_failed (check n t ∷ cs)
pass-before n t cs p q = check-before 0 n 0 0 true t cs (sym (none-earlier 0)) refl p q

pub last-pass : (n : ℕ) (t : Bool) → true ≡ t → 0 ≡ first_failed (check n t ∷ [])
unfolding first_failed
last-pass n t p = pass-before n t [] p refl

span-pass : (start n size : ℕ) → start ≤ limit → n ≤ limit → start + n ≤ 8 * size → 0 ≡ first_failed (span_checks start n size)
unfolding span_checks
span-pass start n size p q r =
    pass-before 1 (leb start limit) (check 1 (leb n limit) ∷ check 2 (leb (start + n) (8 * size)) ∷ []) (sym (le-leb start limit p))
    (pass-before 1 (leb n limit) (check 2 (leb (start + n) (8 * size)) ∷ []) (sym (le-leb n limit q))
    (last-pass 2 (leb (start + n) (8 * size)) (sym (le-leb (start + n) (8 * size) r))))

-- a mask of unknown count
mask-pass : (m : Bitmap) (bytes : List ℕ) → m.unset ≡ None → m.start ≤ limit → m.length ≤ limit → m.start + m.length ≤ 8 * length bytes
    → 0 ≡ first_failed (mask_checks m bytes)
unfolding mask_checks
mask-pass m bytes e p q r =
    both-pass (span_checks m.start m.length (length bytes)) (check 3 (count_valid m bytes) ∷ [])
    (span-pass m.start m.length (length bytes) p q r)
    (last-pass 3 (count_valid m bytes) (ap (λ (u : Option ℕ). count_is u (zeros (mask_flags m bytes))) (sym e)))

near-unset : (m : Mask) → m.known ≡ 0 → (mask_in m).unset ≡ None
unfolding mask_in count_in
near-unset m e = ap (λ (t : Bool). cond t None (Some m.zeros)) (eq-eqb m.known 0 e)

pub near-pass : (m : Mask) (n : ℕ) (bytes : List ℕ) → NearMask m n (length bytes) → 0 ≡ first_failed (mask_checks (mask_in m) bytes)
unfolding mask_in
near-pass m n bytes h =
    let long = h.long in
    let inside = h.lies.inside in
    let lent = h.lies.lent in
    let short : m.length ≤ limit = omega arith in
    let ends : m.start + m.length ≤ 8 * length bytes = omega arith in
    mask-pass (mask_in m) bytes (near-unset m h.uncounted) h.starts short ends

output-pass : (n room : ℕ) → n ≤ 64 → 8 ≤ room → 0 ≡ first_failed (output_checks n room)
unfolding output_checks
output-pass n room p q = last-pass 9 (leb (8 * ((n + 63) / 64)) room) (sym (le-leb (8 * ((n + 63) / 64)) room (omega arith)))

pub pair-pass : (a b : Mask) (a_bytes b_bytes : List ℕ) (room : ℕ) → NearMask a a.length (length a_bytes)
    → NearMask b a.length (length b_bytes) → NearOutput a.length room
    → 0 ≡ first_failed (pair_checks (mask_in a) a_bytes (mask_in b) b_bytes room)
unfolding pair_checks mask_in
pair-pass a b a_bytes b_bytes room p q r =
    let long = q.long in
    let inside = p.lies.inside in
    let few : a.length ≤ 64 = omega arith in
    let last : List Check = check 5 (eqb a.length b.length) ∷ output_checks a.length room in
    both-pass (mask_checks (mask_in a) a_bytes) (mask_checks (mask_in b) b_bytes ++ last) (near-pass a a.length a_bytes p)
    (both-pass (mask_checks (mask_in b) b_bytes) last (near-pass b a.length b_bytes q)
    (pass-before 5 (eqb a.length b.length) (output_checks a.length room) (sym (eq-eqb a.length b.length (sym long)))
    (output-pass a.length room few r.holds)))

-- ---- the answer

given-answer : (k : ℕ) (m : Bitmap) → 0 ≡ k → mask_answer 0 (mask_out m) ≡ as_mask (decided k (tt {0}) m)
unfolding as_mask decided
given-answer k m h = ap (λ (x : ℕ). as_mask (decided x (tt {0}) m)) h

counted-clear : (t u : Bool) (n : ℕ) → 1 ≤ n
    → cond t (Some n) None ≡ result_count (cond t (Some false) (cond u (Some true) None)) n
counted-clear true u n h = refl
counted-clear false true n h = when-ne n 0 (Some 0) None (λ e. omega arith)
counted-clear false false n h = when-ne n 0 (Some 0) None (λ e. omega arith)

-- the count of two masks combined, by which it is all zero
clear-count : (op : Op) (n l r : ℕ) → 1 ≤ n → cond (all_clear op n l r) (Some n) None ≡ result_count (shortcut op n l r) n
unfolding all_clear shortcut
clear-count And n l r h = counted-clear (eqb l n || eqb r n) false n h
clear-count Or n l r h = counted-clear false (eqb l 0 || eqb r 0) n h
clear-count Xor n l r h =
    counted-clear ((eqb l n && eqb r n) || (eqb l 0 && eqb r 0)) ((eqb l 0 && eqb r n) || (eqb l n && eqb r 0)) n h
clear-count AndNot n l r h = counted-clear false false n h
clear-count OrNot n l r h = counted-clear false false n h
clear-count Not n l r h = counted-clear false false n h
clear-count Select n l r h = counted-clear false false n h

pub pair-answer : (op : Op) (a b : Mask) (a_bytes b_bytes out : List ℕ) (s : ℕ) (t : Bool)
    → NearMask a a.length (length a_bytes) → NearMask b a.length (length b_bytes) → NearOutput a.length (length out)
    → t ≡ all_clear op a.length (zeros (stretch a_bytes a.start a.length)) (zeros (stretch b_bytes b.start a.length))
    → s ≡ max a.serial b.serial
    → mask_answer 0 (mask_out (mask_under s 0 a.length (cond t (Some a.length) None)))
    ≡ as_mask (pair_of op (mask_in a) a_bytes (mask_in b) b_bytes out)
unfolding pair_of zero_count mask_in
pair-answer op a b a_bytes b_bytes out s t p q r clear serial =
    let l : ℕ = zeros (stretch a_bytes a.start a.length) in
    let count : cond t (Some a.length) None
    ≡ result_count (pair_shortcut op (mask_in a) a_bytes (mask_in b) b_bytes) a.length =
    ap (λ (x : Bool). cond x (Some a.length) None) clear
    ∙ clear-count op a.length l (zeros (stretch b_bytes b.start a.length)) r.some
    ∙ ap (λ (k : ℕ). result_count (shortcut op a.length l (zeros (stretch b_bytes b.start k))) a.length) (sym q.long) in
    let made : mask_under s 0 a.length (cond t (Some a.length) None) ≡ pair_mask op (mask_in a) a_bytes (mask_in b) b_bytes =
    pair-made op (mask_in a) a_bytes (mask_in b) b_bytes (pair_shortcut op (mask_in a) a_bytes (mask_in b) b_bytes)
    (cond t (Some a.length) None) s (mask_under s 0 a.length (cond t (Some a.length) None)) refl count
    (two-serials (mask_in a) (mask_in b) s serial) refl in
    ap (λ (m : Bitmap). mask_answer 0 (mask_out m)) made
    ∙ given-answer (first_failed (pair_checks (mask_in a) a_bytes (mask_in b) b_bytes (length out)))
    (pair_mask op (mask_in a) a_bytes (mask_in b) b_bytes) (pair-pass a b a_bytes b_bytes (length out) p q r)

-- ---- the bytes

pub pair-bytes : (op : Op) (a b : Mask) (a_bytes b_bytes out out' : List ℕ)
    → NearMask a a.length (length a_bytes) → NearMask b a.length (length b_bytes) → NearOutput a.length (length out)
    → Small out → Small out'
    → flags_of out' ≡ over (flags_of out)
    (whole_words (combined op a_bytes a.start b_bytes b.start b_bytes b.start a.length))
    → out' ≡ pair_bytes op (mask_in a) a_bytes (mask_in b) b_bytes out
unfolding pair_bytes pair_flags mask_in
pair-bytes op a b a_bytes b_bytes out out' p q r before after put =
    each-written out out' (combined op a_bytes a.start b_bytes b.start b_bytes b.start a.length)
    (pair_flags op (mask_in a) a_bytes (mask_in b) b_bytes) before after put
    (ap (λ (n : ℕ). zip3 (op_of op) (stretch a_bytes a.start a.length) (stretch b_bytes b.start n) (stretch b_bytes b.start n))
    (sym q.long))
    ∙ is-new 0 _ _ _ (pair-pass a b a_bytes b_bytes (length out) p q r) refl

-- ---- the combinations with no shortcut

pub each-answer : (cs : List Check) (masks : List Bitmap) (n s : ℕ) → 0 ≡ first_failed cs → 1 ≤ n → s ≡ largest_serial masks
    → mask_answer 0 (mask_out (mask_under s 0 n None)) ≡ as_mask (each_of cs masks n)
unfolding each_of
each-answer cs masks n s h low serial =
    ap₂ (λ (k : ℕ) (u : Option ℕ). mask_answer 0 (mask_out (mask_under k 0 n u))) serial (when-ne n 0 (Some 0) None (λ e. omega arith))
    ∙ given-answer (first_failed cs) (result_mask masks n (uncounted n)) h

pub each-bytes : (cs : List Check) (written flags : List Bool) (out out' : List ℕ) → 0 ≡ first_failed cs → Small out → Small out'
    → flags_of out' ≡ over (flags_of out) (whole_words written) → written ≡ flags → out' ≡ each_bytes cs flags out
unfolding each_bytes
each-bytes cs written flags out out' h before after put e =
    each-written out out' written flags before after put e ∙ is-new 0 _ _ _ h refl

pub not-pass : (m : Mask) (bytes : List ℕ) (room : ℕ) → NearMask m m.length (length bytes) → NearOutput m.length room
    → 0 ≡ first_failed (not_checks (mask_in m) bytes room)
unfolding not_checks mask_in
not-pass m bytes room p r =
    let inside = p.lies.inside in
    let few : m.length ≤ 64 = omega arith in
    both-pass (mask_checks (mask_in m) bytes) (output_checks m.length room) (near-pass m m.length bytes p)
    (output-pass m.length room few r.holds)

pub select-pass : (a b c : Mask) (a_bytes b_bytes c_bytes : List ℕ) (room : ℕ) → NearMask a a.length (length a_bytes)
    → NearMask b a.length (length b_bytes) → NearMask c a.length (length c_bytes) → NearOutput a.length room
    → 0 ≡ first_failed (select_checks (mask_in a) a_bytes (mask_in b) b_bytes (mask_in c) c_bytes room)
unfolding select_checks mask_in
select-pass a b c a_bytes b_bytes c_bytes room p q s r =
    let inside = p.lies.inside in
    let few : a.length ≤ 64 = omega arith in
    let last : List Check = check 5 (eqb a.length c.length) ∷ output_checks a.length room in
    let lengths : List Check = check 5 (eqb a.length b.length) ∷ last in
    both-pass (mask_checks (mask_in a) a_bytes) (mask_checks (mask_in b) b_bytes ++ (mask_checks (mask_in c) c_bytes ++ lengths))
    (near-pass a a.length a_bytes p)
    (both-pass (mask_checks (mask_in b) b_bytes) (mask_checks (mask_in c) c_bytes ++ lengths) (near-pass b a.length b_bytes q)
    (both-pass (mask_checks (mask_in c) c_bytes) lengths (near-pass c a.length c_bytes s)
    (pass-before 5 (eqb a.length b.length) last (sym (eq-eqb a.length b.length (sym q.long)))
    (pass-before 5 (eqb a.length c.length) (output_checks a.length room) (sym (eq-eqb a.length c.length (sym s.long)))
    (output-pass a.length room few r.holds)))))
