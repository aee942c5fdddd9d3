-- The invariant between the state of a history and its reference list, kept by appends and freezing.
use Rattle.std.specs.Prelude.{Some, None}
use mathlib.Core.Path.{◌≡◌, refl, sym, ap, ◌∙◌, subst}
use mathlib.Core.Bool.{Bool, true, false, cond, ◌&&◌}
use mathlib.Core.List.{List, [], ◌∷◌, ◌++◌}
use Prim.Native.Nat.{ℕ, zero, suc, ◌+◌, ◌*◌, ◌/◌, ◌≤◌}
use native.Mathlib.Omega.{arith}
use lib.Dec.{leb}
use lib.ListN.{length, take}
use Rattle.words.specs.Flags.{copies, count, flags_of, window, word_flags}
use Rattle.words.specs.Loops.{stretch}
use Rattle.words.proofs.flags.Windows.{length-copies, length_over, length-window}
use Rattle.masks.specs.equations.Answer.{decided, kept}
use Rattle.masks.specs.equations.Appends.{Append, push_flag, extend_constant, push_word, extend_slice, extend_repeated, extend_bitmap}
use Rattle.masks.specs.Appends.{constant_checks, gather_checks, gathered}
use Rattle.masks.specs.equations.Appends.{extend_gather, extend_opt_gather, append_checks, append_flags}
use Rattle.masks.specs.Appends.{grow_checks, inner_checks, repeated, span_grow_checks, subslice_checks, word_checks, all_below}
use Rattle.masks.specs.Builder.{Filling, appended, builder_checks, builder_flags, none_from}
use Rattle.masks.specs.Checks.{Check, check, first_failed, limit, span_checks, within_limit}
use Rattle.masks.specs.Freeze.{frozen_mask, frozen_over}
use Rattle.masks.specs.Frozen.{frozen}
use Rattle.masks.specs.Mask.{mask_checks, mask_flags}
use Rattle.masks.specs.Utils.{zeros}
use Rattle.masks.specs.Workers.{Room}
use Rattle.masks.specs.declared.builder.BitmapBuilder.{BitmapBuilder}
use Rattle.masks.proofs.checks.CheckLaws.{both_left, both_right}
use Rattle.masks.proofs.builder.FreezeLaws.{frozen-flags, true-zeros}
use Rattle.masks.proofs.builder.GatherLaws.{length-gathered}
use Rattle.masks.proofs.utils.PartLaws.{length-low}
use Rattle.masks.proofs.builder.RepeatLaws.{length-repeated}
use Rattle.masks.proofs.builder.RoomLaws.{finished, flags-after, ones-after, room_after, room_of, word-allowed}
use Rattle.histories.proofs.statements.History.{State, waiting, building, masked, no_mask, after_append, after_freeze, after_validity}
use Rattle.histories.proofs.statements.Owed.{Stands}
use Rattle.histories.specs.ReferenceList.{added}
use Rattle.histories.proofs.history.ReferenceLaws.{added-same}

-- ---- the invariant

-- a builder is possible and within its buffer, its flags are the list's, and its ones are those of its finished words
pub record Builds (f : Filling) (l : List Bool) : Type 0 where
  pub room : Room f.builder 0 (length f.bytes)
  pub flags : builder_flags f ≡ l
  pub ones : f.builder.ones ≡ count (finished f)

abbrev pub Holds : State → List Bool → Type 0
Holds waiting l = Unit {0}
Holds (building f) l = Builds f l
-- a mask is sound, and its flags are the list's
Holds (masked m bytes) l = Stands m bytes l
Holds no_mask l = Unit {0}

-- ---- appends

sized : (b : BitmapBuilder) (n m size : ℕ) → m ≡ n → first_failed (builder_checks b (b.length + n) size) ≡ 0
    → first_failed (builder_checks b (b.length + m) size) ≡ 0
sized b n m size p e = ap (λ (x : ℕ). first_failed (builder_checks b (b.length + x) size)) p ∙ e

-- an append whose checks pass has passed the builder's checks for its own flags
grows : (a : Append) (b : BitmapBuilder) (buf : List ℕ) → first_failed (append_checks a b buf) ≡ 0
    → first_failed (builder_checks b (b.length + length (append_flags a)) (length buf)) ≡ 0
unfolding constant_checks word_checks span_grow_checks subslice_checks gather_checks
grows (push_flag x) b buf e = e
grows (extend_constant n x) b buf e =
    sized b n (length (copies n x)) (length buf) (length-copies n x) (both_left (grow_checks b n (length buf)) (within_limit n ∷ []) e)
grows (push_word w n) b buf e =
    let rest : List Check = within_limit n ∷ check 6 (leb n 64 && none_from w n) ∷ [] in
    sized b n (length (take n (word_flags w))) (length buf) (length-low n w
    (word-allowed w n (both_right (grow_checks b n (length buf)) rest e)))
    (both_left (grow_checks b n (length buf)) rest e)
grows (extend_slice bytes start n) b buf e =
    sized b n (length (stretch bytes start n)) (length buf) (length-window (flags_of bytes) start n)
    (both_right (span_checks start n (length bytes)) (grow_checks b n (length buf)) e)
grows (extend_repeated bytes start n k) b buf e =
    sized b (n * k) (length (repeated k (stretch bytes start n))) (length buf)
    (length-repeated k (stretch bytes start n) ∙ ap (λ (x : ℕ). x * k) (length-window (flags_of bytes) start n))
    (both_right (span_checks start n (length bytes)) (grow_checks b (n * k) (length buf)) e)
grows (extend_bitmap m bytes start n) b buf e =
    sized b n (length (window (mask_flags m bytes) start n)) (length buf) (length-window (mask_flags m bytes) start n)
    (both_right (inner_checks start n m.length) (grow_checks b n (length buf))
    (both_right (mask_checks m bytes) (inner_checks start n m.length ++ grow_checks b n (length buf)) e))
grows (extend_gather bytes start n idxs) b buf e =
    sized b (length idxs) (length (gathered (stretch bytes start n) idxs)) (length buf) (length-gathered (stretch bytes start n) idxs)
    (both_right (span_checks start n (length bytes)) (grow_checks b (length idxs) (length buf))
    (both_left (span_checks start n (length bytes) ++ grow_checks b (length idxs) (length buf)) (check 6 (all_below n idxs) ∷ []) e))
grows (extend_opt_gather bytes start n idxs) b buf e =
    sized b (length idxs) (length (gathered (stretch bytes start n) idxs)) (length buf) (length-gathered (stretch bytes start n) idxs)
    (both_right (span_checks start n (length bytes)) (grow_checks b (length idxs) (length buf)) e)

pub builds-after : (f : Filling) (l fl : List Bool) → Builds f l → Room f.builder (length fl) (length f.bytes)
    → Builds (appended f fl) (l ++ fl)
builds-after f l fl i r =
    record {
      room = room_after f (appended f fl) fl (length fl) 0 refl (omega arith) r;
      flags = flags-after f fl r ∙ ap (λ (t : List Bool). t ++ fl) i.flags;
      ones = ones-after f fl r i.ones;
    }

pub append-holds : (a : Append) (f : Filling) (l : List Bool) (k : ℕ) → k ≡ first_failed (append_checks a f.builder f.bytes)
    → Builds f l
    → let o = after_append (kept k (appended f (append_flags a)).bytes f.bytes)
    (decided k f.builder (appended f (append_flags a)).builder) in
    Holds o.state (cond o.accepted (l ++ added a) l)
unfolding kept decided
append-holds a f l zero e i =
    subst (λ (t : List Bool). Builds (appended f (append_flags a)) (l ++ t)) (sym (added-same a f.builder f.bytes (sym e)))
    (builds-after f l (append_flags a) i (room_of f.builder (length (append_flags a)) (length f.bytes)
    (grows a f.builder f.bytes (sym e))))
append-holds a f l (suc k) e i = i

-- ---- freezing

pub frozen-stands : (f : Filling) (l : List Bool) → Builds f l → Stands (frozen_mask f.builder) (frozen_over f.builder f.bytes) l
unfolding frozen_over
frozen-stands f l i =
    let b = f.builder in
    let r = i.room in
    let short : b.length + 0 ≤ limit = r.short in
    let holds : 8 * ((b.length + 0 + 63) / 64) ≤ length f.bytes = r.holds in
    record {
      sound = record {
        starts = omega arith;
        short = omega arith;
        inside = omega (arith, length_over f.bytes (frozen (builder_flags f)));
        counts = true-zeros b f.bytes r i.ones ∙ ap zeros (sym (frozen-flags b f.bytes r));
      };
      flags = frozen-flags b f.bytes r ∙ i.flags;
    }

pub freeze-holds : (f : Filling) (l : List Bool) (k : ℕ) → Builds f l
    → let o = after_freeze (kept k (frozen_over f.builder f.bytes) f.bytes) (decided k f.builder (frozen_mask f.builder)) in
    Holds o.state (cond o.accepted l l)
unfolding kept decided
freeze-holds f l zero i = frozen-stands f l i
freeze-holds f l (suc k) i = i

pub validity-holds : (f : Filling) (l : List Bool) (k : ℕ) (t : Bool) → Builds f l
    → let o = after_validity (kept k (frozen_over f.builder f.bytes) f.bytes)
    (decided k f.builder (cond t None (Some (frozen_mask f.builder)))) in
    Holds o.state (cond o.accepted l l)
unfolding kept decided
validity-holds f l zero true i = tt
validity-holds f l zero false i = frozen-stands f l i
validity-holds f l (suc k) t i = i
