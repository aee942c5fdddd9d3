-- A mask that represents a list (`Stands`) agrees with it in all that is compared, and if two lists differ, their lengths or their
-- frozen bytes differ.
use Rattle.std.specs.Prelude.{Some, None}
use mathlib.Core.Path.{◌≡◌, refl, sym, ap, ap₂, ◌∙◌, subst}
use mathlib.Core.Bool.{Bool, true, false, cond}
use mathlib.Core.List.{List, [], ◌∷◌}
use Prim.Native.Nat.{ℕ, zero, suc, ◌+◌, ◌*◌, ◌≤◌, ◌<◌}
use native.Mathlib.Omega.{arith}
use lib.Dec.{ltb}
use lib.ListN.{length, drop, get_or, take}
use Rattle.words.specs.Flags.{flags_of, over, window}
use Rattle.words.specs.Loops.{stretch}
use Rattle.words.proofs.flags.Windows.{in_window, length-window, window-all}
use Rattle.histories.proofs.statements.Agreement.{Agrees, count_shown, flag_of, flag_shown, frozen_shown, nth_of}
use Rattle.histories.proofs.statements.Agreement.{nth_shown, refrozen, then_frozen, runs_of, runs_shown}
use Rattle.masks.specs.equations.Answer.{Answer, given, unless_empty}
use Rattle.masks.specs.Appends.{subslice_checks}
use Rattle.masks.specs.Builder.{Filling, appended, filling, new_builder}
use Rattle.masks.specs.Checks.{first_failed, span_checks}
use Rattle.masks.specs.Cursor.{item, ended, cursor_checks}
use Rattle.masks.specs.Freeze.{freeze_checks, frozen_mask, frozen_over}
use Rattle.masks.specs.Frozen.{frozen, frozen_size}
use Rattle.histories.proofs.statements.Owed.{Stands}
use Rattle.masks.specs.Iterator.{first_iter, flag_step, iter_at, iter_flags, moved_to}
use Rattle.masks.specs.equations.Iterator.{new_iter, nth_flag}
use Rattle.masks.proofs.statements.Listing.{runs_left}
use Rattle.masks.specs.Mask.{mask_checks, mask_flags, with_count, zero_count}
use Rattle.masks.specs.equations.Mask.{unset_bits_of}
use Rattle.masks.specs.Search.{nth_back, nth_from}
use Rattle.masks.specs.equations.Search.{search_back, search_from}
use Rattle.masks.specs.SliceIterator.{runs_from, slices_at}
use Rattle.masks.specs.equations.SliceIterator.{new_slices}
use Rattle.masks.proofs.statements.TrueCounts.{TrueCount}
use Rattle.masks.specs.Utils.{zeros}
use Rattle.masks.specs.Workers.{Room}
use Rattle.masks.specs.declared.bitmap.Bitmap.{Bitmap}
use Rattle.masks.specs.declared.iterator.BitmapIter.{BitmapIter}
use Rattle.masks.proofs.theorems.Accepted.{builder-accepted, mask-accepted, span-accepted, whole-accepted}
use Rattle.masks.proofs.checks.CheckLaws.{is-given, is-new}
use Rattle.histories.proofs.theorems.Combinations.{combines}
use Rattle.masks.proofs.builder.FreezeLaws.{same-checks}
use Rattle.masks.proofs.bitmap_ops.FrozenLaws.{flags-packed, length-packed}
use Rattle.histories.proofs.history.HistoryLaws.{Builds, builds-after}
use Rattle.histories.proofs.theorems.HistoryTheorem.{new-holds}
use Rattle.masks.proofs.cursor.ListingLaws.{place-accepted}
use Rattle.masks.proofs.iterator.IteratorLaws.{first-some}
use Rattle.masks.proofs.builder.RoomLaws.{size_after}
use Rattle.masks.proofs.theorems.RunsWhole.{lists-runs}

-- ---- frozen bytes

take-over : (l m : List ℕ) → length m ≤ length l → take (length m) (over l m) ≡ m
unfolding over
take-over l [] h = refl
take-over [] (y ∷ m) h = absurd (omega arith)
take-over (x ∷ l) (y ∷ m) h = ap (λ (t : List ℕ). y ∷ t) (take-over l m (omega arith))

length-frozen : (l : List Bool) → length (frozen l) ≡ frozen_size (length l)
unfolding frozen
length-frozen l = length-packed (frozen_size (length l)) l

-- the flags of a list's frozen bytes, cut to the list's length, are the list
frozen-back : (l : List Bool) → window (flags_of (frozen l)) 0 (length l) ≡ l
unfolding frozen
frozen-back l =
    ap (λ (t : List Bool). window t 0 (length l)) (flags-packed (frozen_size (length l)) l)
    ∙ in_window l 0 (8 * frozen_size (length l)) 0 (length l) (omega arith) ∙ window-all l

-- lists of equal lengths with equal frozen bytes are equal
pub frozen_same : (a b : List Bool) → length a ≡ length b → frozen a ≡ frozen b → a ≡ b
frozen_same a b e f = sym (frozen-back a) ∙ ap₂ (λ (x : List ℕ) (n : ℕ). window (flags_of x) 0 n) f e ∙ frozen-back b

-- ---- flags one by one

step-shown : (bytes : List ℕ) (c : BitmapIter) (n : ℕ)
    → flag_shown (given (flag_step bytes c n)) ≡ Some (cond (ltb (c.place + n) c.length)
    (Some (get_or (iter_flags c bytes) (c.place + n) false)) None)
unfolding flag_step
step-shown bytes c n = go (ltb (c.place + n) c.length)
  where
    go : (t : Bool)
        → flag_shown (given (cond t (item (get_or (iter_flags c bytes) (c.place + n) false) (moved_to c (c.place + n + 1)))
        (ended (moved_to c c.length))))
        ≡ Some (cond t (Some (get_or (iter_flags c bytes) (c.place + n) false)) None)
    go true = refl
    go false = refl

cursor-accepted : (start size place : ℕ) (bytes : List ℕ) → 0 ≡ first_failed (span_checks start size (length bytes)) → place ≤ size
    → 0 ≡ first_failed (cursor_checks start size place (length bytes))
unfolding cursor_checks
cursor-accepted start size place bytes e h = sym (place-accepted (span_checks start size (length bytes)) place size (sym e) h)

nth-there : (bytes : List ℕ) (start size n : ℕ) → 0 ≡ first_failed (span_checks start size (length bytes))
    → flag_shown (nth_flag (iter_at start size 0) bytes n) ≡ Some (flag_of (stretch bytes start size) n)
unfolding nth_flag
nth-there bytes start size n e =
    let c = iter_at start size 0 in
    let same : 0 + n ≡ n = omega arith in
    ap flag_shown (sym (is-given 0 (first_failed (cursor_checks start size 0 (length bytes))) c (flag_step bytes c n)
    (cursor-accepted start size 0 bytes e (omega arith)) refl))
    ∙ step-shown bytes c n
    ∙ ap₂ (λ (i k : ℕ). Some (cond (ltb i k) (Some (get_or (stretch bytes start size) i false)) None)) same
    (sym (length-window (flags_of bytes) start size))

-- `nth` of a new cursor returns flag n of the span; a new cursor over no flags is all 0
new-nth : (bytes : List ℕ) (start size n : ℕ) → 0 ≡ first_failed (span_checks start size (length bytes))
    → nth_of (new_iter bytes start size) bytes n ≡ Some (flag_of (stretch bytes start size) n)
unfolding new_iter unless_empty window
new-nth bytes start zero n e = nth-there bytes 0 0 n (span-accepted 0 0 (length bytes) (omega arith) (omega arith) (omega arith))
new-nth bytes start (suc size) n e =
    ap (λ (a : Answer (Unit {0}) BitmapIter). nth_of a bytes n)
    (sym (is-given 0 (first_failed (span_checks start (suc size) (length bytes))) tt (first_iter start (suc size)) e refl)
    ∙ ap given (first-some (iter_at 0 0 0) (iter_at start (suc size) 0) size))
    ∙ nth-there bytes start (suc size) n e

-- ---- agreement

module _ (m : Bitmap) (bytes : List ℕ) (l : List Bool) (s : Stands m bytes l) where
  long : m.length ≡ length l
  long = sym (length-window (flags_of bytes) m.start m.length) ∙ ap length s.flags

  in_span : 0 ≡ first_failed (span_checks m.start m.length (length bytes))
  in_span = span-accepted m.start m.length (length bytes) s.sound.starts s.sound.short s.sound.inside

  whole : 0 ≡ first_failed (mask_checks m bytes)
  whole = mask-accepted m bytes s.sound.starts s.sound.short s.sound.inside s.sound.counts

  truth : zero_count m bytes ≡ zeros l
  unfolding zero_count
  truth = ap zeros s.flags

  counted : count_shown (unset_bits_of m bytes) ≡ Some (zeros l)
  unfolding unset_bits_of
  counted =
      ap count_shown (sym (is-given 0 (first_failed (mask_checks m bytes)) m
      (record { mask = with_count m (Some (zero_count m bytes)); zeros = zero_count m bytes }) whole refl))
      ∙ ap Some truth

  forward : (n from : ℕ) → search_from bytes m.start m.length n from ≡ given (nth_from l n from)
  unfolding search_from
  forward n from =
      sym (is-given 0 (first_failed (span_checks m.start m.length (length bytes))) tt (nth_from (mask_flags m bytes) n from) in_span refl)
      ∙ ap (λ (t : List Bool). given (nth_from t n from)) s.flags

  backward : (n end : ℕ) → search_back bytes m.start m.length n end ≡ given (nth_back l n end)
  unfolding search_back
  backward n end =
      sym (is-given 0 (first_failed (span_checks m.start m.length (length bytes))) tt (nth_back (mask_flags m bytes) n end) in_span refl)
      ∙ ap (λ (t : List Bool). given (nth_back t n end)) s.flags

  nth : (n : ℕ) → nth_shown m bytes n ≡ Some (flag_of l n)
  nth n = new-nth bytes m.start m.length n in_span ∙ ap (λ (t : List Bool). Some (flag_of t n)) s.flags

  runs : (k : ℕ) → length l < k → runs_shown k m bytes ≡ Some (runs_from 0 l)
  unfolding new_slices runs_left
  runs k h =
      let c = slices_at m.start m.length 0 in
      ap (runs_of k bytes) (sym (is-given 0 (first_failed (mask_checks m bytes)) tt c whole refl))
      ∙ ap Some (lists-runs bytes c (sym (cursor-accepted m.start m.length 0 bytes in_span (omega arith))) k (omega (arith, long))
      ∙ ap (λ (t : List Bool). runs_from 0 (drop 0 t)) s.flags)

  whole-flags : window (mask_flags m bytes) 0 m.length ≡ mask_flags m bytes
  whole-flags =
      ap (window (mask_flags m bytes) 0) (sym (length-window (flags_of bytes) m.start m.length)) ∙ window-all (mask_flags m bytes)

  -- freezing a builder with the mask appended writes the list's frozen bytes
  refrozen-bytes : (f : Filling) (buf : List ℕ) → Builds f l → length f.bytes ≡ length buf → frozen_size m.length ≤ length buf
      → then_frozen m.length f.bytes (given f.builder) ≡ Some (frozen l)
  unfolding frozen_over
  refrozen-bytes f buf i size h =
      let ok = same-checks f.builder (length f.bytes) 0 (builder-accepted f.builder 0 (length f.bytes) i.room) in
      let k = first_failed (freeze_checks f.builder (length f.bytes)) in
      ap₂ (frozen_shown m.length) (sym (is-new 0 k (frozen_over f.builder f.bytes) f.bytes ok refl))
      (sym (is-given 0 k f.builder (frozen_mask f.builder) ok refl))
      ∙ ap₂ (λ (n : ℕ) (t : List Bool). Some (take n (over f.bytes (frozen t)))) (ap frozen_size long ∙ sym (length-frozen l)) i.flags
      ∙ ap Some (take-over f.bytes (frozen l) (omega (arith, length-frozen l, long)))

  frozen-bytes : (buf : List ℕ) → frozen_size m.length ≤ length buf → refrozen m bytes buf ≡ Some (frozen l)
  frozen-bytes buf h =
      let F = window (mask_flags m bytes) 0 m.length in
      let n : length F ≡ m.length = length-window (mask_flags m bytes) 0 m.length in
      let room : Room new_builder m.length (length buf) = record {
        short = omega (arith, s.sound.short);
        low = (new-holds 0 buf).room.low;
        few = omega arith;
        holds = omega arith;
      } in
      let f = appended (filling new_builder buf) F in
      let built = builds-after (filling new_builder buf) [] F (new-holds 0 buf)
      (subst (λ (k : ℕ). Room new_builder k (length buf)) (sym n) room) in
      let builds : Builds f l = record { room = built.room; flags = built.flags ∙ whole-flags ∙ s.flags; ones = built.ones } in
      let k = first_failed (subslice_checks new_builder buf m bytes 0 m.length) in
      let ok = whole-accepted new_builder buf m bytes whole s.sound.short room in
      ap₂ (then_frozen m.length) (sym (is-new 0 k f.bytes buf ok refl)) (sym (is-given 0 k new_builder f.builder ok refl))
      ∙ refrozen-bytes f buf builds (size_after (filling new_builder buf) f F refl) h

  pub agrees : Agrees m bytes l
  agrees =
      record {
        sound = s.sound;
        long = long;
        flags = s.flags;
        known = subst (TrueCount m.unset) s.flags s.sound.counts;
        counted = counted;
        frozen_bytes = frozen-bytes;
        runs = runs;
        nth = nth;
        forward = forward;
        backward = backward;
        combined = combines m bytes l s;
      }
