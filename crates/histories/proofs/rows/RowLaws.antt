-- A call that makes a mask from masks keeps the invariant if its row is lawful; and laws for every row that checks its arguments and
-- then writes flags.
use Rattle.std.specs.Prelude.{Option}
use Rattle.std.proofs.lemmas.Bool.{false≢true}
use mathlib.Core.Path.{◌≡◌, refl, sym, ap, ap₂, ◌∙◌, subst}
use mathlib.Core.Bool.{Bool, true, cond}
use mathlib.Core.List.{List}
use Prim.Native.Nat.{ℕ, zero, suc, ◌+◌, ◌*◌, ◌/◌, ◌≤◌}
use native.Mathlib.Omega.{arith}
use lib.ListN.{length}
use Rattle.words.specs.Flags.{flags_of, over, window}
use Rattle.words.proofs.flags.Windows.{length_over}
use Rattle.masks.specs.equations.Answer.{Answer, given, refused, kept, checked}
use Rattle.masks.specs.Checks.{Check, first_failed, limit}
use Rattle.masks.specs.Frozen.{frozen}
use Rattle.masks.specs.Mask.{mask_under}
use Rattle.masks.proofs.statements.TrueCounts.{TrueCount}
use Rattle.masks.specs.declared.bitmap.Bitmap.{Bitmap}
use Rattle.masks.proofs.refusal.AnswerLaws.{given-number, given-value}
use Rattle.masks.proofs.checks.CheckLaws.{is-new}
use Rattle.masks.proofs.builder.FreezeLaws.{frozen-front}
use Rattle.histories.proofs.statements.Agreement.{state_flags}
use Rattle.histories.proofs.statements.History.{after_kept, after_written, flags_at, lent_at}
use Rattle.histories.proofs.statements.History.{row_flags, step_row, written_answer, written_bytes, written_flags}
use Rattle.histories.proofs.statements.Owed.{Lawful, LawfulKeeps, LawfulWrites, Stands, lent_flags}
use Rattle.histories.specs.Rows.{Argument, own, other, Keeps, RowCall, Tuple, Writes, each, keep, write}
use Rattle.histories.proofs.history.HistoryLaws.{Holds}
use Rattle.histories.proofs.history.ReferenceLaws.{mask-flags}

-- ---- the masks that a call takes

abbrev joined : {A : Type 0} (n : ℕ) → A → Tuple A n → Tuple A (suc n)
joined n x t = (x, t)

module _ (m : Bitmap) (bytes : List ℕ) (l : List Bool) (s : Stands m bytes l) where
  flags-at : (p : Argument) → lent_flags (lent_at m bytes p) ≡ flags_at l p
  flags-at own = s.flags
  flags-at (other n its) = sym (mask-flags n its)

  pub flags-all : (n : ℕ) (a : Tuple Argument n) → each lent_flags n (each (lent_at m bytes) n a) ≡ each (flags_at l) n a
  flags-all zero a = refl
  flags-all (suc n) a = ap₂ (joined n) (flags-at a.0) (flags-all n a.1)

  -- ---- one call

  kept-holds : (r : Keeps) → LawfulKeeps r → (x : Answer Bitmap Bitmap) → r.answer m bytes ≡ x
      → Holds (after_kept bytes x).state (cond (after_kept bytes x).accepted (r.flags l) l)
  kept-holds r w (given g) e = subst (λ (t : List Bool). Stands g bytes (r.flags t)) s.flags (w.made m bytes s.sound g e)
  kept-holds r w (refused k g) e = subst (λ (x : Bitmap). Stands x bytes l) (sym (w.left m bytes k g e)) s

  written-holds : (r : Writes) (a : Tuple Argument r.masks) → LawfulWrites r → (x : Answer (Unit {0}) Bitmap)
      → written_answer m bytes r a ≡ x
      → let o = after_written m bytes (written_bytes m bytes r a) x in
      Holds o.state (cond o.accepted (written_flags l r a) l)
  written-holds r a w (given g) e =
      subst (λ (t : Tuple (List Bool) r.masks). Stands g (written_bytes m bytes r a) (r.flags t)) (flags-all r.masks a)
      (w.made (each (lent_at m bytes) r.masks a) g e)
  written-holds r a w (refused k t) e = s

  pub row-holds : (c : RowCall) → Lawful c → Holds (step_row m bytes c).state (cond (step_row m bytes c).accepted (row_flags l c) l)
  row-holds (keep r) w = kept-holds r w (r.answer m bytes) refl
  row-holds (write r a) w = written-holds r a w (written_answer m bytes r a) refl

  -- ---- the flags of an accepted call's mask

  kept-flags : (r : Keeps) → LawfulKeeps r → (x : Answer Bitmap Bitmap) → r.answer m bytes ≡ x → (after_kept bytes x).accepted ≡ true
      → state_flags (after_kept bytes x).state ≡ r.flags l
  kept-flags r w (given g) e t = (kept-holds r w (given g) e).flags
  kept-flags r w (refused k g) e t = absurd (false≢true t)

  written-flags : (r : Writes) (a : Tuple Argument r.masks) → LawfulWrites r
      → (x : Answer (Unit {0}) Bitmap) → written_answer m bytes r a ≡ x
      → let o = after_written m bytes (written_bytes m bytes r a) x in
      o.accepted ≡ true → state_flags o.state ≡ written_flags l r a
  written-flags r a w (given g) e t = (written-holds r a w (given g) e).flags
  written-flags r a w (refused k u) e t = absurd (false≢true t)

  pub row-flags : (c : RowCall) → Lawful c → (step_row m bytes c).accepted ≡ true → state_flags (step_row m bytes c).state ≡ row_flags l c
  row-flags (keep r) w t = kept-flags r w (r.answer m bytes) refl t
  row-flags (write r a) w t = written-flags r a w (written_answer m bytes r a) refl t

-- ---- rows that write flags if a list of checks passes

-- flags frozen over the front of an output that holds them: a mask over it, from flag 0 on, represents them, whatever its serial
pub made-stands : (serial n : ℕ) (u : Option ℕ) (F l : List Bool) (out : List ℕ) → length F ≡ n → n ≤ limit
    → 8 * ((n + 63) / 64) ≤ length out → F ≡ l → TrueCount u F
    → Stands (mask_under serial 0 n u) (over out (frozen F)) l
made-stands serial n u F l out e h r p t =
    let written = flags_of (over out (frozen F)) in
    let same : window written 0 n ≡ F = ap (window written 0) (sym e) ∙ frozen-front out F (omega arith) in
    record {
      sound = record {
        starts = omega arith;
        short = h;
        inside = omega (arith, length_over out (frozen F));
        counts = subst (TrueCount u) (sym same) t;
      };
      flags = same ∙ p;
    }

-- what must follow from passed checks: F has n flags, within the limit and the output, count u is true of F, and F equals G
pub record Writable (n : ℕ) (u : Option ℕ) (F G : List Bool) (out : List ℕ) : Type 0 where
  pub long : length F ≡ n
  pub short : n ≤ limit
  pub room : 8 * ((n + 63) / 64) ≤ length out
  pub same : F ≡ G
  pub counts : TrueCount u F

pub written_stands : (cs : List Check) (serial n : ℕ) (u : Option ℕ) (F G : List Bool) (out : List ℕ) (g : Bitmap)
    → checked cs (tt {0}) (mask_under serial 0 n u) ≡ given g
    → (first_failed cs ≡ 0 → Writable n u F G out) → Stands g (kept (first_failed cs) (over out (frozen F)) out) G
written_stands cs serial n u F G out g e known =
    let k = first_failed cs in
    let z : 0 ≡ k = given-number k tt g (mask_under serial 0 n u) (sym e) in
    let a = known (sym z) in
    subst (λ (x : Bitmap). Stands x (kept k (over out (frozen F)) out) G) (sym (given-value k tt g (mask_under serial 0 n u) (sym e)))
    (subst (λ (b : List ℕ). Stands (mask_under serial 0 n u) b G) (is-new 0 k (over out (frozen F)) out z refl)
    (made-stands serial n u F G out a.long a.short a.room a.same a.counts))
