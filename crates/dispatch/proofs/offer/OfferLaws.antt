-- `offer` by the search `next_and_not`: its number of windows is the one of the definition, at most ceil(length / 32) + 1.
use Rattle.std.specs.Prelude.{IfErr, IfOk, Option, Some, None, Result, Ok, Err}
use Rattle.std.proofs.lemmas.Bool.{cases_lt}
use Rattle.std.proofs.lemmas.Option.{none-some, same_Some}
use mathlib.Core.Path.{◌≡◌, refl, sym, ap, ap₂, ◌∙◌, subst}
use mathlib.Core.Bool.{Bool, true}
use mathlib.Core.List.{List, [], ◌∷◌, ◌++◌, append-nil}
use mathlib.Core.Logic.{⊎_elim}
use Prim.Native.Nat.{ℕ, zero, suc, ◌+◌, ◌*◌, ◌-◌, ◌/◌, ◌≤◌, ◌<◌}
use native.Mathlib.Omega.{arith}
use lib.Dec.{leb}
use lib.ListN.{length, length-append}
use borrow.Author.Tests.{lt-ltb, le-ltb, le-leb, lt-leb}
use Rattle.std.specs.Result.{IsErrAnd}
use Rattle.std.proofs.lemmas.Result.{err_from_is_err_and}
use Rattle.masks.specs.Refusal.{number}
use Rattle.dispatch.specs.declared.offer.RefusedOffer.{RefusedOffer}
use Rattle.dispatch.specs.Offer.{offer_failure}
use Rattle.dispatch.specs.equations.Offer.{offer_answer}
use Rattle.masks.specs.declared.next_and_not.NextFlag.{NextFlag}
use Rattle.masks.specs.equations.Answer.{given, refused, decided}
use Rattle.masks.specs.Checks.{check, earlier, first_failed, limit}
use Rattle.masks.specs.Mask.{mask_checks}
use Rattle.masks.specs.NextAndNot.{free_flags, going_round, next_checks, next_set, other_checks, windows_of}
use Rattle.masks.specs.Search.{nth_from}
use Rattle.masks.specs.declared.bitmap.Bitmap.{Bitmap}
use Rattle.masks.proofs.refusal.AnswerLaws.{given-number, given-value, refused-number, refused-state}
use Rattle.masks.proofs.refusal.RefusalLaws.{number-ne0}
use Rattle.masks.proofs.checks.CheckLaws.{earlier-none, failed-append, is-given, is-refused, one-check}
use Rattle.masks.specs.Workers.{Searchable}
use Rattle.masks.proofs.next_and_not.NextAndNotLaws.{free-length, next-allowed}
use Rattle.masks.proofs.theorems.NextPlain.{some-ahead, some-before}
use Rattle.dispatch.specs.declared.offer.Offering.{Offering}
use Rattle.dispatch.specs.Offer.{beginning, in_order, most_windows, moved_to, next_truck, offer_checks, offered_of, offering}
use Rattle.dispatch.specs.Offer.{or_else, up_to, windows_read}

-- ---- windows in order

-- the fuel is enough: 32 flags a window
beginning-length : (most from end : ℕ) → end - from ≤ 32 * most → length (beginning most from end) ≡ (end - from + 31) / 32
unfolding beginning
beginning-length zero from end h = omega arith
beginning-length (suc most) from end h = ⊎_elim
    (λ (b : from < end).
    rw (lt-ltb from end b) (let ih = beginning-length most (from + 32) end (omega arith) in omega (arith, ih)))
    (λ (b : end ≤ from). rw (le-ltb from end b) (omega arith))
    (cases_lt from end)

-- the number of the window that holds a truck at or after the first window's beginning
up_to_there : (most from end t : ℕ) (more : List ℕ) → end - from ≤ 32 * most → from ≤ t → t < end
    → up_to t (beginning most from end ++ more) ≡ (t - from) / 32 + 1
unfolding beginning up_to
up_to_there zero from end t more h a b = absurd (omega arith)
up_to_there (suc most) from end t more h a b = ⊎_elim
    (λ (n : t < from + 32).
    rw (lt-ltb from end (omega arith), le-leb from t a, lt-ltb t (from + 32) n) (omega arith))
    (λ (n : from + 32 ≤ t).
    rw (lt-ltb from end (omega arith), le-leb from t a, le-ltb t (from + 32) n)
    (let ih = up_to_there most (from + 32) end t more (omega arith) n b in omega (arith, ih)))
    (cases_lt t (from + 32))

-- no window that begins after a truck holds it
up_to_past : (most from end t : ℕ) (more : List ℕ) → t < from
    → up_to t (beginning most from end ++ more) ≡ length (beginning most from end) + up_to t more
unfolding beginning up_to
up_to_past zero from end t more h = omega arith
up_to_past (suc most) from end t more h = ⊎_elim
    (λ (b : from < end).
    rw (lt-ltb from end b, lt-leb from t h) (let ih = up_to_past most (from + 32) end t more (omega arith) in omega (arith, ih)))
    (λ (b : end ≤ from). rw (le-ltb from end b) (omega arith))
    (cases_lt from end)

-- ---- the number of windows of the search

abbrev pub offered : ℕ → Option ℕ → ℕ → Offering
offered cursor t k = record { truck = t; cursor = moved_to t cursor; windows = k }

-- what the search finds, as an offer
abbrev pub as-offer : ℕ → NextFlag → Offering
as-offer cursor F = offered cursor F.position F.windows

-- what the search finds, as an offer with the next cursor as a number
abbrev pub offer-then : ℕ → NextFlag → Offering
offer-then next F = record { truck = F.position; cursor = next; windows = F.windows }

module _ (n cursor : ℕ) (inside : cursor ≤ n) where
  read-ahead : (t : ℕ) → cursor ≤ t → t < n → (t - cursor) / 32 + 1 ≡ windows_read n cursor (Some t)
  unfolding windows_read in_order
  read-ahead t a b = sym (up_to_there n cursor n t (beginning cursor 0 cursor) (omega arith) a b)

  read-before : (t : ℕ) → t < cursor → windows_of (n - cursor) + (t / 32 + 1) ≡ windows_read n cursor (Some t)
  unfolding windows_read in_order
  read-before t b =
      let first = beginning-length n cursor n (omega arith) in
      let z : (t - 0) / 32 + 1 ≡ t / 32 + 1 = omega arith in
      let second = up_to_there cursor 0 cursor t [] (omega arith) (omega arith) b ∙ z in
      sym (up_to_past n cursor n t (beginning cursor 0 cursor) b
      ∙ ap₂ (λ (x y : ℕ). x + y) first (ap (up_to t) (sym (append-nil (beginning cursor 0 cursor))) ∙ second))

  read_all : windows_of (n - cursor) + windows_of cursor ≡ windows_read n cursor None
  unfolding windows_read in_order
  read_all =
      let z : (cursor - 0 + 31) / 32 ≡ windows_of cursor = omega arith in
      sym (length-append (beginning n cursor n) (beginning cursor 0 cursor)
      ∙ ap₂ (λ (x y : ℕ). x + y) (beginning-length n cursor n (omega arith)) (beginning-length cursor 0 cursor (omega arith) ∙ z))

  module _ (l : List Bool) (long : length l ≡ n) where
    -- the places to which the two searches have come
    round-here : (A B : Option ℕ) → nth_from l 0 cursor ≡ A → nth_from l 0 0 ≡ B
        → as-offer cursor (going_round n cursor A B) ≡ offered cursor (or_else A B) (windows_read n cursor (or_else A B))
    unfolding going_round
    round-here (Some t) B e f =
        let at = some-ahead l cursor t e in
        ap (offered cursor (Some t)) (read-ahead t at.0 (omega (arith, at.1)))
    round-here None (Some t) e f =
        ap (offered cursor (Some t)) (read-before t (some-before l cursor t e f))
    round-here None None e f = ap (offered cursor None) read_all

    -- what the search finds is the offer
    pub as_offered : (F : NextFlag) → F ≡ next_set n l cursor → as-offer cursor F ≡ offering n l cursor
    unfolding next_set offering next_truck
    as_offered F e =
        ap (as-offer cursor) e
        ∙ round-here (nth_from l 0 cursor) (nth_from l 0 0) refl refl

    bound-here : (A B : Option ℕ) → nth_from l 0 cursor ≡ A → nth_from l 0 0 ≡ B → (going_round n cursor A B).windows ≤ (n + 31) / 32 + 1
    unfolding going_round
    bound-here (Some t) B e f = let at = some-ahead l cursor t e in omega (arith, at.0, at.1)
    bound-here None (Some t) e f = let at = some-before l cursor t e f in omega arith
    bound-here None None e f = omega arith

    -- the bound on the windows of the search
    pub search-bound : (F : NextFlag) → F ≡ next_set n l cursor → F.windows ≤ (n + 31) / 32 + 1
    unfolding next_set
    search-bound F e =
        subst (λ (G : NextFlag). G.windows ≤ (n + 31) / 32 + 1) (sym e) (bound-here (nth_from l 0 cursor) (nth_from l 0 0) refl refl)

    inside-here : (A B : Option ℕ) (t : ℕ) → nth_from l 0 cursor ≡ A → nth_from l 0 0 ≡ B → (going_round n cursor A B).position ≡ Some t
        → t < n
    unfolding going_round
    inside-here (Some p) B t e f g = omega (arith, (some-ahead l cursor p e).1, same_Some p t g)
    inside-here None (Some p) t e f g = omega (arith, (some-ahead l 0 p f).1, same_Some p t g)
    inside-here None None t e f g = absurd (none-some t g)

    -- a truck that is found is one of the n
    pub search-inside : (F : NextFlag) (t : ℕ) → F ≡ next_set n l cursor → F.position ≡ Some t → t < n
    unfolding next_set
    search-inside F t e g =
        inside-here (nth_from l 0 cursor) (nth_from l 0 0) t refl refl (ap (λ (G : NextFlag). G.position) (sym e) ∙ g)

-- ---- the ways out

-- with a permission mask
module _ (p : Bitmap) (p_bytes : List ℕ) (R : Option Bitmap) (r_bytes : List ℕ) (cursor : ℕ) (F : NextFlag)
    (passed : 0 ≡ first_failed (next_checks p p_bytes R r_bytes cursor))
    (found : F ≡ next_set p.length (free_flags p p_bytes R r_bytes) cursor) where
  ok : Searchable p R cursor p.length
  ok = next-allowed p p_bytes R r_bytes cursor (sym passed)

  long : length (free_flags p p_bytes R r_bytes) ≡ p.length
  long = free-length p p_bytes R r_bytes ok.beside

  pub found-way : (next : ℕ) → next ≡ moved_to F.position cursor → offer-then next F ≡ offered_of (Some p) p_bytes R r_bytes cursor
  unfolding offered_of
  found-way next h =
      ap (λ (n : ℕ). offer-then n F) h ∙ as_offered p.length cursor ok.ordered (free_flags p p_bytes R r_bytes) long F found

  pub found-bound : F.windows ≤ most_windows (Some p)
  found-bound = search-bound p.length cursor ok.ordered (free_flags p p_bytes R r_bytes) long F found

  pub found_inside : (t : ℕ) → F.position ≡ Some t → t < limit
  found_inside t h =
      omega (arith, search-inside p.length cursor ok.ordered (free_flags p p_bytes R r_bytes) long F t found h, ok.short)

-- without one: the checks of a search over a revocation mask that starts at 0 are those of that mask, since 6 always passes
pub lone-number : (r : Bitmap) (r_bytes p_bytes : List ℕ)
    → first_failed (next_checks r r_bytes None p_bytes 0) ≡ first_failed (mask_checks r r_bytes)
unfolding next_checks other_checks
lone-number r r_bytes p_bytes =
    failed-append (mask_checks r r_bytes) (check 6 (leb 0 r.length) ∷ [])
    ∙ ap (earlier (first_failed (mask_checks r r_bytes)))
    (sym (one-check 0 6 true (leb 0 r.length) refl (sym (le-leb 0 r.length (omega arith)))))
    ∙ earlier-none (first_failed (mask_checks r r_bytes))

pub lone-checked : (p_bytes : List ℕ) (R : Option Bitmap) (r : Bitmap) (r_bytes : List ℕ) (cursor k : ℕ) → R ≡ Some r
    → k ≡ first_failed (next_checks r r_bytes None p_bytes 0) → k ≡ first_failed (offer_checks None p_bytes R r_bytes cursor)
unfolding offer_checks
lone-checked p_bytes R r r_bytes cursor k here e =
    e ∙ ap (λ (o : Option Bitmap). first_failed (offer_checks None p_bytes o r_bytes cursor)) (sym here)

-- with no mask at all no check is made
pub no-mask-checked : (p_bytes : List ℕ) (R : Option Bitmap) (r_bytes : List ℕ) (cursor : ℕ) → R ≡ None
    → 0 ≡ first_failed (offer_checks None p_bytes R r_bytes cursor)
unfolding offer_checks first_failed
no-mask-checked p_bytes R r_bytes cursor gone =
    ap (λ (o : Option Bitmap). first_failed (offer_checks None p_bytes o r_bytes cursor)) (sym gone)

-- the exit of a `?` returns the refusal
pub offer-exit : (result : Result Offering RefusedOffer) (x : RefusedOffer) → IsErrAnd result (λ (y : RefusedOffer). y ≡ x)
    → offer_failure result ≡ number x.refusal
offer-exit result x h =
    let p = err_from_is_err_and result h in
    ap offer_failure (p.1 ∙ ap (λ (y : RefusedOffer). Err y) p.2)

-- ---- the clauses of `offer` make its answer

pub offer_answered : (r : Result Offering RefusedOffer) (m cursor : ℕ) (o : Offering) → offer_failure r ≡ m → IfOk r (λ x. x ≡ o)
    → IfErr r (λ x. x.cursor ≡ cursor) → offer_answer r ≡ decided m cursor o
offer_answered (Ok x) m cursor o e v t = ap given v ∙ is-given 0 m cursor o e refl
offer_answered (Err k) m cursor o e v t =
    ap (refused (number k.refusal)) t ∙ is-refused (number k.refusal) m cursor o e (number-ne0 k.refusal)

-- the other way
pub clauses-offer_answered : (r : Result Offering RefusedOffer) (m cursor : ℕ) (o : Offering) → offer_answer r ≡ decided m cursor o
    → (offer_failure r ≡ m) × (IfOk r (λ x. x ≡ o) × IfErr r (λ x. x.cursor ≡ cursor))
clauses-offer_answered (Ok x) m cursor o e = (given-number m cursor x o e, (given-value m cursor x o e, tt))
clauses-offer_answered (Err k) m cursor o e =
    (refused-number (number k.refusal) m k.cursor cursor o e, (tt, refused-state (number k.refusal) m k.cursor cursor o e))
