-- `offer` for trucks: `right` for one call, `round` for as many calls as there are trucks that may be reassigned.
use Rattle.std.specs.Prelude.{Option, Some}
use Rattle.std.proofs.lemmas.Option.{none-some, same_Some}
use Rattle.std.proofs.lemmas.Bool.{true≢false}
use Rattle.std.proofs.lemmas.List.{take-append-le}
use mathlib.Core.Path.{◌≡◌, refl, sym, ap, ap₂, ◌∙◌, subst}
use mathlib.Core.Bool.{Bool, false}
use mathlib.Core.List.{List, [], ◌∷◌, ◌++◌}
use Prim.Native.Nat.{ℕ, zero, suc, ◌+◌, ◌-◌, ◌≤◌}
use native.Mathlib.Omega.{arith}
use lib.ListN.{length, take, get_or, length-append}
use lib.Seq.{take_all}
use Rattle.masks.specs.equations.Answer.{Answer, given}
use Rattle.masks.specs.Checks.{first_failed}
use Rattle.masks.specs.NextAndNot.{free_flags}
use Rattle.masks.specs.declared.bitmap.Bitmap.{Bitmap}
use Rattle.masks.proofs.checks.CheckLaws.{is-given}
use Rattle.masks.specs.Workers.{Searchable}
use Rattle.masks.proofs.next_and_not.NextAndNotLaws.{elsewhere-accepted, free-length, next-allowed}
use Rattle.masks.proofs.theorems.NextPlain.{first-listed, free-flag, head_of, ones, ones-same}
use Rattle.dispatch.specs.Reassign.{reassignable}
use Rattle.dispatch.specs.declared.offer.Offering.{Offering}
use Rattle.dispatch.specs.Offer.{moved_to, next_truck, offer_checks, offered_of, offering, or_else}
use Rattle.dispatch.specs.equations.Offer.{offer_of}
use Rattle.dispatch.proofs.statements.Rounds.{Accepted, ARound, cursor_of, First, many_below, may, offers, OneCall, Right, times, truck_in}
use Rattle.dispatch.proofs.statements.Rounds.{trucks_of}
use Rattle.dispatch.proofs.theorems.RoundLaws.{around, around_first, around_many, around_times, none_around, turn}

-- ---- one call

-- an offer that is the first truck around the cursor
module _ (f : ℕ → Bool) (n c : ℕ) (inside : c ≤ n) (o : Offering) (moved : o.cursor ≡ moved_to o.truck c) where
  right_by : (L : List ℕ) → around f n c ≡ L → o.truck ≡ head_of L → Right f n c o
  right_by [] a e = record {
    none_then = λ h. none_around f n c inside a;
    then-none = λ h. e;
    stays = λ h. moved ∙ ap (λ (t : Option ℕ). moved_to t c) h;
    first = λ t h. absurd (none-some t (sym e ∙ h));
    moves = λ t h. moved ∙ ap (λ (u : Option ℕ). moved_to u c) h;
  }
  right_by (t ∷ rest) a e =
      let T = turn f n c t rest inside a in
      let there : First f n c t = record { below = T.below; allowed = T.is_set; ahead = T.ahead; after = T.after; least = T.least } in
      record {
        none_then = λ h. absurd (none-some t (sym h ∙ e));
        then-none = λ h. absurd (true≢false (sym T.is_set ∙ h t T.below));
        stays = λ h. moved ∙ ap (λ (u : Option ℕ). moved_to u c) h;
        first = λ u h. subst (λ (x : ℕ). First f n c x) (same_Some t u (sym e ∙ h)) there;
        moves = λ u h. moved ∙ ap (λ (x : Option ℕ). moved_to x c) h;
      }

module _ (p : Bitmap) (p_bytes : List ℕ) (R : Option Bitmap) (r_bytes : List ℕ) where
  flag : ℕ → Bool
  flag t = get_or (free_flags p p_bytes R r_bytes) t false

  -- the truck offered is the first around the cursor
  module _ (cursor : ℕ) (e : Accepted p p_bytes R r_bytes cursor) where
    ok : Searchable p R cursor p.length
    unfolding offer_checks
    ok = next-allowed p p_bytes R r_bytes cursor e

    long : length (free_flags p p_bytes R r_bytes) ≡ p.length
    long = free-length p p_bytes R r_bytes ok.beside

    same_trucks : (a m : ℕ) → a + m ≤ p.length → ones flag a m ≡ ones (may p p_bytes R r_bytes) a m
    unfolding flag reassignable
    same_trucks a m h = ones-same (λ (t : ℕ). get_or (free_flags p p_bytes R r_bytes) t false) (may p p_bytes R r_bytes) a m
        (λ j low high. free-flag p p_bytes R r_bytes j ok.beside (omega arith))

    first-truck : next_truck (free_flags p p_bytes R r_bytes) cursor ≡ head_of (around (may p p_bytes R r_bytes) p.length cursor)
    unfolding next_truck flag
    first-truck =
        let n = p.length in
        let z : length (free_flags p p_bytes R r_bytes) - 0 ≡ n = omega (arith, long) in
        ap₂ or_else
        (first-listed (free_flags p p_bytes R r_bytes) cursor
        ∙ ap head_of (ap (λ (k : ℕ). ones flag cursor (k - cursor)) long ∙ same_trucks cursor (n - cursor) (omega (arith, ok.ordered))))
        (first-listed (free_flags p p_bytes R r_bytes) 0 ∙ ap head_of (ap (ones flag 0) z ∙ same_trucks 0 n (omega arith)))
        ∙ around_first (may p p_bytes R r_bytes) n cursor ok.ordered

    is-given-here : given (offered_of (Some p) p_bytes R r_bytes cursor) ≡ offer_of (Some p) p_bytes R r_bytes cursor
    unfolding offer_of
    is-given-here =
        is-given 0 (first_failed (offer_checks (Some p) p_bytes R r_bytes cursor)) cursor
        (offered_of (Some p) p_bytes R r_bytes cursor) (sym e) refl

  pub right : OneCall p p_bytes R r_bytes
  unfolding offered_of offering
  right cursor e =
      right_by (may p p_bytes R r_bytes) p.length cursor (ok cursor e).ordered (offered_of (Some p) p_bytes R r_bytes cursor) refl
      (around (may p p_bytes R r_bytes) p.length cursor) refl (first-truck cursor e)

  -- ---- a round

  call : ℕ → Answer ℕ Offering
  call cursor = offer_of (Some p) p_bytes R r_bytes cursor

  one_more : (k cursor : ℕ) (e : Accepted p p_bytes R r_bytes cursor)
      → ((c : ℕ) → Accepted p p_bytes R r_bytes c → k ≤ length (around (may p p_bytes R r_bytes) p.length c)
      → offers call k c ≡ take k (around (may p p_bytes R r_bytes) p.length c))
      → (L : List ℕ) → around (may p p_bytes R r_bytes) p.length cursor ≡ L → suc k ≤ length L → offers call (suc k) cursor ≡ take (suc k) L
  unfolding offers call offered_of offering offer_checks
  one_more k cursor e ih [] a h = absurd (omega arith)
  one_more k cursor e ih (t ∷ rest) a h =
      let T = turn (may p p_bytes R r_bytes) p.length cursor t rest (ok cursor e).ordered a in
      let truck : next_truck (free_flags p p_bytes R r_bytes) cursor ≡ Some t = first-truck cursor e ∙ ap head_of a in
      let here : trucks_of (call cursor) ≡ t ∷ [] = ap trucks_of (sym (is-given-here cursor e)) ∙ ap truck_in truck in
      let next : cursor_of (call cursor) ≡ t + 1 =
      ap cursor_of (sym (is-given-here cursor e)) ∙ ap (λ (o : Option ℕ). moved_to o cursor) truck in
      let room : k ≤ length (around (may p p_bytes R r_bytes) p.length (t + 1)) =
      omega (arith, ap length T.turned, length-append rest (t ∷ [])) in
      let more = ih (t + 1) (elsewhere-accepted p p_bytes R r_bytes cursor (t + 1) e (omega (arith, T.below))) room in
      ap₂ (λ (a b : List ℕ). a ++ b) here
      (ap (offers call k) next ∙ more ∙ ap (take k) T.turned ∙ take-append-le k rest (t ∷ []) (omega arith))

  offers-first : (k cursor : ℕ) → Accepted p p_bytes R r_bytes cursor → k ≤ length (around (may p p_bytes R r_bytes) p.length cursor)
      → offers call k cursor ≡ take k (around (may p p_bytes R r_bytes) p.length cursor)
  unfolding offers
  offers-first zero cursor e h = refl
  offers-first (suc k) cursor e h =
      one_more k cursor e (λ c g r. offers-first k c g r) (around (may p p_bytes R r_bytes) p.length cursor) refl h

  pub round : ARound p p_bytes R r_bytes
  unfolding call
  round cursor e t =
      let f = may p p_bytes R r_bytes in
      let n = p.length in
      let many = around_many f n cursor (ok cursor e).ordered in
      ap (times t) (offers-first (many_below f n) cursor e (omega (arith, many))
      ∙ take_all (many_below f n) (around f n cursor) (omega (arith, many)))
      ∙ around_times f n cursor t (ok cursor e).ordered
