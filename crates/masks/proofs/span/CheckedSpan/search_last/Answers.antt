-- The window has the flag (`turn-there`), or the span ends after it (`turn_last`).
use Rattle.std.proofs.Common.{Ok, Err, Some, None, ⊎_elim, ◌≡◌, ◌∙◌, ◌+◌, ◌<◌, ◌≤◌, ℕ, arith, rules}
use Rattle.std.proofs.lemmas.Bool.{cases_lt}
use Rattle.words.specs.Flags.{bits, count}
use Rattle.words.specs.Nth.{nth_place}
use Rattle.words.proofs.flags.Bits.{length-bits}
use Rattle.words.proofs.nth.NthLaws.{nth-lt}
use Rattle.words.proofs.theorems.Plain.{nth-found, nth-missing}
use Rattle.std.proofs.iter.Serving.{serving}
use Rattle.masks.proofs.bitmask.BitmaskLaws.{window-flags}
use Rattle.masks.proofs.bitmask.SearchLaws.{seen-there, seen-only, turn-there, turn_last}
use Rattle.masks.proofs.span.CheckedSpan.search_last.Goals as goal

pub map-requires : goal.map-requires
map-requires c =
    let l = bits 32 c.window.result in
    let n = c.args.n in
    let few : (x : ℕ) → c.ok.result ≡ Some x → x < 32 = λ x e. ⊎_elim
    (λ (h : n < count l).
    let there : c.nth_in_window.result ≡ Ok (nth_place l n) = c.nth_in_window.ensures ∙ nth-found l n h in
    let found : c.ok.result ≡ Some (nth_place l n) = search (rules, there) in
    let same : x ≡ nth_place l n = cc in
    omega (arith, same, nth-lt l n h, length-bits 32 c.window.result))
    (λ (h : count l ≤ n).
    let missing : c.nth_in_window.result ≡ Err (count l) = c.nth_in_window.ensures ∙ nth-missing l n h in
    let none : c.ok.result ≡ None = search (rules, missing) in
    let z : ◌≡◌ {A = ℕ} 0 1 = cc in
    absurd (omega arith))
    (cases_lt n (count l)) in
    grind (serving, few)

pub returns : goal.returns
returns c =
    let l = bits 32 c.window.result in
    let n = c.args.n in
    ⊎_elim
    (λ (h : n < count l).
    let there : c.nth_in_window.result ≡ Ok (nth_place l n) = c.nth_in_window.ensures ∙ nth-found l n h in
    let found : c.map.result ≡ Some (c.args.from + nth_place l n) = search (rules, there) in
    found ∙ turn-there _ _ _ _ _ (window-flags _ _ _ _ _ c.window.ensures) (seen-there _ _ _ (nth-found l n h)))
    (λ (h : count l ≤ n).
    let missing : c.nth_in_window.result ≡ Err (count l) = c.nth_in_window.ensures ∙ nth-missing l n h in
    let none : c.map.result ≡ None = search (rules, missing) in
    none ∙ turn_last _ _ _ _ _ _ _ (window-flags _ _ _ _ _ c.window.ensures) (seen-only _ _ _ (nth-missing l n h)) (omega arith))
    (cases_lt n (count l))
