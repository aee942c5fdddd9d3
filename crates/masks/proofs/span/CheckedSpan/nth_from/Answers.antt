-- The window at which `pass_windows` stops has the flag (`turn-there`), or too few (`turn-only`), and then one window is left.
use mathlib.Core.Path.{sym, ◌∙◌, subst}
use Prim.Native.Nat.{ℕ, ◌≤◌}
use native.Mathlib.Omega.{arith}
use Rattle.words.specs.Flags.{bits, count}
use Rattle.words.proofs.flags.Bits.{length-bits}
use Rattle.masks.proofs.bitmask.BitmaskLaws.{window-flags}
use Rattle.masks.proofs.bitmask.SearchLaws.{seen-there, seen-only, turn-there, turn-only, turn_end}
use Rattle.masks.proofs.span.CheckedSpan.nth_from.Goals as goal

pub returns-then-from-self : goal.returns-then-from-self
returns-then-from-self c = turn_end _ _ _ _ _ (omega arith)

pub overflow_add-position : goal.overflow_add-position
overflow_add-position c =
    omega (arith, (seen-there _ _ _ (sym c.nth_in_window-seen.ensures ∙ c.in-Ok.is)).inside, length-bits 32 c.window.result)

pub overflow_sub-rest : goal.overflow_sub-rest
overflow_sub-rest c =
    let only = seen-only _ _ _ (sym c.nth_in_window-seen.ensures ∙ c.in-Err.is) in
    omega (arith, only.few, only.number)

pub search_last-requires : goal.search_last-requires
search_last-requires c =
    let few = (seen-only _ _ _ (sym c.nth_in_window-seen.ensures ∙ c.in-Err.is)).few in
    let passed = c.pass_windows-passed in
    omega (arith, passed.ensures.stops (subst (λ (x : ℕ). count (bits 32 x) ≤ passed.result.left) c.window.ensures few))

pub returns-in-Ok : goal.returns-in-Ok
returns-in-Ok c =
    turn-there _ _ _ _ _ (window-flags _ _ _ _ _ c.window.ensures) (seen-there _ _ _ (sym c.nth_in_window-seen.ensures ∙ c.in-Ok.is))
    ∙ c.pass_windows-passed.ensures.same

pub returns-in-Err : goal.returns-in-Err
returns-in-Err c =
    c.search_last.ensures
    ∙ turn-only _ _ _ _ _ (window-flags _ _ _ _ _ c.window.ensures)
    (seen-only _ _ _ (sym c.nth_in_window-seen.ensures ∙ c.in-Err.is))
    ∙ c.pass_windows-passed.ensures.same
