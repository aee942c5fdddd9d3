-- If the checks pass (`next-allowed`), a flag is found at or after the place (`found-ahead`), or before it (`found_before`), or nowhere
-- (`found_none`).
use mathlib.Core.Path.{refl, sym}
use native.Mathlib.Omega.{arith}
use Rattle.masks.proofs.next_and_not.NextAndNotLaws.{before-allowed, found-ahead, found_before, found_none, found-word, free-length}
use Rattle.masks.proofs.next_and_not.NextAndNotLaws.{next-allowed}
use Rattle.masks.proofs.next_and_not.next_and_not.Goals as goal

pub free_word-word-requires : goal.free_word-word-requires
free_word-word-requires c =
    let ok = next-allowed _ _ _ _ _ (sym c.in_ok-check_next.ensures) in
    record { starts = ok.starts; short = ok.short; beside = ok.beside; ordered = omega arith; inside = ok.inside }

pub next_in_word-requires : goal.next_in_word-requires
next_in_word-requires c =
    let ok = next-allowed _ _ _ _ _ (sym c.in_ok-check_next.ensures) in
    (c.if-length-le64.true, ok.ordered)

pub returns-then-length-le64-clause-found : goal.returns-then-length-le64-clause-found
returns-then-length-le64-clause-found c =
    let ok = next-allowed _ _ _ _ _ (sym c.in_ok-check_next.ensures) in
    found-word _ _ _ _ _ _ _ _ ok.beside refl (c.free_word-word.ensures _ c.if-length-le64.true (omega arith)) c.next_in_word.ensures

pub zeros_ahead-ahead-requires : goal.zeros_ahead-ahead-requires
zeros_ahead-ahead-requires c = next-allowed _ _ _ _ _ (sym c.in_ok-check_next.ensures)

pub overflow_sub-length : goal.overflow_sub-length
overflow_sub-length c =
    let ok = next-allowed _ _ _ _ _ (sym c.in_ok-check_next.ensures) in
    ok.ordered

pub returns-then-ahead-length-clause-found : goal.returns-then-ahead-length-clause-found
returns-then-ahead-length-clause-found c =
    let ok = next-allowed _ _ _ _ _ (sym c.in_ok-check_next.ensures) in
    found-ahead _ _ _ _ (free-length _ _ _ _ ok.beside) ok.ordered c.zeros_ahead-ahead.ensures _ _ c.if-ahead-length.true refl refl

pub overflow_sub-length-2 : goal.overflow_sub-length-2
overflow_sub-length-2 c =
    let ok = next-allowed _ _ _ _ _ (sym c.in_ok-check_next.ensures) in
    ok.ordered

pub windows_of-passed-requires : goal.windows_of-passed-requires
windows_of-passed-requires c =
    let ok = next-allowed _ _ _ _ _ (sym c.in_ok-check_next.ensures) in
    omega (arith, ok.short)

pub zeros_ahead-before-requires : goal.zeros_ahead-before-requires
zeros_ahead-before-requires c =
    let ok = next-allowed _ _ _ _ _ (sym c.in_ok-check_next.ensures) in
    before-allowed _ _ _ ok

pub returns-then-before-from-clause-found : goal.returns-then-before-from-clause-found
returns-then-before-from-clause-found c =
    let ok = next-allowed _ _ _ _ _ (sym c.in_ok-check_next.ensures) in
    found_before _ _ _ _ (free-length _ _ _ _ ok.beside)
    ok.ordered c.zeros_ahead-ahead.ensures _ _ c.if-ahead-length.false c.windows_of-passed.ensures
    c.zeros_ahead-before.ensures _ c.if-before-from.true refl

pub windows_of-requires : goal.windows_of-requires
windows_of-requires c =
    let ok = next-allowed _ _ _ _ _ (sym c.in_ok-check_next.ensures) in
    omega (arith, ok.ordered, ok.short)

pub returns-clause-found : goal.returns-clause-found
returns-clause-found c =
    let ok = next-allowed _ _ _ _ _ (sym c.in_ok-check_next.ensures) in
    found_none _ _ _ _ (free-length _ _ _ _ ok.beside)
    ok.ordered c.zeros_ahead-ahead.ensures _ _ c.if-ahead-length.false c.windows_of-passed.ensures
    c.zeros_ahead-before.ensures _ _ c.if-before-from.false c.windows_of.ensures refl
