-- Each line that is written follows those before it (`loop-line-preserved`). At the end no line is left, and the text, which was empty,
-- is what was written to it (`written-whole`).
use Rattle.std.proofs.Common.{ℕ, ◌≡◌, List, [], ◌∷◌, ◌++◌, append-nil, append_assoc, sym, ap, subst, ◌∙◌}
use Rattle.std.proofs.KnownBytes.{Appends-trans}
use Rattle.std.proofs.lemmas.Fn.{chained_keeps}
use Rattle.std.proofs.lemmas.List.{nil_from_length}
use Rattle.std.proofs.lemmas.List.Folds.{concat-append}
use Rattle.std.proofs.lemmas.Option.{IfSome_then}
use Rattle.std.specs.Fmt.{WritesInCalls}
use Rattle.std.specs.Fmt.InlineText.{IsIntact, inline_text}
use Rattle.std.specs.Io.KnownBytes.{Appends}
use Rattle.std.specs.List.{concat}
use Rattle.report.proofs.program.print_lines.Goals as goal

written-whole : {W : Type 0} (intact : W → Type 0) (text : W → List ℕ) (s : W) (bs : List ℕ) (t : W) → intact s → text s ≡ []
    → WritesInCalls (λ v xs u. intact v → intact u × (text u ≡ text v ++ xs)) s bs t → text t ≡ bs
written-whole intact text s bs t whole none wrote =
    let one = λ (xs : List (List ℕ)) (x : List ℕ). concat-append xs (x ∷ []) ∙ ap (λ l. concat xs ++ l) (append-nil x) in
    let kept = chained_keeps _ (λ xs v. intact v × (text v ≡ concat xs))
    (λ xs v x u had more. let now = more had.0 in (now.0, now.1 ∙ ap (λ l. l ++ x) had.1 ∙ sym (one xs x)))
    wrote.parts s t (whole, none) wrote.calls in
    kept.1 ∙ wrote.whole

pub loop-line-preserved : goal.loop-line-preserved
loop-line-preserved g c =
    let before = c.loop-line.invariant in
    let line = c.in-Some.line.now in
    let rest = c.next.new.self.rest.now in
    let wrote = subst (Appends _ _) c.as_bytes.ensures.value c.in_ok-write_all.ensures.bytes in (
      before.0 ++ line,
      Appends-trans _ _ _ before.0 line before.1 wrote,
      append_assoc before.0 line rest ∙ ap (λ l. before.0 ++ l) (sym c.in-Some.ensures.steps.1.0) ∙ before.2,
    )

pub returns : goal.returns
returns g c = IfSome_then (g.D.Display.output c.args.value) c.in_ok-write.ensures.writes (λ bs wrote.
    let text = written-whole IsIntact inline_text _ bs _ c.new-text.ensures.intact c.new-text.ensures.text wrote in
    let done = c.loop-line.invariant in
    let none = nil_from_length _ c.in-None.ensures.steps.1.0 in
    let split = ap (λ i. i.rest.now) c.into_iter-line-iterator.ensures.into_iter_gives ∙ c.split_inclusive-line-items.ensures.text in
    let all = sym (append-nil done.0) ∙ ap (λ l. done.0 ++ l) (sym none) ∙ done.2 ∙ split ∙ c.as_str.ensures.value ∙ text in
    subst (Appends _ _) all done.1)
