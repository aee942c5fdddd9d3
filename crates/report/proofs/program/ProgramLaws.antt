-- What a run prints: the text of the report on all bytes of its input, also if it read only one more than a report takes.
use Rattle.std.proofs.Common.{◌≡◌, sym, ap, ◌∙◌, arith, subst, ℕ, ◌<◌, ◌≤◌, List, [], ◌++◌, ⊎_elim}
use Rattle.std.proofs.Common.{length, take, length-append, append-nil}
use Rattle.std.proofs.lemmas.Bool.{cases_lt}
use Rattle.std.specs.Prelude.{Option, Some, None, Result, Ok, Err, IfOk, IfSome, OnOk}
use Rattle.std.specs.Result.{result_or}
use Rattle.std.specs.Io.{ReadsAtMost}
use Rattle.std.specs.Io.KnownBytes.{Appends, Consumes, IsAtEnd}
use Rattle.report.specs.Numbers.{report_of}
use Rattle.report.specs.Program.{Outcome, text_of}
use Rattle.report.specs.declared.numbers.Numbers.{Numbers}
use Rattle.report.specs.declared.program.Failure.{Failure}
use Rattle.report.specs.declared.program.Failure.TheVariants.{Input, Output}
use Rattle.report.proofs.numbers.NumberLaws.{too_long}

-- bytes that are all of the input, or more than a report takes, have its report
same-report : (bytes rest : List ℕ) → (length bytes < 65537 → rest ≡ []) → report_of bytes ≡ report_of (bytes ++ rest)
same-report bytes rest end = ⊎_elim
    (λ (h : length bytes < 65537). ap report_of (sym (ap (λ (l : List ℕ). bytes ++ l) (end h) ∙ append-nil bytes)))
    (λ (h : 65537 ≤ length bytes).
    sym (too_long bytes (omega arith)) ∙ too_long (bytes ++ rest) (omega (arith, length-append bytes rest)))
    (cases_lt (length bytes) 65537)

pub report-whole : (input rest : Option (List ℕ)) (bytes : List ℕ) → Consumes input rest bytes → (length bytes < 65537 → IsAtEnd rest)
    → IfSome input (λ (all : List ℕ). report_of bytes ≡ report_of all)
report-whole None rest bytes p end = tt
report-whole (Some all) None bytes p end = absurd p
report-whole (Some all) (Some left) bytes p end = same-report bytes left end ∙ ap report_of (sym p)

text-whole : (input old new : Option (List ℕ)) (report : Option Numbers) → IfSome input (λ (all : List ℕ). report ≡ report_of all)
    → Appends old new (text_of report) → IfSome input (λ (all : List ℕ). Appends old new (text_of (report_of all)))
text-whole None old new report p q = tt
text-whole (Some all) old new report p q = subst (λ (r : Option Numbers). Appends old new (text_of r)) p q

-- a call whose error is replaced gave what is passed on
passed-on : {A E : Type 0} (r : Result A E) (f : Failure) (x : A) → result_or r (Err f) ≡ Ok x → r ≡ Ok x
passed-on (Ok y) f x e = ap Ok (let z : y ≡ x = cc in z)
passed-on (Err y) f x e = absurd (let z : ◌≡◌ {A = ℕ} 0 1 = cc in omega arith)

module _ (input rest old new : Option (List ℕ)) (buf : List ℕ) (long : length buf ≡ 65537) where
  text-printed : (n : ℕ) (report : Option Numbers) → Consumes input rest (take n buf) → (n < length buf → IsAtEnd rest)
      → n ≡ length (take n buf) → report ≡ report_of (take n buf) → Appends old new (text_of report) → Outcome input old new (Ok tt)
  text-printed n report p end h r w =
      let whole = report-whole input rest (take n buf) p (λ few. end (omega (arith, h, long))) in
      text-whole input old new report
      (subst (λ (s : Option Numbers). IfSome input (λ (all : List ℕ). s ≡ report_of all)) (sym r) whole) w

  pub printed : {E : Type 0} (read : Result ℕ E) (written : Result (Unit {0}) E) (out : Result (Unit {0}) Failure) (n : ℕ)
      (report : Option Numbers)
      → result_or read (Err Input) ≡ Ok n → ReadsAtMost read buf
      → IfOk read (λ (k : ℕ). Consumes input rest (take k buf)) → IfOk read (λ (k : ℕ). k < length buf → IsAtEnd rest)
      → report ≡ report_of (take n buf) → OnOk written (Appends old new (text_of report)) → out ≡ result_or written (Err Output)
      → Outcome input old new out
  printed {E} read (Err e) out n report got bound bytes end r w o = subst (Outcome input old new) (sym o) tt
  printed {E} read (Ok u) out n report got bound bytes end r w o =
      let done : read ≡ Ok n = passed-on read Input n got in
      let h = subst (λ (x : Result ℕ E). ReadsAtMost x buf) done bound in
      let p = subst (λ (x : Result ℕ E). IfOk x (λ (k : ℕ). Consumes input rest (take k buf))) done bytes in
      let q = subst (λ (x : Result ℕ E). IfOk x (λ (k : ℕ). k < length buf → IsAtEnd rest)) done end in
      subst (Outcome input old new) (sym o) (text-printed n report p q h.1 r w)
