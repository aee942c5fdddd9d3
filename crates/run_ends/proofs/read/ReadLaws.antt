-- Reading run ends, run by run: what holds before run k, of which the runs before it end at position `at`.
use Rattle.std.proofs.Common.{◌≡◌, refl, subst, sym, ap, ap₂, ◌∙◌, ℕ, suc, ◌+◌, ◌<◌, ◌≤◌, ℤ, pos, Bool, true, false}
use Rattle.std.proofs.Common.{List, [], ◌∷◌, length, drop, get_or, min, arith}
use Rattle.std.proofs.Math.Seq.{drop-cons}
use Rattle.std.proofs.Math.ListN.{drop_of_length-le}
use Rattle.std.proofs.lemmas.Bool.{and_parts}
use borrow.Author.Tests.{leb-true, le-ltb, lt-ltb, ltb-true}
use Rattle.words.proofs.loops.Writing.{write-none}
use Rattle.run_ends.specs.Read.{flag_at, flags_read}
use Rattle.run_ends.specs.Rules.{end_of, ends_hold, ends_of, rising_to}
use Rattle.run_ends.specs.Workers.{WordsWritten}
use Rattle.run_ends.proofs.rules.EndLaws.{one_end, rising-least}
use Rattle.run_ends.proofs.read.FlagLaws.{at-read, flag-first, flag-later}

pub record Reading (ends : List ℤ) (values : List Bool) (n : ℕ) (old now : List Bool) (word k at : ℕ) : Type 0 where
  pub written : WordsWritten old now (flags_read ends values n) word at
  pub inside : at ≤ n
  pub rest : (p : ℕ) → at ≤ p → p < n → flag_at ends values p ≡ flag_at (drop k ends) (drop k values) p
  pub rises : rising_to n at (ends_of (drop k ends)) ≡ true

-- before the first run
pub none-read : (ends : List ℤ) (values : List Bool) (n : ℕ) (old : List Bool) → ends_hold n ends ≡ true
    → Reading ends values n old old 0 0 0
unfolding ends_hold
none-read ends values n old h =
    record {
      written = record { whole = write-none old (flags_read ends values n); begun = λ j p. absurd (omega arith) };
      inside = omega arith;
      rest = λ p q r. refl;
      rises = h;
    }

module _ (ends : List ℤ) (values : List Bool) (n : ℕ) (old now : List Bool) (word k at : ℕ) (inv : Reading ends values n old now word k at)
    (inside : k < length ends) (paired : length values ≡ length ends) where
  abbrev e : ℤ
  e = get_or ends k (pos 0)

  abbrev v : Bool
  v = get_or values k false

  parts : (at < end_of e) × (rising_to n (end_of e) (ends_of (drop (k + 1) ends)) ≡ true)
  parts =
      let u = and_parts _ _ (sym (one_end n at k ends (pos 0) inside) ∙ inv.rises) in
      (ltb-true _ _ u.0, u.1)

  -- the next end is above this one, and not above n
  pub rising : (at ≤ min (end_of e) n) × (min (end_of e) n ≤ n)
  rising = let up = parts.0 in let b = inv.inside in (omega arith, omega arith)

  split : (p : ℕ) → flag_at (drop k ends) (drop k values) p ≡ flag_at (e ∷ drop (k + 1) ends) (v ∷ drop (k + 1) values) p
  split p =
      let s : suc k ≡ k + 1 = omega arith in
      ap₂ (λ (x : List ℤ) (y : List Bool). flag_at x y p)
      (drop-cons ends k (pos 0) inside ∙ ap (λ (j : ℕ). e ∷ drop j ends) s)
      (drop-cons values k false (omega arith) ∙ ap (λ (j : ℕ). v ∷ drop j values) s)

  -- the flags of the run
  pub of-run : (p : ℕ) → at ≤ p → p < min (end_of e) n → get_or (flags_read ends values n) p false ≡ v
  of-run p a b =
      at-read ends values n p (omega arith) ∙ inv.rest p a (omega arith) ∙ split p
      ∙ flag-first e (drop (k + 1) ends) v (drop (k + 1) values) p (lt-ltb p (end_of e) (omega arith))

  pub one-run : (now' : List Bool) (word' at' : ℕ) → at' ≡ min (end_of e) n → WordsWritten old now' (flags_read ends values n) word' at'
      → Reading ends values n old now' word' (k + 1) at'
  one-run now' word' at' is w =
      let up = parts.0 in
      record {
        written = w;
        inside = omega (arith, is);
        rest = λ p a b.
            inv.rest p (omega (arith, is, up)) b ∙ split p
            ∙ flag-later e (drop (k + 1) ends) v (drop (k + 1) values) p (le-ltb p (end_of e) (omega (arith, is)));
        rises =
            ap (λ (x : ℕ). rising_to n x (ends_of (drop (k + 1) ends))) is
            ∙ rising-least n (end_of e) (ends_of (drop (k + 1) ends)) parts.1;
      }

-- all runs are read
pub all-read : (ends : List ℤ) (values : List Bool) (n : ℕ) (old now : List Bool) (word k at : ℕ)
    → Reading ends values n old now word k at → length ends ≤ k → WordsWritten old now (flags_read ends values n) word n
unfolding rising_to
all-read ends values n old now word k at inv done =
    let none : drop k ends ≡ [] = drop_of_length-le ends done in
    let t : rising_to n at [] ≡ true = ap (λ (l : List ℤ). rising_to n at (ends_of l)) (sym none) ∙ inv.rises in
    let last : at ≡ n = omega (arith, leb-true n at t, inv.inside) in
    subst (λ (x : ℕ). WordsWritten old now (flags_read ends values n) word x) last inv.written
