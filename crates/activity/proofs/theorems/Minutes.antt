-- The theorems on runs of minutes (`Statements` of proofs/statements/Minutes.antt).
use Rattle.std.proofs.Common.{◌≡◌, refl, sym, ap, ap₂, ◌∙◌, Bool, true, cond, List, [], ◌∷◌, ◌++◌, ⊎_elim, ℕ, zero, suc, ◌+◌, ◌-◌, ◌%◌}
use Rattle.std.proofs.Common.{◌≤◌, ◌<◌, min, mod-eq_of_lt, zero-add, arith, length, take, drop, set, replicate, length-append}
use Rattle.std.proofs.Common.{length-drop, take-append-drop, length-take-le}
use Rattle.std.proofs.Math.ListN.{length-replicate}
use Rattle.std.proofs.Math.Nat.{add-mod_left}
use Rattle.std.proofs.Math.Seq.{sets, sets-eq}
use Rattle.std.proofs.lemmas.List.{drop-replicate}
use Rattle.std.proofs.lemmas.Bool.{cases_lt}
use Rattle.words.specs.Columns.{column_counts}
use Rattle.activity.specs.Checks.{width_fits, left_by_minutes}
use Rattle.activity.proofs.statements.Minutes.{placed, left_by, last_of, pushes, Words, Run, Statements}
use Rattle.activity.specs.Window.{Answer, zeros, no_minute, accepted, refused, uncounted, new_of, counts_of}
use Rattle.activity.specs.Workers.{Good}
use Rattle.activity.specs.declared.window.ActivityWindow.{ActivityWindow}
use Rattle.activity.proofs.checks.CheckLaws.{width_of, good_of, good-passes, zero-words}
use Rattle.activity.proofs.window.WindowLaws.{made}
use Rattle.activity.proofs.theorems.MinuteLaws.{After, after_run, left-none, pushes-from, placed-append, order-counts, same-holding}

-- ---- starting with a new record

new-accepted : (w : ℕ) → width_fits w ≡ true → new_of w ≡ accepted (left_by w [])
unfolding new_of
new-accepted w h =
    ap (λ (t : Bool). cond t (accepted (no_minute w)) (refused (no_minute 0))) h ∙ ap accepted (sym (left-none w))

every-run : (w : ℕ) (minutes : List ℕ) → width_fits w ≡ true → pushes (new_of w) minutes ≡ accepted (left_by w minutes)
every-run w minutes h =
    let b : (1 ≤ w) × (w ≤ 256) = width_of w h in
    ap (λ (a : Answer ActivityWindow). pushes a minutes) (new-accepted w h) ∙ pushes-from w b.0 b.1 [] minutes

run-passes : (w : ℕ) (minutes : List ℕ) → width_fits w ≡ true → left_by_minutes (left_by w minutes) ≡ true
run-passes w minutes h =
    let b : (1 ≤ w) × (w ≤ 256) = width_of w h in good-passes (left_by w minutes) (after_run w b.0 b.1 minutes).good

place-le : (a : ActivityWindow) → Good a → a.place ≤ a.fill
place-le a g = ⊎_elim
    (λ (l : a.fill < a.width). let e : a.place ≡ a.fill = g.after l in omega arith)
    (λ (l : a.width ≤ a.fill). omega (arith, g.inside))
    (cases_lt a.fill a.width)

left-counts : (w : ℕ) (minutes : List ℕ) → After w minutes → (left_by w minutes).counts ≡ column_counts (last_of w minutes)
left-counts w minutes at =
    at.good.counted
    ∙ order-counts (left_by w minutes).words (left_by w minutes).place (left_by w minutes).fill (place-le (left_by w minutes) at.good)
    ∙ ap column_counts at.order

fresh-counts : (w : ℕ) (minutes : List ℕ) → width_fits w ≡ true
    → counts_of (pushes (new_of w) minutes).value ≡ accepted (column_counts (last_of w minutes))
unfolding counts_of
fresh-counts w minutes h =
    let b : (1 ≤ w) × (w ≤ 256) = width_of w h in
    ap (λ (a : Answer ActivityWindow). counts_of a.value) (every-run w minutes h)
    ∙ ap (λ (t : Bool). cond t (accepted (left_by w minutes).counts) uncounted) (run-passes w minutes h)
    ∙ ap accepted (left-counts w minutes (after_run w b.0 b.1 minutes))

-- ---- a run that leaves a record: its words in their places, and if all places are taken, those before the place once more

words_take : (n : ℕ) (l : List ℕ) → Words l → Words (take n l)
words_take zero [] h = tt
words_take zero (w ∷ l) h = tt
words_take (suc n) [] h = tt
words_take (suc n) (w ∷ l) h = (h.0, words_take n l h.1)

words_append : (a b : List ℕ) → Words a → Words b → Words (a ++ b)
words_append [] b p q = q
words_append (w ∷ a) b p q = (p.0, words_append a b p.1 q)

-- minutes that do not go round are stores starting at place k; q is where a round begins
placed-sets : (w q : ℕ) → ((j : ℕ) → j < w → (q + j) % w ≡ j) → (k : ℕ) (minutes words : List ℕ) → k + length minutes ≤ w
    → placed w (q + k) minutes words ≡ sets words k minutes
unfolding placed
placed-sets w q r k [] words h = refl
placed-sets w q r k (m ∷ minutes) words h =
    let e : suc (q + k) ≡ q + suc k = omega arith in
    ap (λ (n : ℕ). placed w (suc (q + k)) minutes (set words n m)) (r k (omega arith))
    ∙ ap (λ (n : ℕ). placed w n minutes (set words k m)) e
    ∙ placed-sets w q r (suc k) minutes (set words k m) (omega arith)

-- one such round, starting at place 0
one-round : (w q : ℕ) → ((j : ℕ) → j < w → (q + j) % w ≡ j) → (minutes words : List ℕ) → length minutes ≤ w → w ≤ length words
    → placed w q minutes words ≡ minutes ++ drop (length minutes) words
one-round w q r minutes words h l =
    let e : q ≡ q + 0 = omega arith in
    let z : 0 + length minutes ≡ length minutes = omega arith in
    ap (λ (n : ℕ). placed w n minutes words) e ∙ placed-sets w q r 0 minutes words (omega arith)
    ∙ sets-eq minutes words 0 (omega arith) ∙ ap (λ (n : ℕ). minutes ++ drop n words) z

first_round : (w j : ℕ) → j < w → (0 + j) % w ≡ j
first_round w j h = ap (λ (n : ℕ). n % w) (zero-add j) ∙ mod-eq_of_lt h

second-round : (w j : ℕ) → j < w → (w + j) % w ≡ j
second-round w j h = add-mod_left w j ∙ mod-eq_of_lt h

module _ (a : ActivityWindow) (long : length a.words ≡ 256) (fit : Words a.words) (g : Good a) where
  length-kept : length (take a.fill a.words) ≡ a.fill
  length-kept = length-take-le a.fill a.words (omega (arith, g.within, g.most))

  -- the kept words in their places
  kept-placed : placed a.width 0 (take a.fill a.words) (zeros 256) ≡ a.words
  unfolding zeros
  kept-placed =
      let n : 256 - length (take a.fill a.words) ≡ length (drop a.fill a.words) =
      omega (arith, length-kept, length-drop a.fill a.words) in
      one-round a.width 0 (first_round a.width) (take a.fill a.words) (replicate 256 0)
      (omega (arith, length-kept, g.within))
      (omega (arith, length-replicate {A = ℕ} 256 0, g.most))
      ∙ ap (λ (l : List ℕ). take a.fill a.words ++ l)
      (drop-replicate (length (take a.fill a.words)) 256 0 ∙ ap (λ (x : ℕ). replicate x 0) n
      ∙ sym (zero-words (drop a.fill a.words) g.unused))
      ∙ take-append-drop a.fill a.words

  as-it-is : (minutes : List ℕ) → placed a.width 0 minutes (zeros 256) ≡ a.words → length minutes % a.width ≡ a.place
      → min (length minutes) a.width ≡ a.fill → left_by a.width minutes ≡ a
  unfolding left_by
  as-it-is minutes e p f =
      same-holding (placed a.width 0 minutes (zeros 256)) a.words (length minutes % a.width) a.place
      (min (length minutes) a.width) a.fill
      a.width e p f
      ∙ ap (λ (l : List ℕ). made a.words l a.place a.fill a.width) (sym g.counted)

  few : a.fill < a.width → Run a
  few h =
      let e : a.place ≡ a.fill = g.after h in
      record {
        minutes = take a.fill a.words;
        fit = words_take a.fill a.words fit;
        leaves = as-it-is (take a.fill a.words) kept-placed
            (ap (λ (n : ℕ). n % a.width) length-kept ∙ mod-eq_of_lt h ∙ sym e) (omega (arith, length-kept));
      }

  full : a.width ≤ a.fill → Run a
  full h =
      let e : a.fill ≡ a.width = omega (arith, g.within) in
      let p : length (take a.place a.words) ≡ a.place = length-take-le a.place a.words (omega (arith, g.inside, g.most)) in
      let n : length (take a.fill a.words ++ take a.place a.words) ≡ a.width + a.place =
      omega (arith, length-append (take a.fill a.words) (take a.place a.words), length-kept) in
      let z : 0 + length (take a.fill a.words) ≡ a.width = omega (arith, length-kept) in
      record {
        minutes = take a.fill a.words ++ take a.place a.words;
        fit =
            words_append (take a.fill a.words) (take a.place a.words) (words_take a.fill a.words fit)
            (words_take a.place a.words fit);
        leaves = as-it-is (take a.fill a.words ++ take a.place a.words)
            (placed-append a.width 0 (take a.fill a.words) (take a.place a.words) (zeros 256)
            ∙ ap₂ (λ (k : ℕ) (l : List ℕ). placed a.width k (take a.place a.words) l) z kept-placed
            ∙ one-round a.width a.width (second-round a.width) (take a.place a.words) a.words (omega (arith, g.inside))
            (omega (arith, g.most))
            ∙ ap (λ (k : ℕ). take a.place a.words ++ drop k a.words) p ∙ take-append-drop a.place a.words)
            (ap (λ (k : ℕ). k % a.width) n ∙ second-round a.width a.place g.inside)
            (omega arith);
      }

  a-run : Run a
  a-run = ⊎_elim (λ (h : a.fill < a.width). few h) (λ (h : a.width ≤ a.fill). full h) (cases_lt a.fill a.width)

pub statements : Statements
statements =
    record {
      every-run = every-run;
      fresh-counts = fresh-counts;
      run-passes = run-passes;
      passes-run = λ a long fit h. a-run a long fit (good_of a h);
    }
