-- A run of minutes, one minute after the other: the record stays good, and the kept words in the order of their minutes are the last of the
-- run.
use Rattle.std.proofs.Common.{◌≡◌, refl, sym, ap, ◌∙◌, subst, Bool, cond, List, [], ◌∷◌, ◌++◌, append-nil, append_assoc, ⊎_elim, ℕ, suc}
use Rattle.std.proofs.Common.{◌+◌, ◌-◌, ◌%◌, ◌≤◌, ◌<◌, min, mod-lt, mod-eq_of_lt, zero-add, add-one, arith, length, take, drop, get_or}
use Rattle.std.proofs.Common.{set, replicate, length-set, length-append, length-take, length-drop, drop_of_length-le, take-append-drop}
use Rattle.std.proofs.Common.{take-suc-set, drop-set-lt, drop-cons, drop-drop, take-take, length-take-le}
use Rattle.std.proofs.Math.ListN.{length-replicate}
use Rattle.std.proofs.Math.Nat.{zero-mod, mod_self, mod-add-mod}
use Rattle.std.proofs.Math.Seq.{take-set-lt, drop-append-le, drop-nil}
use Rattle.std.proofs.lemmas.Bool.{cases_lt}
use Rattle.words.specs.Flags.{count}
use Rattle.words.specs.Columns.{column, columns_from, column_counts}
use Rattle.words.proofs.columns.ColumnLaws.{column-append, columns-alike}
use Rattle.words.proofs.counts.Counting.{count-append}
use Rattle.activity.proofs.statements.Minutes.{placed, left_by, last_of, pushes}
use Rattle.activity.specs.Window.{Answer, zeros, holding, no_minute, minute_on, accepted, refused, push_of}
use Rattle.activity.specs.Workers.{Good}
use Rattle.activity.specs.declared.window.ActivityWindow.{ActivityWindow}
use Rattle.activity.proofs.checks.CheckLaws.{zeros-zero, good-passes}
use Rattle.activity.proofs.window.WindowLaws.{same_parts, still-zero}

-- ---- the kept words in the order of their minutes

-- the kept words in order: the oldest is at the place where the next goes, if all places are taken
abbrev pub in_order : List ℕ → ℕ → ℕ → List ℕ
in_order words place fill = drop place (take fill words) ++ take place words

-- the next place, without a remainder
next-inside : (p w : ℕ) → p + 1 < w → (p + 1) % w ≡ p + 1
next-inside p w h = mod-eq_of_lt h

next-round : (p w : ℕ) → p + 1 ≡ w → (p + 1) % w ≡ 0
next-round p w h = ap (λ (n : ℕ). n % w) h ∙ mod_self w

module _ (words : List ℕ) (p f w m : ℕ) (inside : p < w) (long : w ≤ length words) where
  front : take (p + 1) (set words p m) ≡ take p words ++ (m ∷ [])
  front = ap (λ (n : ℕ). take n (set words p m)) (add-one p) ∙ take-suc-set words p m (omega arith)

  length_front : length (take p words) ≡ p
  length_front = length-take-le p words (omega arith)

  -- the order if the next place is p + 1, and if it is 0
  order-next : (n : ℕ) → (p + 1) % w ≡ p + 1
      → in_order (set words p m) ((p + 1) % w) n ≡ drop (p + 1) (take n (set words p m)) ++ (take p words ++ (m ∷ []))
  order-next n e =
      ap (λ (q : ℕ). in_order (set words p m) q n) e ∙ ap (λ (l : List ℕ). drop (p + 1) (take n (set words p m)) ++ l) front

  order-round : p + 1 ≡ w → in_order (set words p m) ((p + 1) % w) w ≡ take p words ++ (m ∷ [])
  order-round e =
      ap (λ (q : ℕ). in_order (set words p m) q w) (next-round p w e) ∙ append-nil (take w (set words p m))
      ∙ ap (λ (n : ℕ). take n (set words p m)) (sym e) ∙ front

  -- fewer words than places
  fill-order : p + 1 ≤ w → in_order (set words p m) ((p + 1) % w) (p + 1) ≡ take p words ++ (m ∷ [])
  fill-order h = ⊎_elim
      (λ (l : p + 1 < w).
      order-next (p + 1) (next-inside p w l)
      ∙ ap (λ (t : List ℕ). t ++ (take p words ++ (m ∷ [])))
      (drop_of_length-le (take (p + 1) (set words p m)) {i = p + 1} (omega (arith, length-take (p + 1) (set words p m)))))
      (λ (l : w ≤ p + 1).
      let e : p + 1 ≡ w = omega arith in ap (λ (n : ℕ). in_order (set words p m) ((p + 1) % w) n) e ∙ order-round e)
      (cases_lt (p + 1) w)

  -- as many words as places: the oldest goes
  full-order : in_order (set words p m) ((p + 1) % w) w ≡ drop (suc p) (take w words) ++ (take p words ++ (m ∷ []))
  full-order = ⊎_elim
      (λ (l : p + 1 < w).
      order-next w (next-inside p w l)
      ∙ ap (λ (t : List ℕ). t ++ (take p words ++ (m ∷ [])))
      (ap (drop (p + 1)) (take-set-lt w words p m inside) ∙ drop-set-lt (p + 1) (take w words) p m (omega arith)
      ∙ ap (λ (n : ℕ). drop n (take w words)) (add-one p)))
      (λ (l : w ≤ p + 1).
      let e : p + 1 ≡ w = omega arith in
      order-round e
      ∙ ap (λ (t : List ℕ). t ++ (take p words ++ (m ∷ [])))
      (sym (drop_of_length-le (take w words) {i = suc p} (omega (arith, length-take w words)))))
      (cases_lt (p + 1) w)

  last-fill : p + 1 ≤ w → last_of w (take p words ++ (m ∷ [])) ≡ take p words ++ (m ∷ [])
  last-fill h =
      let e : length (take p words ++ (m ∷ [])) - w ≡ 0 = omega (arith, length-append (take p words) (m ∷ []), length_front) in
      ap (λ (n : ℕ). drop n (take p words ++ (m ∷ []))) e

  last-full : last_of w (in_order words p w ++ (m ∷ [])) ≡ drop (suc p) (take w words) ++ (take p words ++ (m ∷ []))
  last-full =
      let i : p < length (take w words) = omega (arith, length-take w words) in
      let s : in_order words p w ++ (m ∷ []) ≡ get_or (take w words) p 0 ∷ (drop (suc p) (take w words) ++ (take p words ++ (m ∷ []))) =
      append_assoc (drop p (take w words)) (take p words) (m ∷ [])
      ∙ ap (λ (t : List ℕ). t ++ (take p words ++ (m ∷ []))) (drop-cons (take w words) p 0 i) in
      let n : length (in_order words p w ++ (m ∷ [])) - w ≡ 1 =
      omega (
        arith,
        length-append (in_order words p w) (m ∷ []),
        length-append (drop p (take w words)) (take p words),
        length_front,
        length-drop p (take w words),
        length-take w words,
      ) in
      ap (λ (k : ℕ). drop k (in_order words p w ++ (m ∷ []))) n ∙ ap (drop 1) s

  pub order-step : f ≤ w → (f < w → p ≡ f)
      → in_order (set words p m) ((p + 1) % w) (min (f + 1) w) ≡ last_of w (in_order words p f ++ (m ∷ []))
  order-step h b = ⊎_elim
      (λ (l : f < w).
      let e : f ≡ p = sym (b l) in
      let k : min (f + 1) w ≡ p + 1 = omega arith in
      let z : drop p (take p words) ≡ [] = drop_of_length-le (take p words) {i = p} (omega (arith, length_front)) in
      let o : in_order words p f ≡ take p words = ap (in_order words p) e ∙ ap (λ (t : List ℕ). t ++ take p words) z in
      ap (λ (n : ℕ). in_order (set words p m) ((p + 1) % w) n) k ∙ fill-order (omega arith) ∙ sym (last-fill (omega arith))
      ∙ ap (λ (t : List ℕ). last_of w (t ++ (m ∷ []))) (sym o))
      (λ (l : w ≤ f).
      let e : f ≡ w = omega arith in
      let k : min (f + 1) w ≡ w = omega arith in
      ap (λ (n : ℕ). in_order (set words p m) ((p + 1) % w) n) k ∙ full-order ∙ sym last-full
      ∙ ap (λ (n : ℕ). last_of w (in_order words p n ++ (m ∷ []))) (sym e))
      (cases_lt f w)

-- the last words of a run and one more minute are those of its last words and this minute
pub last-last : (w : ℕ) (done : List ℕ) (m : ℕ) → last_of w (last_of w done ++ (m ∷ [])) ≡ last_of w (done ++ (m ∷ []))
last-last w done m =
    let l : length (last_of w done) ≡ length done - (length done - w) = length-drop (length done - w) done in
    let s : last_of w done ++ (m ∷ []) ≡ drop (length done - w) (done ++ (m ∷ [])) =
    sym (drop-append-le (length done - w) done (m ∷ []) (omega arith)) in
    let n : (length done - w) + (length (last_of w done ++ (m ∷ [])) - w) ≡ length (done ++ (m ∷ [])) - w =
    omega (arith, length-append (last_of w done) (m ∷ []), length-append done (m ∷ [])) in
    ap (drop (length (last_of w done ++ (m ∷ [])) - w)) s
    ∙ drop-drop (length (last_of w done ++ (m ∷ [])) - w) (length done - w) (done ++ (m ∷ []))
    ∙ ap (λ (k : ℕ). drop k (done ++ (m ∷ []))) n

-- kept words have the counts of the same words in order
pub order-counts : (words : List ℕ) (p f : ℕ) → p ≤ f → column_counts (take f words) ≡ column_counts (in_order words p f)
order-counts words p f h =
    ap column_counts (sym (take-append-drop p (take f words)) ∙ ap (λ (l : List ℕ). l ++ drop p (take f words)) (take-take p f words h))
    ∙ columns-alike (take p words ++ drop p (take f words)) (in_order words p f) (λ c q.
    let x : count (column (take p words ++ drop p (take f words)) c)
    ≡ count (column (take p words) c) + count (column (drop p (take f words)) c) =
    ap count (column-append (take p words) (drop p (take f words)) c)
    ∙ count-append (column (take p words) c) (column (drop p (take f words)) c) in
    let y : count (column (in_order words p f) c) ≡ count (column (drop p (take f words)) c) + count (column (take p words) c) =
    ap count (column-append (drop p (take f words)) (take p words) c)
    ∙ count-append (column (drop p (take f words)) c) (column (take p words) c) in
    omega arith)

-- ---- one more minute of a run

pub length-placed : (w k : ℕ) (minutes words : List ℕ) → length (placed w k minutes words) ≡ length words
unfolding placed
length-placed w k [] words = refl
length-placed w k (m ∷ minutes) words = length-placed w (suc k) minutes (set words (k % w) m) ∙ length-set words (k % w) m

pub placed-append : (w k : ℕ) (a b words : List ℕ) → placed w k (a ++ b) words ≡ placed w (k + length a) b (placed w k a words)
unfolding placed
placed-append w k [] b words = let e : k ≡ k + 0 = omega arith in ap (λ (n : ℕ). placed w n b words) e
placed-append w k (m ∷ a) b words =
    let e : suc k + length a ≡ k + suc (length a) = omega arith in
    placed-append w (suc k) a b (set words (k % w) m)
    ∙ ap (λ (n : ℕ). placed w n b (placed w (suc k) a (set words (k % w) m))) e

pub left-words : (w : ℕ) (minutes : List ℕ) → length (left_by w minutes).words ≡ 256
unfolding left_by zeros
left-words w minutes = length-placed w 0 minutes (replicate 256 0) ∙ length-replicate {A = ℕ} 256 0

pub same-holding : (words words' : List ℕ) (p p' f f' w : ℕ) → words ≡ words' → p ≡ p' → f ≡ f'
    → holding words p f w ≡ holding words' p' f' w
same-holding words words' p p' f f' w d e g =
    ap (λ (l : List ℕ). holding l p f w) d ∙ ap (λ (n : ℕ). holding words' n f w) e ∙ ap (λ (n : ℕ). holding words' p' n w) g

pub left-more : (w : ℕ) (done : List ℕ) (m : ℕ) → left_by w (done ++ (m ∷ [])) ≡ minute_on (left_by w done) m
unfolding left_by minute_on placed
left-more w done m =
    let n : length (done ++ (m ∷ [])) ≡ length done + 1 = length-append done (m ∷ []) in
    same-holding (placed w 0 (done ++ (m ∷ [])) (zeros 256)) (set (placed w 0 done (zeros 256)) (length done % w) m)
    (length (done ++ (m ∷ [])) % w) ((length done % w + 1) % w) (min (length (done ++ (m ∷ []))) w) (min (min (length done) w + 1) w) w
    (placed-append w 0 done (m ∷ []) (zeros 256)
    ∙ ap (λ (k : ℕ). set (placed w 0 done (zeros 256)) (k % w) m) (zero-add (length done)))
    (ap (λ (k : ℕ). k % w) n ∙ sym (mod-add-mod (length done) w 1))
    (omega arith)

no_counts : zeros 64 ≡ column_counts []
unfolding zeros column_counts columns_from column count
no_counts = refl

pub left-none : (w : ℕ) → left_by w [] ≡ no_minute w
unfolding left_by placed no_minute
left-none w =
    let z : min 0 w ≡ 0 = omega arith in
    same_parts (zeros 256) (column_counts (take (min 0 w) (zeros 256))) (zeros 64) (0 % w) 0 (min 0 w) 0 w
    (ap (λ (n : ℕ). column_counts (take n (zeros 256))) z ∙ sym no_counts) (zero-mod w) z

-- ---- what holds for a record that a run leaves

pub record After (w : ℕ) (done : List ℕ) : Type 0 where
  pub good : Good (left_by w done)
  pub order : in_order (left_by w done).words (left_by w done).place (left_by w done).fill ≡ last_of w done

pub good_none : (w : ℕ) → 1 ≤ w → w ≤ 256 → Good (no_minute w)
unfolding zeros no_minute
good_none w s b =
    record {
      some = s;
      most = b;
      inside = omega arith;
      within = omega arith;
      after = λ h. refl;
      unused = zeros-zero 256;
      counted = no_counts;
    }

pub good_more : (a : ActivityWindow) (m : ℕ) → Good a → length a.words ≡ 256 → Good (minute_on a m)
unfolding minute_on
good_more a m g long =
    record {
      some = g.some;
      most = g.most;
      inside = mod-lt (a.place + 1) g.some;
      within = omega arith;
      after = λ (h : min (a.fill + 1) a.width < a.width).
          let l : a.fill < a.width = omega arith in
          let e : a.place ≡ a.fill = g.after l in
          let k : a.place + 1 < a.width = omega arith in
          let s : a.place + 1 ≡ min (a.fill + 1) a.width = omega arith in
          next-inside a.place a.width k ∙ s;
      unused = still-zero a g long m;
      counted = refl;
    }

pub after_none : (w : ℕ) → 1 ≤ w → w ≤ 256 → After w []
unfolding no_minute
after_none w s b =
    record {
      good = subst (λ (a : ActivityWindow). Good a) (sym (left-none w)) (good_none w s b);
      order = ap (λ (a : ActivityWindow). in_order a.words a.place a.fill) (left-none w) ∙ sym (drop-nil (0 - w));
    }

module _ (w : ℕ) (s : 1 ≤ w) (b : w ≤ 256) where
  after_more : (done : List ℕ) (m : ℕ) → After w done → After w (done ++ (m ∷ []))
  unfolding left_by minute_on
  after_more done m at =
      let g : Good (left_by w done) = at.good in
      let long : length (left_by w done).words ≡ 256 = left-words w done in
      record {
        good = subst (λ (a : ActivityWindow). Good a) (sym (left-more w done m)) (good_more (left_by w done) m g long);
        order =
            ap (λ (a : ActivityWindow). in_order a.words a.place a.fill) (left-more w done m)
            ∙ order-step (left_by w done).words (left_by w done).place (left_by w done).fill w m g.inside (omega arith) g.within
            g.after
            ∙ ap (λ (l : List ℕ). last_of w (l ++ (m ∷ []))) at.order ∙ last-last w done m;
      }

  pub after-all : (done minutes : List ℕ) → After w done → After w (done ++ minutes)
  after-all done [] at = subst (λ (l : List ℕ). After w l) (sym (append-nil done)) at
  after-all done (m ∷ minutes) at =
      subst (λ (l : List ℕ). After w l) (append_assoc done (m ∷ []) minutes) (after-all (done ++ (m ∷ [])) minutes (after_more done m at))

  pub after_run : (minutes : List ℕ) → After w minutes
  after_run minutes = after-all [] minutes (after_none w s b)

  -- each minute is accepted
  pub push-more : (done : List ℕ) (m : ℕ) → push_of (left_by w done) m ≡ accepted (left_by w (done ++ (m ∷ [])))
  unfolding push_of
  push-more done m =
      ap (λ (t : Bool). cond t (accepted (minute_on (left_by w done) m)) (refused (left_by w done)))
      (good-passes (left_by w done) (after_run done).good)
      ∙ ap accepted (sym (left-more w done m))

  pub pushes-from : (done minutes : List ℕ) → pushes (accepted (left_by w done)) minutes ≡ accepted (left_by w (done ++ minutes))
  unfolding pushes
  pushes-from done [] = ap (λ (l : List ℕ). accepted (left_by w l)) (sym (append-nil done))
  pushes-from done (m ∷ minutes) =
      ap (λ (a : Answer ActivityWindow). pushes a minutes) (push-more done m) ∙ pushes-from (done ++ (m ∷ [])) minutes
      ∙ ap (λ (l : List ℕ). accepted (left_by w l)) (append_assoc done (m ∷ []) minutes)
