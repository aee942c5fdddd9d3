-- One more minute: the words after the kept ones stay zero, and the counts that are exchanged are those of the new words.
use Rattle.std.proofs.Common.{◌≡◌, sym, ap, ◌∙◌, true, List, ◌++◌, ⊎_elim, ℕ, ◌+◌, ◌%◌, ◌≤◌, ◌<◌, min, arith, length, take, drop, get_or}
use Rattle.std.proofs.Common.{set, take-append-drop, drop-set-lt, get_or-set_same, get_or-set_other}
use Rattle.std.proofs.Common.{zero-add, ap₂, ◌-◌, [], append-nil, length-append, length-take, length-drop, drop_of_length-le}
use Rattle.std.proofs.Math.ListN.{get_or-append}
use Rattle.std.proofs.Math.Seq.{take-append_seam, drop-append_seam, get_or-append_right}
use Rattle.std.proofs.lemmas.List.{get_or-take, get_or-drop}
use Rattle.std.proofs.lemmas.Bool.{cases_lt}
use Rattle.words.specs.Flags.{count}
use Rattle.words.specs.Columns.{column, column_counts}
use Rattle.words.specs.Planes.{digit_of}
use Rattle.words.proofs.columns.ColumnLaws.{column-le, column-set, digit-counted, at-columns, columns-are, columns-padded}
use Rattle.activity.specs.Checks.{all_zero}
use Rattle.activity.specs.Window.{minute_on}
use Rattle.activity.specs.Workers.{Good, Holds, Exchanged}
use Rattle.activity.specs.declared.window.ActivityWindow.{ActivityWindow}
use Rattle.activity.proofs.checks.CheckLaws.{zero-words, zero-later}

-- the one place where a record is made of its parts
abbrev pub made : List ℕ → List ℕ → ℕ → ℕ → ℕ → ActivityWindow
made words counts place fill width = record { words = words; counts = counts; place = place; fill = fill; width = width }

pub same_parts : (words : List ℕ) (counts counts' : List ℕ) (place place' fill fill' width : ℕ) → counts ≡ counts' → place ≡ place'
    → fill ≡ fill'
    → made words counts place fill width ≡ made words counts' place' fill' width
same_parts words counts counts' place place' fill fill' width e f g =
    ap (λ (l : List ℕ). made words l place fill width) e ∙ ap (λ (p : ℕ). made words counts' p fill width) f
    ∙ ap (λ (n : ℕ). made words counts' place' n width) g

-- ---- kept words and all words

-- words after the kept ones are zero and count nothing
pub kept-counts : (words : List ℕ) (n : ℕ) → all_zero (drop n words) ≡ true → column_counts (take n words) ≡ column_counts words
kept-counts words n h =
    sym (ap column_counts (sym (take-append-drop n words) ∙ ap (λ (l : List ℕ). take n words ++ l) (zero-words (drop n words) h))
    ∙ columns-padded (take n words) (length (drop n words)))

module _ (a : ActivityWindow) (g : Good a) (long : length a.words ≡ 256) where
  -- the count of a flag is that over all 256 words
  pub count-all : (c : ℕ) → c < 64 → get_or a.counts c 0 ≡ count (column a.words c)
  count-all c p =
      ap (λ (l : List ℕ). get_or l c 0) (g.counted ∙ kept-counts a.words a.fill g.unused) ∙ at-columns a.words c p

  -- so the flags of the word at the place are counted, even if it is not kept
  pub holds_oldest : Holds a.counts 0 64 (get_or a.words a.place 0)
  unfolding Holds
  holds_oldest c p =
      let e : get_or a.counts c 0 ≡ count (column a.words c) = count-all c p in
      let i : a.place < length a.words = omega (arith, g.inside, g.most) in
      let d : digit_of (get_or a.words a.place 0) (0 + c) ≤ count (column a.words c) =
      rw (zero-add c) (digit-counted a.words a.place c i) in
      (omega arith, omega (arith, column-le a.words c))

  -- the place is among the words kept after the minute
  pub place_kept : a.place < min (a.fill + 1) a.width
  place_kept = ⊎_elim
      (λ (h : a.fill < a.width). let e : a.place ≡ a.fill = g.after h in omega (arith, g.inside))
      (λ (h : a.width ≤ a.fill). omega (arith, g.inside))
      (cases_lt a.fill a.width)

  module _ (w : ℕ) where
    pub still-zero : all_zero (drop (min (a.fill + 1) a.width) (set a.words a.place w)) ≡ true
    still-zero =
        ap all_zero (drop-set-lt (min (a.fill + 1) a.width) a.words a.place w place_kept)
        ∙ zero-later a.words a.fill (min (a.fill + 1) a.width) (omega (arith, g.within)) g.unused

    pub exchanged_counts : (out : List ℕ) → (length out ≡ 64) × Exchanged a.counts 0 (get_or a.words a.place 0) w out 64
        → out ≡ column_counts (take (min (a.fill + 1) a.width) (set a.words a.place w))
    unfolding Exchanged
    exchanged_counts out x =
        columns-are (set a.words a.place w) out x.0 (λ c p.
        let i : a.place < length a.words = omega (arith, g.inside, g.most) in
        let old : digit_of (get_or a.words a.place 0) (0 + c) ≡ digit_of (get_or a.words a.place 0) c =
        ap (digit_of (get_or a.words a.place 0)) (zero-add c) in
        let new : digit_of w (0 + c) ≡ digit_of w c = ap (digit_of w) (zero-add c) in
        omega (arith, x.1 c p, count-all c p, column-set a.words a.place w c i))
        ∙ sym (kept-counts (set a.words a.place w) (min (a.fill + 1) a.width) still-zero)

    pub minute-made : (out : List ℕ) (p f : ℕ) → (length out ≡ 64) × Exchanged a.counts 0 (get_or a.words a.place 0) w out 64
        → p ≡ (a.place + 1) % a.width → f ≡ min (a.fill + 1) a.width
        → made (set a.words a.place w) out p f a.width ≡ minute_on a w
    unfolding minute_on
    minute-made out p f x e h =
        same_parts (set a.words a.place w) out (column_counts (take (min (a.fill + 1) a.width) (set a.words a.place w)))
        p ((a.place + 1) % a.width) f (min (a.fill + 1) a.width) a.width (exchanged_counts out x) e h

-- ---- the loop over the counts

-- one more count is exchanged
module _ (counts out : List ℕ) (s old new k v plus minus : ℕ) (p : k < length out) (e : minus ≡ digit_of old (s + k))
    (f : plus ≡ digit_of new (s + k)) (moved : v + minus ≡ get_or out k 0 + plus)
    (rest : (j : ℕ) → k ≤ j → get_or out j 0 ≡ get_or counts j 0)
  where
    pub exchanged-more : Exchanged counts s old new out k → Exchanged counts s old new (set out k v) (k + 1)
    unfolding Exchanged
    exchanged-more done c h = ⊎_elim
        (λ (l : c < k). omega (arith, get_or-set_other out k c v 0 (λ g. omega arith), done c l))
        (λ (l : k ≤ c).
        let g : c ≡ k = omega arith in
        let x : get_or (set out k v) k 0 + digit_of old (s + k) ≡ get_or counts k 0 + digit_of new (s + k) =
        omega (arith, get_or-set_same out k v 0 p, rest k (omega arith)) in
        rw g x)
        (cases_lt c k)

    pub rest-stays : (j : ℕ) → k + 1 ≤ j → get_or (set out k v) j 0 ≡ get_or counts j 0
    rest-stays j h = get_or-set_other out k j v 0 (λ g. omega arith) ∙ rest j (omega arith)

-- ---- two halves

-- the first half of the counts fulfils what all do,
pub holds-low : (counts : List ℕ) (w : ℕ) → Holds counts 0 64 w → Holds (take 32 counts) 0 32 w
unfolding Holds
holds-low counts w h c p =
    let e : get_or (take 32 counts) c 0 ≡ get_or counts c 0 = get_or-take 32 counts c 0 p in
    let both = h c (omega arith) in
    (omega (arith, both.0), omega (arith, both.1))

module _ (counts low : List ℕ) (long : length low ≡ 32) where
  after-low : drop 32 (low ++ drop 32 counts) ≡ drop 32 counts
  after-low = ap (λ (n : ℕ). drop n (low ++ drop 32 counts)) (sym long) ∙ drop-append_seam low (drop 32 counts)

  at-second : (c : ℕ) → c < 32 → get_or (take 32 (drop 32 (low ++ drop 32 counts))) c 0 ≡ get_or counts (32 + c) 0
  at-second c p =
      get_or-take 32 (drop 32 (low ++ drop 32 counts)) c 0 p ∙ ap (λ (l : List ℕ). get_or l c 0) after-low ∙ get_or-drop 32 counts c 0

  pub second-long : length counts ≡ 64 → length (take 32 (drop 32 (low ++ drop 32 counts))) ≡ 32
  second-long many =
      let e : length (drop 32 (low ++ drop 32 counts)) ≡ length (drop 32 counts) = ap length after-low in
      omega (arith, length-take 32 (drop 32 (low ++ drop 32 counts)), length-drop 32 counts)

  -- and so does the second
  pub holds-high : (w : ℕ) → Holds counts 0 64 w → Holds (take 32 (drop 32 (low ++ drop 32 counts))) 32 32 w
  unfolding Holds
  holds-high w h c p =
      let e : get_or (take 32 (drop 32 (low ++ drop 32 counts))) c 0 ≡ get_or counts (32 + c) 0 = at-second c p in
      let z : digit_of w (0 + (32 + c)) ≡ digit_of w (32 + c) = ap (digit_of w) (zero-add (32 + c)) in
      let both = h (32 + c) (omega arith) in
      (omega (arith, both.0), omega (arith, both.1))

  module _ (high : List ℕ) (old new : ℕ) (many : length counts ≡ 64) (same : length high ≡ 32) where
    joined : take 32 (low ++ drop 32 counts) ++ (high ++ drop 32 (drop 32 (low ++ drop 32 counts))) ≡ low ++ high
    joined =
        let a : take 32 (low ++ drop 32 counts) ≡ low =
        ap (λ (n : ℕ). take n (low ++ drop 32 counts)) (sym long) ∙ take-append_seam low (drop 32 counts) in
        let b : drop 32 (drop 32 (low ++ drop 32 counts)) ≡ [] =
        ap (drop 32) after-low ∙ drop_of_length-le (drop 32 counts) {i = 32} (omega (arith, length-drop 32 counts)) in
        ap₂ (λ (s t : List ℕ). s ++ (high ++ t)) a b ∙ ap (λ (t : List ℕ). low ++ t) (append-nil high)

    exchanged-both : Exchanged (take 32 counts) 0 old new low 32
        → Exchanged (take 32 (drop 32 (low ++ drop 32 counts))) 32 old new high 32 → Exchanged counts 0 old new (low ++ high) 64
    unfolding Exchanged
    exchanged-both x y c p = ⊎_elim
        (λ (l : c < 32).
        let e : get_or (low ++ high) c 0 ≡ get_or low c 0 = get_or-append low high 0 c (omega arith) in
        let f : get_or (take 32 counts) c 0 ≡ get_or counts c 0 = get_or-take 32 counts c 0 l in
        omega (arith, x c l))
        (λ (l : 32 ≤ c).
        let k : 32 + (c - 32) ≡ c = omega arith in
        let i : c - length low ≡ c - 32 = omega arith in
        let e : get_or (low ++ high) c 0 ≡ get_or high (c - 32) 0 =
        get_or-append_right low high c 0 (omega arith) ∙ ap (λ (n : ℕ). get_or high n 0) i in
        let f : get_or (take 32 (drop 32 (low ++ drop 32 counts))) (c - 32) 0 ≡ get_or counts c 0 =
        at-second (c - 32) (omega arith) ∙ ap (λ (n : ℕ). get_or counts n 0) k in
        let g : digit_of old (32 + (c - 32)) ≡ digit_of old (0 + c) = ap (digit_of old) (k ∙ sym (zero-add c)) in
        let h : digit_of new (32 + (c - 32)) ≡ digit_of new (0 + c) = ap (digit_of new) (k ∙ sym (zero-add c)) in
        omega (arith, y (c - 32) (omega arith)))
        (cases_lt c 32)

    pub exchanged-halves : Exchanged (take 32 counts) 0 old new low 32
        → Exchanged (take 32 (drop 32 (low ++ drop 32 counts))) 32 old new high 32
        → (length (take 32 (low ++ drop 32 counts) ++ (high ++ drop 32 (drop 32 (low ++ drop 32 counts)))) ≡ 64)
        × Exchanged counts 0 old new (take 32 (low ++ drop 32 counts) ++ (high ++ drop 32 (drop 32 (low ++ drop 32 counts)))) 64
    exchanged-halves x y =
        (ap length joined ∙ omega (arith, length-append low high), rw joined (exchanged-both x y))
