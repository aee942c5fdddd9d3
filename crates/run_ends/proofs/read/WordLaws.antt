-- The word in progress and the whole words before it: what a run adds to them, and the last word.
use Rattle.std.proofs.Common.{◌≡◌, sym, ap, ap₂, ◌∙◌, ℕ, ◌+◌, ◌-◌, ◌*◌, ◌/◌, ◌%◌, ◌<◌, ◌≤◌, Bool, false, cond, ◌&&◌, List, ◌++◌}
use Rattle.std.proofs.Common.{length, take, drop, get_or, min, length-take-le, lt-ltb, le-ltb, arith, ⊎_elim, leb}
use Rattle.std.proofs.lemmas.Bool.{cases_lt}
use Rattle.std.proofs.Math.ListN.{get_or-eq_default}
use lib.ListN.{get_or-append}
use lib.Seq.{get_or-append-add}
use borrow.Author.Tests.{le-leb}
use Rattle.words.specs.Flags.{copies, flags_of, over, over_at, window, word_flags}
use Rattle.words.proofs.flags.Bits.{length-bits}
use Rattle.words.proofs.flags.Bytes.{length-flags, over-from}
use Rattle.words.proofs.flags.Windows.{as-window, at_copies, at_in, at_take, length-copies, length-window, length_over, over-more}
use Rattle.words.proofs.flags.Windows.{window-add, window-ext}
use Rattle.run_ends.specs.Workers.{WordsWritten}

-- ---- more whole words of a list

pub write-more : (F G N N' : List Bool) (i m : ℕ) → N ≡ over F (window G 0 (64 * i))
    → N' ≡ over_at N (8 * (8 * i)) (window G (64 * i) (64 * m)) → N' ≡ over F (window G 0 (64 * (i + m)))
unfolding over_at
write-more F G N N' i m inv put =
    let n : 8 * (8 * i) ≡ length (window G 0 (64 * i)) = omega (arith, length-window G 0 (64 * i)) in
    let z : 64 * i ≡ 0 + 64 * i = omega arith in
    let e : 64 * i + 64 * m ≡ 64 * (i + m) = omega arith in
    put ∙ ap₂ (λ (x : List Bool) (y : ℕ). over_at x (8 * (8 * i)) (window G y (64 * m))) inv z
    ∙ ap (λ (x : ℕ). over_at (over F (window G 0 (64 * i))) x (window G (0 + 64 * i) (64 * m))) n
    ∙ over-more F (window G 0 (64 * i)) (window G (0 + 64 * i) (64 * m))
    ∙ ap (over F) (sym (window-add G 0 (64 * i) (64 * m)) ∙ ap (window G 0) e)

-- a word that is stored, since it fits
pub stored : (N N' : List Bool) (at size w : ℕ) → at + 8 ≤ size → N' ≡ cond (leb (at + 8) size) (over_at N (8 * at) (word_flags w)) N
    → N' ≡ over_at N (8 * at) (word_flags w)
stored N N' at size w h e = e ∙ ap (λ (t : Bool). cond t (over_at N (8 * at) (word_flags w)) N) (le-leb (at + 8) size h)

-- copies that are written to a part that begins at byte `a`, since they fit
pub filled-from : (out part : List ℕ) (a q m : ℕ) (v : Bool) → q ≤ m
    → flags_of part ≡ over (flags_of (take (length out - a) (drop a out))) (copies (64 * min q m) v)
    → flags_of (take a out ++ (part ++ drop (length out - a) (drop a out))) ≡ over_at (flags_of out) (8 * a) (copies (64 * q) v)
filled-from out part a q m v h put =
    let e : min q m ≡ q = omega arith in
    over-from out part a (copies (64 * q) v)
    (put ∙ ap (λ (k : ℕ). over (flags_of (take (length out - a) (drop a out))) (copies (64 * k) v)) e)

-- writing does not change the size
pub same-size : (a b : List ℕ) (m : List Bool) → flags_of b ≡ over (flags_of a) m → length b ≡ length a
same-size a b m e =
    let n : length (flags_of b) ≡ length (flags_of a) = ap length e ∙ length_over (flags_of a) m in
    omega (arith, n, length-flags a, length-flags b)

-- ---- the word in progress with a run joined to it: K are the run's flags

module _ (W K J : List Bool) (r j : ℕ) (v : Bool) (long : length W ≡ 64) (few : r < 64) (inside : j < 64)
    (joined : J ≡ window (take r W ++ K) 0 64) where
  at-joined : get_or J j false ≡ get_or (take r W ++ K) j false
  at-joined =
      let z : 0 + j ≡ j = omega arith in
      ap (λ (l : List Bool). get_or l j false) joined ∙ at_in (take r W ++ K) 0 64 j inside
      ∙ ap (λ (i : ℕ). get_or (take r W ++ K) i false) z

  front : length (take r W) ≡ r
  front = length-take-le r W (omega arith)

  pub joined-before : j < r → get_or J j false ≡ get_or W j false
  joined-before h =
      at-joined ∙ get_or-append (take r W) K false j (omega (arith, front)) ∙ at_take r W j
      ∙ ap (λ (t : Bool). t && get_or W j false) (lt-ltb j r h)

  pub joined-after : r ≤ j → K ≡ copies 64 v → get_or J j false ≡ v
  joined-after h k =
      let e : j ≡ length (take r W) + (j - r) = omega (arith, front) in
      at-joined ∙ ap (λ (i : ℕ). get_or (take r W ++ K) i false) e ∙ get_or-append-add (take r W) K (j - r) false
      ∙ ap (λ (l : List Bool). get_or l (j - r) false) k ∙ at_copies 64 v (j - r) (omega arith)

-- ---- a run: copies of v from position `last` to before `next`

module _ (O N G : List Bool) (w k x last next : ℕ) (v : Bool) (inv : WordsWritten O N G w last)
    (run : (p : ℕ) → last ≤ p → p < next → get_or G p false ≡ v) (ordered : last ≤ next) (filled : word_flags k ≡ copies 64 v)
    (joined : word_flags x ≡ window (take (last % 64) (word_flags w) ++ word_flags k) 0 64) where
  -- the word that is joined has the flags of the list before `next`
  joined-flag : (j : ℕ) → j < 64 → 64 * (last / 64) + j < next
      → get_or (word_flags x) j false ≡ get_or G (64 * (last / 64) + j) false
  joined-flag j p q = ⊎_elim
      (λ (h : j < last % 64).
      joined-before (word_flags w) (word_flags k) (word_flags x) (last % 64) j v (length-bits 64 w) (omega arith) p joined h
      ∙ inv.begun j h)
      (λ (h : last % 64 ≤ j).
      joined-after (word_flags w) (word_flags k) (word_flags x) (last % 64) j v (length-bits 64 w) (omega arith) p joined h filled
      ∙ sym (run (64 * (last / 64) + j) (omega arith) q))
      (cases_lt j (last % 64))

  -- it ends inside the word in progress
  pub run-inside : last / 64 ≡ next / 64 → WordsWritten O N G x next
  run-inside e =
      record {
        whole = inv.whole ∙ ap (λ (q : ℕ). over O (window G 0 (64 * q))) e;
        begun = λ j h.
            joined-flag j (omega arith) (omega arith) ∙ ap (λ (q : ℕ). get_or G (64 * q + j) false) e;
      }

  -- or not: the word is then full, the words after it up to the one of `next` are copies, and so is the word in progress
  pub word-full : last / 64 < next / 64 → word_flags x ≡ window G (64 * (last / 64)) 64
  word-full e = as-window (word_flags x) G (64 * (last / 64)) 64 (length-bits 64 x) (λ j p. joined-flag j p (omega arith))

  pub words-between : (i m : ℕ) → last ≤ 64 * i → 64 * i + 64 * m ≤ next → copies (64 * m) v ≡ window G (64 * i) (64 * m)
  words-between i m a b =
      as-window (copies (64 * m) v) G (64 * i) (64 * m) (length-copies (64 * m) v) (λ j p.
      at_copies (64 * m) v j p ∙ sym (run (64 * i + j) (omega arith) (omega arith)))

  pub run-past : (N' : List Bool) → last / 64 < next / 64 → N' ≡ over O (window G 0 (64 * (next / 64))) → WordsWritten O N' G k next
  run-past N' e put =
      record {
        whole = put;
        begun = λ j h.
            ap (λ (l : List Bool). get_or l j false) filled ∙ at_copies 64 v j (omega arith)
            ∙ sym (run (64 * (next / 64) + j) (omega arith) (omega arith));
      }

-- ---- the last word: zeros after the list

pub last-word : (O N G : List Bool) (w x n : ℕ) → WordsWritten O N G w n → length G ≡ n
    → word_flags x ≡ window (take (n % 64) (word_flags w)) 0 64 → word_flags x ≡ window G (64 * (n / 64)) 64
last-word O N G w x n inv long low =
    low ∙ window-ext (take (n % 64) (word_flags w)) G 0 (64 * (n / 64)) 64 (λ j p.
    let z : 0 + j ≡ j = omega arith in
    ap (λ (i : ℕ). get_or (take (n % 64) (word_flags w)) i false) z ∙ at_take (n % 64) (word_flags w) j
    ∙ ⊎_elim
    (λ (h : j < n % 64). ap (λ (t : Bool). t && get_or (word_flags w) j false) (lt-ltb j (n % 64) h) ∙ inv.begun j h)
    (λ (h : n % 64 ≤ j).
    ap (λ (t : Bool). t && get_or (word_flags w) j false) (le-ltb j (n % 64) h)
    ∙ sym (get_or-eq_default G false (omega arith)))
    (cases_lt j (n % 64)))
