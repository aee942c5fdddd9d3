-- At most a word by `count-near`; else in three parts, whose counts `count-parts` adds. Each is at most its part's length, so the sums fit.
use Rattle.std.proofs.Common.{◌≡◌, refl, arith, ℕ, ◌+◌, ◌-◌, ◌*◌, ◌/◌, ◌%◌, ◌≤◌, ◌<◌, min, List, length}
use Rattle.words.proofs.flags.Bytes.{length-flags}
use Rattle.words.specs.Flags.{flags_of}
use Rattle.words.proofs.counts.Counting.{count-parts, count-within}
use Rattle.words.proofs.rows.RowLaws.{count-first-flags, count-near, count-near-all}
use Rattle.words.proofs.counts.count_mixed.Goals as goal

-- the three parts of `len` flags, of which n whole words
parts-sum : (start len r n : ℕ) → 64 - start % 8 < len → n ≡ min ((len - (64 - start % 8)) / 64) r
    → len ≡ 64 - start % 8 + 64 * n + (len - (64 - start % 8) - 64 * n)
parts-sum start len r n h e = omega arith

parts-fit : (start len r n x y z : ℕ) → 64 - start % 8 < len → n ≡ min ((len - (64 - start % 8)) / 64) r
    → x ≤ 64 - start % 8 → y ≤ 64 * n → z ≤ len - (64 - start % 8) - 64 * n → x + y + z ≤ len
parts-fit start len r n x y z h e a b c = omega (arith, parts-sum start len r n h e)

-- if more than a word is left, the bytes end within it
rest-ends : (bytes : List ℕ) (start len r n : ℕ) → n ≡ min ((len - (64 - start % 8)) / 64) r → r ≡ (length bytes - (start / 8 + 8)) / 8
    → 64 < len - (64 - start % 8) - 64 * n → length (flags_of bytes) ≤ 8 * (start / 8 + 8 + 8 * n) + 64
rest-ends bytes start len r n e f h = omega (arith, length-flags bytes)

pub returns-then-len-k : goal.returns-then-len-k
returns-then-len-k c =
    count-near _ _ _ _ _ (omega (arith, c.if-len-k.true)) c.near_word-w.ensures c.ones_below.ensures

pub overflow_add-result : goal.overflow_add-result
overflow_add-result c =
    let a = c.args in
    let x = count-near-all (flags_of a.bytes.now) a.start _ _ _ refl c.near_word-w.ensures c.ones_in_word-first.ensures in
    omega (arith, count-within _ _ _ _ x, count-within _ _ _ _ c.ones-mid.ensures)

pub overflow_add-result-2 : goal.overflow_add-result-2
overflow_add-result-2 c =
    let a = c.args in
    let x = count-near-all (flags_of a.bytes.now) a.start _ _ _ refl c.near_word-w.ensures c.ones_in_word-first.ensures in
    let z =
    count-first-flags _ _ _ _ _ (rest-ends a.bytes.now a.start a.len _ _ c.min-n.ensures c.words_in_range.ensures)
    c.byte_word.ensures c.ones_below-last.ensures in
    omega (
      arith,
      parts-fit a.start a.len _ _ _ _ _ c.if-len-k.false c.min-n.ensures (count-within _ _ _ _ x)
          (count-within _ _ _ _ c.ones-mid.ensures) (count-within _ _ _ _ z),
      c.ranges.len.fits,
    )

pub returns : goal.returns
returns c =
    let a = c.args in
    let x = count-near-all (flags_of a.bytes.now) a.start _ _ _ refl c.near_word-w.ensures c.ones_in_word-first.ensures in
    let z =
    count-first-flags _ _ _ _ _ (rest-ends a.bytes.now a.start a.len _ _ c.min-n.ensures c.words_in_range.ensures)
    c.byte_word.ensures c.ones_below-last.ensures in
    count-parts (flags_of a.bytes.now) _ _ _ _ _ _ _ _ _ _ _ x c.ones-mid.ensures z (omega arith) (omega arith) (omega arith)
    (parts-sum a.start a.len _ _ c.if-len-k.false c.min-n.ensures)
