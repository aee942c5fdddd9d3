-- The words of a span, loaded at a byte or merged inside a byte, and the answers of a cursor over them. For `BitChunks`.
use mathlib.Core.Path.{◌≡◌, sym, ap, ap₂, ◌∙◌}
use mathlib.Core.Bool.{Bool}
use mathlib.Core.List.{List}
use Prim.Native.Nat.{ℕ, ◌+◌, ◌-◌, ◌*◌, ◌/◌, ◌%◌, ◌^◌, ◌≤◌, ◌<◌}
use native.Mathlib.Omega.{arith}
use lib.ListN.{length}
use borrow.Author.Tests.{lt-ltb, le-ltb}
use Rattle.words.specs.Flags.{bits, flags_of, window, word_of}
use Rattle.words.specs.Loops.{stretch}
use Rattle.words.specs.Merge.{merged}
use Rattle.words.proofs.merge.Merging.{merged-window}
use Rattle.words.proofs.flags.Windows.{length-window, window-all, in_window, word_value}
use Rattle.masks.specs.Chunks.{chunks_at, chunk_word, chunk_step, remainder_word}
use Rattle.masks.specs.Cursor.{item, ended}
use Rattle.masks.specs.declared.chunks.BitChunks.{BitChunks}

-- two words, the second eight bytes after the first, merged at a bit inside their first byte
pub inside-byte : (l : List Bool) (start k c n r : ℕ) → bits 64 c ≡ window l (8 * (start / 8 + 8 * k)) 64
    → bits 64 n ≡ window l (8 * (start / 8 + 8 * k + 8)) 64
    → bits 64 r ≡ merged (bits 64 c) (bits 64 n) (start % 8) → bits 64 r ≡ window l (start + 64 * k) 64
inside-byte l start k c n r p q u =
    let e : 8 * (start / 8 + 8 * k + 8) ≡ 8 * (start / 8 + 8 * k) + 64 = omega arith in
    let f : 8 * (start / 8 + 8 * k) + start % 8 ≡ start + 64 * k = omega arith in
    u ∙ ap₂ (λ (s t : List Bool). merged s t (start % 8)) p (q ∙ ap (λ (x : ℕ). window l x 64) e)
    ∙ merged-window l (8 * (start / 8 + 8 * k)) 64 (start % 8) (omega arith) ∙ ap (λ (x : ℕ). window l x 64) f

chunk-value : (bytes : List ℕ) (start n k r : ℕ) → r < 2 ^ 64 → 64 * k + 64 ≤ n → bits 64 r ≡ window (flags_of bytes) (start + 64 * k) 64
    → r ≡ chunk_word bytes start n k
unfolding chunk_word
chunk-value bytes start n k r b h p =
    let w : List Bool = window (window (flags_of bytes) start n) (64 * k) 64 in
    let e : length w ≡ 64 = length-window (window (flags_of bytes) start n) (64 * k) 64 in
    word_value 64 w r b (omega arith)
    (p ∙ sym (in_window (flags_of bytes) start n (64 * k) 64 h) ∙ sym (ap (window w 0) (sym e) ∙ window-all w))

-- the two answers of a cursor
pub a_word : (bytes : List ℕ) (c : BitChunks) (r : ℕ) → r < 2 ^ 64 → c.place < c.length / 64
    → bits 64 r ≡ window (flags_of bytes) (c.start + 64 * c.place) 64
    → item r (chunks_at c.start c.length (c.place + 1)) ≡ chunk_step bytes c
unfolding chunk_step
a_word bytes c r b h p =
    rw (lt-ltb c.place (c.length / 64) h)
    (ap (λ (x : ℕ). item x (chunks_at c.start c.length (c.place + 1))) (chunk-value bytes c.start c.length c.place r b (omega arith) p))

pub no_word : (bytes : List ℕ) (c : BitChunks) → c.length / 64 ≤ c.place → ended c ≡ chunk_step bytes c
unfolding chunk_step
no_word bytes c h = rw (le-ltb c.place (c.length / 64) h)

-- the flags after the last whole word
pub remainder-value : (bytes : List ℕ) (start n r : ℕ) → r ≡ word_of (stretch bytes (start + n - n % 64) (n % 64))
    → r ≡ remainder_word bytes start n
unfolding remainder_word
remainder-value bytes start n r p =
    let e : start + n - n % 64 ≡ start + 64 * (n / 64) = omega arith in
    p ∙ ap word_of (ap (λ (x : ℕ). window (flags_of bytes) x (n % 64)) e
    ∙ sym (in_window (flags_of bytes) start n (64 * (n / 64)) (n % 64) (omega arith)))
