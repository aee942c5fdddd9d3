-- The aligned split of a span: a prefix, whole words at addresses divisible by 8, and a suffix.
--
-- The address is that of the first lent byte, as its remainder by 8: the Rust takes the address itself.
use Rattle.std.specs.Prelude.{ℕ, ◌+◌, ◌-◌, ◌*◌, ◌/◌, ◌%◌, Bool, cond, List, ◌++◌, leb}
use Rattle.words.specs.Flags.{word_of}
use Rattle.words.specs.Loops.{stretch}
use Rattle.masks.specs.Checks.{Check, span_checks, address_checks}
use Rattle.masks.specs.declared.aligned.AlignedBitmapSlice.{AlignedBitmapSlice}

-- bytes from the span's first byte to the first one whose address is divisible by 8; 0 if its own is
abbrev pub bytes_to_aligned : ℕ → ℕ → ℕ
bytes_to_aligned start address = (8 - (address + start / 8) % 8) % 8

-- bytes from the span's first byte to its whole words: to the first aligned byte, or a word further if the span begins inside it
unfoldable pub bulk_offset : ℕ → ℕ → ℕ
bulk_offset start address =
    cond (leb (start % 8) (8 * bytes_to_aligned start address)) (bytes_to_aligned start address) (bytes_to_aligned start address + 8)

-- whether a span of n flags fits one word that starts at its first byte
abbrev pub short : ℕ → ℕ → Bool
short start n = leb (start % 8 + n) 64

unfoldable pub prefix_length : ℕ → ℕ → ℕ → ℕ
prefix_length start n address = cond (short start n) n (8 * bulk_offset start address - start % 8)

unfoldable pub bulk_start_of : ℕ → ℕ → ℕ → ℕ
bulk_start_of start n address = cond (short start n) 0 (start / 8 + bulk_offset start address)

abbrev pub bulk_length : ℕ → ℕ → ℕ → ℕ
bulk_length start n address = (n - prefix_length start n address) / 64

abbrev pub suffix_length : ℕ → ℕ → ℕ → ℕ
suffix_length start n address = (n - prefix_length start n address) % 64

abbrev pub aligned_split : List ℕ → ℕ → ℕ → ℕ → AlignedBitmapSlice
aligned_split bytes start n address =
    record {
      prefix = word_of (stretch bytes start (prefix_length start n address));
      prefix_len = prefix_length start n address;
      bulk_start = bulk_start_of start n address;
      bulk_len = bulk_length start n address;
      suffix = word_of (stretch bytes (start + n - suffix_length start n address) (suffix_length start n address));
      suffix_len = suffix_length start n address;
    }

-- checks 1, 2 and 8 of a span of n flags over `size` bytes, at an address remainder
unfoldable pub aligned_checks : ℕ → ℕ → ℕ → ℕ → List Check
aligned_checks start n size address = span_checks start n size ++ address_checks address
