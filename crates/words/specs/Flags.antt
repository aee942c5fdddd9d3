-- Numbers, words and lent bytes as lists of flags.
--
-- Arrow's numbering: flag j of a buffer is bit j mod 8 of byte j div 8, least significant bit first. `flag_at` is that sentence;
-- `flags_of` is the list of all flags of a buffer. `proofs/theorems/Plain.antt` proves each list below to be what its plain reading says.
use Rattle.std.specs.Prelude.{ℕ, zero, suc, ◌+◌, ◌*◌, ◌/◌, ◌%◌, ◌^◌, Bool, true, false, List, [], ◌∷◌, ◌++◌, take, drop, get_or}

-- a binary digit as a flag, and back
abbrev pub is_one : ℕ → Bool
is_one zero = false
is_one (suc n) = true

abbrev pub digit : Bool → ℕ
digit false = 0
digit true = 1

-- bit k of the number n, the least significant first
abbrev pub bit_at : ℕ → ℕ → Bool
bit_at n k = is_one (n / 2 ^ k % 2)

-- flag j of the buffer `bytes`
abbrev pub flag_at : List ℕ → ℕ → Bool
flag_at bytes j = bit_at (get_or bytes (j / 8) 0) (j % 8)

-- the d low bits of the number n, lowest first
unfoldable pub bits : ℕ → ℕ → List Bool
bits zero n = []
bits (suc d) n = is_one (n % 2) ∷ bits d (n / 2)

-- the number whose bits are the list, lowest first, with zeros past its end
unfoldable pub word_of : List Bool → ℕ
word_of [] = 0
word_of (x ∷ l) = word_of l * 2 + digit x

-- the 64 flags of the word w
abbrev pub word_flags : ℕ → List Bool
word_flags w = bits 64 w

-- all flags of a buffer
unfoldable pub flags_of : List ℕ → List Bool
flags_of [] = []
flags_of (b ∷ bytes) = bits 8 b ++ flags_of bytes

-- how many flags of the list are set
unfoldable pub count : List Bool → ℕ
count [] = 0
count (x ∷ l) = digit x + count l

-- n copies of the flag x
unfoldable pub copies : ℕ → Bool → List Bool
copies zero x = []
copies (suc n) x = x ∷ copies n x

-- of l, starting at flag k, n flags; false past its end
unfoldable pub window : List Bool → ℕ → ℕ → List Bool
window l k zero = []
window l k (suc n) = get_or l k false ∷ window l (suc k) n

-- l with m written over its front: what does not fit is left out, and what follows m stays
unfoldable pub over : {A : Type 0} → List A → List A → List A
over [] m = []
over (x ∷ l) [] = x ∷ l
over (x ∷ l) (y ∷ m) = y ∷ over l m

-- l with m written over it, starting at flag n
unfoldable pub over_at : List Bool → ℕ → List Bool → List Bool
over_at l n m = take n l ++ over (drop n l) m
