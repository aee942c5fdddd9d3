-- What a step takes of the bytes that were read.
use Rattle.std.proofs.Common.{◌≡◌, ℕ, ◌+◌, ◌-◌, ◌^◌, ◌<◌, ◌≤◌, min, Bool, true, false, cond, Option, Some, None, List, ◌++◌, length, take}
use Rattle.std.proofs.Common.{drop, position, nat_lt, ltb-false, refl, sym, ◌∙◌, ap, arith, ◌⊎◌, inl, inr}
use Rattle.std.proofs.lemmas.Bool.{cases_lt}
use Rattle.std.proofs.lemmas.List.{take-take, take_min, length-take, drop-drop}
use Rattle.std.proofs.lemmas.List.Sums.{prefix_len-le-length}
use Rattle.std.proofs.Math.ListN.{drop_of_length-le}
use Rattle.std.proofs.Math.Seq.{take-length}
use Rattle.std.specs.Option.{unwrap_or}
use Rattle.std.specs.List.{position_or_len}
use Rattle.notation.specs.Lines.{is_feed, gone_on, left_of}

take-all : {A : Type 0} (m : ℕ) (l : List A) → length l ≤ m → take m l ≡ l
take-all m l h = sym (take_min m l) ∙ ap (λ k. take k l) (omega arith) ∙ take-length l

-- the first m of the first n
two-takes : {A : Type 0} (m n : ℕ) (l : List A) → (m < n) ⊎ (n ≤ m) → take m (take n l) ≡ take (min n m) l
two-takes m n l (inl h) = take-take m n l (omega arith) ∙ ap (λ k. take k l) (omega arith)
two-takes m n l (inr h) = take-all m (take n l) (omega (arith, length-take n l)) ∙ ap (λ k. take k l) (omega arith)

-- past what was taken and n more
pub taken-more : (w : List ℕ) (t n k : ℕ) → k ≡ min (min (t + n) (2 ^ 64 - 1)) (length w) → length w < 2 ^ 64 → drop k w ≡ drop n (drop t w)
taken-more w t n k e h = more (cases_lt _ _)
  where
    more : (t + n < length w) ⊎ (length w ≤ t + n) → drop k w ≡ drop n (drop t w)
    more (inl l) = ap (λ m. drop m w) (omega (arith, e, h, l)) ∙ sym (drop-drop n t w)
    more (inr l) =
        drop_of_length-le w (omega (arith, e, h, l))
        ∙ sym (drop-drop n t w ∙ drop_of_length-le w l)

by_flag : (n p : ℕ) (b : Bool) → nat_lt p n ≡ b → p ≤ n → unwrap_or (cond b (Some p) None) n ≡ p
by_flag n p true e h = refl
by_flag n p false e h = omega (arith, ltb-false p n e)

-- the place of a line feed in what was read, the bytes before it, and what is left after it
module _ (read : List ℕ) (feed : Option ℕ) (size : ℕ)
    (found : feed ≡ position is_feed read) (sized : size ≡ unwrap_or feed (length read)) where
  abbrev until : ℕ
  until = position_or_len is_feed read

  size-is : size ≡ until
  size-is =
      sized ∙ ap (λ f. unwrap_or f (length read)) found
      ∙ by_flag (length read) (position_or_len is_feed read) _ refl (prefix_len-le-length _ read)

  pub line-taken : (line part : List ℕ) (room : ℕ) → room ≡ 16384 - length line → part ≡ take (min size room) read
      → line ++ part ≡ gone_on line read
  line-taken line part room r p =
      ap (λ l. line ++ l)
      (p ∙ ap (λ n. take (min n room) read) size-is ∙ sym (two-takes room until read (cases_lt _ _)) ∙ ap (λ n. take n (take until read)) r)

  dropped : (n : ℕ) → n ≡ min (size + 1) (2 ^ 64 - 1) → length read < 2 ^ 64 → (size < 2 ^ 64 - 1) ⊎ (2 ^ 64 - 1 ≤ size)
      → drop n read ≡ left_of read
  dropped n e h (inl l) =
      let at : n ≡ until + 1 = omega (arith, size-is, e, l) in
      ap (λ k. drop k read) at
  dropped n e h (inr l) =
      let all = size-is in
      drop_of_length-le read (omega (arith, e, h, l)) ∙ sym (drop_of_length-le read (omega (arith, all, h, l)))

  pub left-taken : (buffer new : List ℕ) (n : ℕ) → new ≡ drop n buffer → read ≡ buffer → n ≡ min (size + 1) (2 ^ 64 - 1)
      → length read < 2 ^ 64 → new ≡ left_of buffer
  left-taken buffer new n d e m h = d ∙ ap (λ l. drop n l) (sym e) ∙ dropped n m h (cases_lt _ _) ∙ ap left_of e
