-- What a fold over the parts of eight bytes takes in.
use Rattle.std.proofs.Common.{◌≡◌, ℕ, ◌+◌, ◌-◌, ◌/◌, min, List, [], ◌∷◌, length, take, drop, fold, refl, sym, ◌∙◌, ap, arith, Bor}
use Rattle.std.proofs.lemmas.List.{drop_at, drop_min, take_at, take_min}
use Rattle.std.specs.Iterator.{Yields}
use Rattle.std.specs.Slice.Iter.{chunks_steps, chunks_rest, chunks_size}
use Rattle.std.specs.declared.slice.Chunks.{Chunks}
use Rattle.notation.specs.Sums.{mixed, word_of, parts_mixed}
use Rattle.notation.specs.declared.sums.Checksum.{Checksum}

-- what the fold does with a part
abbrev pub with_part : Checksum → Bor (List ℕ) → Checksum
with_part h x = mixed h (word_of x.now)

-- a run of parts of eight bytes is taken in as the bytes that it begins with are
pub parts-taken : (items : List (Bor (List ℕ))) (s t : Chunks ℕ) (h : Checksum) → chunks_size s ≡ 8 → Yields chunks_steps s items t
    → fold with_part h items ≡ parts_mixed (length items) h (chunks_rest s)
parts-taken [] s t h e y = refl
parts-taken (x ∷ items) s t h e (j, st, y) =
    let long : length x.now ≡ min 8 (length (chunks_rest s)) = st.1.1 ∙ ap (λ n. min n (length (chunks_rest s))) e in
    let n = min 8 (length (chunks_rest s)) in
    let head : take 8 (chunks_rest s) ≡ x.now =
    sym (take_min 8 (chunks_rest s)) ∙ ap (take n) st.1.0 ∙ take_at x.now (chunks_rest j) n long in
    let rest : drop 8 (chunks_rest s) ≡ chunks_rest j =
    sym (drop_min 8 (chunks_rest s)) ∙ ap (drop n) st.1.0 ∙ drop_at x.now (chunks_rest j) n long in
    parts-taken items j t (mixed h (word_of x.now)) (st.0 ∙ e) y
    ∙ ap (λ l. parts_mixed (length items) (mixed h (word_of x.now)) l) (sym rest)
    ∙ ap (λ p. parts_mixed (length items) (mixed h (word_of p)) (drop 8 (chunks_rest s))) (sym head)

-- how many parts there are
pub part-count : (n : ℕ) → min n ((n + 8 - 1) / 8) ≡ (n + 7) / 8
part-count n = omega arith
