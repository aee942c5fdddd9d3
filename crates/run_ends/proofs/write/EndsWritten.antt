-- The ends of a list under way: before the first word, after one more, and in the last word.
use Rattle.std.proofs.Common.{◌≡◌, ℕ, zero, suc, ◌+◌, ◌-◌, ◌*◌, ◌≤◌, ◌<◌, ℤ, pos, Bool, false, List, [], ◌∷◌, length, take, get_or, set}
use Rattle.std.proofs.Common.{refl, sym, ap, ap₂, ◌∙◌, arith, subst, length-append}
use Rattle.words.specs.Changes.{changes}
use Rattle.words.specs.Flags.{copies, over, window, word_flags}
use Rattle.words.proofs.flags.Windows.{at_copies, over_none}
use Rattle.run_ends.specs.Write.{ends_from, written_ends}
use Rattle.run_ends.specs.WriteWorkers.{put_from, set_places}
use Rattle.run_ends.proofs.write.EndPlaces.{UnderWay, all-left, begins, ends_left, finished, last-left, one-on, part-on, word-left}

pub none-written : (old : List ℤ) (F : List Bool) (s n : ℕ) → n ≡ 0 → old ≡ over old (written_ends (window F s n))
unfolding window ends_from
none-written old F s zero e = sym (over_none old)
none-written old F s (suc n) e = absurd (omega arith)

-- before the first word the flag before is the first one
pub begun : (old : List ℤ) (F : List Bool) (s n : ℕ) (x : Bool) (w : ℕ) → 0 < n → x ≡ get_or F s false → word_flags w ≡ copies 64 x
    → length (written_ends (window F s n)) ≤ length old
    → UnderWay (over old (written_ends (window F s n))) old 0 (ends_left F s n (get_or (word_flags w) 63 false) (64 * 0))
begun old F s n x w some e p h =
    let z : 0 ≡ 64 * 0 = omega arith in
    let same : x ≡ get_or (word_flags w) 63 false =
    sym (at_copies 64 x 63 (omega arith)) ∙ ap (λ (l : List Bool). get_or l 63 false) (sym p) in
    subst (UnderWay (over old (written_ends (window F s n))) old 0)
    (all-left F s n x some e ∙ ap₂ (ends_left F s n) same z) (begins old (written_ends (window F s n)) h)

-- after the last whole word
pub passed : (whole now : List ℤ) (count : ℕ) (F : List Bool) (s n : ℕ) (x : Bool) (i k : ℕ) → i ≡ k
    → UnderWay whole now count (ends_left F s n x (64 * i)) → UnderWay whole now count (ends_left F s n x (64 * k))
passed whole now count F s n x i k e u = subst (λ (j : ℕ). UnderWay whole now count (ends_left F s n x (64 * j))) e u

module _ (whole now : List ℤ) (count : ℕ) (F : List Bool) (s n : ℕ) (x : Bool) (at : ℕ)
    (u : UnderWay whole now count (ends_left F s n x at)) (w c : ℕ)
    (p : word_flags w ≡ window F (s + at) 64) (q : word_flags c ≡ changes x (word_flags w)) where
  pub word-room : at + 64 ≤ n → count + length (set_places at c) ≤ length now
  word-room h =
      let y = get_or (word_flags w) 63 false in
      omega (arith, u.room, ap length (word-left F s n x at w c h p q), length-append (set_places at c) (ends_left F s n y (at + 64)))

  pub word-on : at + 64 ≤ n → (next : List ℤ) (r to : ℕ) → next ≡ put_from now count (set_places at c)
      → r ≡ count + length (set_places at c) → at + 64 ≡ to → UnderWay whole next r (ends_left F s n (get_or (word_flags w) 63 false) to)
  word-on h next r to e t f =
      let y = get_or (word_flags w) 63 false in
      subst (λ (k : ℕ). UnderWay whole next r (ends_left F s n y k)) f
      (part-on whole now count _ (set_places at c) (ends_left F s n y (at + 64)) next r u (word-left F s n x at w c h p q) e t)

  -- the last word, and the end of the list after it
  module _ (last : ℕ) (t : word_flags last ≡ window (take (n - at) (word_flags c)) 0 64) (h : at ≤ n) (k : n - at ≤ 64) where
    pub last-room : count + length (set_places at last) ≤ length now
    last-room =
        omega (arith, u.room, ap length (last-left F s n x at w c last h k p q t), length-append (set_places at last) (pos n ∷ []))

    pub last-on : (next : List ℤ) (r : ℕ) → next ≡ put_from now count (set_places at last) → r ≡ count + length (set_places at last)
        → UnderWay whole next r (pos n ∷ [])
    last-on next r e f =
        part-on whole now count _ (set_places at last) (pos n ∷ []) next r u (last-left F s n x at w c last h k p q t) e f

    pub last-written : (next end : List ℤ) (r : ℕ) → next ≡ put_from now count (set_places at last)
        → r ≡ count + length (set_places at last) → end ≡ set next r (pos n) → end ≡ whole
    last-written next end r e f g =
        finished whole end (r + 1) [] (one-on whole next r (pos n ∷ []) (pos n) [] end (last-on next r e f) refl g) refl
