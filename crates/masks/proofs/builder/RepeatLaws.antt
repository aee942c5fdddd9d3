-- Flags that are each repeated k times, and the exact product of their number and k. For `append_repeated` and its checks.
use Rattle.std.proofs.lemmas.Bool.{cases_lt}
use mathlib.Core.Path.{◌≡◌, refl, sym, ap, ◌∙◌}
use mathlib.Core.Bool.{Bool, false}
use mathlib.Core.List.{List, [], ◌∷◌, ◌++◌, append_assoc, append-nil}
use mathlib.Core.Logic.{⊎_elim}
use Prim.Native.Nat.{ℕ, suc, ◌+◌, ◌-◌, ◌*◌, ◌^◌, ◌≤◌, ◌<◌, min}
use native.Mathlib.Nat.{zero-mul, suc-mul, mul-le-mul_right}
use native.Mathlib.Omega.{arith}
use lib.ListN.{length, get_or, length-append}
use borrow.Author.Tests.{lt-leb}
use Rattle.words.specs.Flags.{copies, window}
use Rattle.words.proofs.flags.Windows.{length-copies, length-window, window-add}
use Rattle.masks.specs.Appends.{repeated, grow_checks}
use Rattle.masks.specs.Builder.{Filling, appended}
use Rattle.masks.specs.Checks.{first_failed, limit}
use Rattle.masks.specs.Workers.{Room}
use Rattle.masks.specs.declared.builder.BitmapBuilder.{BitmapBuilder}
use Rattle.masks.proofs.builder.AppendLaws.{append-then}
use Rattle.masks.proofs.builder.RoomLaws.{room_after, over-limit}

-- ---- repeated flags

repeated-append : (k : ℕ) (a b : List Bool) → repeated k (a ++ b) ≡ repeated k a ++ repeated k b
unfolding repeated
repeated-append k [] b = refl
repeated-append k (x ∷ a) b =
    ap (λ (t : List Bool). copies k x ++ t) (repeated-append k a b) ∙ sym (append_assoc (copies k x) (repeated k a) (repeated k b))

pub length-repeated : (k : ℕ) (l : List Bool) → length (repeated k l) ≡ length l * k
unfolding repeated
length-repeated k [] = sym (zero-mul k)
length-repeated k (x ∷ l) =
    let ih : length (repeated k l) ≡ length l * k = length-repeated k l in
    omega (arith, length-append (copies k x) (repeated k l), length-copies k x, suc-mul (length l) k)

repeated-none : (l : List Bool) → repeated 0 l ≡ []
unfolding repeated copies
repeated-none [] = refl
repeated-none (x ∷ l) = repeated-none l

repeated-once : (l : List Bool) → repeated 1 l ≡ l
unfolding repeated copies
repeated-once [] = refl
repeated-once (x ∷ l) = ap (λ (t : List Bool). x ∷ t) (repeated-once l)

pub no-repeats : (k : ℕ) (l : List Bool) → k ≡ 0 → [] ≡ repeated k l
no-repeats k l e = sym (ap (λ (x : ℕ). repeated x l) e ∙ repeated-none l)

pub one-repeat : (k : ℕ) (l : List Bool) → k ≡ 1 → l ≡ repeated k l
one-repeat k l e = sym (ap (λ (x : ℕ). repeated x l) e ∙ repeated-once l)

pub nothing_yet : (k : ℕ) (l : List Bool) (s : ℕ) → [] ≡ repeated k (window l s 0)
unfolding repeated window
nothing_yet k l s = refl

one-repeated : (k : ℕ) (l : List Bool) (s : ℕ) → repeated k (window l s 1) ≡ copies k (get_or l s false)
unfolding repeated window
one-repeated k l s = append-nil (copies k (get_or l s false))

-- appending one more flag, repeated
pub runs-step : (f g h : Filling) (l : List Bool) (s i k : ℕ) (x : Bool) → g ≡ appended f (repeated k (window l s i))
    → x ≡ get_or l (s + i) false → h ≡ appended g (copies k x)
    → h ≡ appended f (repeated k (window l s (i + 1)))
runs-step f g h l s i k x p q r =
    append-then f g h (repeated k (window l s i)) (copies k x) p r
    ∙ ap (appended f) (ap (λ (t : List Bool). repeated k (window l s i) ++ t) (ap (copies k) q ∙ sym (one-repeated k l (s + i)))
    ∙ sym (ap (repeated k) (window-add l s i 1) ∙ repeated-append k (window l s i) (window l (s + i) 1)))

pub runs-room : (f g : Filling) (l : List Bool) (s i n k : ℕ) → g ≡ appended f (repeated k (window l s i)) → i < n
    → Room f.builder (n * k) (length f.bytes)
    → Room g.builder k (length g.bytes)
runs-room f g l s i n k e h r =
    let more : suc i * k ≤ n * k = mul-le-mul_right k h in
    let long : length (repeated k (window l s i)) ≡ i * k =
    length-repeated k (window l s i) ∙ ap (λ (x : ℕ). x * k) (length-window l s i) in
    room_after f g (repeated k (window l s i)) (n * k) k e (omega (arith, suc-mul i k)) r

-- ---- the product, or the largest number if it does not fit: the checks of the builder have the same number for both

too_long_lem : (b : BitmapBuilder) (n size : ℕ) → limit < n → 1 ≡ first_failed (grow_checks b n size)
too_long_lem b n size h = over-limit b n size (lt-leb (b.length + n) limit (omega arith))

pub exact-product : (b : BitmapBuilder) (r p size c : ℕ) → r ≡ min p (2 ^ 64 - 1) → c ≡ first_failed (grow_checks b r size)
    → c ≡ first_failed (grow_checks b p size)
exact-product b r p size c e h = h ∙ ⊎_elim
    (λ (q : 2 ^ 64 - 1 < p). sym (too_long_lem b r size (omega arith)) ∙ too_long_lem b p size (omega arith))
    (λ (q : p ≤ 2 ^ 64 - 1). let same : r ≡ p = omega arith in ap (λ (x : ℕ). first_failed (grow_checks b x size)) same)
    (cases_lt (2 ^ 64 - 1) p)
