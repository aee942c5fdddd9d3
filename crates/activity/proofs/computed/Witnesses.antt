-- The rows of `proofs/tables/Witnesses.antt`, by computation.
use Rattle.std.proofs.Common.{◌≡◌, refl, ap, Bool, true, false, cond}
use Rattle.std.specs.Fmt.{digits}
use Rattle.words.specs.Flags.{bits, count}
use Rattle.words.specs.Columns.{column, columns_from, column_counts}
use Rattle.activity.specs.Checks.{width_fits, place_fits, inside_fits, numbers_fit, all_zero, same_numbers, words_fit, left_by_minutes}
use Rattle.activity.specs.Window.{zeros, no_minute, minute_on, accepted, refused, uncounted, new_of, push_of, counts_of}
use Rattle.activity.proofs.tables.Witnesses.{Refused, Accepted, Witnessed}
use Rattle.activity.specs.declared.window.ActivityWindow.{ActivityWindow}

-- a record that does not pass the check is refused
bad : (a : ActivityWindow) → left_by_minutes a ≡ false → Refused a
unfolding push_of counts_of
bad a h =
    record {
      push = λ w. ap (λ (t : Bool). cond t (accepted (minute_on a w)) (refused a)) h;
      counts = ap (λ (t : Bool). cond t (accepted a.counts) uncounted) h;
    }

good : (a : ActivityWindow) → left_by_minutes a ≡ true → Accepted a
unfolding push_of counts_of
good a h =
    record {
      push = ap (λ (t : Bool). (cond t (accepted (minute_on a 0)) (refused a)).refusal) h;
      counts = ap (λ (t : Bool). cond t (accepted a.counts) uncounted) h;
    }

pub witnessed : Witnessed
unfolding
    no_minute new_of push_of counts_of width_fits place_fits inside_fits numbers_fit all_zero same_numbers words_fit left_by_minutes
    zeros bits count column columns_from column_counts digits
witnessed =
    record {
      new_0 = refl;
      new_1 = refl;
      new_256 = refl;
      new_257 = refl;
      new_largest = refl;
      new-window = refl;
      new-number = refl;
      push-number = refl;
      counts-number = refl;
      no_number = refl;
      counted-number = refl;
      lent-window = refl;
      lent-numbers = refl;
      read-ok = λ a. refl;
      read-refused = λ a. refl;
      passed = λ n. refl;
      failed = refl;
      text = refl;
      width_0 = bad _ refl;
      width_257 = bad _ refl;
      width_largest = bad _ refl;
      left = good _ refl;
      one-minute = good _ refl;
      place-at-width = bad _ refl;
      place_largest = bad _ refl;
      fill-above = bad _ refl;
      fill_largest = bad _ refl;
      place-not-fill = bad _ refl;
      stray_below-width = bad _ refl;
      stray_behind-width = bad _ refl;
      stray_last = bad _ refl;
      count-more = bad _ refl;
      count_less = bad _ refl;
      count-last = bad _ refl;
      count_largest = bad _ refl;
    }
