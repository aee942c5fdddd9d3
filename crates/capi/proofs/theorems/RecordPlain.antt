-- The statements of `proofs/statements/RecordPlain.antt`, by computation and by whether a number is 0.
use Rattle.std.specs.Prelude.{Option, Some, None}
use Rattle.std.proofs.Common.{ℕ, ◌≡◌, refl, ap, Bool, not, cond, eqb, List}
use borrow.Author.Tests.{ne_eqb}
use Rattle.words.specs.Flags.{digit}
use Rattle.masks.specs.declared.bitmap.Bitmap.{Bitmap}
use Rattle.masks.specs.declared.builder.BitmapBuilder.{BitmapBuilder}
use Rattle.masks.specs.declared.chunks.BitChunks.{BitChunks}
use Rattle.masks.specs.declared.iterator.BitmapIter.{BitmapIter}
use Rattle.masks.specs.declared.slice_iterator.SlicesIterator.{SlicesIterator}
use Rattle.masks.specs.declared.true_idx.TrueIdxIter.{TrueIdxIter}
use Rattle.capi.specs.Records.{builder_in, builder_out, chunks_out, count_in, iter_out, mask_in, mask_out, mask_with, optional_in}
use Rattle.capi.specs.Records.{serial_builder_in, slices_out, true_in, true_out}
use Rattle.capi.specs.Window.{unless_refused, window_in}
use Rattle.capi.specs.declared.records.Mask.{Mask}
use Rattle.capi.proofs.statements.RecordPlain.{BuilderIn, BuilderOut, ChunksOut, IterOut, MaskIn, MaskOut, OptionalIn, RecordPlain}
use Rattle.capi.proofs.statements.RecordPlain.{SlicesOut, TrueIn, TrueOut, UnlessRefused, WindowIn}

mask-in : (m : Mask) → MaskIn m
unfolding mask_in count_in
mask-in m =
    record {
      start = refl;
      length = refl;
      unknown = λ e. ap (λ (k : ℕ). cond (eqb k 0) None (Some m.zeros)) e;
      known = λ h. ap (λ (x : Bool). cond x None (Some m.zeros)) (ne_eqb m.known 0 h);
      serial = refl;
    }

module _ (serial start n : ℕ) where
  with-start : (u : Option ℕ) → (mask_with serial start n u).start ≡ start
  with-start (Some z) = refl
  with-start None = refl

  with-length : (u : Option ℕ) → (mask_with serial start n u).length ≡ n
  with-length (Some z) = refl
  with-length None = refl

  with-serial : (u : Option ℕ) → (mask_with serial start n u).serial ≡ serial
  with-serial (Some z) = refl
  with-serial None = refl

mask-out : (m : Bitmap) → MaskOut m
unfolding mask_out
mask-out m =
    record {
      start = with-start m.serial m.start m.length m.unset;
      length = with-length m.serial m.start m.length m.unset;
      known-zeros = λ n e. ap (λ (u : Option ℕ). (mask_with m.serial m.start m.length u).zeros) e;
      known-known = λ n e. ap (λ (u : Option ℕ). (mask_with m.serial m.start m.length u).known) e;
      unknown-zeros = λ e. ap (λ (u : Option ℕ). (mask_with m.serial m.start m.length u).zeros) e;
      unknown-known = λ e. ap (λ (u : Option ℕ). (mask_with m.serial m.start m.length u).known) e;
      serial = with-serial m.serial m.start m.length m.unset;
    }

optional-in : (m : Mask) → OptionalIn m
unfolding optional_in
optional-in m = record { present = refl; absent = refl }

builder-in : (n word ones serial : ℕ) → BuilderIn n word ones serial
unfolding builder_in serial_builder_in
builder-in n word ones serial =
    record {
      append-length = refl;
      append-word = refl;
      append-ones = refl;
      append-serial = refl;
      kept-length = refl;
      kept-word = refl;
      kept-ones = refl;
      kept-serial = refl;
    }

builder-out : (b : BitmapBuilder) → BuilderOut b
unfolding builder_out
builder-out b = record { length = refl; word = refl; ones = refl }

chunks-out : (c : BitChunks) → ChunksOut c
unfolding chunks_out
chunks-out c = record { start = refl; length = refl; place = refl; masked = refl; step = refl }

slices-out : (c : SlicesIterator) → SlicesOut c
unfolding slices_out
slices-out c = record { start = refl; length = refl; place = refl; masked = refl; step = refl }

iter-out : (c : BitmapIter) → IterOut c
unfolding iter_out
iter-out c = record { start = refl; length = refl; place = refl; masked = refl; step = refl }

true-out : (c : TrueIdxIter) → TrueOut c
unfolding true_out
true-out c =
    record {
      start = refl;
      length = refl;
      place = refl;
      with-masked = λ e. ap digit e;
      without-masked = λ e. ap digit e;
      step = refl;
    }

true-in : (start n place masked : ℕ) → TrueIn start n place masked
unfolding true_in
true-in start n place masked =
    record {
      begin = refl;
      length = refl;
      at = refl;
      with = λ h. ap not (ne_eqb masked 0 h);
      without = λ e. ap (λ (k : ℕ). not (eqb k 0)) e;
    }

window-in : (words counts : List ℕ) (place fill width : ℕ) → WindowIn words counts place fill width
unfolding window_in
window-in words counts place fill width = record { kept = refl; counted = refl; at = refl; filled = refl; wide = refl }

unless-refused : (came new : List ℕ) → UnlessRefused came new
unfolding unless_refused
unless-refused came new =
    record {
      accepted = refl;
      refused = λ k h. ap (λ (x : Bool). cond x new came) (ne_eqb k 0 h);
    }

pub record-plain : RecordPlain
record-plain =
    record {
      mask_in = mask-in;
      mask_out = mask-out;
      optional_in = optional-in;
      builder_in = builder-in;
      builder_out = builder-out;
      chunks_out = chunks-out;
      slices_out = slices-out;
      iter_out = iter-out;
      true_out = true-out;
      true_in = true-in;
      window_in = window-in;
      unless_refused = unless-refused;
    }
