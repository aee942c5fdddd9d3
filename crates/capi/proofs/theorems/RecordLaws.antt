-- A record of masks that is returned to C and passed back is unchanged: nothing of it is lost.
use Rattle.std.specs.Prelude.{Option, Some, None}
use Rattle.std.proofs.Common.{◌≡◌, refl, ap, ◌∙◌, Bool, true, false, List, ℕ, zero, suc}
use Rattle.masks.specs.equations.Answer.{checked, decided, kept}
use Rattle.masks.specs.equations.Appends.{Append, push_flag, extend_constant, push_word, extend_slice, extend_repeated, extend_bitmap}
use Rattle.masks.specs.equations.Appends.{extend_gather}
use Rattle.masks.specs.Appends.{constant_checks, gather_checks}
use Rattle.masks.specs.equations.Appends.{extend_opt_gather, append_answer, append_bytes, append_checks, append_flags}
use Rattle.masks.specs.Appends.{span_grow_checks, subslice_checks, word_checks}
use Rattle.masks.specs.Builder.{appended, builder_checks, filling, in_progress, possible}
use Rattle.masks.specs.Checks.{Check, first_failed}
use Rattle.masks.specs.Chunks.{chunks_at}
use Rattle.masks.specs.Iterator.{iter_at}
use Rattle.masks.specs.Mask.{mask_under}
use Rattle.masks.specs.SliceIterator.{slices_at}
use Rattle.masks.specs.TrueIdx.{true_at}
use Rattle.masks.specs.declared.bitmap.Bitmap.{Bitmap}
use Rattle.masks.specs.declared.builder.BitmapBuilder.{BitmapBuilder}
use Rattle.masks.specs.declared.chunks.BitChunks.{BitChunks}
use Rattle.masks.specs.declared.iterator.BitmapIter.{BitmapIter}
use Rattle.masks.specs.declared.slice_iterator.SlicesIterator.{SlicesIterator}
use Rattle.masks.specs.declared.true_idx.TrueIdxIter.{TrueIdxIter}
use Rattle.capi.specs.Answers.{as_builder, builder_answer}
use Rattle.capi.specs.Records.{builder_in, builder_out, chunks_out, count_in, iter_out, mask_in, mask_out, mask_with, serial_builder_in}
use Rattle.capi.specs.Records.{slices_out, true_in, true_out}

mask-with : (serial start n : ℕ) (u : Option ℕ) → mask_in (mask_with serial start n u) ≡ mask_under serial start n u
unfolding mask_in count_in
mask-with serial start n (Some z) = refl
mask-with serial start n None = refl

pub mask-back : (m : Bitmap) → mask_in (mask_out m) ≡ m
unfolding mask_out
mask-back m = mask-with m.serial m.start m.length m.unset

-- a builder that is returned and passed back with the serial that the caller kept is unchanged
pub builder-back : (b : BitmapBuilder) → serial_builder_in (builder_out b).length (builder_out b).word (builder_out b).ones b.serial ≡ b
unfolding serial_builder_in builder_out
builder-back b = refl

-- ---- an append returns the same numbers and bytes whatever the serial is: so the serial need not be passed

as-builder : (k : ℕ) (s t x y : BitmapBuilder) → builder_out s ≡ builder_out t → builder_out x ≡ builder_out y
    → as_builder (decided k s x) ≡ as_builder (decided k t y)
unfolding decided as_builder
as-builder zero s t x y e h = ap (builder_answer 0) h
as-builder (suc k) s t x y e h = ap (builder_answer (suc k)) e

module _ (n word ones serial : ℕ) (buf : List ℕ) where
  checks-apart : (a : Append) → append_checks a (serial_builder_in n word ones serial) buf ≡ append_checks a (builder_in n word ones) buf
  unfolding serial_builder_in builder_in builder_checks possible constant_checks word_checks span_grow_checks subslice_checks gather_checks
  checks-apart (push_flag x) = refl
  checks-apart (extend_constant m x) = refl
  checks-apart (push_word w m) = refl
  checks-apart (extend_slice bytes start m) = refl
  checks-apart (extend_repeated bytes start m k) = refl
  checks-apart (extend_bitmap mask bytes start m) = refl
  checks-apart (extend_gather bytes start m idxs) = refl
  checks-apart (extend_opt_gather bytes start m idxs) = refl

  pub answer-apart : (a : Append) → as_builder (append_answer a (serial_builder_in n word ones serial) buf)
      ≡ as_builder (append_answer a (builder_in n word ones) buf)
  unfolding serial_builder_in builder_in builder_out appended in_progress
  answer-apart a =
      let own = serial_builder_in n word ones serial in
      ap (λ (cs : List Check). as_builder (checked cs own (appended (filling own buf) (append_flags a)).builder)) (checks-apart a)
      ∙ as-builder (first_failed (append_checks a (builder_in n word ones) buf)) own (builder_in n word ones) _ _ refl refl

  pub bytes_apart : (a : Append) → append_bytes a (serial_builder_in n word ones serial) buf ≡ append_bytes a (builder_in n word ones) buf
  unfolding serial_builder_in builder_in appended in_progress
  bytes_apart a =
      ap (λ (cs : List Check). kept (first_failed cs) (appended (filling (builder_in n word ones) buf) (append_flags a)).bytes buf)
      (checks-apart a)

pub chunks-back : (c : BitChunks) → chunks_at (chunks_out c).start (chunks_out c).length (chunks_out c).place ≡ c
unfolding chunks_out
chunks-back c = refl

pub slices-back : (c : SlicesIterator) → slices_at (slices_out c).start (slices_out c).length (slices_out c).place ≡ c
unfolding slices_out
slices-back c = refl

pub iter-back : (c : BitmapIter) → iter_at (iter_out c).start (iter_out c).length (iter_out c).place ≡ c
unfolding iter_out
iter-back c = refl

true-with : (start n place : ℕ) (masked : Bool)
    → true_in start n place (true_out (true_at start n place masked)).masked ≡ true_at start n place masked
unfolding true_in true_out
true-with start n place true = refl
true-with start n place false = refl

pub true-back : (c : TrueIdxIter) → true_in (true_out c).start (true_out c).length (true_out c).place (true_out c).masked ≡ c
unfolding true_out
true-back c = true-with c.start c.length c.place c.masked
