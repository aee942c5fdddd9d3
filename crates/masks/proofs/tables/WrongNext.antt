-- Wrong answers that the contract of `next_and_not` rules out.
--
-- Rows as in `WrongAnswers` of words: the definition at one input, its value, and two answers of a faulty call.
use Rattle.std.specs.Prelude.{ℕ, List, [], ◌∷◌, Some, None}
use Rattle.masks.specs.declared.next_and_not.NextFlag.{NextFlag}
use Rattle.masks.specs.equations.Answer.{given, refused}
use Rattle.masks.specs.Mask.{mask_of}
use Rattle.masks.specs.equations.NextAndNot.{next_and_not_of}
use Rattle.masks.proofs.tables.WrongMasks.{Tried}
use Rattle.masks.specs.declared.bitmap.Bitmap.{Bitmap}

-- ---- inputs: masks of 40 flags, with ones after them

-- set at 3, 35 and 38
abbrev pub some40 : Bitmap
some40 = mask_of 0 40 None

abbrev pub some40_bytes : List ℕ
some40_bytes = 0x08 ∷ 0 ∷ 0 ∷ 0 ∷ 0x48 ∷ 0xFF ∷ []

-- set at 3 and 38, starting at flag 2
abbrev pub taken40 : Bitmap
taken40 = mask_of 2 40 None

abbrev pub taken40_bytes : List ℕ
taken40_bytes = 0x20 ∷ 0 ∷ 0 ∷ 0 ∷ 0 ∷ 0x01 ∷ []

abbrev pub at : ℕ → ℕ → NextFlag
at p k = record { position = Some p; windows = k }

abbrev pub nowhere : ℕ → NextFlag
nowhere k = record { position = None; windows = k }

pub record WrongNext : Type 0 where
  -- `next_and_not` from 4: 35 is the last flag of the window at 4
  pub ahead : Tried (next_and_not_of some40 some40_bytes (Some taken40) taken40_bytes 4)
      (given (at 35 1))
      -- windows counted from 0
      (given (at 35 2))
      -- the first mask's first flag, whatever the place
      (given (at 3 1))
  -- `next_and_not` from 36: past 38, and round to 35 in the window that the place cuts
  pub round : Tried (next_and_not_of some40 some40_bytes (Some taken40) taken40_bytes 36)
      (given (at 35 3))
      -- a second round that stops at the place's window
      (given (nowhere 2))
      -- the second mask ignored
      (given (at 38 1))
  -- `next_and_not` from 32 of flags that are all taken away
  pub nothing : Tried (next_and_not_of some40 some40_bytes (Some some40) some40_bytes 32)
      (given (nowhere 2))
      -- one window too many at a place divisible by 32
      (given (nowhere 3))
      -- the flags past the end searched
      (given (at 40 1))
  -- `next_and_not` from 36 with no second mask
  pub alone : Tried (next_and_not_of some40 some40_bytes None [] 36)
      (given (at 38 1))
      -- an absent second mask taken for all ones
      (given (nowhere 3))
      -- the bytes of the absent mask checked
      (refused 2 tt)
  -- `next_and_not` from 40, the length: round to 35
  pub at_length : Tried (next_and_not_of some40 some40_bytes (Some taken40) taken40_bytes 40)
      (given (at 35 2))
      -- a place at the length refused
      (refused 6 tt)
      -- no second round
      (given (nowhere 0))
  -- `next_and_not` from 41
  pub outside : Tried (next_and_not_of some40 some40_bytes None [] 41)
      (refused 6 tt)
      -- a place above the length taken for the length
      (given (at 3 1))
      -- check 1 applied to a place
      (refused 1 tt)
