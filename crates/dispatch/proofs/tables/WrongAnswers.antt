-- Wrong answers that the contract of `may_reassign` rules out.
--
-- Rows as in `WrongAnswers` of words: the definition at one input, its value there, and two answers of a faulty call.
use Rattle.std.specs.Prelude.{true, false, [], Some, None}
use Rattle.masks.specs.equations.Answer.{given, refused}
use Rattle.masks.specs.Mask.{with_count}
use Rattle.masks.proofs.tables.WrongMasks.{Tried, left, left_bytes, right, right_bytes}
use Rattle.dispatch.specs.equations.Reassign.{may_reassign}

-- the permission 1,1,0,0 and the revocation 1,0,1,0, which begins at flag 2
pub record WrongAnswers : Type 0 where
  -- `may_reassign` of truck 0
  pub with-both : Tried (may_reassign (Some left) left_bytes (Some right) right_bytes 0)
      (given false)
      -- the revocation ignored
      (given true)
      -- trucks counted from 1
      (refused 6 tt)
  -- `may_reassign` of truck 1, which is not revoked, with no permission mask
  pub with-revocation : Tried (may_reassign None [] (Some right) right_bytes 1)
      (given false)
      -- an absent permission taken for all ones
      (given true)
      -- the bytes of the absent permission checked
      (refused 2 tt)
  -- `may_reassign` of truck 9 with no mask
  pub with_none : Tried (may_reassign None [] None [] 9)
      (given false)
      -- yes if both masks are absent
      (given true)
      -- the truck checked against the length of no mask
      (refused 6 tt)
  -- `may_reassign` of truck 0 with no revocation mask
  pub with-permission : Tried (may_reassign (Some left) left_bytes None [] 0)
      (given true)
      -- an absent revocation taken for all ones
      (given false)
      -- the bytes of the absent revocation checked
      (refused 2 tt)
  -- `may_reassign` of truck 4
  pub behind_the_end : Tried (may_reassign (Some left) left_bytes (Some right) right_bytes 4)
      (refused 6 tt)
      -- the flags after the end read
      (given false)
      -- lengths compared with the truck's number
      (refused 5 tt)
  -- `may_reassign` of truck 0, the revocation's count one too many: it has two zeros
  pub stale_count : Tried (may_reassign (Some left) left_bytes (Some (with_count right (Some 3))) right_bytes 0)
      (refused 3 tt)
      -- the count checked against the length only
      (given false)
      -- only the count of the permission mask checked, and the revocation ignored
      (given true)
