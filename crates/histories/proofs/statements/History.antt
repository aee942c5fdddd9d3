-- Histories: lists of calls, the state in which they end, and the reference list kept with them.
--
-- A step is made of the definitions that the contracts cite. The reference list gets the arguments of the calls, except the
-- history's own record and bytes, and which calls were refused; its words are those of `ReferenceList` and of the rows. A table
-- lists the calls that make a mask from masks: codes, and the row of each code.
use Rattle.std.specs.Prelude.{ℕ, Bool, true, false, cond, List, [], ◌∷◌, ◌++◌, Option, Some, None}
use Rattle.masks.specs.equations.Answer.{Answer, given, refused, checked}
use Rattle.masks.specs.equations.Appends.{Append, append_answer, append_bytes}
use Rattle.masks.specs.Builder.{Filling, builder_under, filling}
use Rattle.masks.specs.equations.Freeze.{freeze_bytes, freeze_of, into_opt_validity_of}
use Rattle.masks.specs.Mask.{mask_checks}
use Rattle.masks.specs.equations.Mask.{try_new_of}
use Rattle.masks.specs.declared.bitmap.Bitmap.{Bitmap}
use Rattle.masks.specs.declared.builder.BitmapBuilder.{BitmapBuilder}
use Rattle.histories.specs.ReferenceList.{added, flags_in, span_flags}
use Rattle.histories.specs.Rows.{Argument, own, other, Lent, RowCall, Tuple, Writes, each, keep, with_bytes, write}

-- ---- the calls, with their arguments except the history's own record and bytes

pub data Call (Code : Type 0) : Type 0 where
  -- bytes, start and length
  try_new : List ℕ → ℕ → ℕ → Call Code
  append : Append → Call Code
  freeze : Call Code
  into_opt_validity : Call Code
  -- a call of the table, which makes a mask from masks
  make : Code → Call Code

-- ---- the state that calls leave

-- `waiting`: no span is accepted yet; a builder with its buffer; a mask with its bytes; no mask, after the none of `into_opt_validity`
pub data State : Type 0 where
  waiting : State
  building : Filling → State
  masked : Bitmap → List ℕ → State
  no_mask : State

-- a history begins with a new builder under any serial and any buffer, with `try_new` calls up to the first accepted one, or an import
pub data Start : Type 0 where
  from_builder : ℕ → List ℕ → Start
  from_span : Start
  from_mask : Bitmap → List ℕ → Start

-- the state after a call, and whether the call was accepted
pub record Outcome : Type 0 where
  pub state : State
  pub accepted : Bool

abbrev pub outcome : State → Bool → Outcome
outcome s t = record { state = s; accepted = t }

-- ---- calls on a builder

abbrev pub after_append : List ℕ → Answer BitmapBuilder BitmapBuilder → Outcome
after_append bytes (given b) = outcome (building (filling b bytes)) true
after_append bytes (refused k b) = outcome (building (filling b bytes)) false

abbrev pub after_freeze : List ℕ → Answer BitmapBuilder Bitmap → Outcome
after_freeze bytes (given m) = outcome (masked m bytes) true
after_freeze bytes (refused k b) = outcome (building (filling b bytes)) false

abbrev pub after_validity : List ℕ → Answer BitmapBuilder (Option Bitmap) → Outcome
after_validity bytes (given (Some m)) = outcome (masked m bytes) true
after_validity bytes (given None) = outcome no_mask true
after_validity bytes (refused k b) = outcome (building (filling b bytes)) false

-- ---- `try_new`, and calls on a mask

abbrev pub after_try : List ℕ → Answer (Unit {0}) Bitmap → Outcome
after_try bytes (given m) = outcome (masked m bytes) true
after_try bytes (refused k s) = outcome waiting false

-- a call that stays in its mask's bytes
abbrev pub after_kept : List ℕ → Answer Bitmap Bitmap → Outcome
after_kept bytes (given m) = outcome (masked m bytes) true
after_kept bytes (refused k m) = outcome (masked m bytes) false

-- a call that writes; a refused one leaves the history's own mask unchanged
abbrev pub after_written : Bitmap → List ℕ → List ℕ → Answer (Unit {0}) Bitmap → Outcome
after_written m bytes out (given r) = outcome (masked r out) true
after_written m bytes out (refused k s) = outcome (masked m bytes) false

-- the answer and the bytes of a row's call, if the history's own mask is m
abbrev pub lent_at : Bitmap → List ℕ → Argument → Lent
lent_at m bytes own = with_bytes m bytes
lent_at m bytes (other n its) = with_bytes n its

abbrev pub written_answer : Bitmap → List ℕ → (r : Writes) → Tuple Argument r.masks → Answer (Unit {0}) Bitmap
written_answer m bytes r a = r.answer (each (lent_at m bytes) r.masks a)

abbrev pub written_bytes : Bitmap → List ℕ → (r : Writes) → Tuple Argument r.masks → List ℕ
written_bytes m bytes r a = r.bytes (each (lent_at m bytes) r.masks a)

abbrev pub step_row : Bitmap → List ℕ → RowCall → Outcome
step_row m bytes (keep r) = after_kept bytes (r.answer m bytes)
step_row m bytes (write r a) = after_written m bytes (written_bytes m bytes r a) (written_answer m bytes r a)

-- ---- where a history begins

-- each call's checks of a mask apply to an imported mask; if one fails, the mask is no start and the state is `waiting`
abbrev pub start_of : Start → State
start_of (from_builder serial buf) = building (filling (builder_under serial 0 0 0) buf)
start_of from_span = waiting
start_of (from_mask m bytes) = (after_try bytes (checked (mask_checks m bytes) tt m)).state

-- ---- one call, a list of calls, and what the reference list gets of them

-- a call that does not fit the state is not accepted and leaves the state unchanged
abbrev pub step_waiting : {Code : Type 0} → Call Code → Outcome
step_waiting (try_new bytes start n) = after_try bytes (try_new_of bytes start n)
step_waiting (append a) = outcome waiting false
step_waiting freeze = outcome waiting false
step_waiting into_opt_validity = outcome waiting false
step_waiting (make c) = outcome waiting false

abbrev pub step_builder : {Code : Type 0} → BitmapBuilder → List ℕ → Call Code → Outcome
step_builder b buf (try_new bytes start n) = outcome (building (filling b buf)) false
step_builder b buf (append a) = after_append (append_bytes a b buf) (append_answer a b buf)
step_builder b buf freeze = after_freeze (freeze_bytes b buf) (freeze_of b buf)
step_builder b buf into_opt_validity = after_validity (freeze_bytes b buf) (into_opt_validity_of b buf)
step_builder b buf (make c) = outcome (building (filling b buf)) false

abbrev pub step_mask : {Code : Type 0} → (Code → RowCall) → Bitmap → List ℕ → Call Code → Outcome
step_mask call_of m bytes (try_new its start n) = outcome (masked m bytes) false
step_mask call_of m bytes (append a) = outcome (masked m bytes) false
step_mask call_of m bytes freeze = outcome (masked m bytes) false
step_mask call_of m bytes into_opt_validity = outcome (masked m bytes) false
step_mask call_of m bytes (make c) = step_row m bytes (call_of c)

abbrev pub step : {Code : Type 0} → (Code → RowCall) → State → Call Code → Outcome
step call_of waiting c = step_waiting c
step call_of (building f) c = step_builder f.builder f.bytes c
step call_of (masked m bytes) c = step_mask call_of m bytes c
step call_of no_mask c = outcome no_mask false

abbrev pub run : {Code : Type 0} → (Code → RowCall) → State → List (Call Code) → State
run call_of s [] = s
run call_of s (c ∷ cs) = run call_of (step call_of s c).state cs

-- a call's arguments, and whether it was accepted
pub record Fed (Code : Type 0) : Type 0 where
  pub call : Call Code
  pub accepted : Bool

abbrev pub fed : {Code : Type 0} → Call Code → Bool → Fed Code
fed c t = record { call = c; accepted = t }

abbrev pub trace : {Code : Type 0} → (Code → RowCall) → State → List (Call Code) → List (Fed Code)
trace call_of s [] = []
trace call_of s (c ∷ cs) = fed c (step call_of s c).accepted ∷ trace call_of (step call_of s c).state cs

-- ---- the reference list

-- the list takes the place of the history's own mask; other masks contribute the flags in their bytes
abbrev pub flags_at : List Bool → Argument → List Bool
flags_at l own = l
flags_at l (other m bytes) = flags_in m bytes

abbrev pub written_flags : List Bool → (r : Writes) → Tuple Argument r.masks → List Bool
written_flags l r a = r.flags (each (flags_at l) r.masks a)

abbrev pub row_flags : List Bool → RowCall → List Bool
row_flags l (keep r) = r.flags l
row_flags l (write r a) = written_flags l r a

-- the list after an accepted call
abbrev pub list_after : {Code : Type 0} → (Code → RowCall) → List Bool → Call Code → List Bool
list_after call_of l (try_new bytes start n) = span_flags bytes start n
list_after call_of l (append a) = l ++ added a
list_after call_of l freeze = l
list_after call_of l into_opt_validity = l
list_after call_of l (make c) = row_flags l (call_of c)

-- a refused call leaves the list unchanged
abbrev pub list_step : {Code : Type 0} → (Code → RowCall) → List Bool → Fed Code → List Bool
list_step call_of l s = cond s.accepted (list_after call_of l s.call) l

abbrev pub reference : {Code : Type 0} → (Code → RowCall) → List Bool → List (Fed Code) → List Bool
reference call_of l [] = l
reference call_of l (s ∷ ss) = reference call_of (list_step call_of l s) ss

-- ---- a history: where it begins, and its calls, refused ones included

pub record History (Code : Type 0) : Type 0 where
  pub start : Start
  pub calls : List (Call Code)

abbrev pub end_of : {Code : Type 0} → (Code → RowCall) → History Code → State
end_of call_of h = run call_of (start_of h.start) h.calls

-- the list begins empty, or with the flags in the imported mask's bytes; the flags of an accepted span replace it
abbrev pub first_list : Start → List Bool
first_list (from_builder serial buf) = []
first_list from_span = []
first_list (from_mask m bytes) = flags_in m bytes

abbrev pub list_of : {Code : Type 0} → (Code → RowCall) → History Code → List Bool
list_of call_of h = reference call_of (first_list h.start) (trace call_of (start_of h.start) h.calls)
