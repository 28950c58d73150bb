-- The calls of a medium, as its list of calls has them.
use Rattle.std.specs.Prelude.{ℕ, List, ◌==◌, slice_index, if◌then◌else◌, length, Result, Ok, Err}

-- a call and what came of it
pub data MediumCall : Type 0 where
  -- all that was written before the file was opened is made sure of
  Settled : MediumCall
  Gave : (at : ℕ) (bytes : List ℕ) → MediumCall
  Took : (at : ℕ) (bytes : List ℕ) → MediumCall
  Synced : MediumCall
  -- calls that failed
  SettleFailed : MediumCall
  ReadFailed : (at n : ℕ) → MediumCall
  WriteFailed : (at n : ℕ) → MediumCall
  SyncFailed : MediumCall

-- what a call is called that answered so
abbrev pub by_answer : {T E : Type 0} → Result T E → MediumCall → MediumCall → MediumCall
by_answer (Ok t) done failed = done
by_answer (Err e) done failed = failed

-- a call by its numbers and its bytes: its kind, the place, and how many bytes were asked for where none came
abbrev pub noted_call : List ℕ × List ℕ → MediumCall
noted_call (numbers, bytes) =
    if slice_index numbers 0 == 0 then Settled
    else (if slice_index numbers 0 == 1 then Gave (slice_index numbers 1) bytes
    else (if slice_index numbers 0 == 2 then Took (slice_index numbers 1) bytes
    else (if slice_index numbers 0 == 3 then Synced
    else (if slice_index numbers 0 == 4 then SettleFailed
    else (if slice_index numbers 0 == 5 then ReadFailed (slice_index numbers 1) (length bytes)
    else (if slice_index numbers 0 == 6 then WriteFailed (slice_index numbers 1) (length bytes)
    else SyncFailed))))))
