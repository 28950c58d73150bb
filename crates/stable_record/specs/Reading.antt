-- Reading records from the front: the record, or the first fault that is met.
use Rattle.std.specs.Prelude.{◌≡◌, ◌⊎◌, Bool, true, not, ℕ, zero, suc, ◌+◌, ◌≤◌, ◌==◌, if◌then◌else◌, List, [], ◌∷◌, ◌++◌, length, Option, Some, None, Result, Ok, Err, IsOk}
use Rattle.std.specs.Int.{w16, w32, w64}
use Rattle.lock_messages.specs.declared.ids.TheConstants.{MAX_CLIENTS, MAX_ATTEMPT}
use Rattle.lock_messages.specs.declared.names.TheConstants.{MAX_NAME_LEN}
use Rattle.lock_messages.specs.declared.tickets.Mode.{Mode}
use Rattle.lock_messages.specs.Fields.{◌>>=◌, byte_at, number_at, mode_at, name_at}
use Rattle.lock_model.specs.declared.entries.Entry.{Entry}
use Rattle.lock_model.specs.declared.entries.Live.{Live}
use Rattle.lock_model.specs.declared.entries.Status.{Status}
use Rattle.lock_model.specs.declared.entries.Status.TheVariants.{Waiting, Holding, Softened}
use Rattle.lock_model.specs.declared.problems.Problem.{Problem}
use Rattle.lock_model.specs.declared.problems.Problem.TheVariants.{First, Second}
use Rattle.lock_model.specs.ExactStations.{knows, is_write}
use Rattle.stable_record.specs.declared.faults.RecordFault.{RecordFault}
use Rattle.stable_record.specs.declared.faults.RecordFault.TheVariants as faults
use Rattle.stable_record.specs.declared.formats.TheConstants.{VERSION}
use Rattle.stable_record.specs.declared.node_records.NodeRecord.{NodeRecord}
use Rattle.lock_model.specs.Judgement.{is_lawful, is_caused}

-- what a function answered, and the bytes that it left, are what reading gives, unless memory was
-- refused while the bytes were good
abbrev pub GivesOr : {X : Type 0} → Type 0 → Result X RecordFault → List ℕ → Result (X × List ℕ) RecordFault → Type 0
GivesOr good (Ok x) left read = read ≡ Ok (x, left)
GivesOr good (Err e) left read = ((e ≡ faults.NoMemory) × good) ⊎ (read ≡ Err e)

-- what a function left is what reading gives, unless memory was refused and reading has no fault
abbrev pub LeavesOr : {U X : Type 0} → Result U RecordFault → X → Result X RecordFault → Type 0
LeavesOr (Ok u) left read = read ≡ Ok left
LeavesOr (Err e) left read = ((e ≡ faults.NoMemory) × IsOk read) ⊎ (read ≡ Err e)

-- what a function answered is what reading gives, unless memory was refused while the bytes were good
abbrev pub IsOrRefused : {X : Type 0} → Type 0 → Result X RecordFault → Result X RecordFault → Type 0
IsOrRefused good result read = ((result ≡ Err faults.NoMemory) × good) ⊎ (result ≡ read)

-- ---- a node's record

abbrev pub version_at : List ℕ → Result (ℕ × List ℕ) RecordFault
version_at bytes = byte_at VERSION VERSION faults.Short faults.Version bytes

abbrev pub problem_at : List ℕ → Result (Problem × List ℕ) RecordFault
problem_at [] = Err faults.Short
problem_at (b ∷ rest) =
    if b == 1 then Ok (First, rest)
    else (if b == 2 then Ok (Second, rest)
    else Err faults.Policy)

abbrev pub count_at : List ℕ → Result (ℕ × List ℕ) RecordFault
count_at bytes = number_at w16 0 MAX_CLIENTS faults.Short faults.EntryField bytes

-- a client that has no entry among those that were read before
abbrev pub client_at : List Entry → List ℕ → Result (ℕ × List ℕ) RecordFault
client_at seen bytes = number_at w32 1 MAX_CLIENTS faults.Short faults.EntryField bytes >>= λ c.
    if knows c.0 seen then Err faults.ClientTwice else Ok c

abbrev pub floor_at : List ℕ → Result (ℕ × List ℕ) RecordFault
floor_at bytes = number_at w64 0 MAX_ATTEMPT faults.Short faults.EntryField bytes

-- no live ticket, or one that waits, holds or is softened
abbrev pub state_at : List ℕ → Result (Option Status × List ℕ) RecordFault
state_at [] = Err faults.Short
state_at (b ∷ rest) =
    if b == 0 then Ok (None, rest)
    else (if b == 1 then Ok (Some Waiting, rest)
    else (if b == 2 then Ok (Some Holding, rest)
    else (if b == 3 then Ok (Some Softened, rest)
    else Err faults.EntryField)))

-- the attempt one above the floor
abbrev pub attempt_at : ℕ → List ℕ → Result (ℕ × List ℕ) RecordFault
attempt_at floor bytes = number_at w64 1 MAX_ATTEMPT faults.Short faults.EntryField bytes >>= λ a.
    if a.0 == floor + 1 then Ok a else Err faults.AttemptNotNext

-- a ticket of this status may have this mode: a softened one is a reader's
abbrev pub goes_with : Status → Mode → Bool
goes_with Waiting m = true
goes_with Holding m = true
goes_with Softened m = not (is_write m)

-- the mode of a ticket of this status
abbrev pub ticket_mode_at : Status → List ℕ → Result (Mode × List ℕ) RecordFault
ticket_mode_at status bytes = mode_at faults.Short faults.EntryField bytes >>= λ m.
    if goes_with status m.0 then Ok m else Err faults.EntryField

abbrev pub length_at : List ℕ → Result (ℕ × List ℕ) RecordFault
length_at bytes = byte_at 1 MAX_NAME_LEN faults.Short faults.EntryField bytes

-- the ticket of a client with this floor
unfoldable pub ticket_at : ℕ → Status → List ℕ → Result (Live × List ℕ) RecordFault
ticket_at floor status bytes = do
  attempt ← attempt_at floor bytes
  mode ← ticket_mode_at status attempt.1
  size ← length_at mode.1
  name ← name_at faults.Short faults.EntryField size.0 size.1
  Ok (record { attempt = attempt.0; mode = mode.0; resource = name.0; status = status }, name.1)

abbrev pub live_at : ℕ → Option Status → List ℕ → Result (Option Live × List ℕ) RecordFault
live_at floor None bytes = Ok (None, bytes)
live_at floor (Some status) bytes = ticket_at floor status bytes >>= λ t. Ok (Some t.0, t.1)

-- the next entry behind those that were read before
unfoldable pub entry_at : List Entry → List ℕ → Result (Entry × List ℕ) RecordFault
entry_at seen bytes = do
  client ← client_at seen bytes
  floor ← floor_at client.1
  state ← state_at floor.1
  live ← live_at floor.0 state.0 state.1
  Ok (record { client = client.0; floor = floor.0; live = live.0 }, live.1)

-- so many entries more
unfoldable pub entries_at : ℕ → List Entry → List ℕ → Result (List Entry × List ℕ) RecordFault
entries_at zero seen bytes = Ok (seen, bytes)
entries_at (suc n) seen bytes = do
  first ← entry_at seen bytes
  entries_at n (seen ++ first.0 ∷ []) first.1

-- the problem and the number of entries
unfoldable pub head_at : List ℕ → Result ((Problem × ℕ) × List ℕ) RecordFault
head_at bytes = do
  version ← version_at bytes
  problem ← problem_at version.1
  count ← count_at problem.1
  Ok ((problem.0, count.0), count.1)

unfoldable pub record_at : List ℕ → Result (NodeRecord × List ℕ) RecordFault
record_at bytes = do
  head ← head_at bytes
  entries ← entries_at head.0.1 [] head.1
  Ok (record { problem = head.0.0; entries = entries.0 }, entries.1)

-- nothing may follow; then writers that hold have to be alone, and then waits to have causes
abbrev pub judged : NodeRecord × List ℕ → Result NodeRecord RecordFault
judged x =
    if length x.1 == 0
    then (if is_lawful x.0.entries
    then (if is_caused x.0.problem x.0.entries then Ok x.0 else Err faults.NoCause)
    else Err faults.WriterNotAlone)
    else Err faults.Trailing

-- all of the bytes
unfoldable pub reading : List ℕ → Result NodeRecord RecordFault
reading bytes = record_at bytes >>= judged

-- so many entries, at least one of them, are read without a fault
pub record AreGood (count : ℕ) (bytes : List ℕ) : Type 0 where
  pub n : ℕ
  pub some : 1 ≤ n
  pub within : n ≤ count
  pub read : IsOk (entries_at n [] bytes)

-- The bytes are good up to the end of an entry.
pub record IsGoodSoFar (bytes : List ℕ) : Type 0 where
  pub head : (Problem × ℕ) × List ℕ
  pub read : head_at bytes ≡ Ok head
  pub entries : AreGood head.0.1 head.1

-- ---- a client's record

unfoldable pub client_reading : List ℕ → Result ℕ RecordFault
client_reading bytes = do
  version ← byte_at VERSION VERSION faults.ClientShort faults.ClientVersion bytes
  attempt ← number_at w64 0 MAX_ATTEMPT faults.ClientShort faults.ClientAttempt version.1
  if length attempt.1 == 0 then Ok attempt.0 else Err faults.ClientTrailing
