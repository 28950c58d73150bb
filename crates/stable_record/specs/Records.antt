-- Records as bytes. A number of several bytes has its highest byte first.
use Rattle.std.specs.Prelude.{ℕ, ◌≤◌, List, [], ◌∷◌, ◌++◌, length, Option, Some, None, IfSome}
use Rattle.std.specs.List.{flat_map, AllByRecursion}
use Rattle.std.specs.Int.{w16, w32, w64, to_be_bytes}
use Rattle.lock_messages.specs.declared.ids.TheConstants.{MAX_CLIENTS, MAX_ATTEMPT}
use Rattle.lock_messages.specs.Fields.{mode_number}
use Rattle.lock_messages.specs.Ids.{IsClient, IsAttempt}
use Rattle.lock_messages.specs.Names.{IsName}
use Rattle.lock_model.specs.declared.entries.Entry.{Entry}
use Rattle.lock_model.specs.declared.entries.Live.{Live}
use Rattle.lock_model.specs.declared.entries.Status.{Status}
use Rattle.lock_model.specs.declared.entries.Status.TheVariants.{Waiting, Holding, Softened}
use Rattle.lock_model.specs.declared.problems.Problem.{Problem}
use Rattle.lock_model.specs.declared.problems.Problem.TheVariants.{First, Second}
use Rattle.lock_model.specs.Stations.{IsLawful, IsCaused}
use Rattle.lock_model.specs.ExactStations.{IsWellFormed, meaning}
use Rattle.stable_record.specs.declared.formats.TheConstants.{VERSION}
use Rattle.stable_record.specs.declared.node_records.NodeRecord.{NodeRecord}

abbrev pub problem_byte : Problem → ℕ
problem_byte First = 1
problem_byte Second = 2

abbrev pub status_number : Status → ℕ
status_number Waiting = 1
status_number Holding = 2
status_number Softened = 3

-- a ticket's attempt, mode and name, behind the byte that says that there is one
abbrev pub ticket_bytes : Live → List ℕ
ticket_bytes l = to_be_bytes w64 l.attempt ++ mode_number l.mode ∷ length l.resource ∷ l.resource

-- no live ticket is the byte 0
abbrev pub live_bytes : Option Live → List ℕ
live_bytes None = 0 ∷ []
live_bytes (Some l) = status_number l.status ∷ ticket_bytes l

-- four bytes for the client, eight for the floor, and the live ticket
abbrev pub entry_bytes : Entry → List ℕ
entry_bytes e = to_be_bytes w32 e.client ++ to_be_bytes w64 e.floor ++ live_bytes e.live

-- one byte each for the version and the problem, two for the number of entries, and the entries
abbrev pub head_bytes : Problem → ℕ → List ℕ
head_bytes problem count = VERSION ∷ problem_byte problem ∷ to_be_bytes w16 count

-- the spelling of a node's record
abbrev pub node_record_of : NodeRecord → List ℕ
node_record_of r = head_bytes r.problem (length r.entries) ++ flat_map entry_bytes r.entries

-- the same of a problem and entries, as a station has them
abbrev pub record_bytes : Problem → List Entry → List ℕ
record_bytes problem entries = node_record_of (record { problem = problem; entries = entries })

-- the spelling of a client's record: the attempt that it made last, or 0
abbrev pub client_record_of : ℕ → List ℕ
client_record_of attempt = VERSION ∷ to_be_bytes w64 attempt

-- each part of the ticket is in its range
pub record IsTicketOf (l : Live) : Type 0 where
  pub attempt : IsAttempt l.attempt
  pub resource : IsName l.resource

-- each part of the entry is in its range
pub record IsEntry (e : Entry) : Type 0 where
  pub client : IsClient e.client
  pub floor : e.floor ≤ MAX_ATTEMPT
  pub live : IfSome e.live IsTicketOf

-- a record that is read again as it was written: its entries are in range and those of a lawful and
-- caused station, and they are no more than there are clients
pub record IsNodeRecord (r : NodeRecord) : Type 0 where
  pub few : length r.entries ≤ MAX_CLIENTS
  pub entries : AllByRecursion IsEntry r.entries
  pub well_formed : IsWellFormed r.entries
  pub lawful : IsLawful (meaning r.problem r.entries)
  pub caused : IsCaused (meaning r.problem r.entries)
