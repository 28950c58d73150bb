-- What follows from the definitions, as statements; each is proved as the contract of a function of
-- `laws`.
use Rattle.std.specs.Prelude.{◌≡◌, ℕ, ◌≤◌, false, List, length}
use Rattle.lock_model.specs.Ballots.{Ballot}
use Rattle.stable_record.specs.declared.formats.TheConstants.{MAX_RECORD_LEN}
use Rattle.stable_record.specs.declared.node_records.NodeRecord.{NodeRecord}
use Rattle.stable_record.specs.Records.{IsNodeRecord, node_record_of, client_record_of}
use Rattle.world_model.specs.declared.events.Effect.{Effect}
use Rattle.world_model.specs.declared.events.Event.{Event}
use Rattle.world_model.specs.Parts.{Part, after_own}
use Rattle.event_recorders.specs.OwnLogs.{OwnLog, part_now, adds, FindsPart, changes_record}

-- the part after one event more is what the event makes of the part before
abbrev pub PartsFollow : Type 0
PartsFollow = (l : OwnLog) (e : Event) (done : Effect) → part_now (adds l e done) ≡ after_own l.ballots e done (part_now l)

-- after any event but a Try, a Kept and a Rise a record still finds what is kept and tried
abbrev pub RecordsStay : Type 0
RecordsStay = (b : List Ballot) (e : Event) (done : Effect) (p : Part) (strings : List (List ℕ)) → changes_record e ≡ false → FindsPart p strings →
    FindsPart (after_own b e done p) strings

-- a record has no more bytes than can be kept
abbrev pub NodeRecordsFit : Type 0
NodeRecordsFit = (r : NodeRecord) → IsNodeRecord r → length (node_record_of r) ≤ MAX_RECORD_LEN

abbrev pub ClientRecordsFit : Type 0
ClientRecordsFit = (attempt : ℕ) → length (client_record_of attempt) ≤ MAX_RECORD_LEN
