-- One node: its station as it keeps it, and what it is about.
use Rattle.std.specs.Prelude.{◌≡◌, ◌≢◌, ℕ, ◌-◌, Bool, true, false, not, ◌&&◌, List, [], Option, Some, None, Err, nat_lt, if◌then◌else◌}
use Rattle.lock_messages.specs.declared.messages.Message.{Message}
use Rattle.lock_messages.specs.declared.messages.Message.TheVariants.{Request, Release, Grant, Busy, Over, Done, Muddled, Soften, Softened}
use Rattle.lock_messages.specs.declared.tickets.Mode.{Mode}
use Rattle.lock_messages.specs.declared.tickets.Mode.TheVariants.{Read, Write}
use Rattle.lock_messages.specs.declared.tickets.Ticket.{Ticket}
use Rattle.lock_model.specs.declared.entries.Entry.{Entry}
use Rattle.lock_model.specs.declared.entries.Live.{Live}
use Rattle.lock_model.specs.declared.problems.Problem.{Problem}
use Rattle.lock_model.specs.Stations.{IsLawful, IsCaused}
use Rattle.lock_model.specs.Decisions.{Decides, IsSwitched}
use Rattle.lock_model.specs.ExactStations.{is_waiting, admits, promoted, meaning, entry_of, settled}
use Rattle.lock_model.specs.ExactDecisions.{decision, changes, switches, same_problem, ended, reply_to_known}
use Rattle.stable_record.specs.declared.node_records.NodeRecord.{NodeRecord}
use Rattle.stable_record.specs.declared.faults.RecordFault.TheVariants as record_fault
use Rattle.stable_record.specs.Lines.{Tickets, Indexes}
use Rattle.stable_record.specs.Records.{IsNodeRecord, node_record_of}
use Rattle.stable_record.specs.Reading.{reading}
use Rattle.voter_core.specs.declared.phases.Phase.{Phase}
use Rattle.voter_core.specs.declared.phases.Phase.TheVariants as phase
use Rattle.voter_core.specs.declared.faults.VoterFault.{VoterFault}
use Rattle.voter_core.specs.declared.faults.VoterFault.TheVariants as fault

-- What a node is about, with what it has then: nothing; a decision that changed the record, and its
-- replies, which have to wait until the record is kept; replies that may be said.
pub data State : Type 0 where
  Idle : State
  Decided : (replies : List Message) → State
  Stored : (replies : List Message) → State

-- a node: its number, its station as problem and entries in order, and what it is about
pub record Voter : Type 0 where
  pub node : ℕ
  pub problem : Problem
  pub entries : List Entry
  pub state : State

-- the station is a record that can be kept and read again, and the index is that of its entries
pub record IsIndexed (station : NodeRecord) (index : List (List ℕ × Tickets)) : Type 0 where
  pub good : IsNodeRecord station
  pub indexed : Indexes index station.entries

-- the state of this phase, with these replies
abbrev pub state_of : Phase → List Message → State
state_of phase.Idle replies = Idle
state_of phase.Decided replies = Decided replies
state_of phase.Stored replies = Stored replies

abbrev pub phase_in : State → Phase
phase_in Idle = phase.Idle
phase_in (Decided replies) = phase.Decided
phase_in (Stored replies) = phase.Stored

abbrev pub replies_in : State → List Message
replies_in Idle = []
replies_in (Decided replies) = replies
replies_in (Stored replies) = replies

-- the node's record
abbrev pub record_of : Voter → NodeRecord
record_of v = record { problem = v.problem; entries = v.entries }

-- a node that rises with this record
abbrev pub risen : ℕ → NodeRecord → Voter
risen n r = record { node = n; problem = r.problem; entries = r.entries; state = Idle }

-- the state after a decision that changes the record, or doesn't
abbrev pub state_after : Bool → List Message → State
state_after true replies = Decided replies
state_after false replies = Stored replies

-- the node after it took a message: the exact decision
abbrev pub taken : Voter → Message → Voter
taken v m = record {
  node = v.node;
  problem = v.problem;
  entries = (decision v.problem v.entries m).entries;
  state = state_after (changes v.problem v.entries m) (decision v.problem v.entries m).replies;
}

-- the decision that led from one node to the other is one that it may take
pub record Allows (before : Voter) (m : Message) (after : Voter) : Type 0 where
  pub decides : Decides (meaning before.problem before.entries) m (meaning after.problem after.entries) (replies_in after.state)
  pub lawful : IsLawful (meaning after.problem after.entries)
  pub caused : IsCaused (meaning after.problem after.entries)

-- the node after it took this problem: the exact switch
abbrev pub switched : Voter → Problem → Voter
switched v p = record {
  node = v.node;
  problem = p;
  entries = (switches v.node p v.entries).entries;
  state = state_after (not (same_problem v.problem p)) (switches v.node p v.entries).replies;
}

-- the switch that led from one node to the other is one that it may take
pub record AllowsSwitch (before : Voter) (p : Problem) (after : Voter) : Type 0 where
  pub switched : IsSwitched before.node (meaning before.problem before.entries) p (meaning after.problem after.entries) (replies_in after.state)
  pub lawful : IsLawful (meaning after.problem after.entries)
  pub caused : IsCaused (meaning after.problem after.entries)

-- the node after its decision was kept
abbrev pub kept : Voter → Voter
kept v = record { node = v.node; problem = v.problem; entries = v.entries; state = Stored (replies_in v.state) }

-- the node after its replies were said
abbrev pub spoken : Voter → Voter
spoken v = record { node = v.node; problem = v.problem; entries = v.entries; state = Idle }

-- bytes that are the record of a lawful and caused station
pub record IsRecordOf (bytes : List ℕ) (r : NodeRecord) : Type 0 where
  pub good : IsNodeRecord r
  pub spelled : bytes ≡ node_record_of r

-- Why a node can't rise with these bytes: reading them meets this fault. Memory may be refused at any
-- time.
abbrev pub IsRefusedFor : List ℕ → VoterFault → Type 0
IsRefusedFor bytes (fault.Unreadable f) = (reading bytes ≡ Err f) × (f ≢ record_fault.NoMemory)
IsRefusedFor bytes fault.Memory = Unit {0}

-- the ticket, holding, where it waits and is admitted among the entries
abbrev pub admitted_now : Problem → List Entry → Option Live → Option Live
admitted_now p entries None = None
admitted_now p entries (Some l) = if is_waiting l.status && admits p l.mode l.resource entries then Some (promoted l) else None

-- ending the client's attempts up to a changes its entry, or adds one
abbrev pub ends_something : ℕ → Option Entry → Bool
ends_something a None = true
ends_something a (Some e) = nat_lt e.floor a

-- whether a new ticket is admitted, once the attempts before it have ended and the others settled
abbrev pub is_admitted : Problem → List Entry → Ticket → Bool
is_admitted p entries t = admits p t.mode t.resource (settled p (ended t.client (t.attempt - 1) entries))

-- what the policy is told of a new ticket in this mode: of a reader's, whether it is admitted
abbrev pub note_for : Mode → Bool → Option Bool
note_for Read admitted = Some admitted
note_for Write admitted = None

-- the same, unless the node has a reply to the ticket already
abbrev pub note_unless : Option Message → Problem → List Entry → Ticket → Option Bool
note_unless None p entries t = note_for t.mode (is_admitted p entries t)
note_unless (Some reply) p entries t = None

-- what the policy is told, once, where a message is taken: of each new reader's ticket whether it is
-- admitted, and of nothing else
abbrev pub note_of : Problem → List Entry → Message → Option Bool
note_of p entries (Request n t) = note_unless (reply_to_known n t (entry_of entries t.client)) p entries t
note_of p entries (Release n c a) = None
note_of p entries (Grant n t) = None
note_of p entries (Busy n t) = None
note_of p entries (Over n c a) = None
note_of p entries (Done n c a) = None
note_of p entries (Muddled n c a) = None
note_of p entries (Soften n c a) = None
note_of p entries (Softened n c a) = None
