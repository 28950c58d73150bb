-- One life of an actor's process, from the record that it found to its end.
use Rattle.std.specs.Prelude.{◌≡◌, ℕ, List}
use Rattle.lock_messages.specs.declared.ids.Actor.{Actor}
use Rattle.lock_model.specs.Ballots.{Ballot}
use Rattle.stable_record.specs.declared.node_records.NodeRecord.{NodeRecord}
use Rattle.stable_record.specs.Records.{IsNodeRecord, node_record_of}
use Rattle.world_actors.specs.Nodes.{station_in}
use Rattle.world_model.specs.Openings.{down_node}
use Rattle.world_model.specs.Parts.{Part, NodePart}
use Rattle.event_recorders.specs.OwnLogs.{OwnLog}
use Rattle.merge_model.specs.OwnRuns.{IsOwnRun}
use Rattle.journal_merge.specs.LineMerges.{TellsLines}
use Rattle.own_recorders.specs.OwnJournals.{OwnKeeper, HoldsLog, log_lines}

-- the log is this actor's, with these ballots, and was opened in this part
pub record IsLogOf (who : Actor) (b : List Ballot) (p : Part) (l : OwnLog) : Type 0 where
  pub actor : l.actor ≡ who
  pub ballots : l.ballots ≡ b
  pub opening : l.opening ≡ p

-- The log is an own run of the actor. The journal has what it held before and the lines of the log, and these lines tell
-- the log.
pub record KeepsJournal (k : OwnKeeper) : Type 0 where
  pub run : IsOwnRun k.log.ballots k.log.actor k.log.opening k.log.events
  pub journal : HoldsLog k.stuck k.log k.before k.written
  pub told : TellsLines k.log.ballots k.log.actor k.log.opening (log_lines k.log) k.log.events

-- The part is that of a node that is down and has kept the record that these bytes spell.
pub record IsOpened (found : List ℕ) (p : Part) : Type 0 where
  pub kept : NodeRecord
  pub part : p ≡ NodePart (down_node (station_in kept))
  pub good : IsNodeRecord kept
  pub spelled : found ≡ node_record_of kept
