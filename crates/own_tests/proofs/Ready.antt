-- A node that has logged nothing, with a record in which nothing is kept, is what its loop needs.
use Rattle.std.proofs.Common.{◌≡◌, ℕ, List, [], ◌∷◌, sym, ap, ◌∙◌, subst, refl}
use Rattle.lock_messages.specs.declared.ids.Actor.TheVariants as actor
use Rattle.lock_model.specs.declared.problems.Problem.TheVariants.{First}
use Rattle.stable_record.specs.declared.node_records.NodeRecord.{NodeRecord}
use Rattle.stable_record.specs.Records.{IsNodeRecord, node_record_of}
use Rattle.world_model.specs.Openings.{down_node, empty_station}
use Rattle.world_model.specs.Parts.{NodePart}
use Rattle.event_recorders.specs.OwnLogs.{OwnLog, IsDownAtRest}
use Rattle.node_loop.specs.Standing.{IsReady}
use Rattle.test_support.specs.Fresh.{empty_record}

pub node_ready : (l : OwnLog) (n : ℕ) (strings : List (List ℕ)) → l.actor ≡ actor.Node 1 → l.opening ≡ NodePart (down_node (empty_station First)) → l.events ≡ [] → IsNodeRecord (empty_record First) → n ≡ 1
    → strings ≡ node_record_of (empty_record First) ∷ [] → (kept : NodeRecord) × IsReady l n kept strings
node_ready l n strings who opening none good one finds = (
  empty_record First,
  record {
    unused = record { actor = who ∙ ap (λ (m : ℕ). actor.Node m) (sym one); events = none; down = subst (IsDownAtRest (actor.Node n)) (sym opening) (refl, refl) };
    opening = opening;
    good = good;
    finds = finds;
  },
)
