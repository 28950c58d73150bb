-- A node that has taken nothing, and a client that has made no attempt, may run.
use Rattle.std.proofs.Common.{◌≡◌, ℕ, List, [], ◌∷◌, refl, sym, ap, subst, lit≤}
use Rattle.lock_messages.specs.declared.ids.Actor.TheVariants as actor
use Rattle.lock_model.specs.declared.problems.Problem.{Problem}
use Rattle.lock_model.specs.Ballots.{Ballot}
use Rattle.stable_record.specs.declared.node_records.NodeRecord.{NodeRecord}
use Rattle.stable_record.specs.Records.{IsNodeRecord, node_record_of, client_record_of}
use Rattle.world_actors.specs.Nodes.{station_in}
use Rattle.world_model.specs.declared.exact.ExactNode.{ExactNode}
use Rattle.world_model.specs.Openings.{down_node}
use Rattle.world_model.specs.Parts.{NodePart}
use Rattle.event_recorders.specs.OwnLogs.{OwnLog, IsDownAtRest}
use Rattle.own_threads.specs.Memories.{new_client_log, opened_log}
use Rattle.own_threads.specs.Tasks.{IsNodeTask, IsClientTask}

-- the record of a node for this problem that has taken nothing
abbrev empty_record : Problem → NodeRecord
empty_record p = record { problem = p; entries = [] }

pub new_node_ready : (problem : Problem) (n m : ℕ) (b : List Ballot) (v : ExactNode) (bytes : List ℕ) → m ≡ n → v ≡ down_node (station_in (record { problem = problem; entries = [] })) → IsNodeRecord (record { problem = problem; entries = [] }) →
    bytes ≡ node_record_of (record { problem = problem; entries = [] }) → IsNodeTask n (opened_log (actor.Node m) b (NodePart v)) (bytes ∷ [])
new_node_ready problem n m b v bytes same down good spelled = record {
  kept = empty_record problem;
  ready = record {
    unused = record { actor = ap (λ (k : ℕ). actor.Node k) same; events = refl; down = subst (λ (x : ExactNode). IsDownAtRest (actor.Node n) (NodePart x)) (sym down) (refl, refl) };
    opening = ap NodePart down;
    good = good;
    finds = ap (λ (s : List ℕ). s ∷ []) spelled;
  };
}

pub new_client_ready : (l : OwnLog) (b : List Ballot) (c : ℕ) (bytes : List ℕ) → l ≡ new_client_log b c → bytes ≡ client_record_of 0 → IsClientTask c b l (bytes ∷ [])
new_client_ready l b c bytes is spelled = subst (λ (l : OwnLog). IsClientTask c b l (bytes ∷ [])) (sym is) (record {
  unused = record { actor = refl; events = refl; down = (refl, refl) };
  ballots = refl;
  found = ap (λ (s : List ℕ). s ∷ []) spelled;
  kept = lit≤ tt;
})
