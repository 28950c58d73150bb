use Rattle.std.proofs.Common.{◌≡◌, ◌≤◌, length, map, sym, ◌∙◌, subst, List}
use Rattle.std.specs.List.{All}
use Rattle.std.proofs.lemmas.List.{length-map}
use Rattle.std.proofs.lemmas.List.Elements.{All-map}
use Rattle.lock_messages.specs.declared.ids.TheConstants.{MAX_NODES, MAX_CLIENTS}
use Rattle.lock_model.specs.Ballots.{Ballot}
use Rattle.stable_record.specs.Records.{IsNodeRecord}
use Rattle.world_machine.specs.Keeping.{record_in, KeepsRecords}
use Rattle.world_machine.specs.Machines.{node_part, client_part, AreClients}
use Rattle.world_machine.proofs.world.World.keeping.Goals as goal

pub returns : goal.returns
returns g c =
    let s = c.self.inside in
    let ns = s.nodes.items in
    let cs = s.clients.items in
    let asked = subst (λ xs. All (λ v. IsNodeRecord (record_in v.part.kept)) xs) c.deref.ensures.value c.see_records.ensures in
    let told = subst (λ xs. (b : List Ballot) → AreClients b xs → length xs ≤ MAX_CLIENTS) c.deref-2.ensures.value c.see_last.ensures in
    let votes : length (map node_part ns) ≡ c.nodes-nodes.result = c.self.invariant.sound.nodes ∙ sym c.nodes-nodes.ensures.nodes in
    subst KeepsRecords c.self.view_is (record {
      nodes = All-map (λ v. IsNodeRecord (record_in v.kept)) node_part ns asked;
      few_nodes = subst (λ n. n ≤ MAX_NODES) (sym votes) c.nodes-nodes.ensures.few_nodes;
      few_clients = subst (λ n. n ≤ MAX_CLIENTS) (sym (length-map cs client_part)) (told s.ballots c.self.invariant.order.clients);
    })
