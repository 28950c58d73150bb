use Rattle.std.proofs.Common.{List, ◌+◌, ◌<◌, ◌∷◌, [], ◌++◌, sym, ap, ◌∙◌, subst, length, map, arith}
use Rattle.std.specs.List.{AllByRecursion}
use Rattle.std.proofs.lemmas.List.{length-append}
use Rattle.stable_record.specs.declared.node_records.NodeRecord.{NodeRecord}
use Rattle.stable_record.specs.Records.{IsNodeRecord}
use Rattle.world_actors.specs.Acting.{ActingNode}
use Rattle.world_model.specs.Openings.{down_node}
use Rattle.world_opening.specs.Openings.{station_in, stations_in}
use Rattle.world_machine.specs.Machines.{node_part, AreNodes}
use Rattle.world_machine.proofs.OpeningFacts.{rest-same, rest-good, rest-length, parts-more, nodes-more}
use Rattle.world_machine.proofs.opening.nodes_of.Goals as goal

pub loop-place-preserved : goal.loop-place-preserved
loop-place-preserved g c =
    let vs = c.loop-place.nodes.items in
    let rs = c.loop-place.records.items in
    let r = c.remove-station.result in
    let v : ActingNode = record { number = c.node_at.result; part = down_node (station_in r) } in
    let old = c.loop-place.invariant in
    let now = c.put_node.ensures.node in
    let some : 0 < length rs = omega (arith, old.left, c.loop-place-test.true) in
    let station_at = c.remove-station.ensures.value in
    let left = c.remove-station.ensures.items in
    let numbered = c.node_at.ensures in
    record {
      parts = ap (λ l. map node_part l ++ map down_node (stations_in c.remove-station.new.self.items)) now ∙ ap (λ l. map node_part (vs ++ v ∷ []) ++ map down_node (stations_in l)) left
          ∙ parts-more vs c.node_at.result rs r some station_at ∙ old.parts;
      order = subst AreNodes (sym {A = List ActingNode} now) (nodes-more vs v old.order (numbered ∙ ap (λ n. n + 1) (sym old.count)));
      count = ap length now ∙ length-append vs (v ∷ []) ∙ ap (λ n. n + 1) old.count;
      left = omega (arith, old.left, ap length left, rest-length rs some);
      room = omega (arith, old.room, c.put_node.ensures.capacity);
      good = subst (AllByRecursion IsNodeRecord) (sym {A = List NodeRecord} left) (rest-good rs old.good);
      pairs = rest-same c.loop-place.pairs.items rs c.remove-pair.new.self.items c.remove-station.new.self.items old.pairs some c.remove-pair.ensures.items left;
    }
