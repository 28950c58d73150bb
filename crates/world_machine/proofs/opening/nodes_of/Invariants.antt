use Rattle.std.proofs.Common.{◌≡◌, ◌+◌, ◌≤◌, ◌++◌, length, map, vec_capacity}
use Rattle.std.specs.List.{AllByRecursion}
use Rattle.stable_record.specs.Records.{IsNodeRecord}
use Rattle.world_model.specs.Openings.{down_node}
use Rattle.world_opening.specs.Openings.{stations_in}
use Rattle.world_machine.specs.Machines.{node_part, AreNodes}
use Rattle.world_machine.proofs.opening.nodes_of.Given as goal

-- the nodes so far and those of the records that are left are all
abbrev pub invariant-loop-place : goal.invariant-loop-place
invariant-loop-place g l = record {
  parts : map node_part l.nodes.items ++ map down_node (stations_in l.records.items) ≡ map down_node (stations_in l.fn.records.items);
  order : AreNodes l.nodes.items;
  count : length l.nodes.items ≡ l.place;
  left : l.place + length l.records.items ≡ l.count;
  room : l.count ≤ vec_capacity l.nodes;
  good : AllByRecursion IsNodeRecord l.records.items;
  pairs : length l.pairs.items ≡ length l.records.items;
}
