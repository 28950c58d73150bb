use Rattle.std.proofs.Common.{◌≡◌, map, replicate}
use Rattle.std.specs.List.{AllByRecursion}
use Rattle.stable_record.specs.Records.{IsNodeRecord}
use Rattle.world_model.specs.Openings.{empty_station}
use Rattle.world_opening.specs.Openings.{stations_in}
use Rattle.world_machine.proofs.opening.empty_records.Given as goal

abbrev pub invariant-loop-place : goal.invariant-loop-place
invariant-loop-place l = record {
  stations : stations_in l.records.items ≡ map empty_station (replicate l.place l.problem);
  good : AllByRecursion IsNodeRecord l.records.items;
}
