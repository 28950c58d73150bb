use Rattle.std.proofs.Common.{◌≡◌, drop}
use Rattle.std.specs.List.{list_all}
use Rattle.world_model.specs.Openings.{entry_within}
use Rattle.world_opening.proofs.judging.record_within.Given as goal

-- what is left decides
abbrev pub invariant-loop-place : goal.invariant-loop-place
invariant-loop-place l = list_all (entry_within l.attempts) l.node.entries ≡ list_all (entry_within l.attempts) (drop l.place l.node.entries)
