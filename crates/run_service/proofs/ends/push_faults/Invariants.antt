use Rattle.std.proofs.Common.{◌≡◌, ◌++◌, take, string_bytes}
use Rattle.std.specs.List.{flat_map}
use Rattle.run_service.specs.Ends.{fault_line}
use Rattle.run_service.proofs.ends.push_faults.Given as goal

abbrev pub invariant-loop-actor : goal.invariant-loop-actor
invariant-loop-actor l = string_bytes l.text ≡ string_bytes l.fn.text ++ flat_map fault_line (take l.actor-index l.faults)
