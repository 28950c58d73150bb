use Rattle.std.proofs.Common.{◌≡◌, take}
use Rattle.std.specs.List.{filter_map}
use Rattle.node_threads.specs.Ends.{client_fault}
use Rattle.node_threads.proofs.ends.client_faults.Given as goal

-- the faults of the ends that were seen
abbrev pub invariant-loop-end : goal.invariant-loop-end
invariant-loop-end l = l.faults.items ≡ filter_map client_fault (take l.end-index l.ends)
