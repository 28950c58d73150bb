use Rattle.std.proofs.Common.{◌≡◌, take}
use Rattle.std.specs.List.{filter_map}
use Rattle.node_threads.specs.SessionEnds.{session_fault}
use Rattle.node_threads.proofs.session_lists.session_faults.Given as goal

-- the faults of the ends that were seen
abbrev pub invariant-loop-end : goal.invariant-loop-end
invariant-loop-end g l = l.faults.items ≡ filter_map session_fault (take l.end-index l.ends)
