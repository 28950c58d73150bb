use Rattle.std.proofs.Common.{◌≡◌, map, replicate}
use Rattle.run_service.specs.Empty.{empty_node}
use Rattle.run_service.proofs.sessions.run_in_memory.OwnLists.{own-2}
use Rattle.run_service.proofs.sessions.run_in_memory.Given as goal

-- so many records were added, in which nothing was ever written
abbrev pub invariant-loop : goal.invariant-loop
invariant-loop g l = map (λ b. (own-2.entry b.vtable).1.finds b.value) l.nodes.items ≡ replicate l.counter (empty_node l.fn.settings.problem)
