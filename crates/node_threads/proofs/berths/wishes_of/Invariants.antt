use Rattle.std.proofs.Common.{◌≡◌, take}
use Rattle.node_threads.specs.Tasks.{own_wishes}
use Rattle.node_threads.proofs.berths.wishes_of.Given as goal

-- the client's own of the wishes that were seen
abbrev pub invariant-loop-wish : goal.invariant-loop-wish
invariant-loop-wish l = l.own.items ≡ own_wishes l.client (take l.wish-index l.wishes)
