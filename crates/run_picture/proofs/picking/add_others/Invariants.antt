use Rattle.std.proofs.Common.{◌≡◌, ◌++◌, take}
use Rattle.run_picture.specs.Pictures.{others}
use Rattle.run_picture.proofs.picking.add_others.Given as goal

abbrev pub invariant-loop-other : goal.invariant-loop-other
invariant-loop-other l = l.found.items ≡ l.fn.found.items ++ others l.who (take l.other-index l.actors)
