use Rattle.std.proofs.Common.{◌≡◌, ◌++◌, map, take}
use Rattle.std.specs.List.{filter}
use Rattle.run_picture.specs.Pictures.{begins, since_here}
use Rattle.run_picture.proofs.lasting.add_all.Given as goal

abbrev pub invariant-loop-what : goal.invariant-loop-what
invariant-loop-what l = l.lasts.items ≡ l.fn.lasts.items ++ map (since_here l.at) (filter (begins l.part l.known) (take l.what-index l.told))
