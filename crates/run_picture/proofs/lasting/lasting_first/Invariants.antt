use Rattle.std.proofs.Common.{◌≡◌, map, take}
use Rattle.std.specs.List.{filter}
use Rattle.run_picture.specs.Pictures.{wants_lasting, since_here}
use Rattle.run_picture.proofs.lasting.lasting_first.Given as goal

abbrev pub invariant-loop-what : goal.invariant-loop-what
invariant-loop-what l = l.lasts.items ≡ map (since_here l.at) (filter (wants_lasting l.part) (take l.what-index l.told))
