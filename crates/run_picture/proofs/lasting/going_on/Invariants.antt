use Rattle.std.proofs.Common.{◌≡◌, take}
use Rattle.std.specs.List.{filter}
use Rattle.run_picture.specs.Pictures.{told, goes_on}
use Rattle.run_picture.proofs.lasting.going_on.Given as goal

abbrev pub invariant-loop-one : goal.invariant-loop-one
invariant-loop-one l = l.kept.items ≡ filter (goes_on (told l.step)) (take l.one-index l.lasts)
