use Rattle.std.proofs.Common.{◌≡◌, take}
use Rattle.std.specs.List.{flat_map}
use Rattle.run_picture.specs.Pictures.{open_mark}
use Rattle.run_picture.proofs.lasting.open_marks.Given as goal

abbrev pub invariant-loop-one : goal.invariant-loop-one
invariant-loop-one l = l.marks.items ≡ flat_map (open_mark l.at) (take l.one-index l.lasts)
