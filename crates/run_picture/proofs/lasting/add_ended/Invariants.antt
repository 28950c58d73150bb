use Rattle.std.proofs.Common.{◌≡◌, ◌++◌, take}
use Rattle.std.specs.List.{filter, flat_map}
use Rattle.run_picture.specs.Pictures.{told, ended_mark, ends}
use Rattle.run_picture.proofs.lasting.add_ended.Given as goal

abbrev pub invariant-loop-one : goal.invariant-loop-one
invariant-loop-one l = l.marks.items ≡ l.fn.marks.items ++ flat_map (ended_mark l.at) (filter (ends (told l.step)) (take l.one-index l.lasts))
