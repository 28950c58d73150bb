use Rattle.std.proofs.Common.{◌≡◌, ◌++◌, map, take}
use Rattle.run_picture.specs.Pictures.{newly_said}
use Rattle.run_picture.proofs.drawing.Drawer.note_said.Given as goal

abbrev pub invariant-loop-message : goal.invariant-loop-message
invariant-loop-message l = l.self ≡ record l.fn.self { said = l.fn.self.said ++ map (newly_said l.fn.self.part l.fn.self.about l.at) (take l.message-index l.said) }
