-- What follows from the definitions, as statements. Each is proved as the contract of a function of `laws`.
use Rattle.std.specs.Prelude.{◌≢◌, ℕ, List}
use Rattle.hex.specs.Hex.{IsBytes}
use Rattle.lock_messages.specs.declared.ids.Actor.{Actor}
use Rattle.lock_messages.specs.declared.ids.Actor.TheVariants.{Node}
use Rattle.lock_model.specs.declared.problems.Problem.{Problem}
use Rattle.frame_lines.specs.FrameLines.{tagged, frame_line}
use Rattle.switch_lines.specs.SwitchLines.{switch_tagged, switch_line}

-- No frame for any actor has the tagged bytes of a switch.
abbrev pub TagsDiffer : Type 0
TagsDiffer = (to : Actor) (frame : List ℕ) (n : ℕ) (problem : Problem) → tagged to frame ≢ switch_tagged n problem

-- No line for a node has both a frame and a switch.
abbrev pub LinesDiffer : Type 0
LinesDiffer = (block : List ℕ) (frame : List ℕ) (n : ℕ) (problem : Problem) → IsBytes frame → frame_line block (Node n) frame ≢ switch_line block n problem
