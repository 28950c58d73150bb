-- What a line brings to an actor, and the line of a switch.
use Rattle.std.specs.Prelude.{◌≡◌, ℕ, List, [], ◌∷◌, ◌++◌}
use Rattle.lock_messages.specs.declared.ids.Actor.{Actor}
use Rattle.lock_messages.specs.declared.ids.Actor.TheVariants.{Node, Client}
use Rattle.lock_model.specs.declared.problems.Problem.{Problem}
use Rattle.admission_policy.specs.Policies.{problem_number}
use Rattle.lossy_link.specs.declared.parcels.Post.{Post}
use Rattle.lossy_link.specs.declared.parcels.Post.TheVariants as posts
use Rattle.frame_lines.specs.FrameLines.{frame_line}
use Rattle.switch_lines.specs.SwitchLines.{switch_line}

-- the line that asks a node to take a problem, with its line feed, and the node
abbrev pub switch_for : List ℕ → ℕ → Problem → Actor × List ℕ
switch_for block n problem = (Node n, switch_line block n problem ++ 10 ∷ [])

-- The line asks this actor to take the problem. Only a node is asked.
abbrev pub IsSwitchFor : List ℕ → Actor → List ℕ → Problem → Type 0
IsSwitchFor block (Node n) line problem = line ≡ switch_line block n problem
IsSwitchFor block (Client c) line problem = ⊥

-- the posts of a frame and of a switch
abbrev pub frame_post : List ℕ → Post
frame_post frame = posts.Parcel (record { number = 1; frame = frame })

abbrev pub switch_post : Problem → Post
switch_post problem = posts.Switch (problem_number problem)

-- This is the post of a line for the actor: a parcel of the line's frame, or a switch to the problem of the line.
abbrev pub IsPostOf : List ℕ → Actor → List ℕ → Post → Type 0
IsPostOf block own line (posts.Parcel parcel) = line ≡ frame_line block own parcel.frame
IsPostOf block own line (posts.Nudge n) = ⊥
IsPostOf block own line (posts.Gone n) = ⊥
IsPostOf block own line (posts.Switch number) = (problem : Problem) × (number ≡ problem_number problem) × IsSwitchFor block own line problem
