-- A node's turns, each by the phase that it is in.
use Rattle.std.specs.Prelude.{ℕ, Bool, not, List, length, Option, Some, None, Err, if◌then◌else◌}
use Rattle.lock_messages.specs.declared.messages.Message.{Message}
use Rattle.lock_messages.specs.Messages.{is_for_node}
use Rattle.lock_model.specs.declared.problems.Problem.{Problem}
use Rattle.lock_model.specs.ExactDecisions.{decision, changes, switches, same_problem}
use Rattle.world_model.specs.declared.events.Age.{Age}
use Rattle.world_model.specs.declared.events.Age.TheVariants.{Old, New}
use Rattle.world_model.specs.declared.events.Effect.TheVariants as effect
use Rattle.world_model.specs.declared.events.StepFault.TheVariants as fault
use Rattle.world_model.specs.declared.exact.ExactStation.{ExactStation}
use Rattle.world_model.specs.declared.exact.ExactNode.{ExactNode}
use Rattle.world_model.specs.declared.exact.ExactNodePhase.{ExactNodePhase}
use Rattle.world_model.specs.declared.exact.ExactNodePhase.TheVariants.{Down, Idle, Decided, Stored}
use Rattle.world_model.specs.Turns.{Turns, acts, speaks, reads}

-- the node in another phase
abbrev pub node_in : ExactNode → ExactNodePhase → ExactNode
node_in v phase = record { kept = v.kept; tried = v.tried; phase = phase }

-- Try: a decided station, with nothing tried, is tried

abbrev pub tries_station_with : ExactNode → ExactStation → Option ExactStation → Turns ExactNode
tries_station_with v s None = acts (record { kept = v.kept; tried = Some s; phase = v.phase }) effect.Tried
tries_station_with v s (Some u) = Err fault.WrongPhase

abbrev pub tries_station_in : ExactNode → ExactNodePhase → Turns ExactNode
tries_station_in v Down = Err fault.Down
tries_station_in v Idle = Err fault.WrongPhase
tries_station_in v (Decided s replies) = tries_station_with v s v.tried
tries_station_in v (Stored replies) = Err fault.WrongPhase

-- Kept: the tried station is the kept one, and the replies may be said

abbrev pub keeps_station_with : List Message → Option ExactStation → Turns ExactNode
keeps_station_with replies None = Err fault.NothingTried
keeps_station_with replies (Some s) = acts (record { kept = s; tried = None; phase = Stored replies }) effect.Kept

abbrev pub keeps_station_in : ExactNode → ExactNodePhase → Turns ExactNode
keeps_station_in v Down = Err fault.Down
keeps_station_in v Idle = Err fault.WrongPhase
keeps_station_in v (Decided s replies) = keeps_station_with replies v.tried
keeps_station_in v (Stored replies) = Err fault.WrongPhase

-- Say: the replies, in order

abbrev pub says_in : ExactNode → ExactNodePhase → Turns ExactNode
says_in v Down = Err fault.Down
says_in v Idle = Err fault.NothingToSay
says_in v (Decided s replies) = Err fault.NotStored
says_in v (Stored replies) = speaks (node_in v Idle) replies (λ first. effect.Said first (length replies))

-- Take: a message for the node is decided on; where the station stays the replies may be said at once

abbrev pub decided_on : ExactNode → Message → ExactNode
decided_on v m =
    let o = decision v.kept.problem v.kept.entries m in
    if changes v.kept.problem v.kept.entries m
    then node_in v (Decided (record { problem = v.kept.problem; entries = o.entries }) o.replies)
    else node_in v (Stored o.replies)

abbrev pub takes_in : ℕ → ℕ → ExactNode → ExactNodePhase → Turns ExactNode
takes_in n number v Down = Err fault.Down
takes_in n number v Idle = reads number (λ m. is_for_node m n) (decided_on v) (λ m. effect.Took m (changes v.kept.problem v.kept.entries m))
takes_in n number v (Decided s replies) = Err fault.WrongPhase
takes_in n number v (Stored replies) = Err fault.WrongPhase

-- Fall: what is kept and tried remains

abbrev pub node_falls_in : ExactNode → ExactNodePhase → Turns ExactNode
node_falls_in v Down = Err fault.Down
node_falls_in v Idle = acts (node_in v Down) effect.Down
node_falls_in v (Decided s replies) = acts (node_in v Down) effect.Down
node_falls_in v (Stored replies) = acts (node_in v Down) effect.Down

-- Rise: with the kept station or, where one is tried, with that

abbrev pub node_rises_with : Age → ExactStation → Option ExactStation → Turns ExactNode
node_rises_with Old kept tried = acts (record { kept = kept; tried = None; phase = Idle }) effect.Up
node_rises_with New kept None = Err fault.NothingTried
node_rises_with New kept (Some s) = acts (record { kept = s; tried = None; phase = Idle }) effect.Up

abbrev pub node_rises_in : Age → ExactNode → ExactNodePhase → Turns ExactNode
node_rises_in age v Down = node_rises_with age v.kept v.tried
node_rises_in age v Idle = Err fault.Up
node_rises_in age v (Decided s replies) = Err fault.Up
node_rises_in age v (Stored replies) = Err fault.Up

-- Switch: all that wait are settled under the problem; where it is the one that the node has kept, nothing has
-- to be kept and the replies may be said at once

abbrev pub is_another : Problem → ExactNode → Bool
is_another p v = not (same_problem v.kept.problem p)

abbrev pub switched_to : ℕ → Problem → ExactNode → ExactNode
switched_to n p v =
    let o = switches n p v.kept.entries in
    if is_another p v
    then node_in v (Decided (record { problem = p; entries = o.entries }) o.replies)
    else node_in v (Stored o.replies)

abbrev pub switches_in : ℕ → Problem → ExactNode → ExactNodePhase → Turns ExactNode
switches_in n p v Down = Err fault.Down
switches_in n p v Idle = acts (switched_to n p v) (effect.Switched (is_another p v))
switches_in n p v (Decided s replies) = Err fault.WrongPhase
switches_in n p v (Stored replies) = Err fault.WrongPhase
