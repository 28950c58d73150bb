-- One actor of the exact world as an actor of code is seen: its number, its part of the world, and what
-- a call that refused its turn says.
use Rattle.std.specs.Prelude.{◌≡◌, ℕ, List, ◌⊎◌, true, false, IsOk, Err}
use Rattle.lock_messages.specs.declared.messages.Message.{Message}
use Rattle.lock_messages.specs.Messages.{is_for_node}
use Rattle.lock_model.specs.Ballots.{Ballot}
use Rattle.world_model.specs.declared.events.StepFault.{StepFault}
use Rattle.world_model.specs.declared.events.StepFault.TheVariants as fault
use Rattle.world_model.specs.declared.exact.ExactNode.{ExactNode}
use Rattle.world_model.specs.declared.exact.ExactClient.{ExactClient}
use Rattle.world_model.specs.declared.exact.ExactNodePhase.TheVariants.{Idle}
use Rattle.world_model.specs.ExactNodes.{takes_in}
use Rattle.world_model.specs.Turns.{Turns}

-- a node by its number
pub record ActingNode : Type 0 where
  pub number : ℕ
  pub part : ExactNode

-- a client by its number, under the ballots by which it may count votes
pub record ActingClient : Type 0 where
  pub number : ℕ
  pub ballots : List Ballot
  pub part : ExactClient

-- the actor's own part refuses the turn so; or memory was refused, and the turn is none that it refuses
abbrev pub IsRefusedTurn : {A : Type 0} → Turns A → StepFault → Type 0
IsRefusedTurn turn f = (turn ≡ Err f) ⊎ ((f ≡ fault.Memory) × IsOk turn)

-- the node is idle, and the message is for it
pub record MayTake (v : ActingNode) (m : Message) : Type 0 where
  pub idle : v.part.phase ≡ Idle
  pub for_node : is_for_node m v.number ≡ true

-- The message is not decided on: the node's own part refuses to take any; or the message is for another
-- actor; or memory was refused, and nothing else comes in its way.
abbrev pub IsRefusedTake : ActingNode → Message → StepFault → Type 0
IsRefusedTake v m f =
    ((number : ℕ) → takes_in v.number number v.part v.part.phase ≡ Err f)
    ⊎ ((v.part.phase ≡ Idle) × (is_for_node m v.number ≡ false) × (f ≡ fault.NotAddressed))
    ⊎ (MayTake v m × (f ≡ fault.Memory))
