-- How many messages a way in may still say: each step that says some makes it less by as many.
use Rattle.std.proofs.Common.{ℕ, ◌+◌, nat_le, Bool, if◌then◌else◌, List, Option, None, Some}
use Rattle.lock_messages.specs.declared.messages.Message.{Message}
use Rattle.world_model.specs.declared.exact.ExactNode.{ExactNode}
use Rattle.world_model.specs.declared.exact.ExactWorld.{ExactWorld}
use Rattle.world_model.specs.declared.ways.Want.{Want}
use Rattle.world_model.specs.Worlds.{NodePhase, ClientPhase, Setting}
use Rattle.world_model.specs.ExactWorlds.{numbered}
use Rattle.world_model.specs.Forgetting.{node_phase_of, forget, setting_of}
use Rattle.world_model.specs.Advice.{node_numbers, client_numbers}
use Rattle.world_model.specs.ExactWays.{total_over, to_say, coming_station, waiting_count, block_load}
use Rattle.world_model.proofs.Costs.{ask_cost}

-- a request and the reply to it, while the vote is neither counted nor granted nor about to be
abbrev pub vote_owed : Want → ClientPhase → List Message → ℕ → NodePhase → ℕ
vote_owed a k sent n phase = if nat_le 7 (ask_cost a k sent n phase) then 2 else 0

-- what is owed at one node
abbrev pub node_owed : Setting → Want → ClientPhase → List Message → ℕ → ExactNode → ℕ
node_owed s a k sent n v =
    to_say v.phase + (waiting_count (coming_station v.kept v.phase).entries + (total_over (block_load a (coming_station v.kept v.phase)) (client_numbers s) + vote_owed a k sent n (node_phase_of v.phase)))

abbrev pub owed_at : Setting → Want → ClientPhase → List Message → ℕ → Option ExactNode → ℕ
owed_at s a k sent n None = 0
owed_at s a k sent n (Some v) = node_owed s a k sent n v

-- and at all that are chosen
abbrev pub owed : (ℕ → Bool) → Want → ExactWorld → ℕ
owed chosen a w = total_over (λ n. if chosen n then owed_at (setting_of w) a ((forget w).clients a.client).phase w.sent n (numbered w.nodes n) else 0) (node_numbers (setting_of w))
