use Rattle.std.proofs.Common.{◌≡◌, ◌++◌, List}
use Rattle.vote_weights.specs.Sets.{has_node}
use Rattle.world_model.specs.declared.events.Event.{Event}
use Rattle.world_model.specs.ExactWays.{Follows}
use Rattle.world_model.specs.Forgetting.{forget, setting_of}
use Rattle.world_model.proofs.Costs.{cost}
use Rattle.world_machine.proofs.ways.Ahead.go_in.Given as goal

-- the next moves were made so far
abbrev pub invariant-loop-next : goal.invariant-loop-next
invariant-loop-next g l = (es : List Event) × Follows (has_node l.chosen) l.want l.fn.self.world es l.self.world × (l.self.events.items ≡ l.fn.self.events.items ++ es)

-- each brings the client nearer
abbrev pub decreases-loop-next : goal.decreases-loop-next
decreases-loop-next g l = cost (setting_of l.self.world) (has_node l.chosen) l.want (forget l.self.world)
