use Rattle.std.proofs.Common.{◌≡◌, ℕ, ◌≤◌}
use Rattle.lock_messages.specs.declared.ids.Actor.TheVariants as actor
use Rattle.world_machine.specs.Going.{HasRaised}
use Rattle.world_machine.proofs.ways.Ahead.raise_clients.Given as goal

-- those so far have risen
abbrev pub invariant-loop-place : goal.invariant-loop-place
invariant-loop-place g l = HasRaised l.fn.self.world l.fn.self.events.items l.self.world l.self.events.items (λ who. (n : ℕ) × (who ≡ actor.Client n) × (n ≤ l.place))
