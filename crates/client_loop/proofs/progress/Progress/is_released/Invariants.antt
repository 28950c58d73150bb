use Rattle.std.proofs.Common.{ℕ, ◌≤◌, ◌<◌}
use Rattle.client_loop.specs.Nodes.{Owes}
use Rattle.client_loop.proofs.progress.Progress.is_released.Given as goal

-- no node below the number has to answer
abbrev pub invariant-loop-number : goal.invariant-loop-number
invariant-loop-number l = (n : ℕ) → 1 ≤ n → n < l.number → Owes l.self.asked l.self.released l.self.gone n → ⊥
