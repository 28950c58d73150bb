-- Which numbers name a node, a client and an attempt.
use Rattle.std.specs.Prelude.{ℕ, ◌≤◌}
use Rattle.lock_messages.specs.declared.ids.TheConstants.{MAX_NODES, MAX_CLIENTS, MAX_ATTEMPT}

-- a node's number
abbrev pub IsNode : ℕ → Type 0
IsNode n = (1 ≤ n) × (n ≤ MAX_NODES)

-- a client's number
abbrev pub IsClient : ℕ → Type 0
IsClient n = (1 ≤ n) × (n ≤ MAX_CLIENTS)

-- an attempt's number
abbrev pub IsAttempt : ℕ → Type 0
IsAttempt n = (1 ≤ n) × (n ≤ MAX_ATTEMPT)
