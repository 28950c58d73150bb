-- What a client knows of the nodes: who may still give its vote, who has to answer the release, and who is
-- skipped.
use Rattle.std.specs.Prelude.{◌≡◌, ℕ, Bool, true, false, not, ◌||◌, ◌&&◌, List}
use Rattle.lock_messages.specs.declared.tickets.Mode.{Mode}
use Rattle.lock_model.specs.Ballots.{Ballot, HasAnyNode, IsEnough, ballot_at, node_count}
use Rattle.lock_model.specs.ExactHearing.{is_node_of}
use Rattle.vote_weights.specs.Sets.{has_node}
use Rattle.client_core.specs.declared.phases.Present.{Present}
use Rattle.client_core.specs.declared.phases.State.{State}
use Rattle.client_core.specs.declared.phases.State.TheVariants.{Idle, Chosen, Asking, Inside}
use Rattle.client_core.specs.Clients.{Client}

-- whether the node gave its vote, or may still give it: it granted, or it isn't gone
abbrev pub is_possible : List ℕ → List ℕ → ℕ → Bool
is_possible granted gone n = has_node granted n || not (has_node gone n)

-- by the ballot of the place, the votes of the nodes that granted and of those that aren't gone are enough for
-- the mode
abbrev pub CanSuffice : List Ballot → ℕ → Mode → List ℕ → List ℕ → Type 0
CanSuffice b place mode granted gone = IsEnough (ballot_at b place) mode (is_possible granted gone)

-- The node has to answer the release: it was asked, has not answered and isn't gone.
pub record Owes (asked released gone : List ℕ) (n : ℕ) : Type 0 where
  pub was_asked : has_node asked n ≡ true
  pub is_silent : has_node released n ≡ false
  pub is_there : has_node gone n ≡ false

-- no node of the ballots has to answer the release
abbrev pub IsReleased : List Ballot → List ℕ → List ℕ → List ℕ → Type 0
IsReleased b asked released gone = (n : ℕ) → HasAnyNode b n → Owes asked released gone n → ⊥

-- whether it is a node of the ballots, and whether it is one that is gone
abbrev pub is_among : List Ballot → ℕ → Bool
is_among b n = is_node_of (node_count b) n

abbrev pub is_gone_among : List Ballot → List ℕ → ℕ → Bool
is_gone_among b gone n = is_among b n && has_node gone n

-- the same attempt, in which these nodes are skipped too
pub record SkipsMore (these : ℕ → Bool) (p : Present) (after : State) : Type 0 where
  pub more : List ℕ
  pub state : after ≡ Asking (record p { skipped = more })
  pub members : (n : ℕ) → has_node more n ≡ (these n || has_node p.skipped n)

abbrev pub SkipsIn : (ℕ → Bool) → State → State → Type 0
SkipsIn these Idle after = after ≡ Idle
SkipsIn these (Chosen t place) after = after ≡ Chosen t place
SkipsIn these (Asking p) after = SkipsMore these p after
SkipsIn these (Inside p) after = after ≡ Inside p

-- While it asks the client skips these nodes too; in every other phase it is as it was. Nothing else of it
-- changes.
pub record Skips (these : ℕ → Bool) (before after : Client) : Type 0 where
  pub client : after.client ≡ before.client
  pub ballots : after.ballots ≡ before.ballots
  pub attempt : after.attempt ≡ before.attempt
  pub state : SkipsIn these before.state after.state
