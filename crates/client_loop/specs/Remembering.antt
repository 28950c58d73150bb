-- What a client remembers from post to post, to those who hold it.
use Rattle.std.specs.Prelude.{◌≡◌, ℕ, ◌≤◌, Bool, true, List, []}
use Rattle.client_core.specs.Clients.{Client, phase_of, ticket_of}
use Rattle.client_loop.specs.declared.progress.Progress.{Progress}
use Rattle.client_loop.specs.Nodes.{IsReleased}

-- the client's core
abbrev pub core_of : Progress → Client
core_of p = p.core

-- the same with this core
abbrev pub with_core : Progress → Client → Progress
with_core p core = record p { core = core }

-- the nodes whose vote was counted in the present wish
abbrev pub granted_of : Progress → List ℕ
granted_of p = p.granted

-- the nodes to which something was sent in the present wish, those that answered its release, and those that
-- are gone
abbrev pub asked_of : Progress → List ℕ
asked_of p = p.asked

abbrev pub released_of : Progress → List ℕ
released_of p = p.released

abbrev pub gone_of : Progress → List ℕ
gone_of p = p.gone

-- the same with no node gone
abbrev pub expecting_all : Progress → Progress
expecting_all p = record p { gone = [] }

-- whether a node let the present wish wait
abbrev pub busy_of : Progress → Bool
busy_of p = p.busy

-- how many nudges the present wish had, and how many it may have
abbrev pub nudges_of : Progress → ℕ
nudges_of p = p.nudges

abbrev pub most_of : Progress → ℕ
most_of p = p.most_nudges

-- a wish that may have so many nudges had its last
pub record IsLast (most nudges : ℕ) : Type 0 where
  pub enough : most ≤ nudges

-- so the present wish had
abbrev pub HasHadLast : Progress → Type 0
HasHadLast p = IsLast p.most_nudges p.nudges

-- each node to which something was sent in the present wish has answered the release, or is gone
abbrev pub HasReleased : Progress → Type 0
HasReleased p = IsReleased p.core.ballots p.asked p.released p.gone

-- The client is in the same phase, with the same ticket, and may have as many nudges. If a node let it wait, it remembers that.
pub record KeepsAsking (p p' : Progress) : Type 0 where
  pub phase : phase_of p'.core ≡ phase_of p.core
  pub ticket : ticket_of p'.core ≡ ticket_of p.core
  pub most : p'.most_nudges ≡ p.most_nudges
  pub busy : p.busy ≡ true → p'.busy ≡ true
