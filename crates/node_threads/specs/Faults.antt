-- Which actors ended by faults, as a run tells them.
use Rattle.std.specs.Prelude.{◌<◌, ◌≤◌, List, length, All, AllPairs}
use Rattle.lock_messages.specs.declared.ids.Actor.{Actor}
use Rattle.lock_messages.specs.declared.ids.Actor.TheVariants as actor
use Rattle.event_recorders.specs.declared.faults.RunFault.{RunFault}
use Rattle.node_loop.specs.Standing.{IsNodeFault}
use Rattle.world_model.specs.declared.exact.ExactWorld.{ExactWorld}

-- the order of actors: nodes first, and then clients, each by number
abbrev pub ComesBefore : Actor → Actor → Type 0
ComesBefore (actor.Node n) (actor.Node k) = n < k
ComesBefore (actor.Node n) (actor.Client c) = Unit {0}
ComesBefore (actor.Client c) (actor.Node n) = ⊥
ComesBefore (actor.Client c) (actor.Client d) = c < d

-- the actor is one of the world's
abbrev pub IsActorOf : ExactWorld → Actor → Type 0
IsActorOf w (actor.Node n) = (1 ≤ n) × (n ≤ length w.nodes)
IsActorOf w (actor.Client c) = (1 ≤ c) × (c ≤ length w.clients)

-- a fault by which the actor's thread may end: a node's by 911, 914, 915 or 916, a client's by any
abbrev pub MayEndBy : Actor → RunFault → Type 0
MayEndBy (actor.Node n) f = IsNodeFault f
MayEndBy (actor.Client c) f = Unit {0}

-- The actors stand in order, so none twice; each is one of the world's, and its fault is one by which its
-- thread may end.
pub record AreFaults (w : ExactWorld) (faults : List (Actor × RunFault)) : Type 0 where
  pub ordered : AllPairs (λ p q. ComesBefore p.0 q.0) faults
  pub theirs : All (λ p. IsActorOf w p.0) faults
  pub each : All (λ p. MayEndBy p.0 p.1) faults
