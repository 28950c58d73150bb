-- The exact worlds that a run reaches, and that both theorems speak of them. The statements are proved as contracts
-- of functions of `laws`.
use Rattle.std.specs.Prelude.{◌≡◌, ℕ, List, length, Result, Ok}
use Rattle.lock_model.specs.declared.problems.Problem.{Problem}
use Rattle.lock_model.specs.Ballots.{Ballot, AllCross, node_count}
use Rattle.world_model.specs.declared.events.Effect.{Effect}
use Rattle.world_model.specs.declared.events.Event.{Event}
use Rattle.world_model.specs.declared.events.StepFault.{StepFault}
use Rattle.world_model.specs.declared.exact.ExactStation.{ExactStation}
use Rattle.world_model.specs.declared.exact.ExactWorld.{ExactWorld}
use Rattle.world_model.specs.declared.ways.Want.{Want}
use Rattle.world_model.specs.Exclusion.{IsExclusive}
use Rattle.world_model.specs.ExactWorlds.{Stepped, step}
use Rattle.world_model.specs.Forgetting.{forget, setting_of, IsSound}
use Rattle.world_model.specs.Openings.{opening, resumed, IsResumable}
use Rattle.world_model.specs.StepsOf.{Does, Runs}
use Rattle.world_model.specs.Ways.{IsReached, IsPossible, HasKeptBelow, WayIn}

-- Steps that are taken, one after the other, lead from w to this world.
pub data LeadsTo (w : ExactWorld) : ExactWorld → Type 0 where
  leads_nowhere : LeadsTo w w
  leads_on : (u : ExactWorld) (e : Event) (s : Stepped) → LeadsTo w u → step u e ≡ Ok s → LeadsTo w s.world

-- Steps lead to it from a world that is resumed from records that fit.
pub record IsReachable (w : ExactWorld) : Type 0 where
  pub ballots : List Ballot
  pub stations : List ExactStation
  pub attempts : List ℕ
  pub resumable : IsResumable ballots stations attempts
  pub leads : LeadsTo (resumed ballots stations attempts) w

-- Each opening is reachable: a world that is resumed, and one in which nothing is kept.
pub record OpeningsAreReachable : Type 0 where
  pub with_records : (b : List Ballot) (stations : List ExactStation) (attempts : List ℕ) → IsResumable b stations attempts → IsReachable (resumed b stations attempts)
  pub empty : (b : List Ballot) (problems : List Problem) (clients : ℕ) → AllCross b → length problems ≡ node_count b → IsReachable (opening b problems clients)

-- A call that takes a step, or is refused it, leaves a reachable world.
abbrev pub StepsReachOn : Type 0
StepsReachOn = (w v : ExactWorld) (e : Event) (r : Result Effect StepFault) → IsReachable w → Does e (step w e) w r v → IsReachable v

-- So does a call that takes a list of events, up to the first that is refused.
abbrev pub RunsReachOn : Type 0
RunsReachOn = (w v : ExactWorld) (events : List Event) (r : Result ℕ (ℕ × StepFault)) → IsReachable w → Runs events w r v → IsReachable v

-- Both theorems speak of a reachable world.
pub record IsSpokenOf (w : ExactWorld) : Type 0 where
  pub sound : IsSound w
  pub crosses : AllCross w.ballots
  pub reached : IsReached (setting_of w) (forget w)

abbrev pub TheoremsSpeak : Type 0
TheoremsSpeak = (w : ExactWorld) → IsReachable w → IsSpokenOf w

-- This is what they say of it.
abbrev pub WritersAreAloneThere : Type 0
WritersAreAloneThere = (w : ExactWorld) → IsReachable w → IsExclusive (forget w)

abbrev pub NobodyIsLockedOutThere : Type 0
NobodyIsLockedOutThere = (w : ExactWorld) (a : Want) → IsReachable w → IsPossible (setting_of w) a → HasKeptBelow (forget w) a.client → WayIn (setting_of w) (forget w) a (λ e. Unit {0})
