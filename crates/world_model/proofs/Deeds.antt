-- What is told of each event: the one place where the proofs go over all of them.
use Rattle.lock_messages.specs.declared.ids.Actor.TheVariants as actor
use Rattle.lock_model.specs.ExactDecisions.{decision}
use Rattle.lock_model.specs.Laws.{ExactDecisionIsAllowed, StayingIsSeen, ExactSwitchIsAllowed, SwitchToTheSame, ProblemsAreCompared, HearingOfTicketIsExact, HearingSoftenedIsExact, HearingAtRestIsExact}
use Rattle.lock_model.proofs.DecisionFacts.{decision-allowed}
use Rattle.lock_model.proofs.EntryTests.{no-change-iff}
use Rattle.lock_model.proofs.SwitchFacts.{switch-allowed, switch-to-the-same, problems-are-compared}
use Rattle.lock_model.proofs.HearingFacts.{of-ticket, once-softened, at-rest}
use Rattle.world_model.specs.declared.events.Event.{Event}
use Rattle.world_model.specs.declared.events.Event.TheVariants as event
use Rattle.world_model.specs.declared.exact.ExactNode.{ExactNode}
use Rattle.world_model.specs.declared.exact.ExactClient.{ExactClient}
use Rattle.world_model.specs.Worlds.{Setting}
use Rattle.world_model.specs.ExactWorlds.{Deed, NodeDoes, ClientDoes, deed_of}
use Rattle.world_model.proofs.ClientTurns.{ClientTold, begins-told, tries-attempt-told, keeps-attempt-told, tells-told, enters-told, leaves-told, softens-told, client-falls-told, client-rises-told}
use Rattle.world_model.proofs.HearTurns.{HearingLaws, hears-told}
use Rattle.world_model.proofs.NodeTurns.{DecisionLaws, SwitchLaws, NodeTold, tries-station-told, keeps-station-told, says-told, takes-told, node-falls-told, node-rises-told, switches-told}

-- the laws of lock_model, as they are used here
pub record ModelLaws : Type 1 where
  pub deciding : DecisionLaws
  pub switching : SwitchLaws
  pub hearing : HearingLaws

abbrev pub DeedTold : Setting → Event → Deed → Type 0
DeedTold s e (NodeDoes n turn) = (v : ExactNode) → NodeTold s e n v (turn v)
DeedTold s e (ClientDoes c turn) = (k : ExactClient) → ClientTold s e c k (turn s.ballots k)

pub deed-told : ModelLaws → (s : Setting) (e : Event) → DeedTold s e (deed_of e)
deed-told laws s (event.Begin c m x place) = begins-told s c m x place
deed-told laws s (event.Try (actor.Node n)) = tries-station-told s n
deed-told laws s (event.Try (actor.Client c)) = tries-attempt-told s c
deed-told laws s (event.Kept (actor.Node n)) = keeps-station-told s n
deed-told laws s (event.Kept (actor.Client c)) = keeps-attempt-told s c
deed-told laws s (event.SayTo c n) = tells-told s c n
deed-told laws s (event.Say n) = says-told s n
deed-told laws s (event.Take n number) = takes-told laws.deciding s n number
deed-told laws s (event.Hear c number) = hears-told laws.hearing s c number
deed-told laws s (event.Enter c) = enters-told s c
deed-told laws s (event.Leave c) = leaves-told s c
deed-told laws s (event.Soften c) = softens-told s c
deed-told laws s (event.Fall (actor.Node n)) = node-falls-told s n
deed-told laws s (event.Fall (actor.Client c)) = client-falls-told s c
deed-told laws s (event.Rise (actor.Node n) age) = node-rises-told s n age
deed-told laws s (event.Rise (actor.Client c) age) = client-rises-told s c age
deed-told laws s (event.Switch n p) = switches-told laws.switching s n p

pub laws-of : ExactDecisionIsAllowed → StayingIsSeen → ExactSwitchIsAllowed → SwitchToTheSame → ProblemsAreCompared → HearingOfTicketIsExact → HearingSoftenedIsExact → HearingAtRestIsExact → ModelLaws
laws-of allowed seen switched same compared of_ticket softened at_rest = record { deciding = record { allowed = allowed; seen = seen }; switching = record { allowed = switched; same = same; compared = compared }; hearing = record { of_ticket = of_ticket; softened = softened; at_rest = at_rest } }

-- They hold.
pub model-laws : ModelLaws
model-laws =
    laws-of decision-allowed (λ p entries message. no-change-iff entries (decision p entries message).entries) switch-allowed switch-to-the-same problems-are-compared of-ticket once-softened at-rest
