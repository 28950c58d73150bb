-- What entering makes of a client's part.
use Rattle.std.proofs.Common.{◌≡◌, ℕ, List, None, ap, ◌∙◌}
use Rattle.lock_model.specs.Ballots.{Ballot}
use Rattle.client_core.specs.Clients.{Client}
use Rattle.client_core.specs.Calls.{MayEnter, entered}
use Rattle.world_model.specs.declared.events.Effect.{Effect}
use Rattle.world_model.specs.declared.events.Event.TheVariants as event
use Rattle.world_model.specs.ExactWorlds.{refusal_of}
use Rattle.world_model.specs.Parts.{Part, ClientPart, own_refusal, after_own, after_turn}
use Rattle.world_actors.proofs.ClientFacts.{enough}
use Rattle.event_recorders.specs.OwnLogs.{OwnLog, IsAdded, part_now}
use Rattle.client_loop.specs.Standing.{Stands, part_of}

pub enter_allowed : (l : OwnLog) (finds : List (List ℕ)) (c : Client) (who : ℕ) → MayEnter c → Stands l finds c → own_refusal l.ballots (event.Enter who) (part_now l) ≡ None
enter_allowed l finds c who may h =
    ap (λ (p : Part). own_refusal l.ballots (event.Enter who) p) h.part
    ∙ ap (λ (b : List Ballot). own_refusal b (event.Enter who) (ClientPart (part_of c))) h.ballots
    ∙ ap refusal_of (enough c.ballots (part_of c) c.state may)

enters-to : (c : Client) (who : ℕ) (done : Effect) → MayEnter c → after_own c.ballots (event.Enter who) done (ClientPart (part_of c)) ≡ ClientPart (part_of (entered c))
enters-to c who done may = ap (λ t. ClientPart (after_turn (part_of c) t done)) (enough c.ballots (part_of c) c.state may)

pub enter_stands : (l l' : OwnLog) (finds : List (List ℕ)) (c : Client) (who : ℕ) (done : Effect) → MayEnter c → Stands l finds c → IsAdded l (event.Enter who) done l' → Stands l' finds (entered c)
enter_stands l l' finds c who done may h added = record {
  actor = ap (λ (x : OwnLog). x.actor) added.log ∙ h.actor;
  ballots = ap (λ (x : OwnLog). x.ballots) added.log ∙ h.ballots;
  part = added.part ∙ ap (λ (p : Part). after_own l.ballots (event.Enter who) done p) h.part ∙ ap (λ (b : List Ballot). after_own b (event.Enter who) done (ClientPart (part_of c))) h.ballots ∙ enters-to c who done may;
  found = h.found;
}
