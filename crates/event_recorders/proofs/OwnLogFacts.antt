-- What an own log tells of its actor's part.
use Rattle.std.proofs.Common.{◌≡◌, Bool, true, false, cond, List, [], ◌∷◌, ◌++◌, Option, Some, None, refl}
use Rattle.std.specs.Prelude.{ℕ, ◌+◌, ◌==◌, ◌&&◌, not, nat_le, nat_lt, Err}
use Rattle.lock_messages.specs.declared.ids.Actor.TheVariants as actor
use Rattle.lock_messages.specs.declared.messages.Message.{Message}
use Rattle.lock_messages.specs.declared.messages.Message.TheVariants as message
use Rattle.lock_messages.specs.declared.ids.TheConstants.{MAX_ATTEMPT}
use Rattle.lock_messages.specs.Messages.{is_for_client, named_node}
use Rattle.lock_model.specs.declared.problems.Problem.{Problem}
use Rattle.lock_model.specs.ExactDecisions.{decision, changes, switches}
use Rattle.lock_model.specs.ExactStations.{is_write}
use Rattle.lock_model.specs.ExactHearing.{is_node_of, is_counted}
use Rattle.lock_messages.specs.declared.tickets.Mode.{Mode}
use Rattle.lock_model.specs.Ballots.{Ballot, needed, votes_of, ballot_at, has_place, node_count}
use Rattle.world_model.specs.declared.events.Effect.{Effect}
use Rattle.vote_weights.specs.Sets.{has_node}
use Rattle.world_model.specs.declared.events.Effect.TheVariants as effect
use Rattle.world_model.specs.declared.events.StepFault.TheVariants as fault
use Rattle.world_model.specs.declared.events.Event.{Event}
use Rattle.world_model.specs.declared.events.Event.TheVariants as event
use Rattle.world_model.specs.declared.exact.ExactNode.{ExactNode}
use Rattle.world_model.specs.declared.exact.ExactClient.{ExactClient}
use Rattle.world_model.specs.declared.exact.ExactNodePhase.{ExactNodePhase}
use Rattle.world_model.specs.declared.exact.ExactNodePhase.TheVariants as node
use Rattle.world_model.specs.declared.exact.ExactClientPhase.{ExactClientPhase}
use Rattle.world_model.specs.declared.exact.ExactClientPhase.TheVariants as client
use Rattle.world_model.specs.ExactClients.{client_in, next_ticket, begins_by, begins_in, says_one, tells_in, heard_in, counts_in, after_hearing, is_down, enters_in, leaves_in, soft, softens_in, client_falls_in}
use Rattle.world_model.specs.ExactNodes.{node_in, says_in, takes_in, decided_on, node_falls_in, is_another, switches_in}
use Rattle.world_model.specs.Turns.{Turns, acts, reads}
use Rattle.world_model.specs.Locality.{local_part}
use Rattle.world_model.specs.Parts.{Part, NoPart, NodePart, ClientPart, after_own, after_turn, after_reading, message_of}
use Rattle.event_recorders.specs.OwnLogs.{FindsPart, changes_record}
use Rattle.event_recorders.specs.Laws.{PartsFollow, RecordsStay}

-- one event more, at the end of a list
pub part-after : (b : List Ballot) (p : Part) (own : List (Event × Effect)) (e : Event) (done : Effect) →
    local_part b p (own ++ (e, done) ∷ []) ≡ after_own b e done (local_part b p own)
part-after b p [] e done = refl
part-after b p (q ∷ own) e done = part-after b (after_own b q.0 q.1 p) own e done

pub parts-follow : PartsFollow
parts-follow l e done = part-after l.ballots l.opening l.events e done

-- what holds of both arms holds of the one that is chosen
either : {A : Type 0} (F : A → Type 0) (b : Bool) (x y : A) → F x → F y → F (cond b x y)
either F true x y p q = p
either F false x y p q = q

-- What is kept and tried stays, in each of the turns.

module _ (strings : List (List ℕ)) (v : ExactNode) (h : FindsPart (NodePart v) strings) where
  -- what is found of the node after a turn
  abbrev Node : Turns ExactNode → Effect → Type 0
  Node turn done = FindsPart (NodePart (after_turn v turn done)) strings

  decided : (read : Option Message) → FindsPart (NodePart (after_reading v (decided_on v) read)) strings
  decided None = h
  decided (Some m) =
      either (λ u. FindsPart (NodePart u) strings) (changes v.kept.problem v.kept.entries m)
      (node_in v (node.Decided (record { problem = v.kept.problem; entries = (decision v.kept.problem v.kept.entries m).entries }) (decision v.kept.problem v.kept.entries m).replies))
      (node_in v (node.Stored (decision v.kept.problem v.kept.entries m).replies)) h h

  takes : (n k : ℕ) (phase : ExactNodePhase) (done : Effect) → Node (takes_in n k v phase) done
  takes n k node.Down done = h
  takes n k node.Idle done = decided (message_of done)
  takes n k (node.Decided s replies) done = h
  takes n k (node.Stored replies) done = h

  says : (phase : ExactNodePhase) (done : Effect) → Node (says_in v phase) done
  says node.Down done = h
  says node.Idle done = h
  says (node.Decided s replies) done = h
  says (node.Stored replies) done = h

  switched : (n : ℕ) (p : Problem) (phase : ExactNodePhase) (done : Effect) → Node (switches_in n p v phase) done
  switched n p node.Down done = h
  switched n p node.Idle done =
      either (λ u. FindsPart (NodePart u) strings) (is_another p v)
      (node_in v (node.Decided (record { problem = p; entries = (switches n p v.kept.entries).entries }) (switches n p v.kept.entries).replies))
      (node_in v (node.Stored (switches n p v.kept.entries).replies)) h h
  switched n p (node.Decided s replies) done = h
  switched n p (node.Stored replies) done = h

  node-falls : (phase : ExactNodePhase) (done : Effect) → Node (node_falls_in v phase) done
  node-falls node.Down done = h
  node-falls node.Idle done = h
  node-falls (node.Decided s replies) done = h
  node-falls (node.Stored replies) done = h

  node-stays : (b : List Ballot) (e : Event) (done : Effect) → changes_record e ≡ false → FindsPart (after_own b e done (NodePart v)) strings
  node-stays b (event.Begin c m x place) done still = h
  node-stays b (event.Try who) done still = absurd (cc still)
  node-stays b (event.Kept who) done still = absurd (cc still)
  node-stays b (event.SayTo c n) done still = h
  node-stays b (event.Say n) done still = says v.phase done
  node-stays b (event.Take n k) done still = takes n k v.phase done
  node-stays b (event.Hear c k) done still = h
  node-stays b (event.Enter c) done still = h
  node-stays b (event.Leave c) done still = h
  node-stays b (event.Soften c) done still = h
  node-stays b (event.Fall (actor.Node n)) done still = node-falls v.phase done
  node-stays b (event.Fall (actor.Client c)) done still = h
  node-stays b (event.Rise who age) done still = absurd (cc still)
  node-stays b (event.Switch n p) done still = switched n p v.phase done

module _ (strings : List (List ℕ)) (k : ExactClient) (h : FindsPart (ClientPart k) strings) where
  -- what is found of the client after a turn
  abbrev Client : Turns ExactClient → Effect → Type 0
  Client turn done = FindsPart (ClientPart (after_turn k turn done)) strings

  begins : (b : List Ballot) (c : ℕ) (m : Mode) (x : List ℕ) (place : ℕ) (phase : ExactClientPhase) (done : Effect) → Client (begins_in b c m x place k phase) done
  begins b c m x place client.Down done = h
  begins b c m x place client.Idle done =
      let turn = acts (client_in k (client.Chosen (next_ticket c m x k.kept) place)) (effect.Chose (k.kept + 1)) in
      either (λ t. Client t done) (nat_lt k.kept MAX_ATTEMPT) (begins_by b place turn) (Err fault.AttemptsSpent)
      (either (λ t. Client t done) (has_place b place) turn (Err fault.NoSuchPlace) h h) h
  begins b c m x place (client.Chosen t chosen) done = h
  begins b c m x place (client.Asking p) done = h
  begins b c m x place (client.Inside p) done = h

  told : (c n : ℕ) (phase : ExactClientPhase) (done : Effect) → Client (tells_in c n k phase) done
  told c n client.Down done = h
  told c n client.Idle done = either (λ t. Client t done) (k.kept == 0) (Err fault.NothingToSay) (says_one k (message.Release n c k.kept)) h h
  told c n (client.Chosen t place) done = h
  told c n (client.Asking p) done = h
  told c n (client.Inside p) done = h

  heard : (nodes c : ℕ) (read : Option Message) → FindsPart (ClientPart (after_reading k (after_hearing nodes c k) read)) strings
  heard nodes c None = h
  heard nodes c (Some m) = either (λ u. FindsPart (ClientPart u) strings) (is_counted (heard_in nodes c k.kept k.phase m)) (client_in k (counts_in (named_node m) k.phase)) k h h

  enters : (b : List Ballot) (phase : ExactClientPhase) (done : Effect) → Client (enters_in b k phase) done
  enters b client.Down done = h
  enters b client.Idle done = h
  enters b (client.Chosen t place) done = h
  enters b (client.Asking p) done = either (λ u. Client u done) (nat_le (needed (ballot_at b p.place) p.ticket.mode) (votes_of (ballot_at b p.place) (has_node p.granted))) (acts (client_in k (client.Inside p)) effect.Inside) (Err fault.NoQuorum) h h
  enters b (client.Inside p) done = h

  leaves : (phase : ExactClientPhase) (done : Effect) → Client (leaves_in k phase) done
  leaves client.Down done = h
  leaves client.Idle done = h
  leaves (client.Chosen t place) done = h
  leaves (client.Asking p) done = h
  leaves (client.Inside p) done = h

  softens : (phase : ExactClientPhase) (done : Effect) → Client (softens_in k phase) done
  softens client.Down done = h
  softens client.Idle done = h
  softens (client.Chosen t place) done = h
  softens (client.Asking p) done = h
  softens (client.Inside p) done =
      either (λ t. Client t done) (is_write p.ticket.mode && not p.softened) (acts (client_in k (client.Inside (soft p))) effect.Softened) (Err fault.WrongPhase) h h

  client-falls : (phase : ExactClientPhase) (done : Effect) → Client (client_falls_in k phase) done
  client-falls client.Down done = h
  client-falls client.Idle done = h
  client-falls (client.Chosen t place) done = h
  client-falls (client.Asking p) done = h
  client-falls (client.Inside p) done = h

  client-stays : (b : List Ballot) (e : Event) (done : Effect) → changes_record e ≡ false → FindsPart (after_own b e done (ClientPart k)) strings
  client-stays b (event.Begin c m x place) done still = begins b c m x place k.phase done
  client-stays b (event.Try who) done still = absurd (cc still)
  client-stays b (event.Kept who) done still = absurd (cc still)
  client-stays b (event.SayTo c n) done still = either (λ t. Client t done) (is_node_of (node_count b) n) (tells_in c n k k.phase) (Err fault.UnknownActor) (told c n k.phase done) h
  client-stays b (event.Say n) done still = h
  client-stays b (event.Take n number) done still = h
  client-stays b (event.Hear c number) done still =
      either (λ t. Client t done) (is_down k.phase) (Err fault.Down) (reads number (λ m. is_for_client m c) (after_hearing (node_count b) c k) (λ m. effect.Heard m (heard_in (node_count b) c k.kept k.phase m))) h
      (heard (node_count b) c (message_of done))
  client-stays b (event.Enter c) done still = enters b k.phase done
  client-stays b (event.Leave c) done still = leaves k.phase done
  client-stays b (event.Soften c) done still = softens k.phase done
  client-stays b (event.Fall (actor.Node n)) done still = h
  client-stays b (event.Fall (actor.Client c)) done still = client-falls k.phase done
  client-stays b (event.Rise who age) done still = absurd (cc still)
  client-stays b (event.Switch n p) done still = h

pub records-stay : RecordsStay
records-stay b e done NoPart strings still h = h
records-stay b e done (NodePart v) strings still h = node-stays strings v h b e done still
records-stay b e done (ClientPart k) strings still h = client-stays strings k h b e done still
