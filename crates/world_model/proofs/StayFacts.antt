-- Who is inside stays inside until its own Leave or Fall, and its own Soften alone makes it a reader there.
use Rattle.std.proofs.Common.{◌≡◌, ℕ, ◌&&◌, Bool, true, false, not, cond, List, [], ◌∷◌, ◌++◌, Option, Some, None, Err, refl, sym, ◌∙◌, ap, subst, inl, inr}
use Rattle.std.proofs.lemmas.Bool.{and_parts, not-true}
use Rattle.lock_messages.specs.declared.ids.Actor.TheVariants as actor
use Rattle.lock_messages.specs.declared.messages.Message.{Message}
use Rattle.lock_messages.specs.declared.tickets.Mode.TheVariants.{Read, Write}
use Rattle.lock_messages.specs.declared.tickets.Ticket.{Ticket}
use Rattle.lock_messages.specs.Messages.{is_for_client, named_node}
use Rattle.lock_model.specs.Ballots.{Ballot, node_count}
use Rattle.lock_model.specs.ExactHearing.{is_node_of, is_counted}
use Rattle.lock_model.specs.ExactStations.{is_write}
use Rattle.lock_model.proofs.SettlingFacts.{write-true}
use Rattle.world_model.specs.declared.events.Effect.{Effect}
use Rattle.world_model.specs.declared.events.Effect.TheVariants as effect
use Rattle.world_model.specs.declared.events.Event.{Event}
use Rattle.world_model.specs.declared.events.Event.TheVariants as event
use Rattle.world_model.specs.declared.events.StepFault.TheVariants as fault
use Rattle.world_model.specs.declared.exact.ExactClient.{ExactClient}
use Rattle.world_model.specs.declared.exact.ExactPresent.{ExactPresent}
use Rattle.world_model.specs.declared.exact.ExactClientPhase.{ExactClientPhase}
use Rattle.world_model.specs.declared.exact.ExactClientPhase.TheVariants as client
use Rattle.world_model.specs.declared.exact.ExactNode.{ExactNode}
use Rattle.world_model.specs.declared.exact.ExactWorld.{ExactWorld}
use Rattle.world_model.specs.Turns.{Turns, acts, reads}
use Rattle.world_model.specs.ExactClients.{begins_in, tries_attempt_in, keeps_attempt_in, tells_in, after_hearing, client_in, counts_in, heard_in, is_down, enters_in, leaves_in, soft, softens_in, client_falls_in, client_rises_in}
use Rattle.world_model.specs.ExactWorlds.{Deed, NodeDoes, ClientDoes, deed_of, actor_of, numbered}
use Rattle.world_model.specs.Laws.{Takes}
use Rattle.world_model.specs.Locality.{IsHistory, PartsAreLocal, StepsChangeOnePart, own_events, local_part}
use Rattle.world_model.specs.Parts.{Part, NoPart, NodePart, ClientPart, part, client_part, after_turn, after_reading, message_of, after_in, after_own}
use Rattle.world_model.specs.Staying.{inside_ticket, leaves_or_falls, is_soften, HasNoEnd, HasNoSoften, IsOrSoftens}
use Rattle.world_model.specs.Views.{softened_ticket, present_ticket, ticket_in, ticket_at, ticket_inside}

-- a turn that leaves who is inside as it was
stays-by : (k : ExactClient) (t : Ticket) (turn : ExactClientPhase → Turns ExactClient) (done : Effect) → ((p : ExactPresent) → after_turn k (turn (client.Inside p)) done ≡ k) → ticket_in k.phase ≡ Some t → ticket_in (after_turn k (turn k.phase) done).phase ≡ Some t
stays-by k t turn done same h = go k.phase h
  where
    go : (p : ExactClientPhase) → ticket_in p ≡ Some t → ticket_in (after_turn k (turn p) done).phase ≡ Some t
    go client.Down q = absurd (let z : None ≡ Some t = q in cc)
    go client.Idle q = absurd (let z : None ≡ Some t = q in cc)
    go (client.Chosen u place) q = absurd (let z : None ≡ Some t = q in cc)
    go (client.Asking p) q = absurd (let z : None ≡ Some t = q in cc)
    go (client.Inside p) q = ap (λ (x : ExactClient). ticket_in x.phase) (same p) ∙ h

-- saying to a node leaves the client as it was
tells-stays : (k : ExactClient) (t : Ticket) (c n : ℕ) (done : Effect) → ticket_in k.phase ≡ Some t → (b : Bool) → ticket_in (after_turn k (cond b (tells_in c n k k.phase) (Err fault.UnknownActor)) done).phase ≡ Some t
tells-stays k t c n done h true = stays-by k t (tells_in c n k) done (λ p. refl) h
tells-stays k t c n done h false = h

-- hearing leaves the phase, but for the votes that are counted
counts-same : (n : ℕ) (p : ExactClientPhase) → ticket_in (counts_in n p) ≡ ticket_in p
counts-same n client.Down = refl
counts-same n client.Idle = refl
counts-same n (client.Chosen t place) = refl
counts-same n (client.Asking p) = refl
counts-same n (client.Inside p) = refl

counted-stays : (k : ExactClient) (t : Ticket) (n : ℕ) → ticket_in k.phase ≡ Some t → (b : Bool) → ticket_in (cond b (client_in k (counts_in n k.phase)) k).phase ≡ Some t
counted-stays k t n h true = counts-same n k.phase ∙ h
counted-stays k t n h false = h

reads-stays : (k : ExactClient) (t : Ticket) (nodes c : ℕ) → ticket_in k.phase ≡ Some t → (o : Option Message) → ticket_in (after_reading k (after_hearing nodes c k) o).phase ≡ Some t
reads-stays k t nodes c h None = h
reads-stays k t nodes c h (Some m) = counted-stays k t (named_node m) h (is_counted (heard_in nodes c k.kept k.phase m))

-- every event but a Leave, a Fall and a Soften leaves a client inside, with its ticket
client-stays : (b : List Ballot) (e : Event) (done : Effect) (k : ExactClient) (t : Ticket) → leaves_or_falls e ≡ false → is_soften e ≡ false → ticket_in k.phase ≡ Some t → inside_ticket (after_own b e done (ClientPart k)) ≡ Some t
client-stays b (event.Begin c m x place) done k t stays whole h = stays-by k t (begins_in b c m x place k) done (λ p. refl) h
client-stays b (event.Try (actor.Node n)) done k t stays whole h = h
client-stays b (event.Try (actor.Client c)) done k t stays whole h = stays-by k t (tries_attempt_in k) done (λ p. refl) h
client-stays b (event.Kept (actor.Node n)) done k t stays whole h = h
client-stays b (event.Kept (actor.Client c)) done k t stays whole h = stays-by k t (keeps_attempt_in k) done (λ p. refl) h
client-stays b (event.SayTo c n) done k t stays whole h = tells-stays k t c n done h (is_node_of (node_count b) n)
client-stays b (event.Say n) done k t stays whole h = h
client-stays b (event.Take n number) done k t stays whole h = h
client-stays b (event.Hear c number) done k t stays whole h = hears-stays (is_down k.phase)
  where
    hears-stays : (down : Bool) → ticket_in (after_turn k (cond down (Err fault.Down) (reads number (λ m. is_for_client m c) (after_hearing (node_count b) c k) (λ m. effect.Heard m (heard_in (node_count b) c k.kept k.phase m)))) done).phase ≡ Some t
    hears-stays true = h
    hears-stays false = reads-stays k t (node_count b) c h (message_of done)
client-stays b (event.Enter c) done k t stays whole h = stays-by k t (enters_in b k) done (λ p. refl) h
client-stays b (event.Leave c) done k t stays whole h = absurd (let z : true ≡ false = stays in cc)
client-stays b (event.Soften c) done k t stays whole h = absurd (let z : true ≡ false = whole in cc)
client-stays b (event.Fall who) done k t stays whole h = absurd (let z : true ≡ false = stays in cc)
client-stays b (event.Rise (actor.Node n) age) done k t stays whole h = h
client-stays b (event.Rise (actor.Client c) age) done k t stays whole h = stays-by k t (client_rises_in age k) done (λ p. refl) h
client-stays b (event.Switch n p) done k t stays whole h = h

-- who is inside is so with a ticket that goes on from t, and with t itself where nothing softens
abbrev Remains : Option Ticket → Ticket → Type 0 → Type 0
Remains o t IsWhole = (u : Ticket) × (o ≡ Some u) × IsOrSoftens t u × (IsWhole → u ≡ t)

-- a Soften leaves it inside, with its ticket or with that as a reader's

softened-from : (softened : Bool) (u t : Ticket) → softened ≡ false → u.mode ≡ Write → Some (cond softened (softened_ticket u) u) ≡ Some t → IsOrSoftens t (softened_ticket u)
softened-from true u t whole writes q = absurd (let z : true ≡ false = whole in cc)
softened-from false u t whole writes q =
    let same : u ≡ t = let s : Some u ≡ Some t = q in cc in
    inr (ap (λ (x : Ticket). x.mode) (sym same) ∙ writes, ap softened_ticket same)

softens-stays : (b : List Ballot) (c : ℕ) (done : Effect) (k : ExactClient) (t : Ticket) → ticket_in k.phase ≡ Some t → Remains (inside_ticket (after_own b (event.Soften c) done (ClientPart k))) t (true ≡ false)
softens-stays b c done k t h = go k.phase h
  where
    inside : (p : ExactPresent) → Some (present_ticket p) ≡ Some t → (may : Bool) → (is_write p.ticket.mode && not p.softened) ≡ may →
        Remains (ticket_in (after_turn k (cond may (acts (client_in k (client.Inside (soft p))) effect.Softened) (Err fault.WrongPhase)) done).phase) t (true ≡ false)
    inside p q true e =
        let both = and_parts (is_write p.ticket.mode) (not p.softened) e in
        (softened_ticket p.ticket, refl, softened-from p.softened p.ticket t (not-true p.softened both.1) (write-true p.ticket.mode both.0) q, λ never. absurd (let z : true ≡ false = never in cc))
    inside p q false e = (t, h, inl refl, λ never. refl)

    go : (p : ExactClientPhase) → ticket_in p ≡ Some t → Remains (ticket_in (after_turn k (softens_in k p) done).phase) t (true ≡ false)
    go client.Down q = absurd (let z : None ≡ Some t = q in cc)
    go client.Idle q = absurd (let z : None ≡ Some t = q in cc)
    go (client.Chosen u place) q = absurd (let z : None ≡ Some t = q in cc)
    go (client.Asking p) q = absurd (let z : None ≡ Some t = q in cc)
    go (client.Inside p) q = inside p q (is_write p.ticket.mode && not p.softened) refl

-- one event that is no Leave and no Fall

unsoftened-stays : (b : List Ballot) (e : Event) (done : Effect) (k : ExactClient) (t : Ticket) → leaves_or_falls e ≡ false → is_soften e ≡ false → ticket_in k.phase ≡ Some t → Remains (inside_ticket (after_own b e done (ClientPart k))) t (is_soften e ≡ false)
unsoftened-stays b e done k t stays whole h = (t, client-stays b e done k t stays whole h, inl refl, λ same. refl)

client-remains : (b : List Ballot) (e : Event) (done : Effect) (k : ExactClient) (t : Ticket) → leaves_or_falls e ≡ false → ticket_in k.phase ≡ Some t → Remains (inside_ticket (after_own b e done (ClientPart k))) t (is_soften e ≡ false)
client-remains b (event.Begin c m x place) done k t stays h = unsoftened-stays b (event.Begin c m x place) done k t stays refl h
client-remains b (event.Try who) done k t stays h = unsoftened-stays b (event.Try who) done k t stays refl h
client-remains b (event.Kept who) done k t stays h = unsoftened-stays b (event.Kept who) done k t stays refl h
client-remains b (event.SayTo c n) done k t stays h = unsoftened-stays b (event.SayTo c n) done k t stays refl h
client-remains b (event.Say n) done k t stays h = unsoftened-stays b (event.Say n) done k t stays refl h
client-remains b (event.Take n number) done k t stays h = unsoftened-stays b (event.Take n number) done k t stays refl h
client-remains b (event.Hear c number) done k t stays h = unsoftened-stays b (event.Hear c number) done k t stays refl h
client-remains b (event.Enter c) done k t stays h = unsoftened-stays b (event.Enter c) done k t stays refl h
client-remains b (event.Leave c) done k t stays h = absurd (let z : true ≡ false = stays in cc)
client-remains b (event.Soften c) done k t stays h = softens-stays b c done k t h
client-remains b (event.Fall who) done k t stays h = absurd (let z : true ≡ false = stays in cc)
client-remains b (event.Rise who age) done k t stays h = unsoftened-stays b (event.Rise who age) done k t stays refl h
client-remains b (event.Switch n p) done k t stays h = unsoftened-stays b (event.Switch n p) done k t stays refl h

part-remains : (b : List Ballot) (e : Event) (done : Effect) (p : Part) (t : Ticket) → leaves_or_falls e ≡ false → inside_ticket p ≡ Some t → Remains (inside_ticket (after_own b e done p)) t (is_soften e ≡ false)
part-remains b e done NoPart t stays h = absurd (let z : None ≡ Some t = h in cc)
part-remains b e done (NodePart v) t stays h = absurd (let z : None ≡ Some t = h in cc)
part-remains b e done (ClientPart k) t stays h = client-remains b e done k t stays h

-- a ticket softens once at most
softens-once : (t u v : Ticket) → IsOrSoftens t u → IsOrSoftens u v → IsOrSoftens t v
softens-once t u v (inl same) second = subst (λ x. IsOrSoftens x v) same second
softens-once t u v (inr first) (inl same) = inr (first.0, same ∙ first.1)
softens-once t u v (inr first) (inr second) = absurd (let q : Read ≡ Write = sym (ap (λ (x : Ticket). x.mode) first.1) ∙ second.0 in cc)

pub parts-stay : (b : List Ballot) (p : Part) (t : Ticket) (own : List (Event × Effect)) → inside_ticket p ≡ Some t → HasNoEnd own → Remains (inside_ticket (local_part b p own)) t (HasNoSoften own)
parts-stay b p t [] h all = (t, h, inl refl, λ none. refl)
parts-stay b p t (q ∷ own) h all =
    let first = part-remains b q.0 q.1 p t all.0 h in
    let rest = parts-stay b (after_own b q.0 q.1 p) first.0 own first.1 all.1 in
    (rest.0, rest.1, softens-once t first.0 rest.0 first.2 rest.2, λ none. rest.3 none.1 ∙ first.3 none.0)

-- the part after a list of own events and then another
pub local-append : (b : List Ballot) (p : Part) (own more : List (Event × Effect)) → local_part b p (own ++ more) ≡ local_part b (local_part b p own) more
local-append b p [] more = refl
local-append b p (q ∷ own) more = local-append b (after_own b q.0 q.1 p) own more

-- a client's ticket in the world, by its part
part-ticket : (o : Option ExactClient) → inside_ticket (client_part o) ≡ ticket_at o
part-ticket None = refl
part-ticket (Some k) = refl

pub ticket-by-part : (w : ExactWorld) (c : ℕ) → inside_ticket (part w (actor.Client c)) ≡ ticket_inside c w
ticket-by-part w c = part-ticket (numbered w.clients c)

pub clients-stay : PartsAreLocal → (w v : ExactWorld) (history : List (Event × Effect)) (c : ℕ) (t : Ticket) → IsHistory w history v → ticket_inside c w ≡ Some t → HasNoEnd (own_events (actor.Client c) history) →
    Remains (ticket_inside c v) t (HasNoSoften (own_events (actor.Client c) history))
clients-stay law w v history c t run h all =
    let r = parts-stay w.ballots (part w (actor.Client c)) t (own_events (actor.Client c) history) (ticket-by-part w c ∙ h) all in
    (r.0, sym (ticket-by-part v c) ∙ ap inside_ticket (law w v history run (actor.Client c)) ∙ r.1, r.2, r.3)

-- a Leave and a Fall end it
leaves-none : (k : ExactClient) (done : Effect) → ticket_in (after_turn k (leaves_in k k.phase) done).phase ≡ None
leaves-none k done = go k.phase refl
  where
    go : (p : ExactClientPhase) → k.phase ≡ p → ticket_in (after_turn k (leaves_in k p) done).phase ≡ None
    go client.Down e = ap ticket_in e
    go client.Idle e = ap ticket_in e
    go (client.Chosen t place) e = ap ticket_in e
    go (client.Asking p) e = refl
    go (client.Inside p) e = refl

falls-none : (k : ExactClient) (done : Effect) → ticket_in (after_turn k (client_falls_in k k.phase) done).phase ≡ None
falls-none k done = go k.phase refl
  where
    go : (p : ExactClientPhase) → k.phase ≡ p → ticket_in (after_turn k (client_falls_in k p) done).phase ≡ None
    go client.Down e = ap ticket_in e
    go client.Idle e = refl
    go (client.Chosen t place) e = refl
    go (client.Asking p) e = refl
    go (client.Inside p) e = refl

client-ends : (b : List Ballot) (e : Event) (done : Effect) (k : ExactClient) (c : ℕ) → actor_of e ≡ actor.Client c → leaves_or_falls e ≡ true → inside_ticket (after_own b e done (ClientPart k)) ≡ None
client-ends b (event.Leave d) done k c is ends = leaves-none k done
client-ends b (event.Fall (actor.Node n)) done k c is ends = absurd (let z : actor.Node n ≡ actor.Client c = is in cc)
client-ends b (event.Fall (actor.Client d)) done k c is ends = falls-none k done
client-ends b (event.Begin d m x place) done k c is ends = absurd (let z : false ≡ true = ends in cc)
client-ends b (event.Try who) done k c is ends = absurd (let z : false ≡ true = ends in cc)
client-ends b (event.Kept who) done k c is ends = absurd (let z : false ≡ true = ends in cc)
client-ends b (event.SayTo d n) done k c is ends = absurd (let z : false ≡ true = ends in cc)
client-ends b (event.Say n) done k c is ends = absurd (let z : false ≡ true = ends in cc)
client-ends b (event.Take n number) done k c is ends = absurd (let z : false ≡ true = ends in cc)
client-ends b (event.Hear d number) done k c is ends = absurd (let z : false ≡ true = ends in cc)
client-ends b (event.Enter d) done k c is ends = absurd (let z : false ≡ true = ends in cc)
client-ends b (event.Soften d) done k c is ends = absurd (let z : false ≡ true = ends in cc)
client-ends b (event.Rise who age) done k c is ends = absurd (let z : false ≡ true = ends in cc)
client-ends b (event.Switch n p) done k c is ends = absurd (let z : false ≡ true = ends in cc)

node-none : (b : List Ballot) (deed : Deed) (done : Effect) (v : ExactNode) → inside_ticket (after_in b deed done (NodePart v)) ≡ None
node-none b (NodeDoes n turn) done v = refl
node-none b (ClientDoes c turn) done v = refl

part-ends : (b : List Ballot) (e : Event) (done : Effect) (p : Part) (c : ℕ) → actor_of e ≡ actor.Client c → leaves_or_falls e ≡ true → inside_ticket (after_own b e done p) ≡ None
part-ends b e done NoPart c is ends = refl
part-ends b e done (NodePart v) c is ends = node-none b (deed_of e) done v
part-ends b e done (ClientPart k) c is ends = client-ends b e done k c is ends

pub leaving-ends : StepsChangeOnePart → (w v : ExactWorld) (e : Event) (done : Effect) (c : ℕ) → Takes w e done v → actor_of e ≡ actor.Client c → leaves_or_falls e ≡ true → ticket_inside c v ≡ None
leaving-ends law w v e done c takes is ends =
    sym (ticket-by-part v c)
    ∙ ap (λ a. inside_ticket (part v a)) (sym is)
    ∙ ap inside_ticket (law w v e done takes).own
    ∙ part-ends w.ballots e done (part w (actor_of e)) c is ends
