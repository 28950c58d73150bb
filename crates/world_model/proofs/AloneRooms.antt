-- The moves that are one event pay what they say, and the list is full for them only where it lacks room for what
-- is owed.
use Rattle.std.proofs.Common.{◌≡◌, ◌≢◌, ℕ, ◌+◌, ◌<◌, ◌≤◌, ◌||◌, Bool, true, false, if◌then◌else◌, List, [], ◌++◌, length, Option, None, Some, Ok, refl, sym, ◌∙◌, ap, subst, inl, inr, arith}
use Rattle.std.specs.Option.{option_map}
use Rattle.lock_messages.specs.declared.ids.Actor.TheVariants as actor
use Rattle.lock_messages.specs.declared.messages.Message.{Message}
use Rattle.lock_model.specs.Ballots.{Ballot, HasAnyNode}
use Rattle.lock_model.specs.Decisions.{Among}
use Rattle.lock_model.proofs.GrantFacts.{among-right}
use Rattle.world_model.specs.declared.TheConstants.{MAX_MESSAGES}
use Rattle.world_model.specs.declared.events.Event.{Event}
use Rattle.world_model.specs.declared.events.Event.TheVariants as event
use Rattle.world_model.specs.declared.events.StepFault.TheVariants as fault
use Rattle.world_model.specs.declared.exact.ExactStation.{ExactStation}
use Rattle.world_model.specs.declared.exact.ExactNode.{ExactNode}
use Rattle.world_model.specs.declared.exact.ExactNodePhase.{ExactNodePhase}
use Rattle.world_model.specs.declared.exact.ExactNodePhase.TheVariants as node
use Rattle.world_model.specs.declared.exact.ExactWorld.{ExactWorld}
use Rattle.world_model.specs.declared.ways.Want.{Want}
use Rattle.world_model.specs.Worlds.{NodePhase, NodeIdle, Decided, Stored, Node, Present, ClientPhase, ClientDown, ClientIdle, Chosen, Asking, IsIn, Client, World, Setting, OfClient, grants_from, Hears, counts, counts_inside, passes, passes_inside, passes_softened, passes_idle, passes_chosen}
use Rattle.world_model.specs.Invariants.{IsSafePhase}
use Rattle.world_model.specs.ExactNodes.{tries_station_in, keeps_station_in, says_in}
use Rattle.world_model.specs.ExactWorlds.{numbered, NodeDoes, actor_of, Stepped, refusal, step}
use Rattle.world_model.specs.Forgetting.{station_of, node_phase_of, client_numbered, node_numbered, forget, setting_of, IsSoundNode, IsSound}
use Rattle.world_model.specs.Parts.{node_part, part, IsListFault, said_in, said_by}
use Rattle.world_model.specs.Advice.{blocks, asks_for, is_inside_as, client_numbers, finishing, finishing_in, resting, resting_in, beginning, beginning_in}
use Rattle.world_model.specs.ExactWays.{total_over, waiting_count}
use Rattle.world_model.proofs.Costs.{vote_cost, ask_cost}
use Rattle.world_model.proofs.Nearer.{vote-le, ask-le}
use Rattle.world_model.proofs.FinishMoves.{ask-by-vote, said-le}
use Rattle.world_model.proofs.OwnMoves.{ask-most}
use Rattle.world_model.proofs.VoteMoves.{enters-nearer}
use Rattle.world_model.proofs.RefusalFacts.{full-without-room}
use Rattle.world_model.proofs.Deeds.{ModelLaws}
use Rattle.world_model.proofs.StepFacts.{step-done}
use Rattle.world_model.proofs.Owed.{node_owed, owed_at, owed}
use Rattle.world_model.proofs.GrantCounts.{same-waiting}
use Rattle.world_model.proofs.OwedFacts.{own_phase, vote-owed-le, owed-least, owed-still, owed-drops}
use Rattle.world_model.proofs.SaidFacts.{said-nothing, same-node, same-client, NodeDid, node-did, said-length, said-grows, nothing-said}

-- the event pays what it says
abbrev pub EventPays : (ℕ → Bool) → Want → ExactWorld → Event → Type 0
EventPays chosen a x e = (t : Stepped) → step x e ≡ Ok t → length t.world.sent + owed chosen a t.world ≤ length x.sent + owed chosen a x

-- the list is full for it only where it lacks room for what is owed
abbrev pub EventFits : (ℕ → Bool) → Want → ExactWorld → Event → Type 0
EventFits chosen a x e = refusal x e ≡ Some fault.SentListFull → MAX_MESSAGES < length x.sent + owed chosen a x

abbrev pub EventPaid : (ℕ → Bool) → Want → ExactWorld → Event → Type 0
EventPaid chosen a x e = EventPays chosen a x e × EventFits chosen a x e

-- it fits, where what it would say is owed
event-fits : ModelLaws → (chosen : ℕ → Bool) (a : Want) (x : ExactWorld) (e : Event) → length (said_by x.ballots e (part x (actor_of e))) ≤ owed chosen a x → EventFits chosen a x e
event-fits laws chosen a x e le full = omega (arith, full-without-room laws x e full, le)

silent-fits : ModelLaws → (chosen : ℕ → Bool) (a : Want) (x : ExactWorld) (e : Event) → ¬ (IsListFault e fault.SentListFull) → EventFits chosen a x e
silent-fits laws chosen a x e none = event-fits laws chosen a x e (subst (λ (l : List Message). length l ≤ owed chosen a x) (sym (said-nothing laws x e none)) (omega arith))

-- A client's event that says nothing, and makes no vote cost more.
client-paid : ModelLaws → (chosen : ℕ → Bool) (a : Want) (x : ExactWorld) (e : Event) (c : ℕ) → IsSound x → actor_of e ≡ actor.Client c → ¬ (IsListFault e fault.SentListFull) →
    ((t : Stepped) → step x e ≡ Ok t → (n : ℕ) → HasAnyNode x.ballots n → chosen n ≡ true → (phase : NodePhase) → ask_cost a (own_phase a t.world) x.sent n phase ≤ ask_cost a (own_phase a x) x.sent n phase) → EventPaid chosen a x e
client-paid laws chosen a x e c ok own none asks = (pays, silent-fits laws chosen a x e none)
  where
    silent : said_by x.ballots e (part x (actor_of e)) ≡ []
    silent = said-nothing laws x e none

    pays : EventPays chosen a x e
    pays t h =
        let d = step-done laws x e t h in
        let sent = nothing-said x t.world (said_by x.ballots e (part x (actor_of e))) silent d.sent in
        let still = owed-still chosen a x t.world ok d.setting (λ n. same-node x t.world n (d.others (actor.Node n) (λ q. (let z : actor.Node n ≡ actor.Client c = q ∙ own in cc)))) sent (asks t h) in
        omega (arith, ap length sent, still)

-- A chosen node's event pays where less is owed at the node by what it says.
pub node-pays : (chosen : ℕ → Bool) (a : Want) (x t : ExactWorld) (n : ℕ) (v after : ExactNode) (says : List Message) → NodeDid x t n after says → HasAnyNode x.ballots n → chosen n ≡ true → numbered x.nodes n ≡ Some v →
    node_owed (setting_of x) a (own_phase a x) t.sent n after + length says ≤ node_owed (setting_of x) a (own_phase a x) x.sent n v → length t.sent + owed chosen a t ≤ length x.sent + owed chosen a x
node-pays chosen a x t n v after says did known is was less = omega (arith, drops, said-length x t says did.sent)
  where
    drops : owed chosen a t + length says ≤ owed chosen a x
    drops =
        owed-drops chosen a x t n (length says) did.setting known is did.others (ap (λ o. (client_numbered o).phase) (did.clients a.client)) (said-grows x t says did.sent)
        (subst (λ o. owed_at (setting_of x) a (own_phase a x) t.sent n o + length says ≤ owed_at (setting_of x) a (own_phase a x) x.sent n (numbered x.nodes n)) (sym did.now)
        (subst (λ o. owed_at (setting_of x) a (own_phase a x) t.sent n (Some after) + length says ≤ owed_at (setting_of x) a (own_phase a x) x.sent n o) (sym was) less))

-- A chosen node finishes.
module _ (laws : ModelLaws) (chosen : ℕ → Bool) (a : Want) (x : ExactWorld) (n : ℕ) (ok : IsSound x) (is : chosen n ≡ true) (known : HasAnyNode x.ballots n) where
  abbrev k : ClientPhase
  k = own_phase a x

  abbrev s : Setting
  s = setting_of x

  tries-paid : (kept u : ExactStation) (replies : List Message) → numbered x.nodes n ≡ Some (record { kept = kept; tried = None; phase = node.Decided u replies }) → EventPaid chosen a x (event.Try (actor.Node n))
  tries-paid kept u replies was = (pays, silent-fits laws chosen a x (event.Try (actor.Node n)) (λ z. z))
    where
      before : ExactNode
      before = record { kept = kept; tried = None; phase = node.Decided u replies }

      after : ExactNode
      after = record { kept = kept; tried = Some u; phase = node.Decided u replies }

      pays : EventPays chosen a x (event.Try (actor.Node n))
      pays t h =
          let did : NodeDid x t.world n after [] = node-did x t.world (event.Try (actor.Node n)) n (λ v. tries_station_in v v.phase) before t.effect was (step-done laws x (event.Try (actor.Node n)) t h) in
          let phase : NodePhase = Decided (station_of u) replies in
          let vote = vote-owed-le (ask_cost a k t.world.sent n phase) (ask_cost a k x.sent n phase) (ask-le a k n (forget x) (forget t.world) phase (said-grows x t.world [] did.sent)) in
          node-pays chosen a x t.world n before after [] did known is was (omega (arith, vote))

  keeps-paid : (kept u st : ExactStation) (replies : List Message) → numbered x.nodes n ≡ Some (record { kept = kept; tried = Some u; phase = node.Decided st replies }) → EventPaid chosen a x (event.Kept (actor.Node n))
  keeps-paid kept u st replies was = (pays, silent-fits laws chosen a x (event.Kept (actor.Node n)) (λ z. z))
    where
      before : ExactNode
      before = record { kept = kept; tried = Some u; phase = node.Decided st replies }

      after : ExactNode
      after = record { kept = u; tried = None; phase = node.Stored replies }

      safe : IsSafePhase n (station_of kept) (Some (station_of u)) (Decided (station_of st) replies)
      safe = subst (λ (y : Node). IsSafePhase n y.kept y.tried y.phase) (ap node_numbered was) (ok.safe.nodes n).phase

      same : station_of u ≡ station_of st
      same = safe.0

      sound : IsSoundNode before
      sound = ok.each_node n before was

      -- the lists may differ, but as many wait
      waiting : waiting_count u.entries ≤ waiting_count st.entries
      waiting = same-waiting u.problem st.problem u.entries st.entries sound.tried.well_formed.once sound.decided.well_formed.once same

      blocking : total_over (λ d. if blocks a (station_of u) d then 2 else 0) (client_numbers s) ≡ total_over (λ d. if blocks a (station_of st) d then 2 else 0) (client_numbers s)
      blocking = ap (λ y. total_over (λ d. if blocks a y d then 2 else 0) (client_numbers s)) same

      pays : EventPays chosen a x (event.Kept (actor.Node n))
      pays t h =
          let did : NodeDid x t.world n after [] = node-did x t.world (event.Kept (actor.Node n)) n (λ v. keeps_station_in v v.phase) before t.effect was (step-done laws x (event.Kept (actor.Node n)) t h) in
          let now : NodePhase = Stored replies in
          let earlier : NodePhase = Decided (station_of st) replies in
          let asks = ask-by-vote a k n t.world.sent x.sent now earlier (λ ticket. vote-le n ticket (forget x) (forget t.world) now (said-grows x t.world [] did.sent)) in
          let vote = vote-owed-le (ask_cost a k t.world.sent n now) (ask_cost a k x.sent n earlier) asks in
          node-pays chosen a x t.world n before after [] did known is was (omega (arith, vote, waiting, blocking))

  says-paid : (kept : ExactStation) (tried : Option ExactStation) (replies : List Message) → numbered x.nodes n ≡ Some (record { kept = kept; tried = tried; phase = node.Stored replies }) → EventPaid chosen a x (event.Say n)
  says-paid kept tried replies was = (pays, event-fits laws chosen a x (event.Say n) (subst (λ o. length (said_in x.ballots (NodeDoes n (λ v. says_in v v.phase)) (node_part o)) ≤ owed chosen a x) (sym was) (omega (arith, least))))
    where
      before : ExactNode
      before = record { kept = kept; tried = tried; phase = node.Stored replies }

      after : ExactNode
      after = record { kept = kept; tried = tried; phase = node.Idle }

      least : owed_at s a k x.sent n (Some before) ≤ owed chosen a x
      least = subst (λ o. owed_at s a k x.sent n o ≤ owed chosen a x) was (owed-least chosen a x n known is)

      pays : EventPays chosen a x (event.Say n)
      pays t h =
          let did : NodeDid x t.world n after replies = node-did x t.world (event.Say n) n (λ v. says_in v v.phase) before t.effect was (step-done laws x (event.Say n) t h) in
          let asks = ask-by-vote a k n t.world.sent x.sent NodeIdle (Stored replies) (λ ticket. said-le n ticket (forget x) (forget t.world) replies (said-grows x t.world replies did.sent) (λ m among. told t.world did.sent m among)) in
          let vote = vote-owed-le (ask_cost a k t.world.sent n NodeIdle) (ask_cost a k x.sent n (Stored replies)) asks in
          node-pays chosen a x t.world n before after replies did known is was (omega (arith, vote))
        where
          told : (v : ExactWorld) → v.sent ≡ x.sent ++ replies → (m : Message) → Among m replies → Among m v.sent
          told v sent m among = subst (λ l. Among m l) (sym sent) (among-right m x.sent replies among)

  pub finishes-paid : (e : Event) → finishing n ((forget x).nodes n) ≡ Some e → EventPaid chosen a x e
  finishes-paid e next = go (numbered x.nodes n) refl next
    where
      made : (y : Event) → Some y ≡ Some e → EventPaid chosen a x y → EventPaid chosen a x e
      made y q h = let same : y ≡ e = cc in subst (EventPaid chosen a x) same h

      at : (kept : ExactStation) (tried : Option ExactStation) (phase : ExactNodePhase) → numbered x.nodes n ≡ Some (record { kept = kept; tried = tried; phase = phase }) → finishing_in n (node_phase_of phase) (option_map station_of tried) ≡ Some e → EventPaid chosen a x e
      at kept tried node.Down was h = absurd (let q : None ≡ Some e = h in cc)
      at kept tried node.Idle was h = absurd (let q : None ≡ Some e = h in cc)
      at kept None (node.Decided u replies) was h = made (event.Try (actor.Node n)) h (tries-paid kept u replies was)
      at kept (Some u) (node.Decided st replies) was h = made (event.Kept (actor.Node n)) h (keeps-paid kept u st replies was)
      at kept tried (node.Stored replies) was h = made (event.Say n) h (says-paid kept tried replies was)

      go : (o : Option ExactNode) → numbered x.nodes n ≡ o → finishing n (node_numbered o) ≡ Some e → EventPaid chosen a x e
      go None was h = absurd (let q : None ≡ Some e = h in cc)
      go (Some v) was h = at v.kept v.tried v.phase was h

-- Another client comes to rest.
pub rests-paid : ModelLaws → (chosen : ℕ → Bool) (a : Want) (x : ExactWorld) (d : ℕ) (e : Event) → IsSound x → d ≢ a.client → resting d ((forget x).clients d) ≡ Some e → EventPaid chosen a x e
rests-paid laws chosen a x d e ok apart next = go ((forget x).clients d).phase ((forget x).clients d).tried next
  where
    quiet : (y : Event) → actor_of y ≡ actor.Client d → ¬ (IsListFault y fault.SentListFull) → EventPaid chosen a x y
    quiet y own none =
        client-paid laws chosen a x y d ok own none
        (λ t h n known is phase.
        let done = step-done laws x y t h in
        let other : numbered t.world.clients a.client ≡ numbered x.clients a.client =
        same-client x t.world a.client (done.others (actor.Client a.client) (λ q. apart (let z : actor.Client d ≡ actor.Client a.client = sym own ∙ sym q in let same : d ≡ a.client = cc in same))) in
        subst (λ o. ask_cost a (client_numbered o).phase x.sent n phase ≤ ask_cost a (own_phase a x) x.sent n phase) (sym other) (omega arith))

    made : (y : Event) → Some y ≡ Some e → EventPaid chosen a x y → EventPaid chosen a x e
    made y q h = let same : y ≡ e = cc in subst (EventPaid chosen a x) same h

    go : (phase : ClientPhase) (tried : Option ℕ) → resting_in d phase tried ≡ Some e → EventPaid chosen a x e
    go ClientDown tried h = absurd (let q : None ≡ Some e = h in cc)
    go ClientIdle tried h = absurd (let q : None ≡ Some e = h in cc)
    go (Chosen t place) None h = made (event.Try (actor.Client d)) h (quiet (event.Try (actor.Client d)) refl (λ z. z))
    go (Chosen t place) (Some b) h = made (event.Kept (actor.Client d)) h (quiet (event.Kept (actor.Client d)) refl (λ z. z))
    go (Asking p) tried h = made (event.Leave d) h (quiet (event.Leave d) refl (λ z. z))
    go (IsIn p) tried h = made (event.Leave d) h (quiet (event.Leave d) refl (λ z. z))

-- each vote costs the most that it can
abbrev CostsMost : Want → ClientPhase → Type 0
CostsMost a k = (sent : List Message) (n : ℕ) (phase : NodePhase) → ask_cost a k sent n phase ≡ 7

-- The client itself begins: until it does each vote costs the most that it can.
pub begins-paid : ModelLaws → (chosen : ℕ → Bool) (a : Want) (x : ExactWorld) (e : Event) → IsSound x → beginning a ((forget x).clients a.client) ≡ Some e → EventPaid chosen a x e
begins-paid laws chosen a x e ok next = go (own_phase a x) ((forget x).clients a.client).tried refl next
  where
    quiet : (y : Event) (k : ClientPhase) → actor_of y ≡ actor.Client a.client → ¬ (IsListFault y fault.SentListFull) → own_phase a x ≡ k → CostsMost a k → EventPaid chosen a x y
    quiet y k own none was most =
        client-paid laws chosen a x y a.client ok own none
        (λ t h n known is phase.
        subst (λ j. ask_cost a (own_phase a t.world) x.sent n phase ≤ ask_cost a j x.sent n phase) (sym was) (omega (arith, ask-most a (own_phase a t.world) x.sent n phase, most x.sent n phase)))

    made : (y : Event) → Some y ≡ Some e → EventPaid chosen a x y → EventPaid chosen a x e
    made y q h = let same : y ≡ e = cc in subst (EventPaid chosen a x) same h

    -- what the client is about is another thing
    otherwise : (b : Bool) → (if b then None else Some (event.Leave a.client)) ≡ Some e → (b ≡ false) × (Some (event.Leave a.client) ≡ Some e)
    otherwise true h = absurd (let q : None ≡ Some e = h in cc)
    otherwise false h = (refl, h)

    go : (k : ClientPhase) (tried : Option ℕ) → own_phase a x ≡ k → beginning_in a k tried ≡ Some e → EventPaid chosen a x e
    go ClientDown tried was h = absurd (let q : None ≡ Some e = h in cc)
    go ClientIdle tried was h =
        made (event.Begin a.client a.mode a.resource a.place) h (quiet (event.Begin a.client a.mode a.resource a.place) ClientIdle refl (λ z. z) was (λ sent n phase. refl))
    go (Chosen t place) None was h = made (event.Try (actor.Client a.client)) h (quiet (event.Try (actor.Client a.client)) (Chosen t place) refl (λ z. z) was (λ sent n phase. refl))
    go (Chosen t place) (Some b) was h = made (event.Kept (actor.Client a.client)) h (quiet (event.Kept (actor.Client a.client)) (Chosen t place) refl (λ z. z) was (λ sent n phase. refl))
    go (Asking p) tried was h =
        let other = otherwise (asks_for a p) h in
        made (event.Leave a.client) other.1 (quiet (event.Leave a.client) (Asking p) refl (λ z. z) was (λ sent n phase. ap (λ b. if b then (if p.granted n then 0 else vote_cost n p.ticket sent phase) else 7) other.0))
    go (IsIn p) tried was h =
        let other = otherwise (is_inside_as a p) h in
        made (event.Leave a.client) other.1 (quiet (event.Leave a.client) (IsIn p) refl (λ z. z) was (λ sent n phase. ap (λ b. if b then 0 else 7) other.0))

-- what a client's event makes of the votes, by the client before and after
votes-by : (a : Want) (s : Setting) (w v : World) (before after : Client) (said : List Message) → OfClient s a.client w before after said v →
    ((sent : List Message) (n : ℕ) (phase : NodePhase) → ask_cost a after.phase sent n phase ≤ ask_cost a before.phase sent n phase) →
    (sent : List Message) (n : ℕ) (phase : NodePhase) → ask_cost a (v.clients a.client).phase sent n phase ≤ ask_cost a (w.clients a.client).phase sent n phase
votes-by a s w v before after said of votes sent n phase =
    subst (λ (k : Client). ask_cost a k.phase sent n phase ≤ ask_cost a (w.clients a.client).phase sent n phase) (sym of.is)
    (subst (λ (k : Client). ask_cost a after.phase sent n phase ≤ ask_cost a k.phase sent n phase) (sym of.was) (votes sent n phase))

-- It enters.
pub enters-paid : ModelLaws → (chosen : ℕ → Bool) (a : Want) (x : ExactWorld) (p : Present) → IsSound x → own_phase a x ≡ Asking p → asks_for a p ≡ true → EventPaid chosen a x (event.Enter a.client)
enters-paid laws chosen a x p ok asks wants =
    client-paid laws chosen a x (event.Enter a.client) a.client ok refl (λ z. z)
    (λ t h n known is phase.
    let by = (step-done laws x (event.Enter a.client) t h).happens ok in
    let of = by.3 in
    let nearer = enters-nearer (setting_of x) a p by.0 by.1 by.2 (ap (λ (k : Client). k.phase) (sym of.was) ∙ asks) wants in
    votes-by a (setting_of x) (forget x) (forget t.world) by.0 by.1 [] of nearer.votes x.sent n phase)

-- It hears something: a vote may be counted, and none is lost.

hears-votes : (b : List Ballot) (c : ℕ) (m : Message) (before after : Client) → Hears b c m before after → (a : Want) (sent : List Message) (n : ℕ) (phase : NodePhase) → ask_cost a after.phase sent n phase ≤ ask_cost a before.phase sent n phase
hears-votes b c m _ _ (counts kept tried p h) a sent n phase = go (asks_for a p) (grants_from m n) (p.granted n)
  where
    go : (wanted new old : Bool) → (if wanted then (if new || old then 0 else vote_cost n p.ticket sent phase) else 7) ≤ (if wanted then (if old then 0 else vote_cost n p.ticket sent phase) else 7)
    go true true old = omega arith
    go true false true = omega arith
    go true false false = omega arith
    go false new old = omega arith
hears-votes b c m _ _ (counts_inside kept tried p whole h) a sent n phase = omega arith
hears-votes b c m _ _ (passes kept tried p heard h other) a sent n phase = omega arith
hears-votes b c m _ _ (passes_inside kept tried p heard whole h other) a sent n phase = omega arith
hears-votes b c m _ _ (passes_softened kept tried p heard soft h) a sent n phase = omega arith
hears-votes b c m _ _ (passes_idle kept tried heard h) a sent n phase = omega arith
hears-votes b c m _ _ (passes_chosen kept tried t place) a sent n phase = omega arith

pub hears-paid : ModelLaws → (chosen : ℕ → Bool) (a : Want) (x : ExactWorld) (number : ℕ) → IsSound x → EventPaid chosen a x (event.Hear a.client number)
hears-paid laws chosen a x number ok =
    client-paid laws chosen a x (event.Hear a.client number) a.client ok refl never
    (λ t h n known is phase.
    let heard = (step-done laws x (event.Hear a.client number) t h).happens ok in
    let by = heard.3 in
    votes-by a (setting_of x) (forget x) (forget t.world) by.0 by.1 [] by.3 (hears-votes x.ballots a.client heard.0 by.0 by.1 by.2 a) x.sent n phase)
  where
    never : ¬ (IsListFault (event.Hear a.client number) fault.SentListFull)
    never (inl z) = let q : fault.SentListFull ≡ fault.NoSuchMessage = z in cc
    never (inr z) = let q : fault.SentListFull ≡ fault.NotAddressed = z in cc
