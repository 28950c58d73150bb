-- A chosen node finishes what it is about: it tries its station, keeps it, and says its replies.
use Rattle.std.proofs.Common.{◌≡◌, ◌≢◌, ℕ, ◌<◌, ◌≤◌, Bool, true, false, if◌then◌else◌, List, [], Option, None, Some, refl, sym, ap, subst, inr, arith}
use Rattle.std.specs.List.{list_any}
use Rattle.lock_messages.specs.declared.ids.Actor.TheVariants as actor
use Rattle.lock_messages.specs.declared.tickets.Ticket.{Ticket}
use Rattle.lock_messages.specs.declared.messages.Message.{Message}
use Rattle.lock_model.specs.Ballots.{HasAnyNode}
use Rattle.lock_model.specs.Stations.{Station}
use Rattle.lock_model.specs.Decisions.{Among}
use Rattle.world_model.specs.declared.events.Event.{Event}
use Rattle.world_model.specs.declared.events.Event.TheVariants as event
use Rattle.world_model.specs.Worlds.{NodePhase, NodeDown, NodeIdle, Decided, Stored, Node, ClientPhase, ClientDown, ClientIdle, Chosen, Asking, IsIn, Client, World, Setting, OfNode, Happens, TriesStation, tries_station, KeepsStation, keeps_station, Says, says}
use Rattle.world_model.specs.Invariants.{IsSafePhase}
use Rattle.world_model.specs.declared.ways.Move.TheVariants.{Alone}
use Rattle.world_model.specs.declared.ways.Want.{Want}
use Rattle.world_model.specs.Advice.{coming, finishing, finishing_in, asks_for, is_grant}
use Rattle.world_model.specs.Ways.{StandsInWay}
use Rattle.world_model.proofs.Costs.{finish_cost, promises, vote_cost, ask_cost, node_cost, cost}
use Rattle.world_model.proofs.Nearer.{Fine, Grows, Goes, Nears, costs_at, node-nearer, vote-le, any-grows}
use Rattle.world_model.proofs.FineFacts.{only-node, fine-of-node, sends-grow}
use Rattle.world_model.proofs.Puts.{put_node, put-node}

-- A vote costs no more where it costs no more for any ticket.
pub ask-by-vote : (a : Want) (k : ClientPhase) (n : ℕ) (sent before : List Message) (now was : NodePhase) → ((t : Ticket) → vote_cost n t sent now ≤ vote_cost n t before was) → ask_cost a k sent n now ≤ ask_cost a k before n was
ask-by-vote a ClientDown n sent before now was le = omega arith
ask-by-vote a ClientIdle n sent before now was le = omega arith
ask-by-vote a (Chosen t place) n sent before now was le = omega arith
ask-by-vote a (Asking p) n sent before now was le = go (asks_for a p) (p.granted n)
  where
    go : (b c : Bool) → (if b then (if c then 0 else vote_cost n p.ticket sent now) else 7) ≤ (if b then (if c then 0 else vote_cost n p.ticket before was) else 7)
    go true true = omega arith
    go true false = le p.ticket
    go false c = omega arith
ask-by-vote a (IsIn p) n sent before now was le = omega arith

-- a node that has less to finish, and the same station to come, costs less
less-at : (s : Setting) (a : Want) (w v : World) (n : ℕ) (before after : Node) (said : List Message) → OfNode s n w before after said v → finish_cost after.phase after.tried < finish_cost before.phase before.tried →
    coming after ≡ coming before → ((t : Ticket) → vote_cost n t v.sent after.phase ≤ vote_cost n t w.sent before.phase) → costs_at s a v n < costs_at s a w n
less-at s a w v n before after said of less same le =
    subst (λ x. node_cost s a (v.clients a.client).phase v.sent n x < costs_at s a w n) (sym of.is)
    (subst (λ x. node_cost s a (v.clients a.client).phase v.sent n after < node_cost s a (w.clients a.client).phase w.sent n x) (sym of.was)
    (subst (λ (x : Client). node_cost s a x.phase v.sent n after < node_cost s a (w.clients a.client).phase w.sent n before) (sym (of.clients a.client))
    (rw (same) (let votes = ask-by-vote a (w.clients a.client).phase n v.sent w.sent after.phase before.phase le in omega (arith, less, votes)))))

-- so that it brings the client nearer
finish-nearer : (s : Setting) (chosen : ℕ → Bool) (a : Want) (w v : World) (e : Event) (n : ℕ) (before after : Node) (said : List Message) → Fine s chosen a w → chosen n ≡ true → Happens s w e v → OfNode s n w before after said v →
    after.phase ≢ NodeDown → finish_cost after.phase after.tried < finish_cost before.phase before.tried → coming after ≡ coming before →
    ((t : Ticket) → vote_cost n t v.sent after.phase ≤ vote_cost n t w.sent before.phase) → Fine s chosen a v × (cost s chosen a v < cost s chosen a w)
finish-nearer s chosen a w v e n before after said fine is h of up less same le = (
  fine-of-node s chosen a w e v n fine h (only-node s n w before after said v of) (subst (λ (x : Node). x.phase ≢ NodeDown) (sym of.is) up)
      (λ d stands. subst (λ x. StandsInWay a (coming x) d) (sym of.was) (subst (λ st. StandsInWay a st d) same (subst (λ x. StandsInWay a (coming x) d) of.is stands))),
  node-nearer s chosen a w v n (only-node s n w before after said v of) is (less-at s a w v n before after said of less same le),
)

-- Try

pub tries-nearer : (s : Setting) (chosen : ℕ → Bool) (a : Want) (w : World) (n : ℕ) → Fine s chosen a w → chosen n ≡ true → Nears s chosen a w (Alone (event.Try (actor.Node n)))
tries-nearer s chosen a w n fine is v h = go h.0 h.1 h.2 h.3
  where
    go : (before after : Node) → TriesStation before after → OfNode s n w before after [] v → Fine s chosen a v × (cost s chosen a v < cost s chosen a w)
    go _ _ (tries_station kept st replies) of =
        finish-nearer s chosen a w v (event.Try (actor.Node n)) n (record { kept = kept; tried = None; phase = Decided st replies }) (record { kept = kept; tried = Some st; phase = Decided st replies }) [] fine is h of
        (λ e. let q : Decided st replies ≡ NodeDown = e in cc) (omega arith) refl (λ t. vote-le n t w v (Decided st replies) (sends-grow w [] v of.sends))

-- Kept

tried-is : (n : ℕ) (kept u st : Station) (replies : List Message) → IsSafePhase n kept (Some u) (Decided st replies) → u ≡ st
tried-is n kept u st replies h = h.0

pub keeps-nearer : (s : Setting) (chosen : ℕ → Bool) (a : Want) (w : World) (n : ℕ) → Fine s chosen a w → chosen n ≡ true → Nears s chosen a w (Alone (event.Kept (actor.Node n)))
keeps-nearer s chosen a w n fine is v h = go h.0 h.1 h.2 h.3
  where
    go : (before after : Node) → KeepsStation before after → OfNode s n w before after [] v → Fine s chosen a v × (cost s chosen a v < cost s chosen a w)
    go _ _ (keeps_station kept u st replies) of =
        finish-nearer s chosen a w v (event.Kept (actor.Node n)) n (record { kept = kept; tried = Some u; phase = Decided st replies }) (record { kept = u; tried = None; phase = Stored replies }) [] fine is h of
        (λ e. let q : Stored replies ≡ NodeDown = e in cc) (omega arith)
        (tried-is n kept u st replies (subst (λ (x : Node). IsSafePhase n x.kept x.tried x.phase) of.was (fine.safe.nodes n).phase))
        (λ t. vote-le n t w v (Stored replies) (sends-grow w [] v of.sends))

-- Say

vote-seven : (n : ℕ) (t : Ticket) (sent : List Message) (phase : NodePhase) → vote_cost n t sent phase ≤ 7
vote-seven n t sent phase = go (list_any (is_grant n t) sent) (promises n t phase)
  where
    go : (b c : Bool) → (if b then 1 else (if c then 2 else 7)) ≤ 7
    go true c = omega arith
    go false true = omega arith
    go false false = omega arith

-- where the Grant was said the vote costs one
vote-one : (n : ℕ) (t : Ticket) (sent : List Message) (phase : NodePhase) → list_any (is_grant n t) sent ≡ true → vote_cost n t sent phase ≡ 1
vote-one n t sent phase h = ap (λ b. if b then 1 else (if promises n t phase then 2 else 7)) h

pub said-le : (n : ℕ) (t : Ticket) (w v : World) (replies : List Message) → Grows w v → ((m : Message) → Among m replies → Among m v.sent) → vote_cost n t v.sent NodeIdle ≤ vote_cost n t w.sent (Stored replies)
said-le n t w v replies grows told = go (list_any (is_grant n t) w.sent) (list_any (is_grant n t) replies) (any-grows (is_grant n t) w.sent v.sent grows) (any-grows (is_grant n t) replies v.sent told)
  where
    go : (b c : Bool) → (b ≡ true → list_any (is_grant n t) v.sent ≡ true) → (c ≡ true → list_any (is_grant n t) v.sent ≡ true) → vote_cost n t v.sent NodeIdle ≤ (if b then 1 else (if c then 2 else 7))
    go true c old new = omega (arith, vote-one n t v.sent NodeIdle (old refl))
    go false true old new = omega (arith, vote-one n t v.sent NodeIdle (new refl))
    go false false old new = vote-seven n t v.sent NodeIdle

pub says-nearer : (s : Setting) (chosen : ℕ → Bool) (a : Want) (w : World) (n : ℕ) → Fine s chosen a w → chosen n ≡ true → Nears s chosen a w (Alone (event.Say n))
says-nearer s chosen a w n fine is v h = go h.0 h.1 h.2 h.3 h.4
  where
    go : (before after : Node) (said : List Message) → Says before after said → OfNode s n w before after said v → Fine s chosen a v × (cost s chosen a v < cost s chosen a w)
    go _ _ _ (says kept tried replies) of =
        finish-nearer s chosen a w v (event.Say n) n (record { kept = kept; tried = tried; phase = Stored replies }) (record { kept = kept; tried = tried; phase = NodeIdle }) replies fine is h of
        (λ e. let q : NodeIdle ≡ NodeDown = e in cc) (omega arith) refl
        (λ t. said-le n t w v replies (sends-grow w replies v of.sends) (λ m k. (of.sends m).1 (inr k)))

-- the whole

pub finishes : (s : Setting) (chosen : ℕ → Bool) (a : Want) (w : World) (n : ℕ) (e : Event) → Fine s chosen a w → chosen n ≡ true → HasAnyNode s.ballots n → finishing n (w.nodes n) ≡ Some e →
    Goes s a w (Alone e) × Nears s chosen a w (Alone e)
finishes s chosen a w n e fine is known next = go (w.nodes n).kept (w.nodes n).phase (w.nodes n).tried refl next
  where
    Made : Event → Type 0
    Made x = Goes s a w (Alone x) × Nears s chosen a w (Alone x)

    made : (x : Event) → Some x ≡ Some e → Made x → Made e
    made x q h = let same : x ≡ e = cc in subst Made same h

    go : (kept : Station) (phase : NodePhase) (tried : Option Station) → w.nodes n ≡ record { kept = kept; tried = tried; phase = phase } → finishing_in n phase tried ≡ Some e → Made e
    go kept NodeDown tried was h = absurd (let q : None ≡ Some e = h in cc)
    go kept NodeIdle tried was h = absurd (let q : None ≡ Some e = h in cc)
    go kept (Decided st replies) None was h =
        let before : Node = record { kept = kept; tried = None; phase = Decided st replies } in
        let after : Node = record { kept = kept; tried = Some st; phase = Decided st replies } in
        made (event.Try (actor.Node n)) h
        ((put_node w n after [], (before, after, tries_station kept st replies, put-node s n w before after [] known was)), tries-nearer s chosen a w n fine is)
    go kept (Decided st replies) (Some u) was h =
        let before : Node = record { kept = kept; tried = Some u; phase = Decided st replies } in
        let after : Node = record { kept = u; tried = None; phase = Stored replies } in
        made (event.Kept (actor.Node n)) h
        ((put_node w n after [], (before, after, keeps_station kept u st replies, put-node s n w before after [] known was)), keeps-nearer s chosen a w n fine is)
    go kept (Stored replies) tried was h =
        let before : Node = record { kept = kept; tried = tried; phase = Stored replies } in
        let after : Node = record { kept = kept; tried = tried; phase = NodeIdle } in
        made (event.Say n) h
        ((put_node w n after replies, (before, after, replies, says kept tried replies, put-node s n w before after replies known was)), says-nearer s chosen a w n fine is)
