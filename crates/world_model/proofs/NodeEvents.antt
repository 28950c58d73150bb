-- What a node does keeps the world safe: it owes its own stations and replies, and nothing else.
use Rattle.std.proofs.Common.{◌≡◌, ◌≢◌, ℕ, ◌≤◌, ◌⊎◌, true, List, [], Option, Some, None, IfSome, refl, sym, ◌∙◌, ap, subst, inl, inr, arith}
use Rattle.std.proofs.lemmas.Bool.{cases_eq}
use Rattle.lock_messages.specs.declared.tickets.Ticket.{Ticket}
use Rattle.lock_messages.specs.declared.messages.Message.{Message}
use Rattle.lock_messages.specs.declared.messages.Message.TheVariants.{Request, Release, Grant, Muddled, Soften}
use Rattle.lock_messages.specs.Messages.{is_for_node}
use Rattle.lock_model.specs.declared.problems.Problem.{Problem}
use Rattle.lock_model.specs.Ballots.{Ballot}
use Rattle.lock_model.specs.Stations.{Station}
use Rattle.lock_model.specs.Decisions.{Among}
use Rattle.world_model.specs.declared.events.Age.{Age}
use Rattle.world_model.specs.declared.events.Age.TheVariants.{Old, New}
use Rattle.world_model.specs.Worlds.{Node, ClientPhase, ClientDown, ClientIdle, Chosen, Asking, IsIn, Client, World, Setting, OfNode, ByNode, TriesStation, tries_station, KeepsStation, keeps_station, Says, says, Takes, takes, takes_same, NodeFalls, node_falls, NodeRises, node_rises_old, node_rises_new, Switches, switches_to, switches_same}
use Rattle.world_model.specs.Invariants.{IsPresentIn, IsUnsoftenedIn, IsHonored, IsSafeClient, IsSafeStation, IsGoodReply, AreGoodReplies, IsSafeNode, IsSafeTicket, IsSafe}
use Rattle.world_model.proofs.Carried.{self-le, Carries, NoNewGrant, owes-still, node-still, client-still, all-safe}
use Rattle.world_model.proofs.StandingSteps.{AsksOnce}
use Rattle.world_model.proofs.DecisionSteps.{decided-safely, switched-safely}

-- what is known of tickets in a safe world

present-kept : (b : List Ballot) (w : World) (c kept : ℕ) (p : ClientPhase) (u : Ticket) → IsSafeTicket b w c kept p → IsPresentIn u p → u.attempt ≡ kept
present-kept b w c kept ClientDown u h p = absurd p
present-kept b w c kept ClientIdle u h p = absurd p
present-kept b w c kept (Chosen t place) u h p = absurd p
present-kept b w c kept (Asking asked) u h p = ap (λ (x : Ticket). x.attempt) (sym p) ∙ h.attempt_is
present-kept b w c kept (IsIn asked) u h p = ap (λ (x : Ticket). x.attempt) (sym p) ∙ h.0.attempt_is

pub asks-once : (s : Setting) (w : World) → IsSafe s w → AsksOnce w
asks-once s w safe = record {
  one_ticket = safe.one_ticket;
  asked = safe.asked;
  latest = λ t u h p. omega (arith, safe.asked t h, present-kept s.ballots w t.client (w.clients t.client).kept (w.clients t.client).phase u (safe.clients t.client).ticket p);
}

-- A node that says good replies, or nothing, carries the rest of the world over.

grant-good : (n k : ℕ) (st : Station) (t : Ticket) → IsGoodReply n st (Grant k t) → k ≡ n
grant-good n k st t h = h.0

node-carries : (s : Setting) (n : ℕ) (w : World) (before after : Node) (said : List Message) (v : World) (st : Station) → OfNode s n w before after said v → AreGoodReplies n st said → Carries w v
node-carries s n w before after said v st of good = record {
  kept = λ c. subst (λ (k : Client). (w.clients c).kept ≤ k.kept) (sym (of.clients c)) (self-le (w.clients c).kept);
  present = λ c t p. inl (subst (λ (k : Client). IsPresentIn t k.phase) (of.clients c) p);
  unsoftened = λ c a un. inl (subst (λ (k : Client). IsUnsoftenedIn a k.phase) (of.clients c) un);
  requested = λ k t m. inl (old (Request k t) (λ h. h) ((of.sends (Request k t)).0 m));
  released = λ k c a m. inl (old (Release k c a) (λ h. h) ((of.sends (Release k c a)).0 m));
  softening = λ k c a m. inl (old (Soften k c a) (λ h. h) ((of.sends (Soften k c a)).0 m));
  muddled = λ k c a m. old (Muddled k c a) (λ h. h) ((of.sends (Muddled k c a)).0 m);
  grows = λ m h. (of.sends m).1 (inl h);
}
  where
    old : (m : Message) → (IsGoodReply n st m → ⊥) → Among m w.sent ⊎ Among m said → Among m w.sent
    old m bad (inl h) = h
    old m bad (inr h) = absurd (bad (good m h))

others-grant-nothing : (s : Setting) (n : ℕ) (w : World) (before after : Node) (said : List Message) (v : World) (st : Station) → OfNode s n w before after said v → AreGoodReplies n st said → (k : ℕ) → k ≢ n → NoNewGrant k w v
others-grant-nothing s n w before after said v st of good k apart t m = go ((of.sends (Grant k t)).0 m)
  where
    go : Among (Grant k t) w.sent ⊎ Among (Grant k t) said → Among (Grant k t) w.sent
    go (inl h) = h
    go (inr h) = absurd (apart (grant-good n k st t (good (Grant k t) h)))

-- the node's event keeps the world safe, where it leaves the node safe
pub node-keeps : (s : Setting) (n : ℕ) (w : World) (before after : Node) (said : List Message) (v : World) (st : Station) → IsSafe s w → OfNode s n w before after said v → AreGoodReplies n st said →
    (Carries w v → IsSafeNode v n after) → IsSafe s v
node-keeps s n w before after said v st safe of good own = all-safe s w v safe carries nodes clients
  where
    carries : Carries w v
    carries = node-carries s n w before after said v st of good

    at : (k : ℕ) → (k ≡ n) ⊎ (k ≢ n) → IsSafeNode v k (v.nodes k)
    at k (inl e) = subst (λ j. IsSafeNode v j (v.nodes j)) (sym e) (subst (IsSafeNode v n) (sym of.is) (own carries))
    at k (inr apart) = subst (IsSafeNode v k) (sym (of.others k apart)) (node-still w v carries k (others-grant-nothing s n w before after said v st of good k apart) (w.nodes k) (safe.nodes k))

    nodes : (k : ℕ) → IsSafeNode v k (v.nodes k)
    nodes k = at k (cases_eq k n)

    clients : (c : ℕ) → IsSafeClient s.ballots v c (v.clients c)
    clients c = subst (IsSafeClient s.ballots v c) (sym (of.clients c)) (client-still s.ballots w v carries c (w.clients c) (safe.clients c))

nothing-said : (n : ℕ) (st : Station) → AreGoodReplies n st []
nothing-said n st r m = absurd m

silent-grants : (s : Setting) (n : ℕ) (w : World) (before after : Node) (v : World) → OfNode s n w before after [] v → NoNewGrant n w v
silent-grants s n w before after v of t m = go ((of.sends (Grant n t)).0 m)
  where
    go : Among (Grant n t) w.sent ⊎ Among (Grant n t) [] → Among (Grant n t) w.sent
    go (inl h) = h
    go (inr h) = absurd h

-- a node that says nothing keeps the world safe, where it would be safe in the world before
silent-keeps : (s : Setting) (n : ℕ) (w : World) (before after : Node) (v : World) → IsSafe s w → OfNode s n w before after [] v → (IsSafeNode w n before → IsSafeNode w n after) → IsSafe s v
silent-keeps s n w before after v safe of own =
    node-keeps s n w before after [] v before.kept safe of (nothing-said n before.kept)
    (λ carries. node-still w v carries n (silent-grants s n w before after v of) after (own (subst (IsSafeNode w n) of.was (safe.nodes n))))

-- the events of a node

tries-safe : (w : World) (n : ℕ) (before after : Node) → TriesStation before after → IsSafeNode w n before → IsSafeNode w n after
tries-safe w n before after (tries_station kept s replies) safe = record {
  stations = record { kept = safe.stations.kept; tried = safe.stations.decided; decided = safe.stations.decided };
  phase = (refl, safe.phase.1);
}

keeps-safe : (w : World) (n : ℕ) (before after : Node) → KeepsStation before after → IsSafeNode w n before → IsSafeNode w n after
keeps-safe w n before after (keeps_station kept tried s replies) safe = record {
  stations = record { kept = safe.stations.tried; tried = tt; decided = tt };
  phase = (refl, subst (λ u. AreGoodReplies n u replies) (sym safe.phase.0) safe.phase.1);
}

-- nothing is tried, so what is tried is the station
untried : (u : Station) (o : Option Station) → o ≡ None → IfSome o (λ x. x ≡ u)
untried u None e = tt
untried u (Some x) e = absurd (let q : Some x ≡ None = e in cc)

takes-safe : (s : Setting) (w : World) (n : ℕ) (m : Message) (before after : Node) → IsSafe s w → Among m w.sent → is_for_node m n ≡ true → Takes m before after → IsSafeNode w n before → IsSafeNode w n after
takes-safe s w n m before after safe sent mine (takes kept u tried replies h) node =
    let d = decided-safely w n kept m u replies (asks-once s w safe) safe.released safe.over safe.softened node.stations.kept sent mine h in
    record {
      stations = record { kept = node.stations.kept; tried = node.stations.tried; decided = d.station };
      phase = (untried u tried node.phase, d.good);
    }
takes-safe s w n m before after safe sent mine (takes_same kept tried replies h) node =
    let d = decided-safely w n kept m kept replies (asks-once s w safe) safe.released safe.over safe.softened node.stations.kept sent mine h in
    record {
      stations = record { kept = node.stations.kept; tried = node.stations.tried; decided = tt };
      phase = (node.phase, d.good);
    }

switches-safe : (w : World) (n : ℕ) (p : Problem) (before after : Node) → Switches n p before after → IsSafeNode w n before → IsSafeNode w n after
switches-safe w n p before after (switches_to kept u tried replies apart h) node =
    let d = switched-safely w n kept p u replies node.stations.kept h in
    record {
      stations = record { kept = node.stations.kept; tried = node.stations.tried; decided = d.station };
      phase = (untried u tried node.phase, d.good);
    }
switches-safe w n p before after (switches_same kept tried replies same h) node =
    let d = switched-safely w n kept p kept replies node.stations.kept h in
    record {
      stations = record { kept = node.stations.kept; tried = node.stations.tried; decided = tt };
      phase = (node.phase, d.good);
    }

falls-safe : (w : World) (n : ℕ) (before after : Node) → NodeFalls before after → IsSafeNode w n before → IsSafeNode w n after
falls-safe w n before after (node_falls kept tried phase up) safe = record {
  stations = record { kept = safe.stations.kept; tried = safe.stations.tried; decided = tt };
  phase = tt;
}

rises-safe : (w : World) (n : ℕ) (age : Age) (before after : Node) → NodeRises age before after → IsSafeNode w n before → IsSafeNode w n after
rises-safe w n Old before after (node_rises_old kept tried) safe = record { stations = record { kept = safe.stations.kept; tried = tt; decided = tt }; phase = refl }
rises-safe w n New before after (node_rises_new kept tried) safe = record { stations = record { kept = safe.stations.tried; tried = tt; decided = tt }; phase = refl }

-- a node that says its replies: they were good at the station that it has kept
says-keeps : (s : Setting) (n : ℕ) (w : World) (before after : Node) (said : List Message) (v : World) → IsSafe s w → Says before after said → OfNode s n w before after said v → IsSafe s v
says-keeps s n w before after said v safe (says kept tried replies) of =
    node-keeps s n w before after said v kept safe of node.phase.1 own
  where
    node : IsSafeNode w n before
    node = subst (IsSafeNode w n) of.was (safe.nodes n)

    own : Carries w v → IsSafeNode v n after
    own carries = record {
      stations = record { kept = record { lawful = old.lawful; caused = old.caused; honors = λ t m. honors t ((of.sends (Grant n t)).0 m); owes = λ c. owes-still w v carries c (kept.at c) (old.owes c) }; tried = untried tried node.phase.0; decided = tt };
      phase = node.phase.0;
    }
      where
        old : IsSafeStation w n kept
        old = node.stations.kept

        honors : (t : Ticket) → Among (Grant n t) w.sent ⊎ Among (Grant n t) replies → IsHonored kept t
        honors t (inl m) = old.honors t m
        honors t (inr m) = (node.phase.1 (Grant n t) m).1

        untried : (o : Option Station) → o ≡ None → IfSome o (IsSafeStation v n)
        untried None e = tt
        untried (Some x) e = absurd (let q : Some x ≡ None = e in cc)

-- the whole, by the relation

pub tries-keeps : (s : Setting) (n : ℕ) (w v : World) → IsSafe s w → ByNode s w v n TriesStation → IsSafe s v
tries-keeps s n w v safe h = silent-keeps s n w h.0 h.1 v safe h.3 (tries-safe w n h.0 h.1 h.2)

pub keeps-keeps : (s : Setting) (n : ℕ) (w v : World) → IsSafe s w → ByNode s w v n KeepsStation → IsSafe s v
keeps-keeps s n w v safe h = silent-keeps s n w h.0 h.1 v safe h.3 (keeps-safe w n h.0 h.1 h.2)

pub speaks-keeps : (s : Setting) (n : ℕ) (w : World) (before after : Node) (said : List Message) (v : World) → IsSafe s w → Says before after said → OfNode s n w before after said v → IsSafe s v
speaks-keeps = says-keeps

pub takes-keeps : (s : Setting) (n : ℕ) (m : Message) (w v : World) → IsSafe s w → Among m w.sent → is_for_node m n ≡ true → ByNode s w v n (Takes m) → IsSafe s v
takes-keeps s n m w v safe sent mine h = silent-keeps s n w h.0 h.1 v safe h.3 (takes-safe s w n m h.0 h.1 safe sent mine h.2)

pub falls-keeps : (s : Setting) (n : ℕ) (w v : World) → IsSafe s w → ByNode s w v n NodeFalls → IsSafe s v
falls-keeps s n w v safe h = silent-keeps s n w h.0 h.1 v safe h.3 (falls-safe w n h.0 h.1 h.2)

pub rises-keeps : (s : Setting) (n : ℕ) (age : Age) (w v : World) → IsSafe s w → ByNode s w v n (NodeRises age) → IsSafe s v
rises-keeps s n age w v safe h = silent-keeps s n w h.0 h.1 v safe h.3 (rises-safe w n age h.0 h.1 h.2)

pub switches-keeps : (s : Setting) (n : ℕ) (p : Problem) (w v : World) → IsSafe s w → ByNode s w v n (Switches n p) → IsSafe s v
switches-keeps s n p w v safe h = silent-keeps s n w h.0 h.1 v safe h.3 (switches-safe w n p h.0 h.1 h.2)
