-- The moves, one after the other, are a run that ends with the client inside; and nobody who is down does
-- anything in it.
use Rattle.std.proofs.Common.{◌≡◌, ◌≢◌, ℕ, ◌<◌, Bool, List, [], ◌∷◌, Option, None, Some, zero, suc, refl, sym, ◌∙◌, ap, subst, inl, inr, arith}
use Rattle.std.proofs.lemmas.Bool.{cases_eq}
use Rattle.lock_messages.specs.declared.ids.Actor.{Actor}
use Rattle.lock_messages.specs.declared.ids.Actor.TheVariants as actor
use Rattle.lock_messages.specs.declared.messages.Message.{Message}
use Rattle.lock_messages.specs.declared.messages.Message.TheVariants.{Grant}
use Rattle.lock_messages.specs.declared.tickets.Mode.{Mode}
use Rattle.lock_model.specs.Ballots.{Ballot}
use Rattle.lock_model.specs.Decisions.{Among}
use Rattle.world_model.specs.declared.events.Event.{Event}
use Rattle.world_model.specs.declared.events.Event.TheVariants as event
use Rattle.world_model.specs.Worlds.{NodeDown, NodeIdle, Decided, Stored, Node, ClientDown, ClientIdle, Chosen, Asking, IsIn, Client, World, Setting, OfNode, OfClient, Happens, Begins, begins, TriesAttempt, tries_attempt, TriesStation, tries_station, KeepsAttempt, keeps_attempt, KeepsStation, keeps_station, Tells, asks, asks_inside, tells_softened, releases, Says, says, Takes, takes, takes_same, Hears, counts, counts_inside, passes, passes_inside, passes_softened, passes_idle, passes_chosen, Enters, enters, Leaves, gives_up, leaves}
use Rattle.world_model.specs.ExactWorlds.{actor_of}
use Rattle.world_model.specs.declared.ways.Move.{Move}
use Rattle.world_model.specs.declared.ways.Move.TheVariants.{Alone, Hand, HearFrom}
use Rattle.world_model.specs.declared.ways.Want.{Want}
use Rattle.world_model.specs.Advice.{next_move}
use Rattle.world_model.specs.Ways.{WayIn, IsGentle, IsUp}
use Rattle.world_model.proofs.Costs.{cost}
use Rattle.world_model.proofs.Nearer.{Fine, Makes}
use Rattle.world_model.proofs.Progress.{IsGentleMove, Goes-on, progress}

-- Who does something without rising is up.

tries-up : (x y : Node) → TriesStation x y → x.phase ≢ NodeDown
tries-up _ _ (tries_station kept st replies) e = let q : Decided st replies ≡ NodeDown = e in cc

keeps-up : (x y : Node) → KeepsStation x y → x.phase ≢ NodeDown
keeps-up _ _ (keeps_station kept u st replies) e = let q : Decided st replies ≡ NodeDown = e in cc

says-up : (x y : Node) (said : List Message) → Says x y said → x.phase ≢ NodeDown
says-up _ _ _ (says kept tried replies) e = let q : Stored replies ≡ NodeDown = e in cc

takes-up : (m : Message) (x y : Node) → Takes m x y → x.phase ≢ NodeDown
takes-up m _ _ (takes kept st tried replies d) e = let q : NodeIdle ≡ NodeDown = e in cc
takes-up m _ _ (takes_same kept tried replies d) e = let q : NodeIdle ≡ NodeDown = e in cc

begins-up : (b : List Ballot) (c : ℕ) (m : Mode) (x : List ℕ) (place : ℕ) (k j : Client) → Begins b c m x place k j → k.phase ≢ ClientDown
begins-up b c m x place _ _ (begins kept tried below there) e = let q : ClientIdle ≡ ClientDown = e in cc

tries-attempt-up : (k j : Client) → TriesAttempt k j → k.phase ≢ ClientDown
tries-attempt-up _ _ (tries_attempt kept t place) e = let q : Chosen t place ≡ ClientDown = e in cc

keeps-attempt-up : (k j : Client) → KeepsAttempt k j → k.phase ≢ ClientDown
keeps-attempt-up _ _ (keeps_attempt kept b t place) e = let q : Chosen t place ≡ ClientDown = e in cc

tells-up : (c n : ℕ) (k : Client) (said : List Message) → Tells c n k said → k.phase ≢ ClientDown
tells-up c n _ _ (asks kept tried p) e = let q : Asking p ≡ ClientDown = e in cc
tells-up c n _ _ (asks_inside kept tried p un) e = let q : IsIn p ≡ ClientDown = e in cc
tells-up c n _ _ (tells_softened kept tried p so) e = let q : IsIn p ≡ ClientDown = e in cc
tells-up c n _ _ (releases kept tried some) e = let q : ClientIdle ≡ ClientDown = e in cc

hears-up : (b : List Ballot) (c : ℕ) (m : Message) (k j : Client) → Hears b c m k j → k.phase ≢ ClientDown
hears-up b c m _ _ (counts kept tried p h) e = let q : Asking p ≡ ClientDown = e in cc
hears-up b c m _ _ (counts_inside kept tried p un h) e = let q : IsIn p ≡ ClientDown = e in cc
hears-up b c m _ _ (passes kept tried p v h apart) e = let q : Asking p ≡ ClientDown = e in cc
hears-up b c m _ _ (passes_inside kept tried p v un h apart) e = let q : IsIn p ≡ ClientDown = e in cc
hears-up b c m _ _ (passes_softened kept tried p v so h) e = let q : IsIn p ≡ ClientDown = e in cc
hears-up b c m _ _ (passes_idle kept tried v h) e = let q : ClientIdle ≡ ClientDown = e in cc
hears-up b c m _ _ (passes_chosen kept tried t place) e = let q : Chosen t place ≡ ClientDown = e in cc

enters-up : (b : List Ballot) (k j : Client) → Enters b k j → k.phase ≢ ClientDown
enters-up b _ _ (enters kept tried p enough) e = let q : Asking p ≡ ClientDown = e in cc

leaves-up : (k j : Client) → Leaves k j → k.phase ≢ ClientDown
leaves-up _ _ (gives_up kept tried p) e = let q : Asking p ≡ ClientDown = e in cc
leaves-up _ _ (leaves kept tried p) e = let q : IsIn p ≡ ClientDown = e in cc

-- So who is down stays down, where nobody rises.

by-node : (s : Setting) (n : ℕ) (w : World) (before after : Node) (said : List Message) (v : World) → OfNode s n w before after said v → before.phase ≢ NodeDown → (who : Actor) → IsUp v who → IsUp w who
by-node s n w before after said v of up (actor.Node k) is = elim (cases_eq k n) [
  | inl e ↦ subst (λ j. IsUp w (actor.Node j)) (sym e) (λ q. up (ap (λ (x : Node). x.phase) (sym of.was) ∙ q))
  | inr apart ↦ λ q. is (ap (λ (x : Node). x.phase) (of.others k apart) ∙ q)
]
by-node s n w before after said v of up (actor.Client c) is = λ q. is (ap (λ (x : Client). x.phase) (of.clients c) ∙ q)

by-client : (s : Setting) (c : ℕ) (w : World) (before after : Client) (said : List Message) (v : World) → OfClient s c w before after said v → before.phase ≢ ClientDown → (who : Actor) → IsUp v who → IsUp w who
by-client s c w before after said v of up (actor.Node n) is = λ q. is (ap (λ (x : Node). x.phase) (of.nodes n) ∙ q)
by-client s c w before after said v of up (actor.Client k) is = elim (cases_eq k c) [
  | inl e ↦ subst (λ j. IsUp w (actor.Client j)) (sym e) (λ q. up (ap (λ (x : Client). x.phase) (sym of.was) ∙ q))
  | inr apart ↦ λ q. is (ap (λ (x : Client). x.phase) (of.others k apart) ∙ q)
]

pub none-rises : (s : Setting) (c : ℕ) (w : World) (e : Event) (v : World) → Happens s w e v → IsGentle (λ who. ⊥) c e → (who : Actor) → IsUp v who → IsUp w who
none-rises s c w (event.Begin d m x place) v h gentle = by-client s d w h.0 h.1 [] v h.3 (begins-up s.ballots d m x place h.0 h.1 h.2)
none-rises s c w (event.Try (actor.Node n)) v h gentle = by-node s n w h.0 h.1 [] v h.3 (tries-up h.0 h.1 h.2)
none-rises s c w (event.Try (actor.Client d)) v h gentle = by-client s d w h.0 h.1 [] v h.3 (tries-attempt-up h.0 h.1 h.2)
none-rises s c w (event.Kept (actor.Node n)) v h gentle = by-node s n w h.0 h.1 [] v h.3 (keeps-up h.0 h.1 h.2)
none-rises s c w (event.Kept (actor.Client d)) v h gentle = by-client s d w h.0 h.1 [] v h.3 (keeps-attempt-up h.0 h.1 h.2)
none-rises s c w (event.SayTo d n) v h gentle = let t = h.1 in by-client s d w t.0 t.0 t.1 v t.3 (tells-up d n t.0 t.1 t.2)
none-rises s c w (event.Say n) v h gentle = by-node s n w h.0 h.1 h.2 v h.4 (says-up h.0 h.1 h.2 h.3)
none-rises s c w (event.Take n k) v h gentle = let by = h.3 in by-node s n w by.0 by.1 [] v by.3 (takes-up h.0 by.0 by.1 by.2)
none-rises s c w (event.Hear d k) v h gentle = let by = h.3 in by-client s d w by.0 by.1 [] v by.3 (hears-up s.ballots d h.0 by.0 by.1 by.2)
none-rises s c w (event.Enter d) v h gentle = by-client s d w h.0 h.1 [] v h.3 (enters-up s.ballots h.0 h.1 h.2)
none-rises s c w (event.Leave d) v h gentle = by-client s d w h.0 h.1 [] v h.3 (leaves-up h.0 h.1 h.2)
none-rises s c w (event.Soften d) v h gentle = absurd gentle
none-rises s c w (event.Fall who) v h gentle = absurd gentle
none-rises s c w (event.Rise who age) v h gentle = absurd gentle
none-rises s c w (event.Switch n p) v h gentle = absurd gentle

-- the events are gentle, and of actors that are up here
abbrev pub IsGentleHere : World → Want → Event → Type 0
IsGentleHere w a e = IsGentle (λ who. ⊥) a.client e × IsUp w (actor_of e)

-- a way in, with one event before it
one-before : (s : Setting) (a : Want) (w v : World) (e : Event) → Happens s w e v → IsGentleHere w a e → WayIn s v a (IsGentleHere v a) → WayIn s w a (IsGentleHere w a)
one-before s a w v e h gentle way = record { events = e ∷ way.events; such = such; end = way.end; run = (v, h, way.run); inside = way.inside }
  where
    such : (x : Event) → Among x (e ∷ way.events) → IsGentleHere w a x
    such x (inl same) = subst (IsGentleHere w a) (sym same) gentle
    such x (inr m) = let g = way.such x m in (g.0, none-rises s a.client w e v h gentle.0 (actor_of x) g.1)

-- a way in, with one move before it
move-before : (s : Setting) (a : Want) (w v : World) (mv : Move) → Makes s a w mv v → IsGentleMove w a mv → WayIn s v a (IsGentleHere v a) → WayIn s w a (IsGentleHere w a)
move-before s a w v (Alone e) h gentle way = one-before s a w v e h gentle way
move-before s a w v (Hand d n) h gentle way =
    let says : Happens s w (event.SayTo d n) h.between = (h.node, (h.before, h.message ∷ [], h.tells, h.said)) in
    let node-up : IsUp h.between (actor.Node n) = λ q. gentle.1 (ap (λ (x : Node). x.phase) (sym (h.said.nodes n)) ∙ q) in
    let there : Among h.message h.between.sent = (h.said.sends h.message).1 (inr (inl refl)) in
    one-before s a w h.between (event.SayTo d n) says (tt, gentle.0)
    (one-before s a h.between v (event.Take n 0) (h.message, there, h.mine, h.taken) (tt, node-up) way)
move-before s a w v (HearFrom n) h gentle way = one-before s a w v (event.Hear a.client 0) (Grant n h.present.ticket, h.sent, h.mine, h.heard) (refl, gentle) way

-- the way in, from wherever it is fine
pub arrives : (s : Setting) (chosen : ℕ → Bool) (a : Want) (k : ℕ) (w : World) → Fine s chosen a w → cost s chosen a w < k → WayIn s w a (IsGentleHere w a)
arrives s chosen a zero w fine less = absurd (let z : ⊥ = omega (arith, less) in z)
arrives s chosen a (suc k) w fine less = go (next_move s chosen a w) (progress s chosen a w fine (next_move s chosen a w) refl) (λ v ok nearer. arrives s chosen a k v ok (omega (arith, less, nearer)))
  where
    go : (o : Option Move) → Goes-on s chosen a w o → ((v : World) → Fine s chosen a v → cost s chosen a v < cost s chosen a w → WayIn s v a (IsGentleHere v a)) → WayIn s w a (IsGentleHere w a)
    go None inside more = record { events = []; such = λ e m. absurd m; end = w; run = refl; inside = inside }
    go (Some mv) next more =
        let v = next.goes.0 in
        let r = next.nears v next.goes.1 in
        move-before s a w v mv next.goes.1 next.gentle (more v r.0 r.1)
