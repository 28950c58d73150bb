-- A turn's effect has one content, by what is read.
use Rattle.std.proofs.Common.{◌≡◌, true, false, List, [], ◌∷◌, Option, Some, None, Ok, Err, refl, sym, ◌∙◌, ap, subst}
use Rattle.lock_messages.specs.declared.ids.Actor.{Actor}
use Rattle.lock_messages.specs.declared.ids.Actor.TheVariants as actor
use Rattle.lock_messages.specs.declared.messages.Message.{Message}
use Rattle.lock_model.specs.Ballots.{Ballot}
use Rattle.world_model.specs.declared.events.Effect.{Effect}
use Rattle.world_model.specs.declared.events.Event.{Event}
use Rattle.world_model.specs.declared.events.Event.TheVariants as event
use Rattle.world_model.specs.Kinds.{kind_of, is_reading}
use Rattle.world_model.specs.Worlds.{Setting}
use Rattle.world_model.specs.Turns.{Acts, Speaks, Reads, Turns}
use Rattle.world_model.specs.ExactWorlds.{actor_of, Deed, NodeDoes, ClientDoes, deed_of}
use Rattle.world_model.specs.Locality.{local_part, IsEffectOf}
use Rattle.world_model.specs.Parts.{Part, NoPart, NodePart, ClientPart, message_of, after_own}
use Rattle.world_model.proofs.Told.{Kind, ActsTold, SpeaksTold, ReadsTold, Told}
use Rattle.world_model.proofs.ClientTurns.{clients}
use Rattle.world_model.proofs.NodeTurns.{nodes}
use Rattle.world_model.proofs.Deeds.{DeedTold, deed-told, model-laws}
use Rattle.merge_model.specs.OwnRuns.{HasEffect, HasEffectIn, IsTurn}
use Rattle.merge_model.specs.Merging.{unnumbered, unsaid, content_of}
use Rattle.merge_model.proofs.OwnRunFacts.{Pair}
use Rattle.merge_model.proofs.Numbers.{by_number, same-turn, Fits, DeedFits, deed-fits}
use Rattle.merge_model.proofs.GoingOn.{by-zero, same-after}

-- by one event

one-content : {A : Type 0} (t : Turns A) (d other : Effect) → Fits 0 t → HasEffect t d → HasEffect t other → message_of d ≡ message_of other → unsaid d ≡ unsaid other
one-content (Err f) d other fits h i same = absurd h
one-content (Ok (Acts after done)) d other fits h i same = ap unsaid (h ∙ sym i)
one-content (Ok (Speaks after said done)) d other fits h i same = ap unsaid h.1 ∙ fits h.0 i.0 ∙ ap unsaid (sym i.1)
one-content (Ok (Reads number is_mine after done)) d other fits h i same =
    let z : ◌≡◌ {A = Option Message} (Some h.0) (Some i.0) = sym (fits.1 h.0) ∙ ap message_of (sym h.2) ∙ same ∙ ap message_of i.2 ∙ fits.1 i.0 in
    let read : h.0 ≡ i.0 = cc in
    ap unsaid (h.2 ∙ ap done read ∙ sym i.2)

deed-content : (b : List Ballot) (deed : Deed) (p : Part) (d other : Effect) → DeedFits 0 deed → HasEffectIn b deed p d → HasEffectIn b deed p other → message_of d ≡ message_of other → unsaid d ≡ unsaid other
deed-content b (NodeDoes n turn) NoPart d other fits h i same = absurd h
deed-content b (NodeDoes n turn) (NodePart v) d other fits h i same = one-content (turn v) d other (fits v) h i same
deed-content b (NodeDoes n turn) (ClientPart k) d other fits h i same = absurd h
deed-content b (ClientDoes c turn) NoPart d other fits h i same = absurd h
deed-content b (ClientDoes c turn) (NodePart v) d other fits h i same = absurd h
deed-content b (ClientDoes c turn) (ClientPart k) d other fits h i same = one-content (turn b k) d other (fits b k) h i same

pub turn-content : (b : List Ballot) (p : Part) (q r : Pair) → IsTurn b p q.0 q.1 → IsTurn b p r.0 r.1 → unnumbered q.0 ≡ unnumbered r.0 → message_of q.1 ≡ message_of r.1 → unsaid q.1 ≡ unsaid r.1
turn-content b p q r h i events message =
    let first : IsTurn b p (by_number q.0 0) q.1 = (same-turn b p q.0 0).turns q.1 h in
    let second : IsTurn b p (by_number q.0 0) r.1 = subst (λ e. IsTurn b p e r.1) (by-zero r.0 ∙ sym events ∙ sym (by-zero q.0)) ((same-turn b p r.0 0).turns r.1 i) in
    deed-content b (deed_of (by_number q.0 0)) p q.1 r.1 (deed-fits q.0 0) first second message

-- an event that reads nothing has no message

turn-kind : (A : Type 0) (q : Kind A) (st : Setting) (e : Event) (before : A) (t : Turns A) (done : Effect) → Told A q st e before t → HasEffect t done → IsEffectOf e done
turn-kind A q st e before (Err f) done told h = absurd h
turn-kind A q st e before (Ok (Acts after effect)) done told h = subst (IsEffectOf e) (sym h) (go told)
  where
    go : ActsTold A q st e before after effect → IsEffectOf e effect
    go told = told.kind
turn-kind A q st e before (Ok (Speaks after said effect)) done told h = subst (IsEffectOf e) (sym h.1) (go told)
  where
    go : SpeaksTold A q st e before after said effect → IsEffectOf e (effect h.0)
    go told = told.kind h.0
turn-kind A q st e before (Ok (Reads number is_mine after effect)) done told h = subst (IsEffectOf e) (sym h.2) (go told)
  where
    go : ReadsTold A q st e before number is_mine after effect → IsEffectOf e (effect h.0)
    go told = told.kind h.0 h.1

deed-kind : (st : Setting) (e : Event) (deed : Deed) (p : Part) (done : Effect) → DeedTold st e deed → HasEffectIn st.ballots deed p done → IsEffectOf e done
deed-kind st e (NodeDoes n turn) NoPart done told h = absurd h
deed-kind st e (NodeDoes n turn) (NodePart v) done told h = turn-kind _ (nodes st n) st e v (turn v) done (told v) h
deed-kind st e (NodeDoes n turn) (ClientPart k) done told h = absurd h
deed-kind st e (ClientDoes c turn) NoPart done told h = absurd h
deed-kind st e (ClientDoes c turn) (NodePart v) done told h = absurd h
deed-kind st e (ClientDoes c turn) (ClientPart k) done told h = turn-kind _ (clients st c) st e k (turn st.ballots k) done (told k) h

pub own-kind : (b : List Ballot) (p : Part) (e : Event) (done : Effect) → IsTurn b p e done → IsEffectOf e done
own-kind b p e done h = deed-kind (record { ballots = b; clients = 0 }) e (deed_of e) p done (deed-told model-laws (record { ballots = b; clients = 0 }) e) h

pub no-message : (e : Event) (done : Effect) → is_reading (kind_of e) ≡ false → IsEffectOf e done → message_of done ≡ None
no-message (event.Begin c m x place) done plain kind = ap message_of kind.1
no-message (event.Try who) done plain kind = ap message_of kind
no-message (event.Kept who) done plain kind = ap message_of kind
no-message (event.SayTo c n) done plain kind = ap message_of kind.2
no-message (event.Say n) done plain kind = ap message_of kind.2
no-message (event.Take n k) done plain kind = absurd (let z : true ≡ false = plain in cc)
no-message (event.Hear c k) done plain kind = absurd (let z : true ≡ false = plain in cc)
no-message (event.Enter c) done plain kind = ap message_of kind
no-message (event.Leave c) done plain kind = ap message_of kind
no-message (event.Soften c) done plain kind = ap message_of kind
no-message (event.Fall who) done plain kind = ap message_of kind
no-message (event.Rise who age) done plain kind = ap message_of kind
no-message (event.Switch n p) done plain kind = ap message_of kind.1

-- the reading of an actor

abbrev pub reading_of : Actor → Event
reading_of (actor.Node n) = event.Take n 0
reading_of (actor.Client c) = event.Hear c 0

pub reading-content : (e : Event) → is_reading (kind_of e) ≡ true → unnumbered e ≡ reading_of (actor_of e)
reading-content (event.Take n k) reads = refl
reading-content (event.Hear c k) reads = refl
reading-content (event.Begin c m x place) reads = absurd (let z : false ≡ true = reads in cc)
reading-content (event.Try who) reads = absurd (let z : false ≡ true = reads in cc)
reading-content (event.Kept who) reads = absurd (let z : false ≡ true = reads in cc)
reading-content (event.SayTo c n) reads = absurd (let z : false ≡ true = reads in cc)
reading-content (event.Say n) reads = absurd (let z : false ≡ true = reads in cc)
reading-content (event.Enter c) reads = absurd (let z : false ≡ true = reads in cc)
reading-content (event.Leave c) reads = absurd (let z : false ≡ true = reads in cc)
reading-content (event.Soften c) reads = absurd (let z : false ≡ true = reads in cc)
reading-content (event.Fall who) reads = absurd (let z : false ≡ true = reads in cc)
reading-content (event.Rise who age) reads = absurd (let z : false ≡ true = reads in cc)
reading-content (event.Switch n p) reads = absurd (let z : false ≡ true = reads in cc)

-- the same content leaves the same part

pub same-local : (b : List Ballot) (p : Part) (xs ys : List Pair) → content_of xs ≡ content_of ys → local_part b p xs ≡ local_part b p ys
same-local b p [] [] h = refl
same-local b p [] (r ∷ ys) h = absurd (let z : [] ≡ (unnumbered r.0, unsaid r.1) ∷ content_of ys = h in cc)
same-local b p (q ∷ xs) [] h = absurd (let z : (unnumbered q.0, unsaid q.1) ∷ content_of xs ≡ [] = h in cc)
same-local b p (q ∷ xs) (r ∷ ys) h =
    let z : (unnumbered q.0, unsaid q.1) ∷ content_of xs ≡ (unnumbered r.0, unsaid r.1) ∷ content_of ys = h in
    let heads : ◌≡◌ {A = Event × Effect} (unnumbered q.0, unsaid q.1) (unnumbered r.0, unsaid r.1) = cc in
    let tails : content_of xs ≡ content_of ys = cc in
    ap (λ x. local_part b x xs) (same-after b p q r (ap (λ (x : Event × Effect). x.0) heads) (ap (λ (x : Event × Effect). x.1) heads)) ∙ same-local b (after_own b r.0 r.1 p) xs ys tails
