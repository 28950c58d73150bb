-- A merge is a history of the exact world, once each message has the number under which it was said.
use Rattle.std.proofs.Common.{◌≡◌, ◌≢◌, ℕ, ◌+◌, ◌-◌, ◌≤◌, ◌⊎◌, Bool, true, false, cond, List, [], ◌∷◌, ◌++◌, length, Option, Some, None, Ok, Err, refl, sym, ◌∙◌, ap, subst, inl, inr, arith}
use Rattle.std.specs.Prelude.{IfSome}
use Rattle.std.proofs.lemmas.Bool.{eqb-true, eq-eqb, le-leb}
use Rattle.std.proofs.lemmas.List.{length-append}
use Rattle.lock_messages.specs.declared.ids.Actor.{Actor}
use Rattle.lock_messages.specs.declared.messages.Message.{Message}
use Rattle.lock_model.specs.Decisions.{Among}
use Rattle.lock_model.proofs.GrantFacts.{among-left, among-right, among-cases}
use Rattle.world_model.specs.declared.TheConstants.{MAX_MESSAGES}
use Rattle.world_model.specs.declared.events.Effect.{Effect}
use Rattle.world_model.specs.declared.events.Event.{Event}
use Rattle.world_model.specs.declared.events.StepFault.TheVariants as fault
use Rattle.world_model.specs.declared.exact.ExactNode.{ExactNode}
use Rattle.world_model.specs.declared.exact.ExactClient.{ExactClient}
use Rattle.world_model.specs.declared.exact.ExactWorld.{ExactWorld}
use Rattle.world_model.specs.Worlds.{Setting}
use Rattle.world_model.specs.Turns.{Turns, Acts, Speaks, Reads}
use Rattle.world_model.specs.ExactWorlds.{numbered, Deed, NodeDoes, ClientDoes, deed_of, actor_in, actor_of, next_number, has_room, sending, with_node_at, with_client_at, read_in, finishes, by_actor, done_by, step}
use Rattle.world_model.specs.Numbered.{numbered-next}
use Rattle.world_model.specs.Parts.{place, is_own, Part, NodePart, ClientPart, node_part, client_part, part, message_of, after_reading, after_turn, after_in, after_own, turn_says, said_in, said_by}
use Rattle.world_model.specs.Laws.{Takes}
use Rattle.world_model.specs.Locality.{IsHistory, StepsChangeOnePart}
use Rattle.world_model.proofs.ListFacts.{among-got}
use Rattle.world_model.proofs.LocalityFacts.{places-apart}
use Rattle.merge_model.specs.OwnRuns.{HasEffect, HasEffectIn, IsTurn}
use Rattle.merge_model.specs.Merging.{moved, says, IsSourced, all_said, unnumbered, unsaid, content_of}
use Rattle.merge_model.proofs.OwnRunFacts.{Pair, AreTurns}
use Rattle.merge_model.proofs.Numbers.{by_number, content-same, actor-same, same-turn, Fits, DeedFits, deed-fits}

-- one turn

-- the message that the effect carries stands under this number
abbrev Finds : ExactWorld → ℕ → Effect → Type 0
Finds w j done = (m : Message) → message_of done ≡ Some m → numbered w.sent j ≡ Some m

record Finishes {A : Type 0} (w : ExactWorld) (into : A → ExactWorld) (v : A) (t : Turns A) (done : Effect) : Type 0 where
  now : Effect
  world : ExactWorld
  steps : finishes w into t ≡ Ok (record { world = world; effect = now })
  content : unsaid now ≡ unsaid done
  after : after_turn v t now ≡ after_turn v t done

turn-finishes : {A : Type 0} (w : ExactWorld) (into : A → ExactWorld) (v : A) (t : Turns A) (done : Effect) (j : ℕ) → Fits j t → HasEffect t done → Finds w j done →
    length w.sent + length (turn_says t) ≤ MAX_MESSAGES → Finishes w into v t done
turn-finishes w into v (Err e) done j fits h finds room = absurd h
turn-finishes w into v (Ok (Acts after effect)) done j fits h finds room =
    record { now = effect; world = into after; steps = refl; content = ap unsaid (sym h); after = refl }
turn-finishes w into v (Ok (Speaks after said effect)) done j fits h finds room =
    let fit : has_room w said ≡ true = le-leb (length said) (MAX_MESSAGES - length w.sent) (omega (arith, room)) in
    record {
      now = effect (next_number w);
      world = sending said (into after);
      steps = ap (λ t. cond t (Ok (record { world = sending said (into after); effect = effect (next_number w) })) (Err fault.SentListFull)) fit;
      content = fits (next_number w) h.0 ∙ ap unsaid (sym h.1);
      after = refl;
    }
turn-finishes w into v (Ok (Reads number is_mine after effect)) done j fits h finds room =
    let found : numbered w.sent number ≡ Some h.0 = ap (numbered w.sent) fits.0 ∙ finds h.0 (ap message_of h.2 ∙ fits.1 h.0) in
    record {
      now = effect h.0;
      world = into (after h.0);
      steps = ap (read_in into is_mine after effect) found ∙ ap (λ t. cond t (Ok (record { world = into (after h.0); effect = effect h.0 })) (Err fault.NotAddressed)) h.1;
      content = ap unsaid (sym h.2);
      after = ap (λ d. after_reading v after (message_of d)) (sym h.2);
    }

pub record DeedStep (w : ExactWorld) (deed : Deed) (done : Effect) : Type 0 where
  pub now : Effect
  pub world : ExactWorld
  pub steps : done_by w deed ≡ Ok (record { world = world; effect = now })
  pub content : unsaid now ≡ unsaid done
  pub after : after_in w.ballots deed now (part w (actor_in deed)) ≡ after_in w.ballots deed done (part w (actor_in deed))

pub deed-steps : (w : ExactWorld) (deed : Deed) (done : Effect) (j : ℕ) → DeedFits j deed → HasEffectIn w.ballots deed (part w (actor_in deed)) done → Finds w j done →
    length w.sent + length (said_in w.ballots deed (part w (actor_in deed))) ≤ MAX_MESSAGES → DeedStep w deed done
deed-steps w (NodeDoes n turn) done j fits h finds room = go (numbered w.nodes n) refl h room
  where
    go : (o : Option ExactNode) → numbered w.nodes n ≡ o → HasEffectIn w.ballots (NodeDoes n turn) (node_part o) done → length w.sent + length (said_in w.ballots (NodeDoes n turn) (node_part o)) ≤ MAX_MESSAGES → DeedStep w (NodeDoes n turn) done
    go None is h room = absurd h
    go (Some v) is h room =
        let f = turn-finishes w (with_node_at w n) v (turn v) done j (fits v) h finds room in
        record {
          now = f.now;
          world = f.world;
          steps = ap (λ o. by_actor w (with_node_at w n) o turn) is ∙ f.steps;
          content = f.content;
          after = subst (λ o. after_in w.ballots (NodeDoes n turn) f.now (node_part o) ≡ after_in w.ballots (NodeDoes n turn) done (node_part o)) (sym is) (ap NodePart f.after);
        }
deed-steps w (ClientDoes c turn) done j fits h finds room = go (numbered w.clients c) refl h room
  where
    go : (o : Option ExactClient) → numbered w.clients c ≡ o → HasEffectIn w.ballots (ClientDoes c turn) (client_part o) done → length w.sent + length (said_in w.ballots (ClientDoes c turn) (client_part o)) ≤ MAX_MESSAGES → DeedStep w (ClientDoes c turn) done
    go None is h room = absurd h
    go (Some k) is h room =
        let f = turn-finishes w (with_client_at w c) k (turn w.ballots k) done j (fits w.ballots k) h finds room in
        record {
          now = f.now;
          world = f.world;
          steps = ap (λ o. by_actor w (with_client_at w c) o (turn w.ballots)) is ∙ f.steps;
          content = f.content;
          after = subst (λ o. after_in w.ballots (ClientDoes c turn) f.now (client_part o) ≡ after_in w.ballots (ClientDoes c turn) done (client_part o)) (sym is) (ap ClientPart f.after);
        }

pub takes-step : (w : ExactWorld) (e : Event) (done : Effect) (v : ExactWorld) → done_by w (deed_of e) ≡ Ok (record { world = v; effect = done }) → Takes w e done v
unfolding step
takes-step w e done v h = h

-- a whole merge

pub record Told (w : ExactWorld) (history : List Pair) : Type 0 where
  pub told : List Pair
  pub world : ExactWorld
  pub is : IsHistory w told world
  pub content : content_of told ≡ content_of history

number-of : (w : ExactWorld) (said : List Message) (o : Option Message) → ((m : Message) → Among m said → Among m w.sent) → IfSome o (λ m. Among m said) → (j : ℕ) × ((m : Message) → o ≡ Some m → numbered w.sent j ≡ Some m)
number-of w said None wider h = (0, λ m e. absurd (let z : None ≡ Some m = e in cc))
number-of w said (Some n) wider h =
    let g = among-got w.sent n (wider n h) in
    (g.0 + 1, λ m e. numbered-next w.sent g.0 ∙ g.1 ∙ e)

append-among : (said more new new' sent : List Message) → ((m : Message) → Among m said → Among m more) → sent ≡ more ++ new' → new' ≡ new → (m : Message) → Among m (said ++ new) → Among m sent
append-among said more new new' sent wider is same m a = subst (λ xs. Among m xs) (sym is) (go (among-cases m said new a))
  where
    go : Among m said ⊎ Among m new → Among m (more ++ new')
    go (inl l) = among-left m more new' (wider m l)
    go (inr r) = among-right m more new' (subst (λ xs. Among m xs) (sym same) r)

pub merge-told : StepsChangeOnePart → (history : List Pair) (w : ExactWorld) (parts : Actor → Part) (said : List Message) → ((who : Actor) → part w who ≡ parts who) → ((m : Message) → Among m said → Among m w.sent) →
    AreTurns w.ballots parts history → IsSourced w.ballots parts said history → length w.sent + length (all_said w.ballots parts history) ≤ MAX_MESSAGES → Told w history
merge-told laws [] w parts said same wider turns s room = record { told = []; world = w; is = refl; content = refl }
merge-told laws (q ∷ history) w parts said same wider turns s room =
    let a = actor_of q.0 in
    let source = number-of w said (message_of q.1) wider s.0 in
    let j = source.0 in
    let e = by_number q.0 j in
    let who = actor-same q.0 j in
    let st = same-turn w.ballots (part w a) q.0 j in
    let own : IsTurn w.ballots (part w a) q.0 q.1 = subst (λ p. IsTurn w.ballots p q.0 q.1) (sym (same a)) turns.0 in
    let turn : IsTurn w.ballots (part w (actor_of e)) e q.1 = subst (λ x. IsTurn w.ballots (part w x) e q.1) (sym who) (st.turns q.1 own) in
    let new : said_by w.ballots e (part w (actor_of e)) ≡ says w.ballots parts q = ap (λ x. said_by w.ballots e (part w x)) who ∙ st.says ∙ ap (said_by w.ballots q.0) (same a) in
    let long : length (all_said w.ballots parts (q ∷ history)) ≡ length (says w.ballots parts q) + length (all_said w.ballots (moved w.ballots parts q) history) =
    length-append (says w.ballots parts q) (all_said w.ballots (moved w.ballots parts q) history) in
    let fit : length w.sent + length (said_by w.ballots e (part w (actor_of e))) ≤ MAX_MESSAGES = omega (arith, room, long, ap (λ (xs : List Message). length xs) new) in
    let d = deed-steps w (deed_of e) q.1 j (deed-fits q.0 j) turn source.1 fit in
    let u = d.world in
    let takes : Takes w e d.now u = takes-step w e d.now u d.steps in
    let ch = laws w u e d.now takes in
    let ballots : u.ballots ≡ w.ballots = ap (λ (x : Setting). x.ballots) ch.setting in
    let mine : part u a ≡ after_own w.ballots q.0 q.1 (parts a) =
    subst (λ x. part u x ≡ after_own w.ballots e d.now (part w x)) who ch.own ∙ subst (λ x. after_own w.ballots e d.now (part w x) ≡ after_own w.ballots e q.1 (part w x)) who d.after ∙ st.after q.1 ∙ ap (after_own w.ballots q.0 q.1) (same a) in
    let now = next-parts w u q parts e who mine (λ x apart. ch.others x apart ∙ same x) in
    let sent : u.sent ≡ w.sent ++ said_by w.ballots e (part w (actor_of e)) = ch.sent in
    let longer : length u.sent ≡ length w.sent + length (said_by w.ballots e (part w (actor_of e))) = ap (λ (xs : List Message). length xs) sent ∙ length-append w.sent (said_by w.ballots e (part w (actor_of e))) in
    let rest = merge-told laws history u (moved w.ballots parts q) (said ++ says w.ballots parts q) now
    (append-among said w.sent (says w.ballots parts q) (said_by w.ballots e (part w (actor_of e))) u.sent wider sent new)
    (subst (λ b. AreTurns b (moved w.ballots parts q) history) (sym ballots) turns.1)
    (subst (λ b. IsSourced b (moved w.ballots parts q) (said ++ says w.ballots parts q) history) (sym ballots) s.1)
    (subst (λ b. length u.sent + length (all_said b (moved w.ballots parts q) history) ≤ MAX_MESSAGES) (sym ballots) (omega (arith, room, long, longer, ap (λ (xs : List Message). length xs) new))) in
    record {
      told = (e, d.now) ∷ rest.told;
      world = rest.world;
      is = (u, takes, rest.is);
      content = ap (λ x. (x, unsaid d.now) ∷ content_of rest.told) (content-same q.0 j) ∙ ap (λ x. (unnumbered q.0, x) ∷ content_of rest.told) d.content ∙ ap (λ xs. (unnumbered q.0, unsaid q.1) ∷ xs) rest.content;
    }
  where
    next-parts : (w u : ExactWorld) (q : Pair) (parts : Actor → Part) (e : Event) → actor_of e ≡ actor_of q.0 → part u (actor_of q.0) ≡ after_own w.ballots q.0 q.1 (parts (actor_of q.0)) →
        ((x : Actor) → x ≢ actor_of e → part u x ≡ parts x) → (x : Actor) → part u x ≡ moved w.ballots parts q x
    next-parts w u q parts e who mine others x = go (is_own x q.0) refl
      where
        go : (t : Bool) → is_own x q.0 ≡ t → part u x ≡ cond t (after_own w.ballots q.0 q.1 (parts x)) (parts x)
        go true h =
            let is : actor_of q.0 ≡ x = places-apart (actor_of q.0) x (eqb-true (place (actor_of q.0)) (place x) h) in
            subst (λ y. part u y ≡ after_own w.ballots q.0 q.1 (parts y)) is mine
        go false h = others x (λ z. let no : false ≡ true = sym h ∙ eq-eqb (place (actor_of q.0)) (place x) (ap place (sym (z ∙ who))) in absurd (let y : false ≡ true = no in cc))
