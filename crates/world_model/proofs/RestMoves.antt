-- Another client comes to rest: each of its events on the way there can be made, and brings the client that wants
-- in nearer.
use Rattle.std.proofs.Common.{◌≡◌, ◌≢◌, ℕ, ◌<◌, Bool, if◌then◌else◌, [], Option, None, Some, sym, ap, subst, arith, refl, ◌∙◌}
use Rattle.std.proofs.lemmas.Bool.{ne_eqb}
use Rattle.lock_messages.specs.declared.ids.Actor.TheVariants as actor
use Rattle.world_model.specs.declared.events.Event.{Event}
use Rattle.world_model.specs.declared.events.Event.TheVariants as event
use Rattle.world_model.specs.Worlds.{ClientPhase, ClientDown, ClientIdle, Chosen, Asking, IsIn, Client, World, Setting, HasClient, OfClient, ByClient, TriesAttempt, tries_attempt, KeepsAttempt, keeps_attempt, first_of, Leaves, gives_up, leaves, Happens}
use Rattle.world_model.specs.declared.ways.Move.TheVariants.{Alone}
use Rattle.world_model.specs.declared.ways.Want.{Want}
use Rattle.world_model.specs.Advice.{resting, resting_in}
use Rattle.world_model.specs.Ways.{IsUp}
use Rattle.world_model.proofs.Costs.{own_cost, rest_cost, client_cost, cost}
use Rattle.world_model.proofs.Nearer.{Fine, Nears, Goes, OnlyClient, other-nearer}
use Rattle.world_model.proofs.FineFacts.{only-client, fine-of-client, left-of-others}
use Rattle.world_model.proofs.Puts.{put_client, put-client}

-- the client after its event, put into the world
pub client-goes : (s : Setting) (c : ℕ) (w : World) (R : Client → Client → Type 0) (before after : Client) → HasClient s c → w.clients c ≡ before → R before after → (v : World) × ByClient s w v c R
client-goes s c w R before after known was r = (put_client w c after [], (before, after, r, put-client s c w before after [] known was))

-- it stays up, and has fewer events before it
record IsNearerRest (before after : Client) : Type 0 where
  up : after.phase ≢ ClientDown
  less : rest_cost after.phase after.tried < rest_cost before.phase before.tried

rest-client : (a : Want) (d : ℕ) (k : Client) → d ≢ a.client → client_cost a d k ≡ rest_cost k.phase k.tried
rest-client a d k apart = ap (λ b. if b then own_cost a k.phase k.tried else rest_cost k.phase k.tried) (ne_eqb d a.client apart)

nearer-rest : (s : Setting) (chosen : ℕ → Bool) (a : Want) (w : World) (e : Event) (v : World) (d : ℕ) (before after : Client) → Fine s chosen a w → Happens s w e v → d ≢ a.client → OfClient s d w before after [] v →
    IsNearerRest before after → Fine s chosen a v × (cost s chosen a v < cost s chosen a w)
nearer-rest s chosen a w e v d before after fine h apart of rest =
    (fine-of-client s chosen a w e v d fine h only (λ down. rest.up (ap (λ (k : Client). k.phase) (sym of.is) ∙ down)) (left-of-others s chosen a w v d fine only apart), other-nearer s chosen a w v d only apart less)
  where
    only : OnlyClient s d w v
    only = only-client s d w before after [] v of

    less : client_cost a d (v.clients d) < client_cost a d (w.clients d)
    less =
        subst (λ (k : Client). client_cost a d k < client_cost a d (w.clients d)) (sym of.is)
        (subst (λ (k : Client). client_cost a d after < client_cost a d k) (sym of.was) (omega (arith, rest-client a d after apart, rest-client a d before apart, rest.less)))

tries-rest : (before after : Client) → TriesAttempt before after → IsNearerRest before after
tries-rest before after (tries_attempt kept t place) = record { up = λ e. let q : Chosen t place ≡ ClientDown = e in cc; less = omega arith }

keeps-rest : (before after : Client) → KeepsAttempt before after → IsNearerRest before after
keeps-rest before after (keeps_attempt kept b t place) = record { up = λ e. let q : Asking (first_of t place) ≡ ClientDown = e in cc; less = omega arith }

leaves-rest : (before after : Client) → Leaves before after → IsNearerRest before after
leaves-rest before after (gives_up kept tried p) = record { up = λ e. let q : ClientIdle ≡ ClientDown = e in cc; less = omega arith }
leaves-rest before after (leaves kept tried p) = record { up = λ e. let q : ClientIdle ≡ ClientDown = e in cc; less = omega arith }

-- another client comes to rest
pub rests : (s : Setting) (chosen : ℕ → Bool) (a : Want) (w : World) (d : ℕ) (e : Event) → Fine s chosen a w → HasClient s d → d ≢ a.client → IsUp w (actor.Client d) → resting d (w.clients d) ≡ Some e →
    Goes s a w (Alone e) × Nears s chosen a w (Alone e)
rests s chosen a w d e fine known apart up next = at (w.clients d).kept (w.clients d).tried (w.clients d).phase refl up next
  where
    Moves : Event → Type 0
    Moves f = Goes s a w (Alone f) × Nears s chosen a w (Alone f)

    tries : (v : World) → ByClient s w v d TriesAttempt → Fine s chosen a v × (cost s chosen a v < cost s chosen a w)
    tries v h = nearer-rest s chosen a w (event.Try (actor.Client d)) v d h.0 h.1 fine h apart h.3 (tries-rest h.0 h.1 h.2)

    keeps : (v : World) → ByClient s w v d KeepsAttempt → Fine s chosen a v × (cost s chosen a v < cost s chosen a w)
    keeps v h = nearer-rest s chosen a w (event.Kept (actor.Client d)) v d h.0 h.1 fine h apart h.3 (keeps-rest h.0 h.1 h.2)

    goes : (v : World) → ByClient s w v d Leaves → Fine s chosen a v × (cost s chosen a v < cost s chosen a w)
    goes v h = nearer-rest s chosen a w (event.Leave d) v d h.0 h.1 fine h apart h.3 (leaves-rest h.0 h.1 h.2)

    at : (kept : ℕ) (tried : Option ℕ) (phase : ClientPhase) → w.clients d ≡ record { kept = kept; tried = tried; phase = phase } → phase ≢ ClientDown → resting_in d phase tried ≡ Some e → Moves e
    at kept tried ClientDown is awake n = absurd (awake refl)
    at kept tried ClientIdle is awake n = absurd (let q : None ≡ Some e = n in cc)
    at kept None (Chosen t place) is awake n =
        let q : Some (event.Try (actor.Client d)) ≡ Some e = n in
        let same : event.Try (actor.Client d) ≡ e = cc in
        subst Moves same
        (client-goes s d w TriesAttempt (record { kept = kept; tried = None; phase = Chosen t place }) (record { kept = kept; tried = Some t.attempt; phase = Chosen t place }) known is (tries_attempt kept t place), tries)
    at kept (Some b) (Chosen t place) is awake n =
        let q : Some (event.Kept (actor.Client d)) ≡ Some e = n in
        let same : event.Kept (actor.Client d) ≡ e = cc in
        subst Moves same
        (client-goes s d w KeepsAttempt (record { kept = kept; tried = Some b; phase = Chosen t place }) (record { kept = b; tried = None; phase = Asking (first_of t place) }) known is (keeps_attempt kept b t place), keeps)
    at kept tried (Asking p) is awake n =
        let q : Some (event.Leave d) ≡ Some e = n in
        let same : event.Leave d ≡ e = cc in
        subst Moves same
        (client-goes s d w Leaves (record { kept = kept; tried = tried; phase = Asking p }) (record { kept = kept; tried = tried; phase = ClientIdle }) known is (gives_up kept tried p), goes)
    at kept tried (IsIn p) is awake n =
        let q : Some (event.Leave d) ≡ Some e = n in
        let same : event.Leave d ≡ e = cc in
        subst Moves same
        (client-goes s d w Leaves (record { kept = kept; tried = tried; phase = IsIn p }) (record { kept = kept; tried = tried; phase = ClientIdle }) known is (leaves kept tried p), goes)
