-- The client that wants in gives up what else it is about, and begins: each of its events on the way there can be
-- made, and brings it nearer.
use Rattle.std.proofs.Common.{◌≡◌, ◌≢◌, ℕ, ◌+◌, ◌<◌, ◌≤◌, ◌==◌, ◌&&◌, ◌⊎◌, Bool, true, false, if◌then◌else◌, List, [], Option, None, Some, refl, sym, ◌∙◌, ap, subst, inl, inr, arith}
use Rattle.std.specs.List.{list_any}
use Rattle.std.specs.Str.{bytes_eq}
use Rattle.std.proofs.lemmas.Bool.{eq-eqb, and_from}
use Rattle.std.proofs.lemmas.Slice.Eq.{bytes_eq-Decides}
use Rattle.lock_messages.specs.declared.ids.TheConstants.{MAX_ATTEMPT}
use Rattle.lock_messages.specs.declared.ids.Actor.TheVariants as actor
use Rattle.lock_messages.specs.declared.tickets.Ticket.{Ticket}
use Rattle.lock_messages.specs.declared.messages.Message.{Message}
use Rattle.lock_model.specs.ExactDecisions.{same_mode}
use Rattle.lock_model.proofs.HearingFacts.{mode-self}
use Rattle.world_model.specs.declared.events.Event.{Event}
use Rattle.world_model.specs.declared.events.Event.TheVariants as event
use Rattle.world_model.specs.Worlds.{NodePhase, ClientPhase, ClientDown, ClientIdle, Chosen, Asking, IsIn, Client, World, Setting, OfClient, ByClient, Begins, begins, TriesAttempt, tries_attempt, KeepsAttempt, keeps_attempt, first_of, Leaves, gives_up, leaves, Happens}
use Rattle.world_model.specs.Invariants.{IsSafeClient}
use Rattle.world_model.specs.declared.ways.Move.TheVariants.{Alone}
use Rattle.world_model.specs.declared.ways.Want.{Want}
use Rattle.world_model.specs.Advice.{is_wanted, asks_for, is_inside_as, is_grant, beginning, beginning_in}
use Rattle.world_model.proofs.Costs.{own_cost, rest_cost, client_cost, cost, promises, ask_cost}
use Rattle.world_model.specs.ExactWays.{IsLeft}
use Rattle.world_model.proofs.Nearer.{Fine, Nears, Goes, OnlyClient, costs_at, ask-le, client-nearer}
use Rattle.world_model.proofs.FineFacts.{only-client, fine-of-client}
use Rattle.world_model.proofs.RestMoves.{client-goes}

-- what a client costs that is the one that wants in
pub own-client : (a : Want) (k : Client) → client_cost a a.client k ≡ own_cost a k.phase k.tried
own-client a k = ap (λ b. if b then own_cost a k.phase k.tried else rest_cost k.phase k.tried) (eq-eqb a.client a.client refl)

-- a vote costs no more than it does where nothing was said
pub ask-most : (a : Want) (k : ClientPhase) (sent : List Message) (n : ℕ) (phase : NodePhase) → ask_cost a k sent n phase ≤ 7
ask-most a ClientDown sent n phase = omega arith
ask-most a ClientIdle sent n phase = omega arith
ask-most a (Chosen t place) sent n phase = omega arith
ask-most a (Asking p) sent n phase = go (asks_for a p) (p.granted n) (list_any (is_grant n p.ticket) sent) (promises n p.ticket phase)
  where
    go : (asks granted said will : Bool) → (if asks then (if granted then 0 else (if said then 1 else (if will then 2 else 7))) else 7) ≤ 7
    go true true said will = omega arith
    go true false true will = omega arith
    go true false false true = omega arith
    go true false false false = omega arith
    go false granted said will = omega arith
ask-most a (IsIn p) sent n phase = go (is_inside_as a p)
  where
    go : (inside : Bool) → (if inside then 0 else 7) ≤ 7
    go true = omega arith
    go false = omega arith

-- The client after its own event: it is up, an attempt is left to it, no vote costs more than it did, and it has
-- fewer events before it.
pub record IsNearerOwn (a : Want) (before after : Client) : Type 0 where
  pub up : after.phase ≢ ClientDown
  pub left : IsLeft a after.kept after.phase
  pub votes : (sent : List Message) (n : ℕ) (phase : NodePhase) → ask_cost a after.phase sent n phase ≤ ask_cost a before.phase sent n phase
  pub less : own_cost a after.phase after.tried < own_cost a before.phase before.tried

-- where no vote costs more, no node does
pub costs-le : (s : Setting) (a : Want) (w v : World) → OnlyClient s a.client w v → ((n : ℕ) (phase : NodePhase) → ask_cost a (v.clients a.client).phase v.sent n phase ≤ ask_cost a (w.clients a.client).phase w.sent n phase) →
    (n : ℕ) → costs_at s a v n ≤ costs_at s a w n
costs-le s a w v only le n = rw (only.nodes n) (let vote = le n (w.nodes n).phase in omega (arith, vote))

pub nearer-own : (s : Setting) (chosen : ℕ → Bool) (a : Want) (w : World) (e : Event) (v : World) (before after : Client) → Fine s chosen a w → Happens s w e v → OfClient s a.client w before after [] v → IsNearerOwn a before after →
    Fine s chosen a v × (cost s chosen a v < cost s chosen a w)
nearer-own s chosen a w e v before after fine h of own =
    (fine-of-client s chosen a w e v a.client fine h only up left, client-nearer s chosen a w v a.client only (costs-le s a w v only votes) less)
  where
    only : OnlyClient s a.client w v
    only = only-client s a.client w before after [] v of

    up : (v.clients a.client).phase ≢ ClientDown
    up down = own.up (ap (λ (k : Client). k.phase) (sym of.is) ∙ down)

    left : IsLeft a (v.clients a.client).kept (v.clients a.client).phase
    left = subst (λ (k : Client). IsLeft a k.kept k.phase) (sym of.is) own.left

    votes : (n : ℕ) (phase : NodePhase) → ask_cost a (v.clients a.client).phase v.sent n phase ≤ ask_cost a (w.clients a.client).phase w.sent n phase
    votes n phase =
        let now : ask_cost a after.phase v.sent n phase ≤ ask_cost a before.phase w.sent n phase = omega (arith, own.votes v.sent n phase, ask-le a before.phase n w v phase only.grows) in
        subst (λ (k : Client). ask_cost a k.phase v.sent n phase ≤ ask_cost a (w.clients a.client).phase w.sent n phase) (sym of.is)
        (subst (λ (k : Client). ask_cost a after.phase v.sent n phase ≤ ask_cost a k.phase w.sent n phase) (sym of.was) now)

    less : client_cost a a.client (v.clients a.client) < client_cost a a.client (w.clients a.client)
    less =
        subst (λ (k : Client). client_cost a a.client k < client_cost a a.client (w.clients a.client)) (sym of.is)
        (subst (λ (k : Client). client_cost a a.client after < client_cost a a.client k) (sym of.was) (omega (arith, own-client a after, own-client a before, own.less)))

-- a ticket like the one that is wanted is the one that is wanted

wanted-self : (a : Want) (attempt : ℕ) → is_wanted a (record { client = a.client; attempt = attempt; mode = a.mode; resource = a.resource }) a.place ≡ true
wanted-self a attempt =
    and_from (same_mode a.mode a.mode) (bytes_eq a.resource a.resource && (a.place == a.place)) (mode-self a.mode)
    (and_from (bytes_eq a.resource a.resource) (a.place == a.place) ((bytes_eq-Decides a.resource a.resource).1 refl) (eq-eqb a.place a.place refl))

-- the events of the client

begins-nearer : (s : Setting) (a : Want) (before after : Client) → Begins s.ballots a.client a.mode a.resource a.place before after → IsNearerOwn a before after
begins-nearer s a before after (begins kept tried below placed) = record {
  up = λ e. let q : Chosen ticket a.place ≡ ClientDown = e in cc;
  left = inl (wanted-self a (kept + 1));
  votes = λ sent n phase. omega arith;
  less = less tried;
}
  where
    ticket : Ticket
    ticket = record { client = a.client; attempt = kept + 1; mode = a.mode; resource = a.resource }

    less : (o : Option ℕ) → own_cost a (Chosen ticket a.place) o < 4
    less None = rw (wanted-self a (kept + 1)) (omega arith)
    less (Some b) = rw (wanted-self a (kept + 1)) (omega arith)

tries-nearer : (a : Want) (before after : Client) → TriesAttempt before after → IsLeft a before.kept before.phase → IsNearerOwn a before after
tries-nearer a before after (tries_attempt kept t place) left = record {
  up = λ e. let q : Chosen t place ≡ ClientDown = e in cc;
  left = left;
  votes = λ sent n phase. omega arith;
  less = less (is_wanted a t place);
}
  where
    less : (wanted : Bool) → (if wanted then 2 else 6) < (if wanted then 3 else 7)
    less true = omega arith
    less false = omega arith

keeps-nearer : (s : Setting) (a : Want) (w : World) (before after : Client) → KeepsAttempt before after → IsSafeClient s.ballots w a.client before → IsLeft a before.kept before.phase → IsNearerOwn a before after
keeps-nearer s a w before after (keeps_attempt kept b t place) safe left = record {
  up = λ e. let q : Asking (first_of t place) ≡ ClientDown = e in cc;
  left = below left;
  votes = ask-most a (Asking (first_of t place));
  less = less (is_wanted a t place);
}
  where
    below : (is_wanted a t place ≡ true) ⊎ (t.attempt < MAX_ATTEMPT) → (asks_for a (first_of t place) ≡ true) ⊎ (b < MAX_ATTEMPT)
    below (inl wanted) = inl wanted
    below (inr attempt) = let tried : b ≡ kept + 1 = safe.tried in let chosen : t.attempt ≡ kept + 1 = safe.ticket.1 in inr (omega (arith, attempt, tried, chosen))

    less : (wanted : Bool) → (if wanted then 1 else 5) < (if wanted then 2 else 6)
    less true = omega arith
    less false = omega arith

-- what is nothing where a test is true is something only where it is false
otherwise : {A : Type 0} (b : Bool) (x y : A) → (if b then None else Some x) ≡ Some y → (b ≡ false) × (x ≡ y)
otherwise true x y h = absurd (let q : None ≡ Some y = h in cc)
otherwise false x y h = (refl, cc)

left-else : (b : Bool) (P : Type 0) → b ≡ false → (b ≡ true) ⊎ P → P
left-else b P e (inl t) = absurd (let q : false ≡ true = sym e ∙ t in cc)
left-else b P e (inr p) = p

leaves-nearer : (a : Want) (e : Event) (before after : Client) → Leaves before after → beginning a before ≡ Some e → IsLeft a before.kept before.phase → IsNearerOwn a before after
leaves-nearer a e before after (gives_up kept tried p) next left =
    let other = (otherwise (asks_for a p) (event.Leave a.client) e next).0 in
    record {
      up = λ e. let q : ClientIdle ≡ ClientDown = e in cc;
      left = left-else (asks_for a p) (kept < MAX_ATTEMPT) other left;
      votes = λ sent n phase. rw (other) (omega arith);
      less = rw (other) (omega arith);
    }
leaves-nearer a e before after (leaves kept tried p) next left =
    let other = (otherwise (is_inside_as a p) (event.Leave a.client) e next).0 in
    record {
      up = λ e. let q : ClientIdle ≡ ClientDown = e in cc;
      left = left-else (is_inside_as a p) (kept < MAX_ATTEMPT) other left;
      votes = λ sent n phase. rw (other) (omega arith);
      less = rw (other) (omega arith);
    }

-- the client itself gives up what it is about, and begins
pub begins-own : (s : Setting) (chosen : ℕ → Bool) (a : Want) (w : World) (e : Event) → Fine s chosen a w → beginning a (w.clients a.client) ≡ Some e → Goes s a w (Alone e) × Nears s chosen a w (Alone e)
begins-own s chosen a w e fine next = at (w.clients a.client).kept (w.clients a.client).tried (w.clients a.client).phase refl
  where
    Moves : Event → Type 0
    Moves f = Goes s a w (Alone f) × Nears s chosen a w (Alone f)

    left-of : (k : Client) → w.clients a.client ≡ k → IsLeft a k.kept k.phase
    left-of k is = subst (λ (x : Client). IsLeft a x.kept x.phase) is fine.left

    begins-so : (v : World) → ByClient s w v a.client (Begins s.ballots a.client a.mode a.resource a.place) → Fine s chosen a v × (cost s chosen a v < cost s chosen a w)
    begins-so v h = nearer-own s chosen a w (event.Begin a.client a.mode a.resource a.place) v h.0 h.1 fine h h.3 (begins-nearer s a h.0 h.1 h.2)

    tries : (v : World) → ByClient s w v a.client TriesAttempt → Fine s chosen a v × (cost s chosen a v < cost s chosen a w)
    tries v h = let of = h.3 in nearer-own s chosen a w (event.Try (actor.Client a.client)) v h.0 h.1 fine h of (tries-nearer a h.0 h.1 h.2 (left-of h.0 of.was))

    keeps : (v : World) → ByClient s w v a.client KeepsAttempt → Fine s chosen a v × (cost s chosen a v < cost s chosen a w)
    keeps v h =
        let of = h.3 in
        nearer-own s chosen a w (event.Kept (actor.Client a.client)) v h.0 h.1 fine h of
        (keeps-nearer s a w h.0 h.1 h.2 (subst (IsSafeClient s.ballots w a.client) of.was (fine.safe.clients a.client)) (left-of h.0 of.was))

    goes : (v : World) → ByClient s w v a.client Leaves → Fine s chosen a v × (cost s chosen a v < cost s chosen a w)
    goes v h =
        let of = h.3 in
        nearer-own s chosen a w (event.Leave a.client) v h.0 h.1 fine h of (leaves-nearer a e h.0 h.1 h.2 (ap (beginning a) (sym of.was) ∙ next) (left-of h.0 of.was))

    go : (kept : ℕ) (tried : Option ℕ) (phase : ClientPhase) → w.clients a.client ≡ record { kept = kept; tried = tried; phase = phase } → IsLeft a kept phase → beginning_in a phase tried ≡ Some e → Moves e
    go kept tried ClientDown is left n = absurd left
    go kept tried ClientIdle is left n =
        let q : Some (event.Begin a.client a.mode a.resource a.place) ≡ Some e = n in
        let same : event.Begin a.client a.mode a.resource a.place ≡ e = cc in
        subst Moves same (
          client-goes s a.client w (Begins s.ballots a.client a.mode a.resource a.place) (record { kept = kept; tried = tried; phase = ClientIdle })
              (record { kept = kept; tried = tried; phase = Chosen (record { client = a.client; attempt = kept + 1; mode = a.mode; resource = a.resource }) a.place }) fine.possible.client is (begins kept tried left fine.possible.place),
          begins-so,
        )
    go kept None (Chosen t place) is left n =
        let q : Some (event.Try (actor.Client a.client)) ≡ Some e = n in
        let same : event.Try (actor.Client a.client) ≡ e = cc in
        subst Moves same
        (client-goes s a.client w TriesAttempt (record { kept = kept; tried = None; phase = Chosen t place }) (record { kept = kept; tried = Some t.attempt; phase = Chosen t place }) fine.possible.client is (tries_attempt kept t place), tries)
    go kept (Some b) (Chosen t place) is left n =
        let q : Some (event.Kept (actor.Client a.client)) ≡ Some e = n in
        let same : event.Kept (actor.Client a.client) ≡ e = cc in
        subst Moves same
        (client-goes s a.client w KeepsAttempt (record { kept = kept; tried = Some b; phase = Chosen t place }) (record { kept = b; tried = None; phase = Asking (first_of t place) }) fine.possible.client is (keeps_attempt kept b t place), keeps)
    go kept tried (Asking p) is left n =
        subst Moves (otherwise (asks_for a p) (event.Leave a.client) e n).1
        (client-goes s a.client w Leaves (record { kept = kept; tried = tried; phase = Asking p }) (record { kept = kept; tried = tried; phase = ClientIdle }) fine.possible.client is (gives_up kept tried p), goes)
    go kept tried (IsIn p) is left n =
        subst Moves (otherwise (is_inside_as a p) (event.Leave a.client) e n).1
        (client-goes s a.client w Leaves (record { kept = kept; tried = tried; phase = IsIn p }) (record { kept = kept; tried = tried; phase = ClientIdle }) fine.possible.client is (leaves kept tried p), goes)

    at : (kept : ℕ) (tried : Option ℕ) (phase : ClientPhase) → w.clients a.client ≡ record { kept = kept; tried = tried; phase = phase } → Moves e
    at kept tried phase is = go kept tried phase is (left-of (record { kept = kept; tried = tried; phase = phase }) is) (ap (beginning a) (sym is) ∙ next)
