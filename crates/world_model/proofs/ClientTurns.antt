-- What a client's turns are told to be.
use Rattle.std.proofs.Common.{◌≡◌, ◌≢◌, ℕ, ◌+◌, ◌≤◌, ◌==◌, ◌&&◌, Bool, true, false, not, cond, nat_lt, nat_le, List, [], ◌∷◌, Option, Some, None, Err, refl, arith}
use Rattle.std.proofs.lemmas.Bool.Decides.{nat_tests}
use Rattle.std.proofs.lemmas.Bool.{and_parts, not-true}
use Rattle.lock_messages.specs.declared.ids.TheConstants.{MAX_ATTEMPT}
use Rattle.lock_messages.specs.declared.ids.Actor.TheVariants as actor
use Rattle.lock_messages.specs.declared.tickets.Mode.{Mode}
use Rattle.lock_messages.specs.declared.tickets.Ticket.{Ticket}
use Rattle.lock_messages.specs.declared.messages.Message.{Message}
use Rattle.lock_messages.specs.declared.messages.Message.TheVariants as message
use Rattle.lock_model.specs.Ballots.{HasAnyNode, has_place, ballot_at, node_count, needed, votes_of}
use Rattle.lock_model.specs.ExactHearing.{is_node_of}
use Rattle.lock_model.specs.ExactStations.{is_write}
use Rattle.lock_model.proofs.SettlingFacts.{write-true}
use Rattle.vote_weights.specs.Sets.{has_node}
use Rattle.world_model.specs.declared.events.Age.{Age}
use Rattle.world_model.specs.declared.events.Age.TheVariants.{Old, New}
use Rattle.world_model.specs.declared.events.Effect.{Effect}
use Rattle.world_model.specs.declared.events.Effect.TheVariants as effect
use Rattle.world_model.specs.declared.events.Event.{Event}
use Rattle.world_model.specs.declared.events.Event.TheVariants as event
use Rattle.world_model.specs.declared.events.StepFault.TheVariants as fault
use Rattle.world_model.specs.declared.exact.ExactClient.{ExactClient}
use Rattle.world_model.specs.declared.exact.ExactPresent.{ExactPresent}
use Rattle.world_model.specs.declared.exact.ExactClientPhase.{ExactClientPhase}
use Rattle.world_model.specs.declared.exact.ExactClientPhase.TheVariants as exact
use Rattle.world_model.specs.declared.exact.ExactWorld.{ExactWorld}
use Rattle.world_model.specs.Worlds.{Client, ClientDown, ClientIdle, Chosen, Asking, IsIn, World, Setting, OfClient, ByClient, Happens, Begins, begins, TriesAttempt, tries_attempt, KeepsAttempt, keeps_attempt, Tells, asks, asks_inside, tells_softened, releases, Enters, enters, Leaves, gives_up, leaves, Softens, softens, ClientFalls, client_falls, ClientRises, client_rises_old, client_rises_new}
use Rattle.world_model.specs.Turns.{Turns, acts}
use Rattle.world_model.specs.ExactClients.{client_in, next_ticket, begins_by, begins_in, tries_attempt_with, tries_attempt_in, first_of, keeps_attempt_with, keeps_attempt_in, says_one, said_inside, tells_in, tells, enters_in, leaves_in, soft, softens_in, client_falls_in, client_rises_with, client_rises_in}
use Rattle.world_model.specs.Forgetting.{present_of, client_phase_of, client_of, IsSoundClient}
use Rattle.world_model.specs.Laws.{IsNumbered}
use Rattle.world_model.specs.Locality.{IsEffectOf, IsAsListed}
use Rattle.world_model.proofs.RoomFacts.{fits-one}
use Rattle.world_model.proofs.Told.{Kind, Told, told-if}

-- clients of this number, in this setting
abbrev pub clients : Setting → ℕ → Kind ExactClient
clients s c = record { Changes = λ w before after says v. OfClient s c w (client_of before) (client_of after) says v; Sound = IsSoundClient }

abbrev pub ClientTold : Setting → Event → ℕ → ExactClient → Turns ExactClient → Type 0
ClientTold s e c k turns = Told ExactClient (clients s c) s e k turns

-- a client that does something by itself, by a relation
acting : (s : Setting) (e : Event) (c : ℕ) (R : Client → Client → Type 0) → ((w v : World) → ByClient s w v c R → Happens s w e v) → (k a : ExactClient) (done : Effect) →
    R (client_of k) (client_of a) → (IsSoundClient k → IsSoundClient a) → IsEffectOf e done → ((w : ExactWorld) → IsNumbered w done) → ((w : ExactWorld) → IsAsListed w e done) → ClientTold s e c k (acts a done)
acting s e c R up k a done does sound kind numbers listed =
    record { happens = λ ok w v of. up w v (client_of k, client_of a, does, of); sound = sound; kind = kind; numbers = numbers; listed = listed }

-- Begin

pub begins-told : (s : Setting) (c : ℕ) (m : Mode) (x : List ℕ) (place : ℕ) (k : ExactClient) → ClientTold s (event.Begin c m x place) c k (begins_in s.ballots c m x place k k.phase)
begins-told s c m x place k = go k.phase
  where
    next : ExactClient
    next = client_in k (exact.Chosen (next_ticket c m x k.kept) place)

    turn : Turns ExactClient
    turn = acts next (effect.Chose (k.kept + 1))

    placed : nat_lt k.kept MAX_ATTEMPT ≡ true → has_place s.ballots place ≡ true → ClientTold s (event.Begin c m x place) c (client_in k exact.Idle) turn
    placed below there =
        acting s (event.Begin c m x place) c (Begins s.ballots c m x place) (λ w v h. h) (client_in k exact.Idle) next (effect.Chose (k.kept + 1))
        (begins k.kept k.tried (grind (arith, nat_tests)) (grind (arith, nat_tests))) (λ ok. record { kept = ok.kept; tried = ok.tried; chosen = grind (arith, nat_tests) }) (k.kept + 1, refl) (λ w. tt) (λ w. tt)

    more : nat_lt k.kept MAX_ATTEMPT ≡ true → ClientTold s (event.Begin c m x place) c (client_in k exact.Idle) (begins_by s.ballots place turn)
    more below =
        told-if ExactClient (clients s c) s (event.Begin c m x place) (client_in k exact.Idle) (has_place s.ballots place) turn (Err fault.NoSuchPlace) (placed below) (λ _. refl)

    go : (p : ExactClientPhase) → ClientTold s (event.Begin c m x place) c (client_in k p) (begins_in s.ballots c m x place (client_in k p) p)
    go exact.Down = refl
    go exact.Idle =
        told-if ExactClient (clients s c) s (event.Begin c m x place) (client_in k exact.Idle) (nat_lt k.kept MAX_ATTEMPT) (begins_by s.ballots place turn) (Err fault.AttemptsSpent) more (λ _. refl)
    go (exact.Chosen t chosen) = refl
    go (exact.Asking p) = refl
    go (exact.Inside p) = refl

-- Try

pub tries-attempt-told : (s : Setting) (c : ℕ) (k : ExactClient) → ClientTold s (event.Try (actor.Client c)) c k (tries_attempt_in k k.phase)
tries-attempt-told s c k = go k.phase
  where
    chosen : (t : Ticket) (place : ℕ) (o : Option ℕ) → ClientTold s (event.Try (actor.Client c)) c (record { kept = k.kept; tried = o; phase = exact.Chosen t place }) (tries_attempt_with (record { kept = k.kept; tried = o; phase = exact.Chosen t place }) t o)
    chosen t place None =
        acting s (event.Try (actor.Client c)) c TriesAttempt (λ w v h. h) (record { kept = k.kept; tried = None; phase = exact.Chosen t place }) (record { kept = k.kept; tried = Some t.attempt; phase = exact.Chosen t place }) effect.Tried
        (tries_attempt k.kept t place) (λ ok. record { kept = ok.kept; tried = ok.chosen; chosen = ok.chosen }) refl (λ w. tt) (λ w. tt)
    chosen t place (Some a) = refl

    go : (p : ExactClientPhase) → ClientTold s (event.Try (actor.Client c)) c (client_in k p) (tries_attempt_in (client_in k p) p)
    go exact.Down = refl
    go exact.Idle = refl
    go (exact.Chosen t place) = chosen t place k.tried
    go (exact.Asking p) = refl
    go (exact.Inside p) = refl

-- Kept

pub keeps-attempt-told : (s : Setting) (c : ℕ) (k : ExactClient) → ClientTold s (event.Kept (actor.Client c)) c k (keeps_attempt_in k k.phase)
keeps-attempt-told s c k = go k.phase
  where
    chosen : (t : Ticket) (place : ℕ) (o : Option ℕ) → ClientTold s (event.Kept (actor.Client c)) c (record { kept = k.kept; tried = o; phase = exact.Chosen t place }) (keeps_attempt_with t place o)
    chosen t place None = refl
    chosen t place (Some a) =
        acting s (event.Kept (actor.Client c)) c KeepsAttempt (λ w v h. h) (record { kept = k.kept; tried = Some a; phase = exact.Chosen t place }) (record { kept = a; tried = None; phase = exact.Asking (first_of t place) }) effect.Kept
        (keeps_attempt k.kept a t place) (λ ok. record { kept = ok.tried; tried = tt; chosen = tt }) refl (λ w. tt) (λ w. tt)

    go : (p : ExactClientPhase) → ClientTold s (event.Kept (actor.Client c)) c (client_in k p) (keeps_attempt_in (client_in k p) p)
    go exact.Down = refl
    go exact.Idle = refl
    go (exact.Chosen t place) = chosen t place k.tried
    go (exact.Asking p) = refl
    go (exact.Inside p) = refl

-- SayTo

node-known : (nodes n : ℕ) → is_node_of nodes n ≡ true → (1 ≤ n) × (n ≤ nodes)
node-known nodes n h = grind (arith, nat_tests)

speaking : (s : Setting) (c n : ℕ) (k : ExactClient) (m : Message) → HasAnyNode s.ballots n → Tells c n (client_of k) (m ∷ []) → ClientTold s (event.SayTo c n) c k (says_one k m)
speaking s c n k m known does =
    record {
      happens = λ ok w v of. (known, (client_of k, m ∷ [], does, of));
      sound = λ ok. ok;
      kind = λ first. (first, m, refl);
      numbers = λ w room. (refl, fits-one w m room);
      listed = λ w first. tt;
      full = refl;
    }

-- inside, the request or, once it has softened, that
inside-tells : (c n : ℕ) (k : ExactClient) (p : ExactPresent) → Tells c n (client_of (client_in k (exact.Inside p))) (said_inside c n p ∷ [])
inside-tells c n k p = go p.softened refl
  where
    go : (b : Bool) → p.softened ≡ b → Tells c n (client_of (client_in k (exact.Inside p))) (cond b (message.Soften n c p.ticket.attempt) (message.Request n p.ticket) ∷ [])
    go true e = tells_softened k.kept k.tried (present_of p) e
    go false e = asks_inside k.kept k.tried (present_of p) e

pub tells-told : (s : Setting) (c n : ℕ) (k : ExactClient) → ClientTold s (event.SayTo c n) c k (tells s.ballots c n k)
tells-told s c n k =
    told-if ExactClient (clients s c) s (event.SayTo c n) k (is_node_of (node_count s.ballots) n) (tells_in c n k k.phase) (Err fault.UnknownActor)
    (λ known. go (node-known (node_count s.ballots) n known) k.phase) (λ _. refl)
  where
    go : HasAnyNode s.ballots n → (p : ExactClientPhase) → ClientTold s (event.SayTo c n) c (client_in k p) (tells_in c n (client_in k p) p)
    go known exact.Down = refl
    go known exact.Idle =
        told-if ExactClient (clients s c) s (event.SayTo c n) (client_in k exact.Idle) (k.kept == 0) (Err fault.NothingToSay) (says_one (client_in k exact.Idle) (message.Release n c k.kept))
        (λ _. refl) (λ some. speaking s c n (client_in k exact.Idle) (message.Release n c k.kept) known (releases k.kept k.tried (grind (arith, nat_tests))))
    go known (exact.Chosen t place) = refl
    go known (exact.Asking p) = speaking s c n (client_in k (exact.Asking p)) (message.Request n p.ticket) known (asks k.kept k.tried (present_of p))
    go known (exact.Inside p) = speaking s c n (client_in k (exact.Inside p)) (said_inside c n p) known (inside-tells c n k p)

-- Enter, Leave, and Soften

pub enters-told : (s : Setting) (c : ℕ) (k : ExactClient) → ClientTold s (event.Enter c) c k (enters_in s.ballots k k.phase)
enters-told s c k = go k.phase
  where
    asking : (p : ExactPresent) → nat_le (needed (ballot_at s.ballots p.place) p.ticket.mode) (votes_of (ballot_at s.ballots p.place) (has_node p.granted)) ≡ true →
        ClientTold s (event.Enter c) c (client_in k (exact.Asking p)) (acts (client_in k (exact.Inside p)) effect.Inside)
    asking p enough =
        acting s (event.Enter c) c (Enters s.ballots) (λ w v h. h) (client_in k (exact.Asking p)) (client_in k (exact.Inside p)) effect.Inside
        (enters k.kept k.tried (present_of p) (grind (arith, nat_tests))) (λ ok. record { kept = ok.kept; tried = ok.tried; chosen = tt }) refl (λ w. tt) (λ w. tt)

    go : (p : ExactClientPhase) → ClientTold s (event.Enter c) c (client_in k p) (enters_in s.ballots (client_in k p) p)
    go exact.Down = refl
    go exact.Idle = refl
    go (exact.Chosen t place) = refl
    go (exact.Asking p) =
        told-if ExactClient (clients s c) s (event.Enter c) (client_in k (exact.Asking p)) (nat_le (needed (ballot_at s.ballots p.place) p.ticket.mode) (votes_of (ballot_at s.ballots p.place) (has_node p.granted)))
        (acts (client_in k (exact.Inside p)) effect.Inside) (Err fault.NoQuorum) (asking p) (λ _. refl)
    go (exact.Inside p) = refl

pub leaves-told : (s : Setting) (c : ℕ) (k : ExactClient) → ClientTold s (event.Leave c) c k (leaves_in k k.phase)
leaves-told s c k = go k.phase
  where
    out : (p : ExactClientPhase) → Leaves (client_of (client_in k p)) (client_of (client_in k exact.Idle)) → ClientTold s (event.Leave c) c (client_in k p) (acts (client_in k exact.Idle) effect.Outside)
    out p does =
        acting s (event.Leave c) c Leaves (λ w v h. h) (client_in k p) (client_in k exact.Idle) effect.Outside does (λ ok. record { kept = ok.kept; tried = ok.tried; chosen = tt }) refl (λ w. tt) (λ w. tt)

    go : (p : ExactClientPhase) → ClientTold s (event.Leave c) c (client_in k p) (leaves_in (client_in k p) p)
    go exact.Down = refl
    go exact.Idle = refl
    go (exact.Chosen t place) = refl
    go (exact.Asking p) = out (exact.Asking p) (gives_up k.kept k.tried (present_of p))
    go (exact.Inside p) = out (exact.Inside p) (leaves k.kept k.tried (present_of p))

pub softens-told : (s : Setting) (c : ℕ) (k : ExactClient) → ClientTold s (event.Soften c) c k (softens_in k k.phase)
softens-told s c k = go k.phase
  where
    inside : (p : ExactPresent) → (is_write p.ticket.mode && not p.softened) ≡ true → ClientTold s (event.Soften c) c (client_in k (exact.Inside p)) (acts (client_in k (exact.Inside (soft p))) effect.Softened)
    inside p may =
        let both = and_parts (is_write p.ticket.mode) (not p.softened) may in
        acting s (event.Soften c) c Softens (λ w v h. h) (client_in k (exact.Inside p)) (client_in k (exact.Inside (soft p))) effect.Softened
        (softens k.kept k.tried (present_of p) (write-true p.ticket.mode both.0) (not-true p.softened both.1)) (λ ok. record { kept = ok.kept; tried = ok.tried; chosen = tt }) refl (λ w. tt) (λ w. tt)

    go : (p : ExactClientPhase) → ClientTold s (event.Soften c) c (client_in k p) (softens_in (client_in k p) p)
    go exact.Down = refl
    go exact.Idle = refl
    go (exact.Chosen t place) = refl
    go (exact.Asking p) = refl
    go (exact.Inside p) =
        told-if ExactClient (clients s c) s (event.Soften c) (client_in k (exact.Inside p)) (is_write p.ticket.mode && not p.softened)
        (acts (client_in k (exact.Inside (soft p))) effect.Softened) (Err fault.WrongPhase) (inside p) (λ _. refl)

-- Fall, and Rise

pub client-falls-told : (s : Setting) (c : ℕ) (k : ExactClient) → ClientTold s (event.Fall (actor.Client c)) c k (client_falls_in k k.phase)
client-falls-told s c k = go k.phase
  where
    up : (p : ExactClientPhase) → client_phase_of p ≢ ClientDown → ClientTold s (event.Fall (actor.Client c)) c (client_in k p) (acts (client_in k exact.Down) effect.Down)
    up p apart =
        acting s (event.Fall (actor.Client c)) c ClientFalls (λ w v h. h) (client_in k p) (client_in k exact.Down) effect.Down
        (client_falls k.kept k.tried (client_phase_of p) apart) (λ ok. record { kept = ok.kept; tried = ok.tried; chosen = tt }) refl (λ w. tt) (λ w. tt)

    go : (p : ExactClientPhase) → ClientTold s (event.Fall (actor.Client c)) c (client_in k p) (client_falls_in (client_in k p) p)
    go exact.Down = refl
    go exact.Idle = up exact.Idle (λ e. let q : ClientIdle ≡ ClientDown = e in cc)
    go (exact.Chosen t place) = up (exact.Chosen t place) (λ e. let q : Chosen t place ≡ ClientDown = e in cc)
    go (exact.Asking p) = up (exact.Asking p) (λ e. let q : Asking (present_of p) ≡ ClientDown = e in cc)
    go (exact.Inside p) = up (exact.Inside p) (λ e. let q : IsIn (present_of p) ≡ ClientDown = e in cc)

pub client-rises-told : (s : Setting) (c : ℕ) (age : Age) (k : ExactClient) → ClientTold s (event.Rise (actor.Client c) age) c k (client_rises_in age k k.phase)
client-rises-told s c age k = go k.phase
  where
    down : (a : Age) (o : Option ℕ) → ClientTold s (event.Rise (actor.Client c) a) c (record { kept = k.kept; tried = o; phase = exact.Down }) (client_rises_with a k.kept o)
    down Old o =
        acting s (event.Rise (actor.Client c) Old) c (ClientRises Old) (λ w v h. h) (record { kept = k.kept; tried = o; phase = exact.Down }) (record { kept = k.kept; tried = None; phase = exact.Idle }) effect.Up
        (client_rises_old k.kept o) (λ ok. record { kept = ok.kept; tried = tt; chosen = tt }) refl (λ w. tt) (λ w. tt)
    down New None = refl
    down New (Some a) =
        acting s (event.Rise (actor.Client c) New) c (ClientRises New) (λ w v h. h) (record { kept = k.kept; tried = Some a; phase = exact.Down }) (record { kept = a; tried = None; phase = exact.Idle }) effect.Up
        (client_rises_new k.kept a) (λ ok. record { kept = ok.tried; tried = tt; chosen = tt }) refl (λ w. tt) (λ w. tt)

    go : (p : ExactClientPhase) → ClientTold s (event.Rise (actor.Client c) age) c (client_in k p) (client_rises_in age (client_in k p) p)
    go exact.Down = down age k.tried
    go exact.Idle = refl
    go (exact.Chosen t place) = refl
    go (exact.Asking p) = refl
    go (exact.Inside p) = refl
