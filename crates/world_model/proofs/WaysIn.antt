-- The three laws of ways in.
use Rattle.std.proofs.Common.{◌≡◌, ◌≢◌, ℕ, ◌+◌, ◌-◌, ◌<◌, ◌≤◌, ◌⊎◌, Bool, true, nat_le, List, [], ◌∷◌, ◌++◌, length, sum_by, Option, None, suc, refl, sym, ◌∙◌, ap, subst, inl, inr, arith}
use Rattle.std.proofs.lemmas.Bool.{cases_eq, and_parts, and_from, leb-true, le-leb}
use Rattle.lock_messages.specs.declared.ids.TheConstants.{MAX_ATTEMPT}
use Rattle.lock_messages.specs.declared.ids.Actor.{Actor}
use Rattle.lock_messages.specs.declared.ids.Actor.TheVariants as actor
use Rattle.lock_messages.specs.declared.tickets.Mode.{Mode}
use Rattle.lock_messages.specs.declared.tickets.Mode.TheVariants.{Read, Write}
use Rattle.lock_model.specs.Ballots.{Ballot, AllCross, HasAnyNode, HasPlace, IsEnough, Crosses, ballot_at, no_ballot, node_count, needed, nodes, total, votes_at, votes_of}
use Rattle.lock_model.specs.Stations.{Free, Has, Standing, stranger as nobody}
use Rattle.lock_model.specs.Decisions.{Among}
use Rattle.lock_model.proofs.BallotFacts.{votes-all}
use Rattle.world_model.specs.declared.events.Age.TheVariants.{Old}
use Rattle.world_model.specs.declared.events.Event.{Event}
use Rattle.world_model.specs.declared.events.Event.TheVariants as event
use Rattle.world_model.specs.Worlds.{Node, ClientPhase, ClientDown, ClientIdle, Chosen, Asking, IsIn, Client, World, Setting, HasClient, OfClient, Happens, Run, client_rises_old}
use Rattle.world_model.specs.Invariants.{IsSafe}
use Rattle.world_model.specs.ExactWorlds.{actor_of}
use Rattle.world_model.specs.declared.ways.Want.{Want}
use Rattle.world_model.specs.ExactWays.{every_node}
use Rattle.world_model.specs.Advice.{node_numbers, client_numbers, coming}
use Rattle.world_model.specs.Ways.{IsReached, IsPossible, WayIn, IsGentle, IsUp, HasActor, HasKeptBelow, IsChosenBelow, StandsInWay, IsReady, NobodyIsLockedOut, OthersOnlyGo, TheDeadAreNotNeeded}
use Rattle.world_model.proofs.SafeRuns.{opening-safe, run-safe}
use Rattle.world_model.proofs.Costs.{cost}
use Rattle.world_model.specs.ExactWays.{IsLeft}
use Rattle.world_model.proofs.Nearer.{Fine, node-among, client-among}
use Rattle.world_model.proofs.FineFacts.{cases-client, strangers-stay, stranger-is, safe-coming}
use Rattle.world_model.proofs.Puts.{put_client, put-client}
use Rattle.world_model.proofs.Searches.{numbers-among, among-clients}
use Rattle.world_model.proofs.VoteMoves.{shorter, no-fewer-votes}
use Rattle.world_model.proofs.Arrivals.{IsGentleHere, arrives}
use Rattle.world_model.proofs.Raises.{Raised, Rested, run-append, raises-nodes, raises-clients, rests-at-once}

-- What is known of a world that a run reaches.

still-nothing : (s : Setting) (events : List Event) (w v : World) → ((c : ℕ) → ¬ (HasClient s c) → (w.clients c).kept ≡ 0) → Run s w events v → (c : ℕ) → ¬ (HasClient s c) → (v.clients c).kept ≡ 0
still-nothing s [] w v none run = λ c stranger. ap (λ (x : World). (x.clients c).kept) run ∙ none c stranger
still-nothing s (e ∷ events) w v none run =
    still-nothing s events run.0 v (λ c stranger. ap (λ (k : Client). k.kept) (strangers-stay s w e run.0 run.1 c stranger) ∙ none c stranger) run.2

reached-safe : (s : Setting) (w : World) → IsReached s w → IsSafe s w
reached-safe s w r = run-safe s r.events r.opening w (opening-safe s r.opening r.lawful) r.run

reached-strangers : (s : Setting) (w : World) → IsReached s w → (c : ℕ) → ¬ (HasClient s c) → (w.clients c).kept ≡ 0
reached-strangers s w r = still-nothing s r.events r.opening w r.lawful.strangers r.run

reached-on : (s : Setting) (w v : World) (events : List Event) → IsReached s w → Run s w events v → IsReached s v
reached-on s w v events r run = record { opening = r.opening; events = r.events ++ events; lawful = r.lawful; run = run-append s r.events events r.opening w v r.run run }

-- an attempt is left
left-below : (a : Want) (kept : ℕ) (phase : ClientPhase) → kept < MAX_ATTEMPT → IsChosenBelow phase → phase ≢ ClientDown → IsLeft a kept phase
left-below a kept ClientDown below chosen up = up refl
left-below a kept ClientIdle below chosen up = below
left-below a kept (Chosen t place) below chosen up = inr chosen
left-below a kept (Asking p) below chosen up = inr below
left-below a kept (IsIn p) below chosen up = inr below

-- the way in of a client that is up
up-way : (s : Setting) (w : World) (a : Want) (chosen : ℕ → Bool) → IsReached s w → IsPossible s a → HasKeptBelow w a.client → IsChosenBelow (w.clients a.client).phase → ((n : ℕ) → chosen n ≡ true → IsReady w a n) →
    IsEnough (ballot_at s.ballots a.place) a.mode chosen → IsUp w (actor.Client a.client) → WayIn s w a (IsGentleHere w a)
up-way s w a chosen reached possible below chosen_below ready enough up = arrives s chosen a (suc (cost s chosen a w)) w fine (omega arith)
  where
    fine : Fine s chosen a w
    fine = record {
      possible = possible;
      enough = enough;
      safe = reached-safe s w reached;
      strangers = reached-strangers s w reached;
      left = left-below a (w.clients a.client).kept (w.clients a.client).phase below chosen_below up;
      ready = ready;
    }

-- A way in of events that are less than is asked for.
such-more : (s : Setting) (w : World) (a : Want) (P Q : Event → Type 0) → ((e : Event) → P e → Q e) → WayIn s w a P → WayIn s w a Q
such-more s w a P Q more way = record { events = way.events; such = λ e m. more e (way.such e m); end = way.end; run = way.run; inside = way.inside }

pub gentle-more : (May : Actor → Type 0) (c : ℕ) (e : Event) → IsGentle (λ who. ⊥) c e → IsGentle May c e
gentle-more May c (event.Begin d m x place) g = g
gentle-more May c (event.Try who) g = g
gentle-more May c (event.Kept who) g = g
gentle-more May c (event.SayTo d n) g = g
gentle-more May c (event.Say n) g = g
gentle-more May c (event.Take n k) g = g
gentle-more May c (event.Hear d k) g = g
gentle-more May c (event.Enter d) g = g
gentle-more May c (event.Leave d) g = g
gentle-more May c (event.Soften d) g = absurd g
gentle-more May c (event.Fall who) g = absurd g
gentle-more May c (event.Rise who age) g = absurd g
gentle-more May c (event.Switch n p) g = absurd g

-- 3. The dead are not needed.

abbrev OwnOnly : World → Want → Event → Type 0
OwnOnly w a e = IsGentle (λ who. who ≡ actor.Client a.client) a.client e × (IsUp w (actor_of e) ⊎ (actor_of e ≡ actor.Client a.client))

-- the client rises first
rising-way : (s : Setting) (w : World) (a : Want) (chosen : ℕ → Bool) (kept : ℕ) (tried : Option ℕ) → IsReached s w → IsPossible s a → HasKeptBelow w a.client → ((n : ℕ) → chosen n ≡ true → IsReady w a n) →
    IsEnough (ballot_at s.ballots a.place) a.mode chosen → w.clients a.client ≡ record { kept = kept; tried = tried; phase = ClientDown } → WayIn s w a (OwnOnly w a)
rising-way s w a chosen kept tried reached possible below ready enough was =
    record {
      events = rise ∷ way.events;
      such = such;
      end = way.end;
      run = (v, (before, after, client_rises_old kept tried, of), way.run);
      inside = way.inside;
    }
  where
    before : Client
    before = record { kept = kept; tried = tried; phase = ClientDown }

    after : Client
    after = record { kept = kept; tried = None; phase = ClientIdle }

    rise : Event
    rise = event.Rise (actor.Client a.client) Old

    v : World
    v = put_client w a.client after []

    of : OfClient s a.client w before after [] v
    of = put-client s a.client w before after [] possible.client was

    happens : Happens s w rise v
    happens = (before, after, client_rises_old kept tried, of)

    idle : (v.clients a.client).phase ≡ ClientIdle
    idle = ap (λ (k : Client). k.phase) of.is

    still : (d : ℕ) → IsUp w (actor.Client d) → IsUp v (actor.Client d)
    still d up = elim (cases_eq d a.client) [
      | inl e ↦ absurd (up (ap (λ j. (w.clients j).phase) e ∙ ap (λ (k : Client). k.phase) was))
      | inr apart ↦ λ e. up (ap (λ (k : Client). k.phase) (sym (of.others d apart)) ∙ e)
    ]

    ready-then : (n : ℕ) → chosen n ≡ true → IsReady v a n
    ready-then n is = record { up = (ready n is).up; in_way = λ d stands. still d ((ready n is).in_way d stands) }

    way : WayIn s v a (IsGentleHere v a)
    way =
        up-way s v a chosen (reached-on s w v (rise ∷ []) reached (v, happens, refl)) possible (subst (λ k. k < MAX_ATTEMPT) (ap (λ (k : Client). k.kept) was ∙ sym (ap (λ (k : Client). k.kept) of.is)) below)
        (subst IsChosenBelow (sym idle) tt) ready-then enough (λ e. let z : ClientIdle ≡ ClientDown = sym idle ∙ e in cc)

    -- who is up there was up here, but for the client itself
    was-up : (who : Actor) → IsUp v who → IsUp w who ⊎ (who ≡ actor.Client a.client)
    was-up (actor.Node n) up = inl up
    was-up (actor.Client d) up = elim (cases_eq d a.client) [
      | inl e ↦ inr (ap actor.Client e)
      | inr apart ↦ inl (λ e. up (ap (λ (k : Client). k.phase) (of.others d apart) ∙ e))
    ]

    such : (x : Event) → Among x (rise ∷ way.events) → OwnOnly w a x
    such x (inl same) = subst (OwnOnly w a) (sym same) (refl, inr refl)
    such x (inr m) = let g = way.such x m in (gentle-more (λ who. who ≡ actor.Client a.client) a.client x g.0, was-up (actor_of x) g.1)

pub dead-not-needed : TheDeadAreNotNeeded
dead-not-needed s w a chosen crosses reached possible below chosen_below ready enough = go (w.clients a.client).kept (w.clients a.client).tried (w.clients a.client).phase refl
  where
    up-now : (phase : ClientPhase) → (w.clients a.client).phase ≡ phase → phase ≢ ClientDown → WayIn s w a (OwnOnly w a)
    up-now phase is up =
        such-more s w a (IsGentleHere w a) (OwnOnly w a) (λ e g. (gentle-more (λ who. who ≡ actor.Client a.client) a.client e g.0, inl g.1))
        (up-way s w a chosen reached possible below chosen_below ready enough (λ e. up (sym is ∙ e)))

    go : (kept : ℕ) (tried : Option ℕ) (phase : ClientPhase) → w.clients a.client ≡ record { kept = kept; tried = tried; phase = phase } → WayIn s w a (OwnOnly w a)
    go kept tried ClientDown was = rising-way s w a chosen kept tried reached possible below ready enough was
    go kept tried ClientIdle was = up-now ClientIdle (ap (λ (k : Client). k.phase) was) (λ e. let z : ClientIdle ≡ ClientDown = e in cc)
    go kept tried (Chosen t place) was = up-now (Chosen t place) (ap (λ (k : Client). k.phase) was) (λ e. let z : Chosen t place ≡ ClientDown = e in cc)
    go kept tried (Asking p) was = up-now (Asking p) (ap (λ (k : Client). k.phase) was) (λ e. let z : Asking p ≡ ClientDown = e in cc)
    go kept tried (IsIn p) was = up-now (IsIn p) (ap (λ (k : Client). k.phase) was) (λ e. let z : IsIn p ≡ ClientDown = e in cc)

-- 2. The others only go.

pub every-known : (s : Setting) (n : ℕ) → every_node s n ≡ true → HasAnyNode s.ballots n
every-known s n h = let both = and_parts (nat_le 1 n) (nat_le n (node_count s.ballots)) h in (leb-true 1 n both.0, leb-true n (node_count s.ballots) both.1)

pub known-every : (s : Setting) (n : ℕ) → HasAnyNode s.ballots n → every_node s n ≡ true
known-every s n known = and_from (nat_le 1 n) (nat_le n (node_count s.ballots)) (le-leb 1 n known.0) (le-leb n (node_count s.ballots) known.1)

-- their votes are enough for each mode, by each ballot
pub every-enough : (s : Setting) (place : ℕ) (m : Mode) → AllCross s.ballots → HasPlace s.ballots place → IsEnough (ballot_at s.ballots place) m (every_node s)
every-enough s place m crosses has = omega (arith, fits m, all, votes-all b)
  where
    b : Ballot
    b = ballot_at s.ballots place

    each : Crosses b
    each = crosses.each (place - 1) no_ballot (omega (arith, has.0, has.1))

    fits : (mode : Mode) → needed b mode ≤ total b
    fits Read = each.reads_fit
    fits Write = each.writes_fit

    all : sum_by (votes_at b) (nodes b) ≤ votes_of b (every_node s)
    all = no-fewer-votes (votes_at b) (λ n. true) (every_node s) 1 (length b.votes) (λ n above below yes. known-every s n (above, omega (arith, below, shorter s.ballots (place - 1))))

all-ready : (s : Setting) (w : World) (a : Want) → IsReached s w → ((who : Actor) → HasActor s who → IsUp w who) → (n : ℕ) → every_node s n ≡ true → IsReady w a n
all-ready s w a reached up n is = record { up = up (actor.Node n) (every-known s n is); in_way = others }
  where
    others : (d : ℕ) → StandsInWay a (coming (w.nodes n)) d → IsUp w (actor.Client d)
    others d stands = elim (cases-client s d) [
      | inl has ↦ up (actor.Client d) has
      | inr stranger ↦ absurd (nothing (stranger-is s w n (coming (w.nodes n)) (reached-strangers s w reached) (safe-coming s w n (reached-safe s w reached)) d stranger))
    ]
      where
        nothing : (coming (w.nodes n)).at d ≡ nobody → ⊥
        nothing e = let it = stands.1 in let z : Free ≡ Has it.0 a.resource it.1 = ap (λ (t : Standing). t.claim) (sym e) ∙ it.2 in cc

pub others-only-go : OthersOnlyGo
others-only-go s w a crosses reached possible below chosen_below up =
    such-more s w a (IsGentleHere w a) (IsGentle (λ who. ⊥) a.client) (λ e g. g.0)
    (up-way s w a (every_node s) reached possible below chosen_below (all-ready s w a reached up) (every-enough s a.place a.mode crosses possible.place) (up (actor.Client a.client) possible.client))

-- 1. Nobody is locked out: the client comes to rest at once, whoever is down rises, and then there is a way.

pub nobody-locked-out : NobodyIsLockedOut
nobody-locked-out s w a crosses reached possible below =
    record {
      events = rested.events ++ (nodes_up.events ++ (clients_up.events ++ way.events));
      such = λ e m. tt;
      end = way.end;
      run = run-append s rested.events (nodes_up.events ++ (clients_up.events ++ way.events)) w rested.world way.end rested.run
          (run-append s nodes_up.events (clients_up.events ++ way.events) rested.world nodes_up.world way.end nodes_up.run
          (run-append s clients_up.events way.events nodes_up.world clients_up.world way.end clients_up.run way.run));
      inside = way.inside;
    }
  where
    rested : Rested s w a.client
    rested = rests-at-once s w a.client possible.client

    nodes_up : Raised s rested.world (λ v. (n : ℕ) → Among n (node_numbers s) → IsUp v (actor.Node n))
    nodes_up = raises-nodes s rested.world (node_numbers s) (numbers-among s)

    clients_up : Raised s nodes_up.world (λ v. (c : ℕ) → Among c (client_numbers s) → IsUp v (actor.Client c))
    clients_up = raises-clients s nodes_up.world (client_numbers s) (among-clients s)

    there : IsReached s clients_up.world
    there = reached-on s nodes_up.world clients_up.world clients_up.events (reached-on s rested.world nodes_up.world nodes_up.events (reached-on s w rested.world rested.events reached rested.run) nodes_up.run) clients_up.run

    up-then : IsUp rested.world (actor.Client a.client)
    up-then e = let z : ClientIdle ≡ ClientDown = sym rested.idle ∙ e in cc

    same : clients_up.world.clients a.client ≡ rested.world.clients a.client
    same = let first = nodes_up.stays.clients a.client up-then in clients_up.stays.clients a.client (λ e. up-then (ap (λ (k : Client). k.phase) (sym first) ∙ e)) ∙ first

    all-up : (who : Actor) → HasActor s who → IsUp clients_up.world who
    all-up (actor.Node n) known = let first = nodes_up.raised n (node-among s n known) in λ e. first (ap (λ (x : Node). x.phase) (sym (clients_up.stays.nodes n first)) ∙ e)
    all-up (actor.Client c) known = clients_up.raised c (client-among s c known)

    way : WayIn s clients_up.world a (IsGentle (λ who. ⊥) a.client)
    way =
        others-only-go s clients_up.world a crosses there possible (subst (λ (k : Client). k.kept < MAX_ATTEMPT) (sym same) (subst (λ k. k < MAX_ATTEMPT) (sym rested.kept) below))
        (subst (λ (k : Client). IsChosenBelow k.phase) (sym same) (subst IsChosenBelow (sym rested.idle) tt)) all-up
