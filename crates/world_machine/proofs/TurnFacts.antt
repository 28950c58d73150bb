-- What came of a turn, as a step of the world.
use Rattle.std.proofs.Common.{◌≡◌, ℕ, ◌+◌, ◌-◌, ◌<◌, ◌≤◌, ◌==◌, ◌⊎◌, Bool, true, false, cond, List, [], ◌∷◌, ◌++◌, length, Option, Some, None, Result, Ok, Err, IsOk, OnOk, refl, sym, ◌∙◌, ap, subst, inl, inr}
use Rattle.std.proofs.lemmas.Bool.{le-leb, lt-leb}
use Rattle.lock_messages.specs.declared.messages.Message.{Message}
use Rattle.lock_messages.specs.declared.messages.Message.TheVariants as message
use Rattle.lock_messages.specs.Messages.{is_for_node, is_for_client}
use Rattle.lock_model.specs.declared.problems.Problem.{Problem}
use Rattle.lock_model.specs.ExactDecisions.{changes}
use Rattle.lock_model.specs.ExactHearing.{is_node_of}
use Rattle.lock_model.specs.Ballots.{Ballot, node_count}
use Rattle.world_model.specs.declared.TheConstants.{MAX_MESSAGES}
use Rattle.world_model.specs.declared.events.Age.{Age}
use Rattle.world_model.specs.declared.events.Age.TheVariants.{Old, New}
use Rattle.world_model.specs.declared.events.Effect.{Effect}
use Rattle.world_model.specs.declared.events.Effect.TheVariants as effect
use Rattle.world_model.specs.declared.events.Event.{Event}
use Rattle.world_model.specs.declared.events.StepFault.{StepFault}
use Rattle.world_model.specs.declared.events.StepFault.TheVariants as fault
use Rattle.world_model.specs.declared.exact.ExactStation.{ExactStation}
use Rattle.world_model.specs.declared.exact.ExactNode.{ExactNode}
use Rattle.world_model.specs.declared.exact.ExactNodePhase.{ExactNodePhase}
use Rattle.world_model.specs.declared.exact.ExactNodePhase.TheVariants as node
use Rattle.world_model.specs.declared.exact.ExactClient.{ExactClient}
use Rattle.world_model.specs.declared.exact.ExactClientPhase.{ExactClientPhase}
use Rattle.world_model.specs.declared.exact.ExactClientPhase.TheVariants as client
use Rattle.world_model.specs.declared.exact.ExactWorld.{ExactWorld}
use Rattle.world_model.specs.ExactNodes.{tries_station_in, tries_station_with, node_rises_in, node_rises_with, says_in, takes_in, node_in, decided_on, is_another, switched_to, switches_in}
use Rattle.world_model.specs.ExactClients.{said_inside, tells, tells_in, says_one, hears, is_down, after_hearing, heard_in}
use Rattle.world_model.specs.ExactWorlds.{numbered, NodeDoes, ClientDoes, deed_of, Steps, next_number, has_room, with_node_at, with_client_at, read_in, finishes, by_actor, done_by, step}
use Rattle.world_model.specs.Forgetting.{IsSound, forget, setting_of}
use Rattle.world_model.specs.Laws.{ExactStepsAreAllowed, StepsKeepSound}
use Rattle.world_model.specs.Parts.{turn_says}
use Rattle.world_model.specs.StepsOf.{asks_for_memory, IsRefused, Does}
use Rattle.world_model.specs.Worlds.{Happens}
use Rattle.world_model.specs.Turns.{Turns, acts, speaks, reads}
use Rattle.world_machine.specs.declared.turns.NodeAct.{NodeAct}
use Rattle.world_machine.specs.declared.turns.NodeAct.TheVariants as node_act
use Rattle.world_machine.specs.declared.turns.ClientAct.{ClientAct}
use Rattle.world_machine.specs.declared.turns.ClientAct.TheVariants as client_act
use Rattle.world_machine.specs.Doing.{node_event, node_turn, node_asks, client_event, client_turn, IsNotTurned, Turned, read_turn, IsKeptBack, Spoke}
use Rattle.world_machine.specs.Machines.{with_sent}

-- the deeds of turns

pub node-deed : (n : ℕ) (act : NodeAct) → deed_of (node_event n act) ≡ NodeDoes n (λ v. node_turn act n v)
node-deed n node_act.Try = refl
node-deed n node_act.Kept = refl
node-deed n node_act.Fall = refl
node-deed n (node_act.Rise age) = refl
node-deed n (node_act.Switch p) = refl

pub node-asks : (n : ℕ) (act : NodeAct) → asks_for_memory (node_event n act) ≡ node_asks act
node-asks n node_act.Try = refl
node-asks n node_act.Kept = refl
node-asks n node_act.Fall = refl
node-asks n (node_act.Rise age) = refl
node-asks n (node_act.Switch p) = refl

pub client-deed : (c : ℕ) (act : ClientAct) → deed_of (client_event c act) ≡ ClientDoes c (λ b k. client_turn act c b k)
client-deed c (client_act.Begin m x place) = refl
client-deed c client_act.Try = refl
client-deed c client_act.Kept = refl
client-deed c client_act.Enter = refl
client-deed c client_act.Leave = refl
client-deed c client_act.Soften = refl
client-deed c client_act.Fall = refl
client-deed c (client_act.Rise age) = refl

-- the step that an actor's turn is

pub step-node : (w : ExactWorld) (e : Event) (n : ℕ) (turn : ExactNode → Turns ExactNode) (v : ExactNode) → deed_of e ≡ NodeDoes n turn → numbered w.nodes n ≡ Some v →
    step w e ≡ finishes w (with_node_at w n) (turn v)
unfolding step
step-node w e n turn v d h = ap (done_by w) d ∙ ap (λ o. by_actor w (with_node_at w n) o turn) h

pub step-no-node : (w : ExactWorld) (e : Event) (n : ℕ) (turn : ExactNode → Turns ExactNode) → deed_of e ≡ NodeDoes n turn → numbered w.nodes n ≡ None → step w e ≡ Err fault.UnknownActor
unfolding step
step-no-node w e n turn d h = ap (done_by w) d ∙ ap (λ o. by_actor w (with_node_at w n) o turn) h

pub step-client : (w : ExactWorld) (e : Event) (c : ℕ) (turn : List Ballot → ExactClient → Turns ExactClient) (k : ExactClient) → deed_of e ≡ ClientDoes c turn → numbered w.clients c ≡ Some k →
    step w e ≡ finishes w (with_client_at w c) (turn w.ballots k)
unfolding step
step-client w e c turn k d h = ap (done_by w) d ∙ ap (λ o. by_actor w (with_client_at w c) o (turn w.ballots)) h

pub step-no-client : (w : ExactWorld) (e : Event) (c : ℕ) (turn : List Ballot → ExactClient → Turns ExactClient) → deed_of e ≡ ClientDoes c turn → numbered w.clients c ≡ None → step w e ≡ Err fault.UnknownActor
unfolding step
step-no-client w e c turn d h = ap (done_by w) d ∙ ap (λ o. by_actor w (with_client_at w c) o (turn w.ballots)) h

-- turns of one kind

no : {A : Type 0} → false ≡ true → A
no q = absurd (let p : false ≡ true = q in cc)

abbrev pub OnlyActs : {P : Type 0} → Turns P → Type 0
OnlyActs {P} turn = IsOk turn → (after : P) × (done : Effect) × (turn ≡ acts after done)

abbrev pub OnlySpeaks : {P : Type 0} → Turns P → Type 0
OnlySpeaks {P} turn = IsOk turn → (after : P) × (says : List Message) × (done : ℕ → Effect) × (turn ≡ speaks after says done)

tries-acts : (v : ExactNode) (s : ExactStation) (tried : Option ExactStation) → OnlyActs (tries_station_with v s tried)
tries-acts v s None = λ ok. (record { kept = v.kept; tried = Some s; phase = v.phase }, effect.Tried, refl)
tries-acts v s (Some u) = λ ok. no ok

rises-acts : (age : Age) (kept : ExactStation) (tried : Option ExactStation) → OnlyActs (node_rises_with age kept tried)
rises-acts Old kept tried = λ ok. (record { kept = kept; tried = None; phase = node.Idle }, effect.Up, refl)
rises-acts New kept None = λ ok. no ok
rises-acts New kept (Some s) = λ ok. (record { kept = s; tried = None; phase = node.Idle }, effect.Up, refl)

tries-in-acts : (v : ExactNode) (phase : ExactNodePhase) → OnlyActs (tries_station_in v phase)
tries-in-acts v node.Down = λ ok. no ok
tries-in-acts v node.Idle = λ ok. no ok
tries-in-acts v (node.Decided s replies) = tries-acts v s v.tried
tries-in-acts v (node.Stored replies) = λ ok. no ok

rises-in-acts : (age : Age) (v : ExactNode) (phase : ExactNodePhase) → OnlyActs (node_rises_in age v phase)
rises-in-acts age v node.Down = rises-acts age v.kept v.tried
rises-in-acts age v node.Idle = λ ok. no ok
rises-in-acts age v (node.Decided s replies) = λ ok. no ok
rises-in-acts age v (node.Stored replies) = λ ok. no ok

switches-in-acts : (n : ℕ) (p : Problem) (v : ExactNode) (phase : ExactNodePhase) → OnlyActs (switches_in n p v phase)
switches-in-acts n p v node.Down = λ ok. no ok
switches-in-acts n p v node.Idle = λ ok. (switched_to n p v, effect.Switched (is_another p v), refl)
switches-in-acts n p v (node.Decided s replies) = λ ok. no ok
switches-in-acts n p v (node.Stored replies) = λ ok. no ok

-- those that ask for memory act
pub node-acts : (act : NodeAct) (n : ℕ) (v : ExactNode) → node_asks act ≡ true → OnlyActs (node_turn act n v)
node-acts node_act.Try n v asks = tries-in-acts v v.phase
node-acts node_act.Kept n v asks = absurd (let q : false ≡ true = asks in cc)
node-acts node_act.Fall n v asks = absurd (let q : false ≡ true = asks in cc)
node-acts (node_act.Rise age) n v asks = rises-in-acts age v v.phase
node-acts (node_act.Switch p) n v asks = switches-in-acts n p v v.phase

says-speaks : (v : ExactNode) (phase : ExactNodePhase) → OnlySpeaks (says_in v phase)
says-speaks v node.Down = λ ok. no ok
says-speaks v node.Idle = λ ok. no ok
says-speaks v (node.Decided s replies) = λ ok. no ok
says-speaks v (node.Stored replies) = λ ok. (node_in v node.Idle, replies, (λ first. effect.Said first (length replies)), refl)

pub node-speaks : (v : ExactNode) → OnlySpeaks (says_in v v.phase)
node-speaks v = says-speaks v v.phase

one-speaks : (k : ExactClient) (m : Message) → OnlySpeaks (says_one k m)
one-speaks k m = λ ok. (k, m ∷ [], (λ first. effect.Sent first m), refl)

tells-speaks : (c n : ℕ) (k : ExactClient) (phase : ExactClientPhase) → OnlySpeaks (tells_in c n k phase)
tells-speaks c n k client.Down = λ ok. no ok
tells-speaks c n k client.Idle = go (k.kept == 0)
  where
    go : (b : Bool) → OnlySpeaks (cond b (Err fault.NothingToSay) (says_one k (message.Release n c k.kept)))
    go true = λ ok. no ok
    go false = one-speaks k (message.Release n c k.kept)
tells-speaks c n k (client.Chosen t place) = λ ok. no ok
tells-speaks c n k (client.Asking p) = one-speaks k (message.Request n p.ticket)
tells-speaks c n k (client.Inside p) = one-speaks k (said_inside c n p)

pub client-speaks : (b : List Ballot) (c n : ℕ) (k : ExactClient) → OnlySpeaks (tells b c n k)
client-speaks b c n k = go (is_node_of (node_count b) n)
  where
    go : (is : Bool) → OnlySpeaks (cond is (tells_in c n k k.phase) (Err fault.UnknownActor))
    go true = tells-speaks c n k k.phase
    go false = λ ok. no ok

-- a message that is read

read-once : {P : Type 0} (w : ExactWorld) (into : P → ExactWorld) (number : ℕ) (is_mine : Message → Bool) (after : Message → P) (done : Message → Effect) (found : Option Message) →
    read_in into is_mine after done found ≡ finishes w into (read_turn found (reads number is_mine after done))
read-once w into number is_mine after done None = refl
read-once {P} w into number is_mine after done (Some m) = go (is_mine m)
  where
    go : (b : Bool) → cond b (Ok (record { world = into (after m); effect = done m })) (Err fault.NotAddressed) ≡ finishes w into (cond b (acts (after m) (done m)) (Err fault.NotAddressed))
    go true = refl
    go false = refl

read-acts : {P : Type 0} (number : ℕ) (is_mine : Message → Bool) (after : Message → P) (done : Message → Effect) (found : Option Message) → OnlyActs (read_turn found (reads number is_mine after done))
read-acts number is_mine after done None = λ ok. no ok
read-acts {P} number is_mine after done (Some m) = go (is_mine m)
  where
    go : (b : Bool) → OnlyActs (cond b (acts (after m) (done m)) (Err fault.NotAddressed))
    go true = λ ok. (after m, done m, refl)
    go false = λ ok. no ok

takes-once : (w : ExactWorld) (into : ExactNode → ExactWorld) (n number : ℕ) (v : ExactNode) (phase : ExactNodePhase) →
    finishes w into (takes_in n number v phase) ≡ finishes w into (read_turn (numbered w.sent number) (takes_in n number v phase))
takes-once w into n number v node.Down = refl
takes-once w into n number v node.Idle = read-once w into number (λ m. is_for_node m n) (decided_on v) (λ m. effect.Took m (changes v.kept.problem v.kept.entries m)) (numbered w.sent number)
takes-once w into n number v (node.Decided s replies) = refl
takes-once w into n number v (node.Stored replies) = refl

pub take-once : (w : ExactWorld) (into : ExactNode → ExactWorld) (n number : ℕ) (v : ExactNode) →
    finishes w into (takes_in n number v v.phase) ≡ finishes w into (read_turn (numbered w.sent number) (takes_in n number v v.phase))
take-once w into n number v = takes-once w into n number v v.phase

takes-acts : (n number : ℕ) (v : ExactNode) (phase : ExactNodePhase) (found : Option Message) → OnlyActs (read_turn found (takes_in n number v phase))
takes-acts n number v node.Down found = λ ok. no ok
takes-acts n number v node.Idle found = read-acts number (λ m. is_for_node m n) (decided_on v) (λ m. effect.Took m (changes v.kept.problem v.kept.entries m)) found
takes-acts n number v (node.Decided s replies) found = λ ok. no ok
takes-acts n number v (node.Stored replies) found = λ ok. no ok

pub take-acts : (n number : ℕ) (v : ExactNode) (found : Option Message) → OnlyActs (read_turn found (takes_in n number v v.phase))
take-acts n number v found = takes-acts n number v v.phase found

pub hear-once : (w : ExactWorld) (into : ExactClient → ExactWorld) (nodes c number : ℕ) (k : ExactClient) →
    finishes w into (hears nodes c number k) ≡ finishes w into (read_turn (numbered w.sent number) (hears nodes c number k))
hear-once w into nodes c number k = go (is_down k.phase)
  where
    turn : Turns ExactClient
    turn = reads number (λ m. is_for_client m c) (after_hearing nodes c k) (λ m. effect.Heard m (heard_in nodes c k.kept k.phase m))

    go : (b : Bool) → finishes w into (cond b (Err fault.Down) turn) ≡ finishes w into (read_turn (numbered w.sent number) (cond b (Err fault.Down) turn))
    go true = refl
    go false = read-once w into number (λ m. is_for_client m c) (after_hearing nodes c k) (λ m. effect.Heard m (heard_in nodes c k.kept k.phase m)) (numbered w.sent number)

-- what the call did

did-refuse : {P : Type 0} (w : ExactWorld) (e : Event) (into : P → ExactWorld) (turn : Turns P) (asks : Bool) (f : StepFault) → step w e ≡ finishes w into turn → (asks ≡ true → asks_for_memory e ≡ true) → (asks ≡ true → OnlyActs turn) →
    IsNotTurned asks turn f → IsRefused e (step w e) f
did-refuse w e into turn asks f s may only (inl r) = inl (s ∙ ap (finishes w into) r)
did-refuse w e into turn asks f s may only (inr h) =
    let t = only h.1 h.2 in
    inr (h.0, may h.1, subst IsOk (sym (s ∙ ap (finishes w into) t.2)) refl)

pub does-turned : {A P : Type 0} (w : ExactWorld) (e : Event) (into : P → ExactWorld) (part : A → P) (turn : Turns P) (asks : Bool) (v u : A) (r : Result Effect StepFault) →
    step w e ≡ finishes w into turn → (asks ≡ true → asks_for_memory e ≡ true) → (asks ≡ true → OnlyActs turn) → into (part v) ≡ w → Turned asks part turn v r u → Does e (step w e) w r (into (part u))
does-turned w e into part turn asks v u (Ok done) s may only same h = s ∙ ap (finishes w into) h
does-turned w e into part turn asks v u (Err f) s may only same h = (did-refuse w e into turn asks f s may only h.0, ap (λ x. into (part x)) h.1 ∙ same)

room-for : (w : ExactWorld) (sent says : List Message) → w.sent ≡ sent → length says ≤ MAX_MESSAGES - length sent → has_room w says ≡ true
room-for w sent says is fits = le-leb (length says) (MAX_MESSAGES - length w.sent) (subst (λ l. length says ≤ MAX_MESSAGES - length l) (sym is) fits)

no-room-for : (w : ExactWorld) (sent says : List Message) → w.sent ≡ sent → MAX_MESSAGES - length sent < length says → has_room w says ≡ false
no-room-for w sent says is over = lt-leb (length says) (MAX_MESSAGES - length w.sent) (subst (λ l. MAX_MESSAGES - length l < length says) (sym is) over)

abbrev stepped : ExactWorld → Effect → Steps
stepped v done = Ok (record { world = v; effect = done })

abbrev spoken : {P : Type 0} → ExactWorld → (P → ExactWorld) → P → List Message → (ℕ → Effect) → Bool → Steps
spoken w into after says done room = cond room (stepped (with_sent (into after) ((into after).sent ++ says)) (done (next_number w))) (Err fault.SentListFull)

did-keep-back : {P : Type 0} (w : ExactWorld) (e : Event) (into : P → ExactWorld) (turn : Turns P) (sent : List Message) (f : StepFault) → step w e ≡ finishes w into turn → asks_for_memory e ≡ true → OnlySpeaks turn → w.sent ≡ sent →
    (turn ≡ Err f) ⊎ (IsOk turn × IsKeptBack turn (length sent) f) → IsRefused e (step w e) f
did-keep-back w e into turn sent f s may only is (inl r) = inl (s ∙ ap (finishes w into) r)
did-keep-back {P} w e into turn sent f s may only is (inr (ok, why)) = go why
  where
    t : (after : P) × (says : List Message) × (done : ℕ → Effect) × (turn ≡ speaks after says done)
    t = only ok

    says : turn_says turn ≡ t.1
    says = ap turn_says t.3

    go : IsKeptBack turn (length sent) f → IsRefused e (step w e) f
    go (inl (full, over)) =
        inl (s ∙ ap (finishes w into) t.3 ∙ ap (spoken w into t.0 t.1 t.2) (no-room-for w sent t.1 is (subst (λ l. MAX_MESSAGES - length sent < length l) says over)) ∙ ap Err (sym full))
    go (inr (memory, fits)) =
        inr (memory, may, subst IsOk (sym (s ∙ ap (finishes w into) t.3 ∙ ap (spoken w into t.0 t.1 t.2) (room-for w sent t.1 is (subst (λ l. length l ≤ MAX_MESSAGES - length sent) says fits)))) refl)

pub does-spoke : {A P : Type 0} (w : ExactWorld) (e : Event) (into : P → ExactWorld) (part : A → P) (turn : Turns P) (sent : List Message) (v u : A) (r : Result Effect StepFault) (new : List Message) →
    step w e ≡ finishes w into turn → asks_for_memory e ≡ true → OnlySpeaks turn → into (part v) ≡ w → ((p : P) → (into p).sent ≡ w.sent) → w.sent ≡ sent → Spoke part turn sent v r u new →
    Does e (step w e) w r (with_sent (into (part u)) new)
does-spoke w e into part turn sent v u (Ok done) new s may only same kept is h =
    let after = part u in
    s ∙ ap (finishes w into) h.2 ∙ ap (spoken w into after h.0 h.1) (room-for w sent h.0 is h.3)
    ∙ ap (λ l. stepped (with_sent (into after) l) (h.1 (next_number w))) (ap (λ l. l ++ h.0) (kept after ∙ is) ∙ sym h.4)
    ∙ ap (stepped (with_sent (into after) new)) (ap (λ l. h.1 (length l + 1)) is ∙ sym h.5)
does-spoke w e into part turn sent v u (Err f) new s may only same kept is h = (
  did-keep-back w e into turn sent f s may only is h.0,
  ap (λ x. with_sent (into (part x)) new) h.1 ∙ ap (λ x. with_sent x new) same ∙ ap (with_sent w) (h.2 ∙ sym is),
)

-- what the call left is sound
pub does-sound : StepsKeepSound → (e : Event) (w v : ExactWorld) (r : Result Effect StepFault) → IsSound w → Does e (step w e) w r v → IsSound v
does-sound keep e w v (Ok done) sound h = keep w v e done sound h
does-sound keep e w v (Err f) sound h = subst IsSound (sym h.1) sound

-- it is one of those that may happen, among the same actors

pub does-allowed : ExactStepsAreAllowed → (e : Event) (w v : ExactWorld) (r : Result Effect StepFault) → IsSound w → Does e (step w e) w r v → OnOk r (Happens (setting_of w) (forget w) e (forget v))
does-allowed law e w v (Ok done) sound h = (law w v e done sound h).0
does-allowed law e w v (Err f) sound h = _

pub does-setting : ExactStepsAreAllowed → (e : Event) (w v : ExactWorld) (r : Result Effect StepFault) → IsSound w → Does e (step w e) w r v → setting_of v ≡ setting_of w
does-setting law e w v (Ok done) sound h = (law w v e done sound h).1
does-setting law e w v (Err f) sound h = ap setting_of h.1
