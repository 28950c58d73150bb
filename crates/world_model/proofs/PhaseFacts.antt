-- Which exact phase stands for a phase, and what each relation needs of the actor before it.
use Rattle.std.proofs.Common.{◌≡◌, ◌≢◌, ℕ, ◌<◌, false, List, Option, Some, None, refl, ap, ◌∙◌}
use Rattle.std.specs.Option.{option_map}
use Rattle.lock_messages.specs.declared.ids.TheConstants.{MAX_ATTEMPT}
use Rattle.lock_messages.specs.declared.tickets.Mode.{Mode}
use Rattle.lock_messages.specs.declared.tickets.Mode.TheVariants.{Write}
use Rattle.lock_messages.specs.declared.tickets.Ticket.{Ticket}
use Rattle.lock_messages.specs.declared.messages.Message.{Message}
use Rattle.lock_model.specs.Ballots.{Ballot, HasPlace, IsEnough, ballot_at}
use Rattle.lock_model.specs.declared.problems.Problem.{Problem}
use Rattle.lock_model.specs.Stations.{Station}
use Rattle.world_model.specs.declared.events.Age.TheVariants.{Old, New}
use Rattle.world_model.specs.declared.exact.ExactStation.{ExactStation}
use Rattle.world_model.specs.declared.exact.ExactNodePhase.{ExactNodePhase}
use Rattle.world_model.specs.declared.exact.ExactNodePhase.TheVariants as node
use Rattle.world_model.specs.declared.exact.ExactPresent.{ExactPresent}
use Rattle.world_model.specs.declared.exact.ExactClientPhase.{ExactClientPhase}
use Rattle.world_model.specs.declared.exact.ExactClientPhase.TheVariants as client
use Rattle.world_model.specs.Worlds.{NodeDown, NodeIdle, Decided, Stored, Node, Present, ClientDown, ClientIdle, Chosen, Asking, IsIn, Client, Begins, begins, TriesAttempt, tries_attempt, TriesStation, tries_station, KeepsAttempt, keeps_attempt, KeepsStation, keeps_station, Tells, asks, asks_inside, tells_softened, releases, Says, says, Takes, takes, takes_same, Hears, counts, counts_inside, passes, passes_inside, passes_softened, passes_idle, passes_chosen, Enters, enters, Leaves, gives_up, leaves, Softens, softens, NodeFalls, node_falls, ClientFalls, client_falls, NodeRises, node_rises_old, node_rises_new, ClientRises, client_rises_old, client_rises_new, Switches, switches_to, switches_same}
use Rattle.world_model.specs.Forgetting.{station_of, node_phase_of, present_of, client_phase_of}

-- which exact phase stands for a phase

pub client-idle : (p : ExactClientPhase) → client_phase_of p ≡ ClientIdle → p ≡ client.Idle
client-idle client.Down e = absurd (let q : ClientDown ≡ ClientIdle = e in cc)
client-idle client.Idle e = refl
client-idle (client.Chosen t place) e = absurd (let q : Chosen t place ≡ ClientIdle = e in cc)
client-idle (client.Asking p) e = absurd (let q : Asking (present_of p) ≡ ClientIdle = e in cc)
client-idle (client.Inside p) e = absurd (let q : IsIn (present_of p) ≡ ClientIdle = e in cc)

pub client-down : (p : ExactClientPhase) → client_phase_of p ≡ ClientDown → p ≡ client.Down
client-down client.Down e = refl
client-down client.Idle e = absurd (let q : ClientIdle ≡ ClientDown = e in cc)
client-down (client.Chosen t place) e = absurd (let q : Chosen t place ≡ ClientDown = e in cc)
client-down (client.Asking p) e = absurd (let q : Asking (present_of p) ≡ ClientDown = e in cc)
client-down (client.Inside p) e = absurd (let q : IsIn (present_of p) ≡ ClientDown = e in cc)

pub client-chosen : (p : ExactClientPhase) (t : Ticket) (place : ℕ) → client_phase_of p ≡ Chosen t place → p ≡ client.Chosen t place
client-chosen client.Down t place e = absurd (let q : ClientDown ≡ Chosen t place = e in cc)
client-chosen client.Idle t place e = absurd (let q : ClientIdle ≡ Chosen t place = e in cc)
client-chosen (client.Chosen s at) t place e =
    let q : Chosen s at ≡ Chosen t place = e in
    let r : s ≡ t = cc in
    let z : at ≡ place = cc in ap (λ u. client.Chosen u at) r ∙ ap (client.Chosen t) z
client-chosen (client.Asking p) t place e = absurd (let q : Asking (present_of p) ≡ Chosen t place = e in cc)
client-chosen (client.Inside p) t place e = absurd (let q : IsIn (present_of p) ≡ Chosen t place = e in cc)

-- what is an exact phase, where it asks or is inside
abbrev pub AskingAs : Present → ExactClientPhase → Type 0
AskingAs a phase = (p : ExactPresent) × (phase ≡ client.Asking p) × (present_of p ≡ a)

pub client-asking : (phase : ExactClientPhase) (a : Present) → client_phase_of phase ≡ Asking a → AskingAs a phase
client-asking client.Down a e = absurd (let q : ClientDown ≡ Asking a = e in cc)
client-asking client.Idle a e = absurd (let q : ClientIdle ≡ Asking a = e in cc)
client-asking (client.Chosen t place) a e = absurd (let q : Chosen t place ≡ Asking a = e in cc)
client-asking (client.Asking p) a e =
    let q : Asking (present_of p) ≡ Asking a = e in
    let same : present_of p ≡ a = cc in (p, refl, same)
client-asking (client.Inside p) a e = absurd (let q : IsIn (present_of p) ≡ Asking a = e in cc)

abbrev pub InsideAs : Present → ExactClientPhase → Type 0
InsideAs a phase = (p : ExactPresent) × (phase ≡ client.Inside p) × (present_of p ≡ a)

pub client-inside : (phase : ExactClientPhase) (a : Present) → client_phase_of phase ≡ IsIn a → InsideAs a phase
client-inside client.Down a e = absurd (let q : ClientDown ≡ IsIn a = e in cc)
client-inside client.Idle a e = absurd (let q : ClientIdle ≡ IsIn a = e in cc)
client-inside (client.Chosen t place) a e = absurd (let q : Chosen t place ≡ IsIn a = e in cc)
client-inside (client.Asking p) a e = absurd (let q : Asking (present_of p) ≡ IsIn a = e in cc)
client-inside (client.Inside p) a e =
    let q : IsIn (present_of p) ≡ IsIn a = e in
    let same : present_of p ≡ a = cc in (p, refl, same)

-- what each relation needs of the actor before it

pub begins-needs : {b : List Ballot} {c : ℕ} {m : Mode} {x : List ℕ} {place : ℕ} {before after : Client} → Begins b c m x place before after → (before.phase ≡ ClientIdle) × (before.kept < MAX_ATTEMPT) × HasPlace b place
begins-needs (begins kept tried below placed) = (refl, below, placed)

pub tries-needs : {before after : Client} → TriesAttempt before after → (t : Ticket) × (place : ℕ) × (before.phase ≡ Chosen t place) × (before.tried ≡ None)
tries-needs (tries_attempt kept t place) = (t, place, refl, refl)

pub keeps-needs : {before after : Client} → KeepsAttempt before after → (t : Ticket) × (place : ℕ) × (a : ℕ) × (before.phase ≡ Chosen t place) × (before.tried ≡ Some a)
keeps-needs (keeps_attempt kept a t place) = (t, place, a, refl, refl)

-- a client may speak
pub data MaySpeak (before : Client) : Type 0 where
  speaks_asking : (p : Present) → before.phase ≡ Asking p → MaySpeak before
  speaks_inside : (p : Present) → before.phase ≡ IsIn p → MaySpeak before
  speaks_idle : before.phase ≡ ClientIdle → 0 < before.kept → MaySpeak before

pub tells-needs : {c n : ℕ} {before : Client} {said : List Message} → Tells c n before said → MaySpeak before
tells-needs (asks kept tried p) = speaks_asking p refl
tells-needs (asks_inside kept tried p whole) = speaks_inside p refl
tells-needs (tells_softened kept tried p softened) = speaks_inside p refl
tells-needs (releases kept tried some) = speaks_idle refl some

pub hears-needs : {b : List Ballot} {c : ℕ} {m : Message} {before after : Client} → Hears b c m before after → before.phase ≢ ClientDown
hears-needs (counts kept tried p h) = λ e. let q : Asking p ≡ ClientDown = e in cc
hears-needs (counts_inside kept tried p whole h) = λ e. let q : IsIn p ≡ ClientDown = e in cc
hears-needs (passes kept tried p x h apart) = λ e. let q : Asking p ≡ ClientDown = e in cc
hears-needs (passes_inside kept tried p x whole h apart) = λ e. let q : IsIn p ≡ ClientDown = e in cc
hears-needs (passes_softened kept tried p x softened h) = λ e. let q : IsIn p ≡ ClientDown = e in cc
hears-needs (passes_idle kept tried x h) = λ e. let q : ClientIdle ≡ ClientDown = e in cc
hears-needs (passes_chosen kept tried t place) = λ e. let q : Chosen t place ≡ ClientDown = e in cc

pub enters-needs : {b : List Ballot} {before after : Client} → Enters b before after → (p : Present) × (before.phase ≡ Asking p) × IsEnough (ballot_at b p.place) p.ticket.mode p.granted
enters-needs (enters kept tried p enough) = (p, refl, enough)

-- a client has something to leave
pub data MayLeave (before : Client) : Type 0 where
  leaves_asking : (p : Present) → before.phase ≡ Asking p → MayLeave before
  leaves_inside : (p : Present) → before.phase ≡ IsIn p → MayLeave before

pub leaves-needs : {before after : Client} → Leaves before after → MayLeave before
leaves-needs (gives_up kept tried p) = leaves_asking p refl
leaves-needs (leaves kept tried p) = leaves_inside p refl

pub softens-needs : {before after : Client} → Softens before after → (p : Present) × (before.phase ≡ IsIn p) × (p.ticket.mode ≡ Write) × (p.softened ≡ false)
softens-needs (softens kept tried p writes whole) = (p, refl, writes, whole)

pub client-falls-needs : {before after : Client} → ClientFalls before after → before.phase ≢ ClientDown
client-falls-needs (client_falls kept tried phase up) = up

pub old-needs : {before after : Client} → ClientRises Old before after → before.phase ≡ ClientDown
old-needs (client_rises_old kept tried) = refl

pub new-needs : {before after : Client} → ClientRises New before after → (a : ℕ) × (before.phase ≡ ClientDown) × (before.tried ≡ Some a)
new-needs (client_rises_new kept a) = (a, refl, refl)

-- which exact phase of a node stands for a phase

pub node-down : (p : ExactNodePhase) → node_phase_of p ≡ NodeDown → p ≡ node.Down
node-down node.Down e = refl
node-down node.Idle e = absurd (let q : NodeIdle ≡ NodeDown = e in cc)
node-down (node.Decided s replies) e = absurd (let q : Decided (station_of s) replies ≡ NodeDown = e in cc)
node-down (node.Stored replies) e = absurd (let q : Stored replies ≡ NodeDown = e in cc)

pub node-idle : (p : ExactNodePhase) → node_phase_of p ≡ NodeIdle → p ≡ node.Idle
node-idle node.Down e = absurd (let q : NodeDown ≡ NodeIdle = e in cc)
node-idle node.Idle e = refl
node-idle (node.Decided s replies) e = absurd (let q : Decided (station_of s) replies ≡ NodeIdle = e in cc)
node-idle (node.Stored replies) e = absurd (let q : Stored replies ≡ NodeIdle = e in cc)

abbrev pub DecidedAs : ExactNodePhase → Type 0
DecidedAs p = (s : ExactStation) × (replies : List Message) × (p ≡ node.Decided s replies)

pub node-decided : (p : ExactNodePhase) (s : Station) (replies : List Message) → node_phase_of p ≡ Decided s replies → DecidedAs p
node-decided node.Down s replies e = absurd (let q : NodeDown ≡ Decided s replies = e in cc)
node-decided node.Idle s replies e = absurd (let q : NodeIdle ≡ Decided s replies = e in cc)
node-decided (node.Decided u others) s replies e = (u, others, refl)
node-decided (node.Stored others) s replies e = absurd (let q : Stored others ≡ Decided s replies = e in cc)

abbrev pub StoredAs : ExactNodePhase → Type 0
StoredAs p = (replies : List Message) × (p ≡ node.Stored replies)

pub node-stored : (p : ExactNodePhase) (replies : List Message) → node_phase_of p ≡ Stored replies → StoredAs p
node-stored node.Down replies e = absurd (let q : NodeDown ≡ Stored replies = e in cc)
node-stored node.Idle replies e = absurd (let q : NodeIdle ≡ Stored replies = e in cc)
node-stored (node.Decided s others) replies e = absurd (let q : Decided (station_of s) others ≡ Stored replies = e in cc)
node-stored (node.Stored others) replies e = (others, refl)

pub none-tried : (o : Option ExactStation) → option_map station_of o ≡ None → o ≡ None
none-tried None e = refl
none-tried (Some s) e = absurd (let q : Some (station_of s) ≡ None = e in cc)

pub some-tried : (o : Option ExactStation) (s : Station) → option_map station_of o ≡ Some s → (u : ExactStation) × (o ≡ Some u)
some-tried None s e = absurd (let q : None ≡ Some s = e in cc)
some-tried (Some u) s e = (u, refl)

pub station-tries-needs : {before after : Node} → TriesStation before after → (s : Station) × (replies : List Message) × (before.phase ≡ Decided s replies) × (before.tried ≡ None)
station-tries-needs (tries_station kept s replies) = (s, replies, refl, refl)

pub station-keeps-needs : {before after : Node} → KeepsStation before after → (s tried : Station) × (replies : List Message) × (before.phase ≡ Decided s replies) × (before.tried ≡ Some tried)
station-keeps-needs (keeps_station kept tried s replies) = (s, tried, replies, refl, refl)

pub says-needs : {before after : Node} {said : List Message} → Says before after said → before.phase ≡ Stored said
says-needs (says kept tried replies) = refl

pub takes-needs : {m : Message} {before after : Node} → Takes m before after → before.phase ≡ NodeIdle
takes-needs (takes kept s tried replies h) = refl
takes-needs (takes_same kept tried replies h) = refl

pub node-falls-needs : {before after : Node} → NodeFalls before after → before.phase ≢ NodeDown
node-falls-needs (node_falls kept tried phase up) = up

pub node-old-needs : {before after : Node} → NodeRises Old before after → before.phase ≡ NodeDown
node-old-needs (node_rises_old kept tried) = refl

pub node-new-needs : {before after : Node} → NodeRises New before after → (s : Station) × (before.phase ≡ NodeDown) × (before.tried ≡ Some s)
node-new-needs (node_rises_new kept s) = (s, refl, refl)

pub switches-needs : {n : ℕ} {p : Problem} {before after : Node} → Switches n p before after → before.phase ≡ NodeIdle
switches-needs (switches_to kept s tried replies apart h) = refl
switches-needs (switches_same kept tried replies same h) = refl
