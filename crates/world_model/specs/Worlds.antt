-- The world as sets and maps, and what may happen next.
use Rattle.std.specs.Prelude.{◌≡◌, ◌≢◌, ◌↔◌, ℕ, ◌+◌, ◌<◌, ◌≤◌, ◌==◌, ◌||◌, ◌⊎◌, Bool, true, false, List, [], ◌∷◌, Option, Some, None, IfSome, if◌then◌else◌}
use Rattle.lock_messages.specs.declared.ids.TheConstants.{MAX_ATTEMPT}
use Rattle.lock_messages.specs.declared.ids.Actor.TheVariants as actor
use Rattle.lock_messages.specs.declared.tickets.Mode.{Mode}
use Rattle.lock_messages.specs.declared.tickets.Mode.TheVariants.{Read, Write}
use Rattle.lock_messages.specs.declared.tickets.Ticket.{Ticket}
use Rattle.lock_messages.specs.declared.messages.Message.{Message}
use Rattle.lock_messages.specs.declared.messages.Message.TheVariants as message
use Rattle.lock_messages.specs.Messages.{is_for_node, is_for_client}
use Rattle.lock_model.specs.declared.problems.Problem.{Problem}
use Rattle.lock_model.specs.declared.hearing.Heard.{Heard}
use Rattle.lock_model.specs.declared.hearing.Heard.TheVariants as heard
use Rattle.lock_model.specs.Ballots.{Ballot, HasAnyNode, HasPlace, IsEnough, ballot_at, node_count}
use Rattle.lock_model.specs.Stations.{Free, Standing, Station, IsLawful, IsCaused}
use Rattle.lock_model.specs.Decisions.{Among, Decides, IsSwitched}
use Rattle.lock_model.specs.Hearing.{HearsOfTicket, HearsSoftened, HearsAtRest}
use Rattle.world_model.specs.declared.events.Age.{Age}
use Rattle.world_model.specs.declared.events.Age.TheVariants.{Old, New}
use Rattle.world_model.specs.declared.events.Event.{Event}
use Rattle.world_model.specs.declared.events.Event.TheVariants as event

-- what a node is about: each phase has what only it has
pub data NodePhase : Type 0 where
  NodeDown : NodePhase
  NodeIdle : NodePhase
  Decided : (station : Station) (replies : List Message) → NodePhase
  Stored : (replies : List Message) → NodePhase

-- a node: the station that it has kept, the one that it is trying to keep, and its phase
pub record Node : Type 0 where
  pub kept : Station
  pub tried : Option Station
  pub phase : NodePhase

-- the station that a node has decided on, if it has, is such
abbrev pub IfDecided : NodePhase → (Station → Type 0) → Type 0
IfDecided NodeDown P = Unit {0}
IfDecided NodeIdle P = Unit {0}
IfDecided (Decided s replies) P = P s
IfDecided (Stored replies) P = Unit {0}

-- each station of the node is such: the kept one, the tried one and the decided one
pub record EachStation (P : Station → Type 0) (v : Node) : Type 0 where
  pub kept : P v.kept
  pub tried : IfSome v.tried P
  pub decided : IfDecided v.phase P

-- what a client has of its present attempt: the ticket that it asked with, the place of the ballot by which
-- its votes count, the set of nodes that granted it, and whether it has softened
pub record Present : Type 0 where
  pub ticket : Ticket
  pub place : ℕ
  pub granted : ℕ → Bool
  pub softened : Bool

-- the mode in which the client of a present attempt is inside: who has softened is a reader
abbrev pub present_mode : Present → Mode
present_mode p = if p.softened then Read else p.ticket.mode

-- what a client is about
pub data ClientPhase : Type 0 where
  ClientDown : ClientPhase
  ClientIdle : ClientPhase
  Chosen : (ticket : Ticket) (place : ℕ) → ClientPhase
  Asking : (present : Present) → ClientPhase
  IsIn : (present : Present) → ClientPhase

-- a client: the attempt that it has kept (0 for none), the one that it is trying to keep, and its phase
pub record Client : Type 0 where
  pub kept : ℕ
  pub tried : Option ℕ
  pub phase : ClientPhase

-- a world: each node and each client by its number, and the messages ever sent, as a set
pub record World : Type 0 where
  pub nodes : ℕ → Node
  pub clients : ℕ → Client
  pub sent : List Message

-- who takes part: the nodes of a list of ballots, and clients numbered from 1
pub record Setting : Type 0 where
  pub ballots : List Ballot
  pub clients : ℕ

abbrev pub HasClient : Setting → ℕ → Type 0
HasClient s c = (1 ≤ c) × (c ≤ s.clients)

-- the messages that were sent are those before and what was said
abbrev pub Sends : World → List Message → World → Type 0
Sends w said v = (m : Message) → Among m v.sent ↔ (Among m w.sent ⊎ Among m said)

-- only this node changes, from before to after, and it says this
pub record OfNode (s : Setting) (n : ℕ) (w : World) (before after : Node) (said : List Message) (v : World) : Type 0 where
  pub known : HasAnyNode s.ballots n
  pub was : w.nodes n ≡ before
  pub is : v.nodes n ≡ after
  pub others : (k : ℕ) → k ≢ n → v.nodes k ≡ w.nodes k
  pub clients : (k : ℕ) → v.clients k ≡ w.clients k
  pub sends : Sends w said v

-- only this client changes, from before to after, and it says this
pub record OfClient (s : Setting) (c : ℕ) (w : World) (before after : Client) (said : List Message) (v : World) : Type 0 where
  pub known : HasClient s c
  pub was : w.clients c ≡ before
  pub is : v.clients c ≡ after
  pub others : (k : ℕ) → k ≢ c → v.clients k ≡ w.clients k
  pub nodes : (k : ℕ) → v.nodes k ≡ w.nodes k
  pub sends : Sends w said v

-- What an actor does by itself, as a relation between it before and after, and what it says.

-- a client that rests begins its next attempt, by a ballot that is there
pub data Begins (b : List Ballot) (c : ℕ) (m : Mode) (x : List ℕ) (place : ℕ) : Client → Client → Type 0 where
  begins : (kept : ℕ) (tried : Option ℕ) → kept < MAX_ATTEMPT → HasPlace b place →
      Begins b c m x place (record { kept = kept; tried = tried; phase = ClientIdle })
      (record { kept = kept; tried = tried; phase = Chosen (record { client = c; attempt = kept + 1; mode = m; resource = x }) place })

-- with nothing tried, what was chosen or decided is tried
pub data TriesAttempt : Client → Client → Type 0 where
  tries_attempt : (kept : ℕ) (t : Ticket) (place : ℕ) → TriesAttempt (record { kept = kept; tried = None; phase = Chosen t place }) (record { kept = kept; tried = Some t.attempt; phase = Chosen t place })

pub data TriesStation : Node → Node → Type 0 where
  tries_station : (kept s : Station) (replies : List Message) → TriesStation (record { kept = kept; tried = None; phase = Decided s replies }) (record { kept = kept; tried = Some s; phase = Decided s replies })

-- a ticket and a place with which the client begins to ask, and no node has granted it
abbrev pub first_of : Ticket → ℕ → Present
first_of t place = record { ticket = t; place = place; granted = λ n. false; softened = false }

-- what is tried becomes what is kept
pub data KeepsAttempt : Client → Client → Type 0 where
  keeps_attempt : (kept a : ℕ) (t : Ticket) (place : ℕ) → KeepsAttempt (record { kept = kept; tried = Some a; phase = Chosen t place }) (record { kept = a; tried = None; phase = Asking (first_of t place) })

pub data KeepsStation : Node → Node → Type 0 where
  keeps_station : (kept tried s : Station) (replies : List Message) → KeepsStation (record { kept = kept; tried = Some tried; phase = Decided s replies }) (record { kept = tried; tried = None; phase = Stored replies })

-- a client says to a node the request of its ticket or, where it has softened, that; or while it rests the
-- release of its attempt
pub data Tells (c n : ℕ) : Client → List Message → Type 0 where
  asks : (kept : ℕ) (tried : Option ℕ) (p : Present) → Tells c n (record { kept = kept; tried = tried; phase = Asking p }) (message.Request n p.ticket ∷ [])
  asks_inside : (kept : ℕ) (tried : Option ℕ) (p : Present) → p.softened ≡ false → Tells c n (record { kept = kept; tried = tried; phase = IsIn p }) (message.Request n p.ticket ∷ [])
  tells_softened : (kept : ℕ) (tried : Option ℕ) (p : Present) → p.softened ≡ true → Tells c n (record { kept = kept; tried = tried; phase = IsIn p }) (message.Soften n c p.ticket.attempt ∷ [])
  releases : (kept : ℕ) (tried : Option ℕ) → 0 < kept → Tells c n (record { kept = kept; tried = tried; phase = ClientIdle }) (message.Release n c kept ∷ [])

-- a node says its replies
pub data Says : Node → Node → List Message → Type 0 where
  says : (kept : Station) (tried : Option Station) (replies : List Message) → Says (record { kept = kept; tried = tried; phase = Stored replies }) (record { kept = kept; tried = tried; phase = NodeIdle }) replies

-- An idle node takes a message and decides. Where the station stays the node may say its replies at
-- once; else they wait until the new station is kept.
pub data Takes (m : Message) : Node → Node → Type 0 where
  takes : (kept s : Station) (tried : Option Station) (replies : List Message) → Decides kept m s replies →
      Takes m (record { kept = kept; tried = tried; phase = NodeIdle }) (record { kept = kept; tried = tried; phase = Decided s replies })
  takes_same : (kept : Station) (tried : Option Station) (replies : List Message) → Decides kept m kept replies →
      Takes m (record { kept = kept; tried = tried; phase = NodeIdle }) (record { kept = kept; tried = tried; phase = Stored replies })

-- An idle node takes a problem, and all that wait are settled under it. Where it is another problem the
-- replies wait until the new station is kept; where it is the same the station stays, and they may be said
-- at once.
pub data Switches (n : ℕ) (p : Problem) : Node → Node → Type 0 where
  switches_to : (kept s : Station) (tried : Option Station) (replies : List Message) → kept.problem ≢ p → IsSwitched n kept p s replies →
      Switches n p (record { kept = kept; tried = tried; phase = NodeIdle }) (record { kept = kept; tried = tried; phase = Decided s replies })
  switches_same : (kept : Station) (tried : Option Station) (replies : List Message) → kept.problem ≡ p → IsSwitched n kept p kept replies →
      Switches n p (record { kept = kept; tried = tried; phase = NodeIdle }) (record { kept = kept; tried = tried; phase = Stored replies })

-- the set with the node whose Grant it is
abbrev pub grants_from : Message → ℕ → Bool
grants_from (message.Grant n t) k = n == k
grants_from (message.Request n t) k = false
grants_from (message.Release n c a) k = false
grants_from (message.Busy n t) k = false
grants_from (message.Over n c a) k = false
grants_from (message.Done n c a) k = false
grants_from (message.Muddled n c a) k = false
grants_from (message.Soften n c a) k = false
grants_from (message.Softened n c a) k = false

abbrev pub gained : Message → Present → Present
gained m p = record p { granted = λ k. grants_from m k || p.granted k }

-- A client hears a message: a vote counts where it has the ticket and hasn't softened it, and nothing else
-- changes it.
pub data Hears (b : List Ballot) (c : ℕ) (m : Message) : Client → Client → Type 0 where
  counts : (kept : ℕ) (tried : Option ℕ) (p : Present) → HearsOfTicket (node_count b) p.ticket p.granted m heard.Counted →
      Hears b c m (record { kept = kept; tried = tried; phase = Asking p }) (record { kept = kept; tried = tried; phase = Asking (gained m p) })
  counts_inside : (kept : ℕ) (tried : Option ℕ) (p : Present) → p.softened ≡ false → HearsOfTicket (node_count b) p.ticket p.granted m heard.Counted →
      Hears b c m (record { kept = kept; tried = tried; phase = IsIn p }) (record { kept = kept; tried = tried; phase = IsIn (gained m p) })
  passes : (kept : ℕ) (tried : Option ℕ) (p : Present) (h : Heard) → HearsOfTicket (node_count b) p.ticket p.granted m h → h ≢ heard.Counted →
      Hears b c m (record { kept = kept; tried = tried; phase = Asking p }) (record { kept = kept; tried = tried; phase = Asking p })
  passes_inside : (kept : ℕ) (tried : Option ℕ) (p : Present) (h : Heard) → p.softened ≡ false → HearsOfTicket (node_count b) p.ticket p.granted m h → h ≢ heard.Counted →
      Hears b c m (record { kept = kept; tried = tried; phase = IsIn p }) (record { kept = kept; tried = tried; phase = IsIn p })
  passes_softened : (kept : ℕ) (tried : Option ℕ) (p : Present) (h : Heard) → p.softened ≡ true → HearsSoftened (node_count b) c p.ticket.attempt m h →
      Hears b c m (record { kept = kept; tried = tried; phase = IsIn p }) (record { kept = kept; tried = tried; phase = IsIn p })
  passes_idle : (kept : ℕ) (tried : Option ℕ) (h : Heard) → HearsAtRest (node_count b) c kept m h →
      Hears b c m (record { kept = kept; tried = tried; phase = ClientIdle }) (record { kept = kept; tried = tried; phase = ClientIdle })
  passes_chosen : (kept : ℕ) (tried : Option ℕ) (t : Ticket) (place : ℕ) →
      Hears b c m (record { kept = kept; tried = tried; phase = Chosen t place }) (record { kept = kept; tried = tried; phase = Chosen t place })

-- a client whose votes are enough by the ballot of its attempt enters
pub data Enters (b : List Ballot) : Client → Client → Type 0 where
  enters : (kept : ℕ) (tried : Option ℕ) (p : Present) → IsEnough (ballot_at b p.place) p.ticket.mode p.granted →
      Enters b (record { kept = kept; tried = tried; phase = Asking p }) (record { kept = kept; tried = tried; phase = IsIn p })

-- a client that asks or is inside leaves
pub data Leaves : Client → Client → Type 0 where
  gives_up : (kept : ℕ) (tried : Option ℕ) (p : Present) → Leaves (record { kept = kept; tried = tried; phase = Asking p }) (record { kept = kept; tried = tried; phase = ClientIdle })
  leaves : (kept : ℕ) (tried : Option ℕ) (p : Present) → Leaves (record { kept = kept; tried = tried; phase = IsIn p }) (record { kept = kept; tried = tried; phase = ClientIdle })

-- the same attempt, softened
abbrev pub soft : Present → Present
soft p = record p { softened = true }

-- A client that is inside as a writer is inside as a reader from now on, with the votes that it has. They
-- are not counted anew, also where a reader needs more.
pub data Softens : Client → Client → Type 0 where
  softens : (kept : ℕ) (tried : Option ℕ) (p : Present) → p.ticket.mode ≡ Write → p.softened ≡ false → Softens (record { kept = kept; tried = tried; phase = IsIn p }) (record { kept = kept; tried = tried; phase = IsIn (soft p) })

-- a fall loses all but what is kept and tried
pub data NodeFalls : Node → Node → Type 0 where
  node_falls : (kept : Station) (tried : Option Station) (phase : NodePhase) → phase ≢ NodeDown → NodeFalls (record { kept = kept; tried = tried; phase = phase }) (record { kept = kept; tried = tried; phase = NodeDown })

pub data ClientFalls : Client → Client → Type 0 where
  client_falls : (kept : ℕ) (tried : Option ℕ) (phase : ClientPhase) → phase ≢ ClientDown → ClientFalls (record { kept = kept; tried = tried; phase = phase }) (record { kept = kept; tried = tried; phase = ClientDown })

-- a rise finds what was kept or, where something was tried, that
pub data NodeRises : Age → Node → Node → Type 0 where
  node_rises_old : (kept : Station) (tried : Option Station) → NodeRises Old (record { kept = kept; tried = tried; phase = NodeDown }) (record { kept = kept; tried = None; phase = NodeIdle })
  node_rises_new : (kept tried : Station) → NodeRises New (record { kept = kept; tried = Some tried; phase = NodeDown }) (record { kept = tried; tried = None; phase = NodeIdle })

pub data ClientRises : Age → Client → Client → Type 0 where
  client_rises_old : (kept : ℕ) (tried : Option ℕ) → ClientRises Old (record { kept = kept; tried = tried; phase = ClientDown }) (record { kept = kept; tried = None; phase = ClientIdle })
  client_rises_new : (kept tried : ℕ) → ClientRises New (record { kept = kept; tried = Some tried; phase = ClientDown }) (record { kept = tried; tried = None; phase = ClientIdle })

-- a node, or a client, does something by a relation between it before and after, and says nothing
abbrev pub ByNode : Setting → World → World → ℕ → (Node → Node → Type 0) → Type 0
ByNode s w v n R = (before : Node) × (after : Node) × R before after × OfNode s n w before after [] v

abbrev pub ByClient : Setting → World → World → ℕ → (Client → Client → Type 0) → Type 0
ByClient s w v c R = (before : Client) × (after : Client) × R before after × OfClient s c w before after [] v

-- From w, this event may lead to v.
abbrev pub Happens : Setting → World → Event → World → Type 0
Happens s w (event.Begin c m x place) v = ByClient s w v c (Begins s.ballots c m x place)
Happens s w (event.Try (actor.Node n)) v = ByNode s w v n TriesStation
Happens s w (event.Try (actor.Client c)) v = ByClient s w v c TriesAttempt
Happens s w (event.Kept (actor.Node n)) v = ByNode s w v n KeepsStation
Happens s w (event.Kept (actor.Client c)) v = ByClient s w v c KeepsAttempt
Happens s w (event.SayTo c n) v = HasAnyNode s.ballots n × ((before : Client) × (said : List Message) × Tells c n before said × OfClient s c w before before said v)
Happens s w (event.Say n) v = (before : Node) × (after : Node) × (said : List Message) × Says before after said × OfNode s n w before after said v
-- any message that was ever sent to the node
Happens s w (event.Take n k) v = (m : Message) × Among m w.sent × (is_for_node m n ≡ true) × ByNode s w v n (Takes m)
-- any message that was ever sent to the client
Happens s w (event.Hear c k) v = (m : Message) × Among m w.sent × (is_for_client m c ≡ true) × ByClient s w v c (Hears s.ballots c m)
Happens s w (event.Enter c) v = ByClient s w v c (Enters s.ballots)
Happens s w (event.Leave c) v = ByClient s w v c Leaves
Happens s w (event.Soften c) v = ByClient s w v c Softens
Happens s w (event.Fall (actor.Node n)) v = ByNode s w v n NodeFalls
Happens s w (event.Fall (actor.Client c)) v = ByClient s w v c ClientFalls
Happens s w (event.Rise (actor.Node n) age) v = ByNode s w v n (NodeRises age)
Happens s w (event.Rise (actor.Client c) age) v = ByClient s w v c (ClientRises age)
Happens s w (event.Switch n p) v = ByNode s w v n (Switches n p)

-- A run: a list of events, each of which may happen where it stands. A loss is a message that is
-- never taken, a repeat one that is taken again, a reordering any order of taking.
abbrev pub Run : Setting → World → List Event → World → Type 0
Run s w [] v = v ≡ w
Run s w (e ∷ events) v = (u : World) × Happens s w e u × Run s u events v

-- the client is inside the resource, in this mode
abbrev pub IsInside : World → ℕ → Mode → List ℕ → Type 0
IsInside w c m x = (p : Present) × ((w.clients c).phase ≡ IsIn p) × (present_mode p ≡ m) × (p.ticket.resource ≡ x)

-- neither the floor nor the live attempt is above the attempt that the client has kept
pub record IsWithin (kept : ℕ) (standing : Standing) : Type 0 where
  pub floor : standing.floor ≤ kept
  pub live : standing.claim ≢ Free → standing.floor + 1 ≤ kept

-- A world from which a run may start: all actors are down, nothing is sent or tried, each kept station
-- is lawful and caused, and in it no floor or live attempt of a client is above the attempt that the
-- client has kept, which is 0 for one that isn't there.
pub record IsLawfulOpening (s : Setting) (w : World) : Type 0 where
  pub nodes_down : (n : ℕ) → (w.nodes n).phase ≡ NodeDown
  pub clients_down : (c : ℕ) → (w.clients c).phase ≡ ClientDown
  pub nothing_sent : w.sent ≡ []
  pub no_station_tried : (n : ℕ) → (w.nodes n).tried ≡ None
  pub no_attempt_tried : (c : ℕ) → (w.clients c).tried ≡ None
  pub lawful : (n : ℕ) → IsLawful (w.nodes n).kept
  pub caused : (n : ℕ) → IsCaused (w.nodes n).kept
  pub within : (n c : ℕ) → IsWithin (w.clients c).kept ((w.nodes n).kept.at c)
  pub strangers : (c : ℕ) → ¬ (HasClient s c) → (w.clients c).kept ≡ 0
