-- Ways in at the exact world, for as long as the list of messages has room for what they say.
use Rattle.std.specs.Prelude.{◌≡◌, ℕ, ◌+◌, ◌<◌, ◌≤◌, ◌⊎◌, ◌&&◌, nat_le, nat_lt, Bool, true, false, List, [], ◌∷◌, ◌++◌, length, Option, None, Some, Ok, Err, if◌then◌else◌}
use Rattle.std.specs.List.{list_any}
use Rattle.lock_messages.specs.declared.ids.TheConstants.{MAX_ATTEMPT}
use Rattle.lock_messages.specs.declared.ids.Actor.{Actor}
use Rattle.lock_messages.specs.declared.ids.Actor.TheVariants as actor
use Rattle.lock_messages.specs.declared.messages.Message.{Message}
use Rattle.lock_model.specs.declared.entries.Entry.{Entry}
use Rattle.lock_model.specs.Ballots.{HasPlace, IsEnough, ballot_at, node_count}
use Rattle.lock_model.specs.Decisions.{Among}
use Rattle.lock_model.specs.ExactStations.{waits_in}
use Rattle.world_model.specs.declared.TheConstants.{MAX_MESSAGES}
use Rattle.world_model.specs.declared.events.Age.TheVariants.{Old}
use Rattle.world_model.specs.declared.events.Event.{Event}
use Rattle.world_model.specs.declared.events.Event.TheVariants as event
use Rattle.world_model.specs.declared.events.StepFault.{StepFault}
use Rattle.world_model.specs.declared.events.StepFault.TheVariants as fault
use Rattle.world_model.specs.declared.exact.ExactStation.{ExactStation}
use Rattle.world_model.specs.declared.exact.ExactNode.{ExactNode}
use Rattle.world_model.specs.declared.exact.ExactNodePhase.{ExactNodePhase}
use Rattle.world_model.specs.declared.exact.ExactNodePhase.TheVariants as node
use Rattle.world_model.specs.declared.exact.ExactWorld.{ExactWorld}
use Rattle.world_model.specs.declared.ways.Move.{Move}
use Rattle.world_model.specs.declared.ways.Move.TheVariants.{Alone, Hand, HearFrom}
use Rattle.world_model.specs.declared.ways.Want.{Want}
use Rattle.world_model.specs.Worlds.{World, Present, ClientPhase, ClientDown, ClientIdle, Chosen, Asking, IsIn, Setting, HasClient}
use Rattle.world_model.specs.ExactWorlds.{numbered, next_number, actor_of, Stepped, step, ran}
use Rattle.world_model.specs.Forgetting.{station_of, forget, setting_of, IsSound}
use Rattle.world_model.specs.Advice.{blocks, is_wanted, asks_for, is_inside_as, is_grant, node_numbers, client_numbers, can_be_won, next_move}
use Rattle.world_model.specs.Ways.{IsPossible, IsInsideAs, IsGentle, IsUp, HasKeptBelow, IsChosenBelow, IsReady}

-- the sum over some numbers
abbrev pub total_over : (ℕ → ℕ) → List ℕ → ℕ
total_over f [] = 0
total_over f (n ∷ ns) = f n + total_over f ns

-- how many replies a node has still to say
abbrev pub to_say : ExactNodePhase → ℕ
to_say node.Down = 0
to_say node.Idle = 0
to_say (node.Decided s replies) = length replies
to_say (node.Stored replies) = length replies

-- the station that it will have once it has finished
abbrev pub coming_station : ExactStation → ExactNodePhase → ExactStation
coming_station kept node.Down = kept
coming_station kept node.Idle = kept
coming_station kept (node.Decided s replies) = s
coming_station kept (node.Stored replies) = kept

-- how many tickets wait
abbrev pub waiting_count : List Entry → ℕ
waiting_count [] = 0
waiting_count (e ∷ es) = (if waits_in (Some e) then 1 else 0) + waiting_count es

-- a ticket that stands in the way goes by a release and the reply to it
abbrev pub block_load : Want → ExactStation → ℕ → ℕ
block_load a s d = if blocks a (station_of s) d then 2 else 0

-- The most that a way in says to win a node: the replies that the node has still to say; a Grant for each ticket
-- that waits; a release and the reply to it for each ticket that stands in the way; a request and the reply to it.
abbrev pub node_load : Setting → Want → ExactNode → ℕ
node_load s a v =
    let station = coming_station v.kept v.phase in
    to_say v.phase + (waiting_count station.entries + (total_over (block_load a station) (client_numbers s) + 2))

abbrev pub load_at : Setting → Want → Option ExactNode → ℕ
load_at s a None = 0
load_at s a (Some v) = node_load s a v

-- the most that a way in says by the votes of these nodes
abbrev pub load : (ℕ → Bool) → Want → ExactWorld → ℕ
load chosen a w = total_over (λ n. if chosen n then load_at (setting_of w) a (numbered w.nodes n) else 0) (node_numbers (setting_of w))

-- the list of messages has room for it
abbrev pub HasRoomFor : (ℕ → Bool) → Want → ExactWorld → Type 0
HasRoomFor chosen a w = length w.sent + load chosen a w ≤ MAX_MESSAGES

-- all nodes of a world
abbrev pub every_node : Setting → ℕ → Bool
every_node s n = nat_le 1 n && nat_le n (node_count s.ballots)

-- The events lead in: each is taken, and then the client is inside as it wants to be.
pub record LeadsIn (w : ExactWorld) (a : Want) (events : List Event) : Type 0 where
  pub taken : (ran events w).taken ≡ length events
  pub refused : (ran events w).refused ≡ None
  pub inside : IsInsideAs (forget (ran events w).world) a

-- An attempt is left: what the client has kept is below the greatest, or it asks already for what it wants, or
-- is inside so.
abbrev pub HasBegun : Want → ClientPhase → Type 0
HasBegun a ClientDown = ⊥
HasBegun a ClientIdle = ⊥
HasBegun a (Chosen t place) = ⊥
HasBegun a (Asking p) = asks_for a p ≡ true
HasBegun a (IsIn p) = is_inside_as a p ≡ true

abbrev pub HasAttempt : World → Want → Type 0
HasAttempt w a = HasKeptBelow w a.client ⊎ HasBegun a (w.clients a.client).phase

-- what the client has chosen is below the greatest attempt, as a test
abbrev pub is_chosen_below : ClientPhase → Bool
is_chosen_below ClientDown = true
is_chosen_below ClientIdle = true
is_chosen_below (Chosen t place) = nat_lt t.attempt MAX_ATTEMPT
is_chosen_below (Asking p) = true
is_chosen_below (IsIn p) = true

-- the event disturbs nobody else and is of an actor that is up, but for the client itself
abbrev pub IsOwnOrGentle : ExactWorld → Want → Event → Type 0
IsOwnOrGentle w a e = IsGentle (λ who. who ≡ actor.Client a.client) a.client e × (IsUp (forget w) (actor_of e) ⊎ (actor_of e ≡ actor.Client a.client))

-- 4. In a sound world there are ways in of which each event is taken: for each client that is there and has an
-- attempt left, where there is room for what it takes to win all nodes,
abbrev pub ExactWayIn : Type 0
ExactWayIn = (w : ExactWorld) (a : Want) → IsSound w → IsPossible (setting_of w) a → HasAttempt (forget w) a → HasRoomFor (every_node (setting_of w)) a w →
    (events : List Event) × LeadsIn w a events

-- and a gentle one where the nodes that can be won have votes enough, and there is room for what it takes to win
-- those.
abbrev pub ExactWayWithoutTheDead : Type 0
ExactWayWithoutTheDead = (w : ExactWorld) (a : Want) → IsSound w → IsPossible (setting_of w) a → HasAttempt (forget w) a → IsChosenBelow ((forget w).clients a.client).phase →
    IsEnough (ballot_at w.ballots a.place) a.mode (can_be_won (setting_of w) a (forget w)) → HasRoomFor (can_be_won (setting_of w) a (forget w)) a w →
    (events : List Event) × LeadsIn w a events × ((e : Event) → Among e events → IsOwnOrGentle w a e)

-- Why no way in is told: there is no such client; no attempt is left; there is no ballot at the place; the list
-- of messages lacks the room; or memory was refused.
abbrev pub IsNoWay : ExactWorld → Want → StepFault → Type 0
IsNoWay w a f =
    ((f ≡ fault.UnknownActor) × ¬ (HasClient (setting_of w) a.client))
    ⊎ ((f ≡ fault.AttemptsSpent) × HasClient (setting_of w) a.client × ¬ (HasAttempt (forget w) a))
    ⊎ ((f ≡ fault.NoSuchPlace) × HasClient (setting_of w) a.client × HasAttempt (forget w) a × ¬ (HasPlace w.ballots a.place))
    ⊎ ((f ≡ fault.SentListFull) × IsPossible (setting_of w) a × HasAttempt (forget w) a × ¬ (HasRoomFor (every_node (setting_of w)) a w))
    ⊎ ((f ≡ fault.Memory) × IsPossible (setting_of w) a × HasAttempt (forget w) a)

-- What a move leads to, and the events that it is: a message that is handed over has the next number, and the
-- Grant that is heard is one that was sent.
pub data Moved (a : Want) (w : ExactWorld) : Move → List Event → ExactWorld → Type 0 where
  moved_alone : (e : Event) (t : Stepped) → step w e ≡ Ok t → Moved a w (Alone e) (e ∷ []) t.world
  moved_hand : (d n : ℕ) (t u : Stepped) → step w (event.SayTo d n) ≡ Ok t → step t.world (event.Take n (next_number w)) ≡ Ok u → Moved a w (Hand d n) (event.SayTo d n ∷ event.Take n (next_number w) ∷ []) u.world
  moved_hear : (n k : ℕ) (m : Message) (p : Present) (t : Stepped) → ((forget w).clients a.client).phase ≡ Asking p → numbered w.sent k ≡ Some m → is_grant n p.ticket m ≡ true → step w (event.Hear a.client k) ≡ Ok t →
      Moved a w (HearFrom n) (event.Hear a.client k ∷ []) t.world

-- Why a move is not made: the refusal of its event, or of the second; or there is nothing to hear.
pub data IsStuck (a : Want) (w : ExactWorld) : Move → StepFault → Type 0 where
  stuck_alone : (e : Event) (f : StepFault) → step w e ≡ Err f → IsStuck a w (Alone e) f
  stuck_saying : (d n : ℕ) (f : StepFault) → step w (event.SayTo d n) ≡ Err f → IsStuck a w (Hand d n) f
  stuck_taking : (d n : ℕ) (t : Stepped) (f : StepFault) → step w (event.SayTo d n) ≡ Ok t → step t.world (event.Take n (next_number w)) ≡ Err f → IsStuck a w (Hand d n) f
  stuck_hearing : (n k : ℕ) (m : Message) (p : Present) (f : StepFault) → ((forget w).clients a.client).phase ≡ Asking p → numbered w.sent k ≡ Some m → is_grant n p.ticket m ≡ true → step w (event.Hear a.client k) ≡ Err f →
      IsStuck a w (HearFrom n) f
  -- no such Grant was sent
  stuck_unheard : (n : ℕ) → ((p : Present) → ((forget w).clients a.client).phase ≡ Asking p → list_any (is_grant n p.ticket) w.sent ≡ false) → IsStuck a w (HearFrom n) fault.NoSuchMessage

-- A run of which each event is taken leads to this world.
abbrev pub HasRun : ExactWorld → List Event → ExactWorld → Type 0
HasRun w events v = ran events w ≡ record { taken = length events; world = v; refused = None }

-- Of what the client does now it can still come to be inside as it wants to be.
abbrev pub IsLeft : Want → ℕ → ClientPhase → Type 0
IsLeft a kept ClientDown = ⊥
IsLeft a kept ClientIdle = kept < MAX_ATTEMPT
IsLeft a kept (Chosen t place) = (is_wanted a t place ≡ true) ⊎ (t.attempt < MAX_ATTEMPT)
IsLeft a kept (Asking p) = (asks_for a p ≡ true) ⊎ (kept < MAX_ATTEMPT)
IsLeft a kept (IsIn p) = (is_inside_as a p ≡ true) ⊎ (kept < MAX_ATTEMPT)

-- What is needed to set out: the client and the place are there, the votes of the chosen nodes are enough, the
-- client has an attempt left, and each chosen node can be won.
pub record SetsOut (chosen : ℕ → Bool) (a : Want) (w : ExactWorld) : Type 0 where
  pub possible : IsPossible (setting_of w) a
  pub enough : IsEnough (ballot_at w.ballots a.place) a.mode chosen
  pub left : IsLeft a ((forget w).clients a.client).kept ((forget w).clients a.client).phase
  pub ready : (n : ℕ) → chosen n ≡ true → IsReady (forget w) a n

-- The next moves, one after the other, lead there by these events.
pub data Follows (chosen : ℕ → Bool) (a : Want) (w : ExactWorld) : List Event → ExactWorld → Type 0 where
  follows_none : Follows chosen a w [] w
  follows_more : (events : List Event) (v : ExactWorld) (mv : Move) (added : List Event) (u : ExactWorld) → Follows chosen a w events v → next_move (setting_of v) chosen a (forget v) ≡ Some mv → Moved a v mv added u →
      Follows chosen a w (events ++ added) u

-- Behind some of them the next one is not made.
pub record StopsAt (chosen : ℕ → Bool) (a : Want) (w : ExactWorld) (f : StepFault) : Type 0 where
  pub events : List Event
  pub world : ExactWorld
  pub follows : Follows chosen a w events world
  pub move : Move
  pub next : next_move (setting_of world) chosen a (forget world) ≡ Some move
  pub stuck : IsStuck a world move f

-- all are events in which an actor rises with what it has kept
abbrev pub IsRise : Event → Type 0
IsRise e = (who : Actor) × (e ≡ event.Rise who Old)

abbrev pub AreRises : List Event → Type 0
AreRises events = (e : Event) → Among e events → IsRise e
