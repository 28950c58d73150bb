-- What a client's own events say of its wishes.
use Rattle.std.specs.Prelude.{◌≡◌, ℕ, ◌+◌, ◌-◌, ◌<◌, ◌≤◌, ◌⊎◌, ◌&&◌, Bool, false, List, [], ◌∷◌, ◌++◌, length, map, filter, take, replicate, if◌then◌else◌, Option, Some, None, Result, Ok, Err}
use Rattle.std.specs.List.{All}
use Rattle.lock_messages.specs.declared.ids.Actor.{Actor}
use Rattle.lock_messages.specs.declared.tickets.Mode.{Mode}
use Rattle.lock_messages.specs.declared.tickets.Ticket.{Ticket}
use Rattle.lock_model.specs.Ballots.{Ballot, HasPlace}
use Rattle.lock_model.specs.Decisions.{Among}
use Rattle.lock_model.specs.ExactStations.{is_write}
use Rattle.world_model.specs.declared.events.Effect.{Effect}
use Rattle.world_model.specs.declared.events.Event.{Event}
use Rattle.world_model.specs.declared.events.Event.TheVariants as event
use Rattle.world_model.specs.Parts.{Part}
use Rattle.event_lines.specs.declared.wishes.Wish.{Wish}
use Rattle.event_recorders.specs.declared.faults.RunFault.{RunFault}
use Rattle.event_recorders.specs.OwnLogs.{OwnLog}
use Rattle.actor_steps.specs.Endings.{falls_of}

-- a use of a resource, by the ballot at a place
pub record Use : Type 0 where
  pub mode : Mode
  pub resource : List ℕ
  pub place : ℕ

-- a ticket asks for this use
pub record AsksFor (u : Use) (t : Ticket) : Type 0 where
  pub mode : t.mode ≡ u.mode
  pub resource : t.resource ≡ u.resource

-- whose events they are, the ballots that there are, and the part that the actor had before them; the use that was
-- begun last, if one was; for each Enter, in order, the use that was begun last before it, and for each Soften the
-- same; and the use of each Begin, in order
pub record Visits : Type 0 where
  pub whose : Actor
  pub ballots : List Ballot
  pub opening : Part
  pub begun : Option Use
  pub entered : List (Option Use)
  pub softened : List (Option Use)
  pub begins : List Use

-- the visits with one Enter more
abbrev pub visits_entering : Visits → Visits
visits_entering v = record v { entered = v.entered ++ v.begun ∷ [] }

-- the visits with one Soften more
abbrev pub visits_softening : Visits → Visits
visits_softening v = record v { softened = v.softened ++ v.begun ∷ [] }

-- the visits with one Soften more where the wish softens
abbrev pub visits_softening_if : Bool → Visits → Visits
visits_softening_if soften v = if soften then visits_softening v else v

-- the visits with one Begin more
abbrev pub visits_beginning : Use → Visits → Visits
visits_beginning u v = record v { begun = Some u; begins = v.begins ++ u ∷ [] }

-- what one event more makes of them
abbrev pub visits_after : Visits → Event → Visits
visits_after v (event.Begin c m x place) = visits_beginning (record { mode = m; resource = x; place = place }) v
visits_after v (event.Enter c) = visits_entering v
visits_after v (event.Soften c) = visits_softening v
visits_after v (event.Try who) = v
visits_after v (event.Kept who) = v
visits_after v (event.SayTo c n) = v
visits_after v (event.Say n) = v
visits_after v (event.Take n k) = v
visits_after v (event.Hear c k) = v
visits_after v (event.Leave c) = v
visits_after v (event.Fall who) = v
visits_after v (event.Rise who age) = v
visits_after v (event.Switch n p) = v

abbrev pub visits_from : Visits → List (Event × Effect) → Visits
visits_from v [] = v
visits_from v (p ∷ events) = visits_from (visits_after v p.0) events

-- what the client's own events say
abbrev pub visits_of : OwnLog → Visits
visits_of l = visits_from (record { whose = l.actor; ballots = l.ballots; opening = l.opening; begun = None; entered = []; softened = []; begins = [] }) l.events

-- the wish softens: so it says, and it enters as a writer
abbrev pub softens : Wish → Bool
softens w = is_write w.mode && w.soften

-- what a wish wishes
abbrev pub use_of : Wish → Use
use_of w = record { mode = w.mode; resource = w.resource; place = w.place }

-- So many wishes were entered, each once and in order, and nothing else was: the k-th Enter has the
-- mode, the resource and the place of the k-th wish.
pub record HasEntered (wishes : List Wish) (n : ℕ) (l : OwnLog) : Type 0 where
  pub few : n ≤ length wishes
  pub count : length (visits_of l).entered ≡ n
  pub each : (visits_of l).entered ≡ map (λ w. Some (use_of w)) (take n wishes)

-- the uses of those of the wishes that soften, in order
abbrev pub softening_uses : List Wish → List (Option Use)
softening_uses wishes = map (λ w. Some (use_of w)) (filter (λ w. softens w) wishes)

-- Just those of the first so many wishes that soften were softened, each once and in order, and nothing else
-- was.
abbrev pub HasSoftened : List Wish → ℕ → OwnLog → Type 0
HasSoftened wishes n l = (visits_of l).softened ≡ softening_uses (take n wishes)

-- What a run of the client that ended so has softened: just what its wishes say, but that a fault may come
-- between the last Enter and its Soften.
abbrev pub SoftensAsWished : List Wish → Result ℕ (ℕ × RunFault) → OwnLog → Type 0
SoftensAsWished wishes (Ok n) l = HasSoftened wishes n l
SoftensAsWished wishes (Err e) l = HasSoftened wishes e.0 l ⊎ HasSoftened wishes (e.0 - 1) l

-- how many entries were counted, and the use of each Enter and of each Soften of the log
pub record Tally : Type 0 where
  pub count : ℕ
  pub uses : List (Option Use)
  pub softened : List (Option Use)

abbrev pub tally : ℕ → OwnLog → Tally
tally n l = record { count = n; uses = (visits_of l).entered; softened = (visits_of l).softened }

-- nothing was entered, and nothing counted
abbrev pub AddsNothing : Tally → Tally → Type 0
AddsNothing before after = after ≡ before

-- this use was entered once, and counted, and softened if so
abbrev pub AddsUse : Option Use → Bool → Tally → Tally → Type 0
AddsUse u soften before after = after ≡ record { count = before.count + 1; uses = before.uses ++ u ∷ []; softened = if soften then before.softened ++ u ∷ [] else before.softened }

-- it was entered once or not at all, and softened only if so
abbrev pub AddsAtMost : Option Use → Bool → Tally → Tally → Type 0
AddsAtMost u soften before after = AddsNothing before after ⊎ (AddsUse u false before after ⊎ AddsUse u soften before after)

-- the number of entries that a run of the client answers, in both cases
abbrev pub entries_of : Result ℕ (ℕ × RunFault) → ℕ
entries_of (Ok n) = n
entries_of (Err e) = e.0

-- each of these uses is one of those that are wished
abbrev pub AreWished : List Use → List Use → Type 0
AreWished wished begins = All (λ u. Among u wished) begins

-- Of the same actor, nothing but this use was begun since, so many times, or not at all.
pub record BeginsOnly (u : Use) (before after : Visits) : Type 0 where
  pub whose : after.whose ≡ before.whose
  pub ballots : after.ballots ≡ before.ballots
  pub opening : after.opening ≡ before.opening
  pub times : ℕ
  pub only : after.begins ≡ before.begins ++ replicate times u

-- something was begun since
pub record BeginsMore (before after : Visits) : Type 0 where
  pub more : length before.begins < length after.begins

-- of the same actor, nothing was begun since
pub record BeginsNothing (before after : Visits) : Type 0 where
  pub whose : after.whose ≡ before.whose
  pub ballots : after.ballots ≡ before.ballots
  pub opening : after.opening ≡ before.opening
  pub none : after.begins ≡ before.begins

-- The log is the actor's, and each of its Begins has the mode, the resource and the place of a wish.
pub record HasBegun (who : Actor) (wishes : List Wish) (l : OwnLog) : Type 0 where
  pub whose : l.actor ≡ who
  pub each : AreWished (map (λ w. use_of w) wishes) (visits_of l).begins

-- each wish has a place that the ballots have
abbrev pub ArePlaced : List Ballot → List Wish → Type 0
ArePlaced ballots wishes = All (λ w. HasPlace ballots w.place) wishes

-- Nothing was begun, entered or softened since, and the client has not fallen.
pub record GoesOnQuietly (l l' : OwnLog) : Type 0 where
  pub visits : visits_of l' ≡ visits_of l
  pub falls : falls_of l' ≡ falls_of l
