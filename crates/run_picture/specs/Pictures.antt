-- Which marks a picture of a history has.
use Rattle.std.specs.Prelude.{ℕ, ◌+◌, Vec, ◌-◌, ◌==◌, ◌&&◌, ◌||◌, not, Bool, true, false, nat_le, nat_lt, List, [], ◌∷◌, ◌++◌, map, slice_set, Option, Some, None, if◌then◌else◌}
use Rattle.std.specs.List.{list_any, filter, flat_map}
use Rattle.std.specs.Str.{bytes_eq}
use Rattle.std.specs.Global.{Global}
use Rattle.lock_messages.specs.declared.ids.Actor.{Actor}
use Rattle.lock_messages.specs.declared.ids.Actor.TheVariants as actor
use Rattle.lock_messages.specs.declared.messages.Message.{Message}
use Rattle.lock_messages.specs.declared.messages.Message.TheVariants as message
use Rattle.lock_model.specs.ExactHearing.{same_ticket}
use Rattle.world_model.specs.declared.events.Effect.{Effect}
use Rattle.world_model.specs.declared.events.Effect.TheVariants as effect
use Rattle.world_model.specs.declared.events.Event.{Event}
use Rattle.world_model.specs.declared.events.Event.TheVariants as event
use Rattle.world_model.specs.ExactWorlds.{actor_of, numbered}
use Rattle.world_model.specs.Parts.{place}
use Rattle.run_picture.specs.declared.lasting.Since.{Since}
use Rattle.run_picture.specs.declared.marks.Lasting.{Lasting}
use Rattle.run_picture.specs.declared.marks.Lasting.TheVariants as lasting
use Rattle.run_picture.specs.declared.marks.Mark.{Mark}
use Rattle.run_picture.specs.declared.marks.Sign.{Sign}
use Rattle.run_picture.specs.declared.marks.Sign.TheVariants as sign
use Rattle.run_picture.specs.declared.marks.Part.{Part}
use Rattle.run_picture.specs.declared.marks.Place.{Place}
use Rattle.run_picture.specs.declared.marks.Step.{Step}
use Rattle.run_picture.specs.declared.saying.Said.{Said}

-- What is told of one event of a history: its line, the event and its effect, the messages that were said in
-- it, in the order of their numbers, and what lasts of its actor once it has happened.
pub record Told : Type 0 where
  pub line : ℕ
  pub event : Event
  pub effect : Effect
  pub said : List Message
  pub lasting : List Lasting

-- a step as it is told
abbrev pub told : Step → Told
told s = record { line = s.line; event = s.event; effect = s.effect; said = s.said.items; lasting = s.lasting.items }

-- What is alike.

abbrev pub same_actor : Actor → Actor → Bool
same_actor a b = place a == place b

-- the actor is among these
abbrev pub is_among : List Actor → Actor → Bool
is_among actors who = list_any (same_actor who) actors

-- of whom this lasts
abbrev pub whose : Lasting → Actor
whose (lasting.Down who) = who
whose (lasting.Inside t) = actor.Client t.client
whose (lasting.Holding n t) = actor.Node n

abbrev pub same_lasting : Lasting → Lasting → Bool
same_lasting (lasting.Down a) (lasting.Down b) = same_actor a b
same_lasting (lasting.Down a) (lasting.Inside u) = false
same_lasting (lasting.Down a) (lasting.Holding m u) = false
same_lasting (lasting.Inside t) (lasting.Down b) = false
same_lasting (lasting.Inside t) (lasting.Inside u) = same_ticket t u
same_lasting (lasting.Inside t) (lasting.Holding m u) = false
same_lasting (lasting.Holding n t) (lasting.Down b) = false
same_lasting (lasting.Holding n t) (lasting.Inside u) = false
same_lasting (lasting.Holding n t) (lasting.Holding m u) = (n == m) && same_ticket t u

-- The events behind which other things may last of their actor than before.
abbrev pub kept_by_node : Actor → Bool
kept_by_node (actor.Node n) = true
kept_by_node (actor.Client c) = false

abbrev pub may_change : Event → Bool
may_change (event.Begin c m x p) = false
may_change (event.Try who) = false
may_change (event.Kept who) = kept_by_node who
may_change (event.SayTo c n) = false
may_change (event.Say n) = false
may_change (event.Take n k) = false
may_change (event.Hear c k) = false
may_change (event.Enter c) = true
may_change (event.Leave c) = true
may_change (event.Soften c) = true
may_change (event.Fall who) = true
may_change (event.Rise who age) = true
may_change (event.Switch n p) = false

-- What is known of a history as far as it was told: which part is drawn, how many of its lines were, which
-- actors are about the resource, where each message was said, in the order of their numbers, and what lasts
-- now, in the order in which it began.
pub record Drawn : Type 0 where
  pub part : Part
  pub rows : ℕ
  pub about : List Actor
  pub said : List Said
  pub lasts : List Since

-- Which part is drawn.

-- the name is that of the resource that is drawn: any is, where none is named
abbrev pub wants_in : Option (List ℕ) → List ℕ → Bool
wants_in None x = true
wants_in (Some y) x = bytes_eq y x

abbrev pub wants : Part → List ℕ → Bool
wants p x = wants_in p.resource x

abbrev pub wants_all : Option (List ℕ) → Bool
wants_all None = true
wants_all (Some y) = false

abbrev pub wants_lasting : Part → Lasting → Bool
wants_lasting p (lasting.Down who) = true
wants_lasting p (lasting.Inside t) = wants p t.resource
wants_lasting p (lasting.Holding n t) = wants p t.resource

abbrev pub in_window : Part → ℕ → Bool
in_window p line = nat_le p.first line && nat_le line p.last

-- An actor is about the resource from where it begins to be: a client that begins to ask for it, a node
-- that takes a message about it or another problem.
abbrev pub is_about : Part → List Actor → Actor → Bool
is_about p about who = wants_all p.resource || is_among about who

-- A message is about the resource that it names; one that names none, if its client is about it where it
-- is said.
abbrev pub wants_message : Part → List Actor → Message → Bool
wants_message p about (message.Request n t) = wants p t.resource
wants_message p about (message.Release n c a) = is_about p about (actor.Client c)
wants_message p about (message.Grant n t) = wants p t.resource
wants_message p about (message.Busy n t) = wants p t.resource
wants_message p about (message.Over n c a) = is_about p about (actor.Client c)
wants_message p about (message.Done n c a) = is_about p about (actor.Client c)
wants_message p about (message.Muddled n c a) = is_about p about (actor.Client c)
wants_message p about (message.Soften n c a) = is_about p about (actor.Client c)
wants_message p about (message.Softened n c a) = is_about p about (actor.Client c)

abbrev pub is_wanted : Option Said → Bool
is_wanted None = false
is_wanted (Some s) = s.wanted

-- the message of this number was said, and about the resource
abbrev pub wants_number : Drawn → ℕ → Bool
wants_number d k = is_wanted (numbered d.said k)

-- whether the event concerns the resource; a fall, a rise and a switch concern each
abbrev pub concerns : Drawn → Event → Bool
concerns d (event.Begin c m x p) = wants d.part x
concerns d (event.Try who) = is_about d.part d.about who
concerns d (event.Kept who) = is_about d.part d.about who
concerns d (event.SayTo c n) = is_about d.part d.about (actor.Client c)
concerns d (event.Say n) = is_about d.part d.about (actor.Node n)
concerns d (event.Take n k) = wants_number d k
concerns d (event.Hear c k) = wants_number d k
concerns d (event.Enter c) = is_about d.part d.about (actor.Client c)
concerns d (event.Leave c) = is_about d.part d.about (actor.Client c)
concerns d (event.Soften c) = is_about d.part d.about (actor.Client c)
concerns d (event.Fall who) = true
concerns d (event.Rise who age) = true
concerns d (event.Switch n p) = true

-- the line is drawn
abbrev pub is_drawn : Drawn → Told → Bool
is_drawn d s = in_window d.part s.line && concerns d s.event

-- how many lines more are drawn: 1 or 0
abbrev pub one_if : Bool → ℕ
one_if b = if b then 1 else 0

-- where a line stands that comes next, and is drawn or not
abbrev pub place_of : Drawn → ℕ → Bool → Place
place_of d line drawn = record { line = line; height = d.rows + d.rows + one_if drawn }

abbrev pub here : Drawn → Told → Place
here d s = place_of d s.line (is_drawn d s)

-- The marks of a step.

abbrev pub mark_of : Sign → Place → Place → Mark
mark_of what from upto = record { sign = what; from = from; upto = upto }

-- Something of a stretch from the one place to the other is seen.
abbrev pub is_seen : Place → Place → Bool
is_seen from upto = nat_lt from.height upto.height

-- What lasts goes on behind a step, unless it is of the step's actor and not among what is told to last.
abbrev pub goes_on : Told → Since → Bool
goes_on s o = not (same_actor (actor_of s.event) (whose o.what)) || list_any (same_lasting o.what) s.lasting

abbrev pub ends : Told → Since → Bool
ends s o = not (goes_on s o)

-- It begins to last where it didn't before, and is drawn.
abbrev pub begins : Part → List Since → Lasting → Bool
begins p lasts what = wants_lasting p what && not (list_any (λ o. same_lasting o.what what) lasts)

abbrev pub ended_mark : Place → Since → List Mark
ended_mark at o = if is_seen o.since at then mark_of (sign.Ended o.what) o.since at ∷ [] else []

-- the bars of what ends here
abbrev pub ended_marks : Drawn → Told → Place → List Mark
ended_marks d s at = if may_change s.event then flat_map (ended_mark at) (filter (ends s) d.lasts) else []

-- the arrow to where a message is taken or heard
abbrev pub arrow_of : ℕ → Message → Option Said → Place → List Mark
arrow_of k m None at = []
arrow_of k m (Some s) at = if s.wanted && is_seen s.place at then mark_of (sign.Message k m) s.place at ∷ [] else []

-- the number of the message that is taken or heard in an event
abbrev pub number_in : Event → Option ℕ
number_in (event.Begin c m x p) = None
number_in (event.Try who) = None
number_in (event.Kept who) = None
number_in (event.SayTo c n) = None
number_in (event.Say n) = None
number_in (event.Take n k) = Some k
number_in (event.Hear c k) = Some k
number_in (event.Enter c) = None
number_in (event.Leave c) = None
number_in (event.Soften c) = None
number_in (event.Fall who) = None
number_in (event.Rise who age) = None
number_in (event.Switch n p) = None

-- the message that an effect says was taken or heard
abbrev pub message_in : Effect → Option Message
message_in (effect.Chose a) = None
message_in effect.Tried = None
message_in effect.Kept = None
message_in (effect.Sent k m) = None
message_in (effect.Said first count) = None
message_in (effect.Took m changed) = Some m
message_in (effect.Heard m heard) = Some m
message_in effect.Inside = None
message_in effect.Outside = None
message_in effect.Softened = None
message_in effect.Down = None
message_in effect.Up = None
message_in (effect.Switched other) = None

abbrev pub arrows_by : Drawn → Place → Option ℕ → Option Message → List Mark
arrows_by d at None m = []
arrows_by d at (Some k) None = []
arrows_by d at (Some k) (Some m) = arrow_of k m (numbered d.said k) at

abbrev pub arrows : Drawn → Told → Place → List Mark
arrows d s at = arrows_by d at (number_in s.event) (message_in s.effect)

abbrev pub own_mark : Drawn → Told → Place → List Mark
own_mark d s at = if is_drawn d s then mark_of (sign.Event s.event s.effect) at at ∷ [] else []

abbrev pub marks_at : Drawn → Told → Place → List Mark
marks_at d s at = ended_marks d s at ++ (arrows d s at ++ own_mark d s at)

-- all marks of a step
unfoldable pub marks_of_step : Drawn → Told → List Mark
marks_of_step d s = marks_at d s (here d s)

-- What is known behind a step.

abbrev pub others : Actor → List Actor → List Actor
others who about = filter (λ a. not (same_actor who a)) about

-- the actors that are about the resource, where this one is now, or isn't
abbrev pub turning : Actor → Bool → List Actor → List Actor
turning who b about = if b then who ∷ others who about else others who about

abbrev pub about_after : Drawn → Event → List Actor
about_after d (event.Begin c m x p) = turning (actor.Client c) (wants d.part x) d.about
about_after d (event.Try who) = d.about
about_after d (event.Kept who) = d.about
about_after d (event.SayTo c n) = d.about
about_after d (event.Say n) = d.about
about_after d (event.Take n k) = turning (actor.Node n) (wants_number d k) d.about
about_after d (event.Hear c k) = d.about
about_after d (event.Enter c) = d.about
about_after d (event.Leave c) = d.about
about_after d (event.Soften c) = d.about
about_after d (event.Fall who) = d.about
about_after d (event.Rise who age) = d.about
about_after d (event.Switch n p) = turning (actor.Node n) true d.about

abbrev pub with_came : ℕ → List Said → Option Said → List Said
with_came k said None = said
with_came k said (Some s) = slice_set said (k - 1) (record { place = s.place; wanted = s.wanted; came = true })

-- the list where the message of this number, if there is one, has come
abbrev pub came : Option ℕ → List Said → List Said
came None said = said
came (Some k) said = with_came k said (numbered said k)

abbrev pub newly_said : Part → List Actor → Place → Message → Said
newly_said p about at m = record { place = at; wanted = wants_message p about m; came = false }

abbrev pub said_after : Drawn → Told → Place → List Said
said_after d s at = came (number_in s.event) d.said ++ map (newly_said d.part d.about at) s.said

abbrev pub since_here : Place → Lasting → Since
since_here at what = record { what = what; since = at }

abbrev pub lasts_after : Drawn → Told → Place → List Since
lasts_after d s at =
    if may_change s.event then filter (goes_on s) d.lasts ++ map (since_here at) (filter (begins d.part d.lasts) s.lasting) else d.lasts

abbrev pub after_at : Drawn → Told → Place → Drawn
after_at d s at = record {
  part = d.part;
  rows = d.rows + one_if (is_drawn d s);
  about = about_after d s.event;
  said = said_after d s at;
  lasts = lasts_after d s at;
}

unfoldable pub after_step : Drawn → Told → Drawn
after_step d s = after_at d s (here d s)

-- A whole history.

-- before the first line, where these last
abbrev pub before_all : Place
before_all = record { line = 0; height = 0 }

abbrev pub opened : Part → List Lasting → Drawn
opened p what = record { part = p; rows = 0; about = []; said = []; lasts = map (since_here before_all) (filter (wants_lasting p) what) }

abbrev pub marks_behind : Drawn → List Told → List Mark
marks_behind d [] = []
marks_behind d (s ∷ steps) = marks_of_step d s ++ marks_behind (after_step d s) steps

abbrev pub drawn_behind : Drawn → List Told → Drawn
drawn_behind d [] = d
drawn_behind d (s ∷ steps) = drawn_behind (after_step d s) steps

-- The marks of the end: what lasts still, and what was never taken.

abbrev pub end_place : Drawn → ℕ → Place
end_place d line = place_of d line false

abbrev pub open_mark : Place → Since → List Mark
open_mark at o = if is_seen o.since at then mark_of (sign.Open o.what) o.since at ∷ [] else []

abbrev pub open_marks : Drawn → ℕ → List Mark
open_marks d line = flat_map (open_mark (end_place d line)) d.lasts

-- It never came, and was said behind the first line that is drawn began, and before the last one ended.
abbrev pub is_lost : Said → Place → Bool
is_lost s end = not s.came && (s.wanted && (is_seen before_all s.place && is_seen s.place end))

abbrev pub lost_of : ℕ → Message → Option Said → Place → Option Mark
lost_of k m None end = None
lost_of k m (Some s) end = if is_lost s end then Some (mark_of (sign.Lost k m) s.place s.place) else None

-- the mark of the message of this number, if it was said where it is seen, and never came
abbrev pub lost_mark : Drawn → ℕ → Message → Option Mark
lost_mark d k m = lost_of k m (numbered d.said k) (end_place d 0)

-- For the private functions of the drawer: a new list, or the same where none is given.
abbrev pub or_same : {A : Type 0} → List A → Option (Vec A Global) → List A
or_same same None = same
or_same same (Some v) = v.items
