-- What a drawer is told of a step of the world.
use Rattle.std.specs.Prelude.{ℕ, ◌+◌, List, [], ◌∷◌, map, Option, Some, None, Result, Ok, Err}
use Rattle.std.specs.List.{flat_map, range_with_len}
use Rattle.std.specs.Option.{option_to_list}
use Rattle.lock_messages.specs.declared.ids.Actor.{Actor}
use Rattle.lock_messages.specs.declared.ids.Actor.TheVariants as actor
use Rattle.lock_messages.specs.declared.messages.Message.{Message}
use Rattle.lock_messages.specs.declared.tickets.Ticket.{Ticket}
use Rattle.lock_model.specs.declared.entries.Entry.{Entry}
use Rattle.lock_model.specs.ExactStations.{is_holding}
use Rattle.world_model.specs.declared.events.Effect.{Effect}
use Rattle.world_model.specs.declared.events.Effect.TheVariants as effect
use Rattle.world_model.specs.declared.events.Event.{Event}
use Rattle.world_model.specs.declared.events.Event.TheVariants as event
use Rattle.world_model.specs.declared.exact.ExactNode.{ExactNode}
use Rattle.world_model.specs.declared.exact.ExactWorld.{ExactWorld}
use Rattle.world_model.specs.ExactWorlds.{numbered, Steps, step, after}
use Rattle.event_lines.specs.declared.faults.LineFault.{LineFault}
use Rattle.event_lines.specs.Events.{event_of}
use Rattle.world_model.specs.Views.{live_ticket, ticket_inside}
use Rattle.run_picture.specs.declared.marks.Lasting.{Lasting}
use Rattle.run_picture.specs.declared.marks.Lasting.TheVariants as lasting
use Rattle.run_picture.specs.declared.marks.Mark.{Mark}
use Rattle.run_picture.specs.Pictures.{Told}
use Rattle.journal_picture.specs.Strokes.{Stroke, Marked, with_strokes}

-- what was done on a canvas, where it is known, and these marks behind it
abbrev pub with_more : List Mark → Option (List Stroke) → Option (List Stroke)
with_more marks drawn = with_strokes (map Marked marks) drawn

-- the messages of so many numbers, from the first one on
abbrev pub said_from : List Message → ℕ → ℕ → List Message
said_from sent first count = flat_map (λ k. option_to_list (numbered sent k)) (range_with_len first count)

-- the messages that were said with this effect, in the world behind it
abbrev pub said_in : ExactWorld → Effect → List Message
said_in w (effect.Chose a) = []
said_in w effect.Tried = []
said_in w effect.Kept = []
said_in w (effect.Sent k m) = m ∷ []
said_in w (effect.Said first count) = said_from w.sent first count
said_in w (effect.Took m changed) = []
said_in w (effect.Heard m heard) = []
said_in w effect.Inside = []
said_in w effect.Outside = []
said_in w effect.Softened = []
said_in w effect.Down = []
said_in w effect.Up = []
said_in w (effect.Switched other) = []

-- the vote of a node that an entry of its record holds, if it does
abbrev pub vote_of : ℕ → Entry → List Lasting
vote_of n e = map (lasting.Holding n) (live_ticket (λ l. is_holding l.status) e.client e.live)

-- all that are held there, in the order of the entries
abbrev pub votes_in : ℕ → List Entry → List Lasting
votes_in n entries = flat_map (vote_of n) entries

abbrev pub votes_at : ℕ → Option ExactNode → List Lasting
votes_at n None = []
votes_at n (Some v) = votes_in n v.kept.entries

abbrev pub inside_by : Option Ticket → List Lasting
inside_by found = map lasting.Inside (option_to_list found)

-- What lasts of an actor that is up: of a node the votes that are held by what it has kept, of a client that it
-- is inside.
abbrev pub lasts_up : ExactWorld → Actor → List Lasting
lasts_up w (actor.Node n) = votes_at n (numbered w.nodes n)
lasts_up w (actor.Client c) = inside_by (ticket_inside c w)

-- What lasts of an event's actor in the world behind it, where that may be something else than before.
abbrev pub lasts_in : ExactWorld → Event → List Lasting
lasts_in w (event.Begin c m x p) = []
lasts_in w (event.Try who) = []
lasts_in w (event.Kept who) = lasts_up w who
lasts_in w (event.SayTo c n) = []
lasts_in w (event.Say n) = []
lasts_in w (event.Take n k) = []
lasts_in w (event.Hear c k) = []
lasts_in w (event.Enter c) = lasts_up w (actor.Client c)
lasts_in w (event.Leave c) = lasts_up w (actor.Client c)
lasts_in w (event.Soften c) = lasts_up w (actor.Client c)
lasts_in w (event.Fall who) = lasting.Down who ∷ lasts_up w who
lasts_in w (event.Rise who age) = lasts_up w who
lasts_in w (event.Switch n p) = []

-- what is told of an event that was taken with this effect, in the world behind it
abbrev pub told_of : ExactWorld → ℕ → Event → Effect → Told
told_of w line e done = record { line = line; event = e; effect = done; said = said_in w done; lasting = lasts_in w e }

-- The history that lines tell from a world on: each line that is an event which the world takes is a step, and
-- the history ends where they don't go on.

abbrev pub step_told : ℕ → Event → Steps → (ExactWorld → List Told) → List Told
step_told line e (Err f) rest = []
step_told line e (Ok s) rest = told_of s.world line e s.effect ∷ rest s.world

abbrev pub line_told : ExactWorld → ℕ → Result Event LineFault → (ExactWorld → List Told) → List Told
line_told w line (Err f) rest = []
line_told w line (Ok e) rest = step_told line e (step w e) rest

abbrev pub history_behind : ℕ → ExactWorld → List (List ℕ) → List Told
history_behind taken w [] = []
history_behind taken w (l ∷ ls) = line_told w (taken + 1) (event_of l) (λ v. history_behind (taken + 1) v ls)

abbrev pub history_of : ExactWorld → List (List ℕ) → List Told
history_of w lines = history_behind 0 w lines

-- the world to which the events of a history lead
abbrev pub world_behind : ExactWorld → List Told → ExactWorld
world_behind w [] = w
world_behind w (t ∷ history) = world_behind (after w t.event) history
