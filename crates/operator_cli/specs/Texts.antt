-- What the commands print.
use Rattle.std.specs.Prelude.{ℕ, true, false, Bool, List, [], ◌∷◌, ◌++◌, Option, Some, None, codes}
use Rattle.std.specs.List.{flat_map, range_with_len}
use Rattle.std.specs.Fmt.{decimal}
use Rattle.lock_messages.specs.Texts.{client_text, mode_text, message_text}
use Rattle.lock_messages.specs.declared.messages.Message.{Message}
use Rattle.lock_messages.specs.declared.tickets.Ticket.{Ticket}
use Rattle.lock_model.specs.Ballots.{Ballot, total}
use Rattle.lock_model.specs.declared.hearing.Heard.{Heard}
use Rattle.lock_model.specs.declared.hearing.Heard.TheVariants as heard
use Rattle.event_lines.specs.declared.lines.Line.TheVariants as line
use Rattle.event_lines.specs.declared.lines.Query.{Query}
use Rattle.event_lines.specs.Lines.{text_of}
use Rattle.world_model.specs.declared.events.Effect.{Effect}
use Rattle.world_model.specs.declared.events.Effect.TheVariants as effect
use Rattle.world_model.specs.ExactWorlds.{numbered}

-- `sent 2 grant n1 c1 1 read a`
abbrev pub sent_text : ℕ → Message → List ℕ
sent_text k m = codes "sent " ++ decimal k ++ codes " " ++ message_text m ++ codes "\n"

-- the line of the message with this number, if one has it
abbrev pub found_text : ℕ → Option Message → List ℕ
found_text k None = []
found_text k (Some m) = sent_text k m

-- the lines of so many messages, from this number on
unfoldable pub said_text : List Message → ℕ → ℕ → List ℕ
said_text sent first count = flat_map (λ k. found_text k (numbered sent k)) (range_with_len first count)

-- whether a node has another record than before, by a message or by a switch
abbrev pub changed_text : Bool → List ℕ
changed_text true = codes "changed\n"
changed_text false = codes "same\n"

abbrev pub heard_text : Heard → List ℕ
heard_text heard.Counted = codes "counted\n"
heard_text heard.Known = codes "known\n"
heard_text heard.Busy = codes "busy\n"
heard_text heard.Done = codes "done\n"
heard_text heard.Softened = codes "softened\n"
heard_text heard.NotMine = codes "not mine\n"

-- what an event prints, given the messages that were sent up to its end
abbrev pub effect_text : List Message → Effect → List ℕ
effect_text sent (effect.Chose a) = codes "chose " ++ decimal a ++ codes "\n"
effect_text sent effect.Tried = codes "tried\n"
effect_text sent effect.Kept = codes "kept\n"
effect_text sent (effect.Sent k m) = sent_text k m
effect_text sent (effect.Said first count) = said_text sent first count
effect_text sent (effect.Took m changed) = changed_text changed
effect_text sent (effect.Heard m heard) = heard_text heard
effect_text sent effect.Inside = codes "inside\n"
effect_text sent effect.Outside = codes "outside\n"
effect_text sent effect.Softened = codes "softened\n"
effect_text sent effect.Down = codes "down\n"
effect_text sent effect.Up = codes "up\n"
effect_text sent (effect.Switched changed) = changed_text changed

-- `refused 609`
abbrev pub refused_text : ℕ → List ℕ
refused_text number = codes "refused " ++ decimal number ++ codes "\n"

-- `c1 read`
abbrev pub member_text : Ticket → List ℕ
member_text t = client_text t.client ++ codes " " ++ mode_text t.mode

-- `, c2 read`
abbrev pub other_text : Ticket → List ℕ
other_text t = codes ", " ++ member_text t

-- `c1 read, c2 read`, or `nobody`
abbrev pub members_text : List Ticket → List ℕ
members_text [] = codes "nobody"
members_text (t ∷ ts) = member_text t ++ flat_map other_text ts

-- `waiting n1 a: c1 read`: the query again, and the tickets that it asks for
abbrev pub answer_text : Query → List Ticket → List ℕ
answer_text q ts = text_of (line.Query q) ++ codes ": " ++ members_text ts ++ codes "\n"

-- `line 3 fault 805`
abbrev pub line_fault_text : ℕ → ℕ → List ℕ
line_fault_text line number = codes "line " ++ decimal line ++ codes " fault " ++ decimal number ++ codes "\n"

-- `settings fault 924`
abbrev pub settings_fault_text : ℕ → List ℕ
settings_fault_text number = codes "settings fault " ++ decimal number ++ codes "\n"

-- `total 3 read 2 write 2`
abbrev pub ballot_text : Ballot → List ℕ
ballot_text b = codes "total " ++ decimal (total b) ++ codes " read " ++ decimal b.read ++ codes " write " ++ decimal b.write ++ codes "\n"

-- a line for each ballot, in order
abbrev pub ballots_text : List Ballot → List ℕ
ballots_text ballots = flat_map ballot_text ballots
