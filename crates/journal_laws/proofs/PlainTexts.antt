-- The text of an event has no line feed, so each is a line.
use Rattle.std.proofs.Common.{◌≡◌, ℕ, List, [], ◌∷◌, ◌++◌, refl, ap, ◌∙◌, append_assoc, map}
use Rattle.std.specs.List.{AllByRecursion}
use Rattle.std.proofs.lemmas.List.Splits.{slice_split_at}
use Rattle.world_model.specs.declared.events.Effect.{Effect}
use Rattle.world_model.specs.declared.events.Event.{Event}
use Rattle.world_model.specs.declared.events.Event.TheVariants as event
use Rattle.event_lines.specs.declared.commands.Command.{Command}
use Rattle.event_lines.specs.declared.commands.Command.TheVariants as command
use Rattle.event_lines.specs.Lines.{Arguments, kinds_of, parts_text, AreValues}
use Rattle.event_lines.specs.Events.{event_text, IsEventInRange}
use Rattle.event_lines.proofs.WordBytes.{IsOutside, lacks_parts}
use Rattle.line_streams.specs.Streams.{is_line_feed, lines_in, IsPlain}
use Rattle.line_streams.proofs.LineFacts.{line_then_bytes}
use Rattle.journal_text.specs.Journals.{history_text}
use Rattle.journal_audit.specs.Verdicts.{text_lines}

-- a line feed is no byte of a word
feed_outside : IsOutside 10
feed_outside = record { digit = refl; name = refl }

plain_parts : (c : Command) (a : Arguments (kinds_of c)) → AreValues (kinds_of c) a → IsPlain (parts_text c a)
plain_parts c a v = lacks_parts 10 feed_outside refl c a v

plain_event : (e : Event) → IsEventInRange e → IsPlain (event_text e)
plain_event (event.Begin c m x place) h = plain_parts command.Begin (c, (m, (x, (place, tt)))) h
plain_event (event.Try who) h = plain_parts command.Try (who, tt) h
plain_event (event.Kept who) h = plain_parts command.Kept (who, tt) h
plain_event (event.SayTo c n) h = plain_parts command.SayTo (c, (n, tt)) h
plain_event (event.Say n) h = plain_parts command.Say (n, tt) h
plain_event (event.Take n k) h = plain_parts command.Take (n, (k, tt)) h
plain_event (event.Hear c k) h = plain_parts command.Hear (c, (k, tt)) h
plain_event (event.Enter c) h = plain_parts command.Enter (c, tt) h
plain_event (event.Leave c) h = plain_parts command.Leave (c, tt) h
plain_event (event.Soften c) h = plain_parts command.Soften (c, tt) h
plain_event (event.Fall who) h = plain_parts command.Fall (who, tt) h
plain_event (event.Rise who age) h = plain_parts command.Rise (who, (age, tt)) h
plain_event (event.Switch n p) h = plain_parts command.Switch (n, (p, tt)) h

-- lines

first_line : (l rest : List ℕ) → IsPlain l → text_lines ((l ++ 10 ∷ []) ++ rest) ≡ l ∷ text_lines rest
first_line l rest h =
    ap (λ (t : List ℕ). text_lines t) (append_assoc l (10 ∷ []) rest) ∙ ap lines_in (slice_split_at is_line_feed l 10 rest h refl) ∙ line_then_bytes l rest

abbrev pub AreInRange : List (Event × Effect) → Type 0
AreInRange history = AllByRecursion (λ p. IsEventInRange p.0) history

pub lines_of : (history : List (Event × Effect)) → AreInRange history → text_lines (history_text history) ≡ map (λ p. event_text p.0) history
lines_of [] h = refl
lines_of (p ∷ history) h = first_line (event_text p.0) (history_text history) (plain_event p.0 h.0) ∙ ap (λ (ls : List (List ℕ)). event_text p.0 ∷ ls) (lines_of history h.1)
