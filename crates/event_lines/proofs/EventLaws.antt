-- A line of a journal says an event exactly where it is the one text of it.
use Rattle.std.proofs.Common.{◌≡◌, inl, inr, ◌↔◌, ℕ, List, Ok, refl, ap, ◌∙◌}
use Rattle.world_model.specs.declared.events.Event.{Event}
use Rattle.world_model.specs.declared.events.Event.TheVariants as event
use Rattle.event_lines.specs.declared.faults.LineFault.TheVariants as fault
use Rattle.event_lines.specs.declared.lines.Line.{Line}
use Rattle.event_lines.specs.declared.lines.Line.TheVariants as line
use Rattle.event_lines.specs.Lines.{line_of, command_of}
use Rattle.event_lines.specs.Laws.{IsAmong}
use Rattle.event_lines.specs.Events.{event_commands, event_in, event_of, IsSpelling}
use Rattle.event_lines.proofs.LineLaws.{bind_ok, bound, ok_same, one_spelling}
use Rattle.event_lines.proofs.WordFacts.{never_ok}

among : (e : Event) → IsAmong (command_of (line.Event e)) event_commands
among (event.Begin c m x place) = inl refl
among (event.Try who) = inr (inl refl)
among (event.Kept who) = inr (inr (inl refl))
among (event.SayTo c n) = inr (inr (inr (inl refl)))
among (event.Say n) = inr (inr (inr (inr (inl refl))))
among (event.Take n k) = inr (inr (inr (inr (inr (inl refl)))))
among (event.Hear c k) = inr (inr (inr (inr (inr (inr (inl refl))))))
among (event.Enter c) = inr (inr (inr (inr (inr (inr (inr (inl refl)))))))
among (event.Leave c) = inr (inr (inr (inr (inr (inr (inr (inr (inl refl))))))))
among (event.Soften c) = inr (inr (inr (inr (inr (inr (inr (inr (inr (inl refl)))))))))
among (event.Fall who) = inr (inr (inr (inr (inr (inr (inr (inr (inr (inr (inl refl))))))))))
among (event.Rise who age) = inr (inr (inr (inr (inr (inr (inr (inr (inr (inr (inr (inl refl)))))))))))
among (event.Switch n p) = inr (inr (inr (inr (inr (inr (inr (inr (inr (inr (inr (inr (inl refl))))))))))))

is_its_line : (l : Line) (e : Event) → event_in l ≡ Ok e → l ≡ line.Event e
is_its_line (line.Event d) e h = ap line.Event (ok_same d e h)
is_its_line (line.Query q) e h = never_ok fault.Word e h

what_is_read : (bytes : List ℕ) (e : Event) → event_of bytes ≡ Ok e → IsSpelling bytes e
unfolding event_of
what_is_read bytes e h =
    let (l, hl, he) = bind_ok (line_of event_commands bytes) event_in e h in
    let said = (one_spelling event_commands bytes (line.Event e)).0 (hl ∙ ap Ok (is_its_line l e he)) in
    (said.0, said.1)

what_is_written : (bytes : List ℕ) (e : Event) → IsSpelling bytes e → event_of bytes ≡ Ok e
unfolding event_of
what_is_written bytes e h =
    bound (line_of event_commands bytes) event_in (line.Event e) (Ok e) ((one_spelling event_commands bytes (line.Event e)).1 (h.0, h.1, among e)) refl

pub events_once : (bytes : List ℕ) (e : Event) → (event_of bytes ≡ Ok e) ↔ IsSpelling bytes e
events_once bytes e = (what_is_read bytes e, what_is_written bytes e)
