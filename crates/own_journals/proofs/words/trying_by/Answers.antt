use Rattle.std.proofs.Common.{◌∙◌, sym, ap, subst}
use Rattle.event_lines.specs.Events.{event_of}
use Rattle.own_journals.specs.OwnLines.{named_in, NamesActor}
use Rattle.own_journals.proofs.OwnLineFacts.{names-actor}
use Rattle.own_journals.proofs.words.trying_by.Goals as goal

pub returns : goal.returns
returns c = λ word is. subst (NamesActor word) (sym (c.named.ensures ∙ ap named_in (c.read_event.ensures ∙ ap event_of is))) (names-actor c.events_are_spelled_once.ensures word)
