use Rattle.std.proofs.Common.{◌∙◌, sym, ap, subst}
use Rattle.own_journals.specs.OwnLines.{seen, plain_in, ReadsWhole}
use Rattle.own_journals.proofs.OwnLineFacts.{framed-reads, plain-reads}
use Rattle.own_journals.proofs.lines.read_whole.Goals as goal

pub returns-in-Some : goal.returns-in-Some
returns-in-Some c =
    framed-reads c.args.line.now (c.in-Some.word.now, c.in-Some.name.now, c.in-Some.digits.now) c.read_framed.result (sym c.framed_words.ensures ∙ ap seen c.in-Some.is) c.read_framed.ensures

pub returns-in-None : goal.returns-in-None
returns-in-None c =
    subst (ReadsWhole c.args.line.now) (sym (c.plain.ensures ∙ ap plain_in c.read_event.ensures))
    (plain-reads c.events_are_spelled_once.ensures c.args.line.now (sym c.framed_words.ensures ∙ ap seen c.in-None.is))
