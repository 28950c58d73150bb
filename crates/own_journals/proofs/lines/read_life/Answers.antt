use Rattle.std.proofs.Common.{◌∙◌, sym, ap}
use Rattle.own_journals.specs.OwnLines.{both}
use Rattle.own_journals.proofs.LifeFacts.{life-reads, no-life}
use Rattle.own_journals.proofs.lines.read_life.Goals as goal

pub returns-in-Some : goal.returns-in-Some
returns-in-Some c =
    life-reads c.args.line.now c.in-Some.name.now c.in-Some.digits.now c.read_framed.result (sym c.life_words.ensures ∙ ap both c.in-Some.is) c.read_framed.ensures

pub returns-in-None : goal.returns-in-None
returns-in-None c = no-life c.args.line.now (sym c.life_words.ensures ∙ ap both c.in-None.is)
