use Rattle.std.proofs.Common.{sym, subst}
use Rattle.std.specs.Option.{option_map}
use Rattle.stable_record.specs.Indexing.{IndexesWith, without_ticket}
use Rattle.stable_record.specs.Lines.{line_in}
use Rattle.stable_record.proofs.IndexFacts.{puts-settled, indexes-ended, indexes-idle-ended}
use Rattle.stable_record.proofs.resource_index.ResourceIndex.end.Goals as goal

pub returns-in-Some : goal.returns-in-Some
returns-in-Some c a es floor among h =
    let e = c.args.entry.now in
    let l = c.in-Some.live in
    let old = c.self.inside.map.entries in
    let new = c.drop_empty.new.lines.entries in
    indexes-ended a old new e l floor es c.in-Some.is among (subst (λ lines. IndexesWith a lines es) (sym c.self.view_is) h)
    (puts-settled l.resource (option_map (without_ticket e.client l) (line_in old l.resource)) old c.end.new.lines.entries new c.end.ensures c.drop_empty.ensures)

pub returns-in_default : goal.returns-in_default
returns-in_default c a es floor among h = indexes-idle-ended a c.args.self.now c.args.entry.now floor es c.in_default.is among h
