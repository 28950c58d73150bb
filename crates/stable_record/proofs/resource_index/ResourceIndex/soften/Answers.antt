use Rattle.std.proofs.Common.{sym, subst}
use Rattle.stable_record.specs.Indexing.{IndexesWith}
use Rattle.stable_record.proofs.IndexFacts.{indexes-softened, indexes-idle-softened}
use Rattle.stable_record.proofs.resource_index.ResourceIndex.soften.Goals as goal

pub returns-in-Some : goal.returns-in-Some
returns-in-Some c a es among h =
    let old = c.self.inside.map.entries in
    indexes-softened a old c.soften.new.lines.entries c.args.entry.now c.in-Some.live es c.in-Some.is among (subst (λ lines. IndexesWith a lines es) (sym c.self.view_is) h) c.soften.ensures

pub returns-in_default : goal.returns-in_default
returns-in_default c a es among h = indexes-idle-softened a c.args.self.now c.args.entry.now es c.in_default.is among h
