use Rattle.std.proofs.Common.{sym, subst}
use Rattle.stable_record.specs.Indexing.{IndexesWith}
use Rattle.stable_record.proofs.IndexFacts.{indexes-held, indexes-idle-held, indexed-counted}
use Rattle.stable_record.proofs.resource_index.ResourceIndex.promote.Goals as goal

pub returns-in-Some : goal.returns-in-Some
returns-in-Some c a es among h =
    let l = c.in-Some.live in
    let old = c.self.inside.map.entries in
    let was : IndexesWith a old es = subst (λ lines. IndexesWith a lines es) (sym c.self.view_is) h in
    indexes-held a old c.promote.new.lines.entries c.args.entry.now l es c.in-Some.is among was (c.promote.ensures (indexed-counted a old es among.few was l.resource))

pub returns-in_default : goal.returns-in_default
returns-in_default c a es among h = indexes-idle-held a c.args.self.now c.args.entry.now es c.in_default.is among h
