use Rattle.std.proofs.Common.{◌≡◌, sym, subst, ◌∙◌, Some}
use Rattle.lock_model.specs.declared.entries.Live.{Live}
use Rattle.stable_record.specs.Indexing.{IndexesWith}
use Rattle.stable_record.proofs.IndexFacts.{some-same, indexes-confirmed, indexed-counted}
use Rattle.stable_record.proofs.resource_index.ResourceIndex.confirm.Goals as goal

pub returns-in-Some : goal.returns-in-Some
returns-in-Some c live es is free h =
    let e = c.args.entry.now in
    let l = c.in-Some.live in
    let old = c.self.inside.map.entries in
    let same : live ≡ l = some-same live l (sym is ∙ c.in-Some.is) in
    let was : IndexesWith (Some (e.client, l.resource)) old es =
    subst (λ (m : Live). IndexesWith (Some (e.client, m.resource)) old es) same (subst (λ lines. IndexesWith (Some (e.client, live.resource)) lines es) (sym c.self.view_is) h) in
    indexes-confirmed old c.confirm.new.lines.entries e l es c.in-Some.is free was (c.confirm.ensures (indexed-counted (Some (e.client, l.resource)) old es free.few was l.resource))
