use Rattle.std.proofs.Common.{sym, subst}
use Rattle.std.proofs.lemmas.Result.{on_ok_weaker}
use Rattle.stable_record.specs.Lines.{Indexes}
use Rattle.stable_record.proofs.IndexFacts.{indexes-announced}
use Rattle.stable_record.proofs.resource_index.ResourceIndex.announce.Goals as goal

pub returns-clause-announced : goal.returns-clause-announced
returns-clause-announced c =
    on_ok_weaker c.announce.result (λ joins es h.
    indexes-announced c.self.inside.map.entries c.announce.new.lines.entries c.args.client c.args.resource.now joins es
    (subst (λ lines. Indexes lines es) (sym c.self.view_is) h)) c.announce.ensures.announced
