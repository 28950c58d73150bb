use Rattle.std.proofs.Common.{◌≡◌, Some, ap, subst, sym, ◌∙◌}
use Rattle.lossy_link.specs.declared.parcels.Sending.TheVariants.{Told}
use Rattle.lossy_link.specs.Links.{one_more}
use Rattle.line_link.specs.Carried.{Given, GivesLines, LinedLink, AreAmong, given_before, sendings}
use Rattle.line_link.proofs.CarriedFacts.{lines_after_told, sendings_on}
use Rattle.line_link.proofs.links.LineLinkLink.tell_all.Goals as goal

pub invariant_of-self : goal.invariant_of-self
invariant_of-self g c =
    let k = c.self.inside in
    let same = sym (lines_after_told k.secret k.made.items c.and-self-inside.result.items k.own c.args.post c.and-self-inside.ensures) in (
      subst (λ (ls : Given). GivesLines (given_before g.C.Carrier.given k.opened.items) ls (g.C.Carrier.given k.carrier)) same c.self.invariant.0,
      subst (λ (ls : Given). AreAmong k.letters ls) same c.self.invariant.1,
    )

pub returns-clause-told : goal.returns-clause-told
returns-clause-told g c =
    let k = c.self.inside in
    let more = c.and-self-inside.result.items in
    subst (λ (l : LinedLink). Some (sendings more) ≡ one_more (Some l.given) (Told c.args.post)) c.self.view_is (ap Some (ap sendings c.and-self-inside.ensures ∙ sendings_on k.made.items (Told c.args.post, k.own)))
