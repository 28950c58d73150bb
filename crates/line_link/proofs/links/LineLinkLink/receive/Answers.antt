use Rattle.line_link.specs.Carried.{given_before, lines_given, sendings}
use Rattle.line_link.proofs.CarriedFacts.{gives_repeats}
use Rattle.line_link.proofs.links.LineLinkLink.receive.Goals as goal

pub invariant_of-self : goal.invariant_of-self
invariant_of-self g c =
    let k = c.self.inside in (
      gives_repeats (given_before g.C.Carrier.given k.opened.items) (lines_given k.secret (sendings k.made.items)) k.letters (g.C.Carrier.given k.carrier) (g.C.Carrier.given c.next_post.new.carrier) c.self.invariant.0 c.self.invariant.1 c.next_post.ensures.given,
      c.self.invariant.1,
    )
