use Rattle.line_link.specs.Carried.{lines_given, sendings}
use Rattle.line_link.proofs.CarriedFacts.{gives_nothing}
use Rattle.line_link.proofs.links.LineLink.over.Goals as goal

pub invariant_of-result : goal.invariant_of-result
invariant_of-result g c = (
  gives_nothing g.C.Carrier.given c.args.carrier c.args.own c.args.secrets.0 c.new.result.items c.and-opened.result.items c.new-4.result.items c.new.ensures c.and-opened.ensures c.new-4.ensures,
  c.new-2.ensures (lines_given c.args.secrets.0 (sendings c.new-4.result.items)),
)
