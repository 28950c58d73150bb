use Rattle.service_status.proofs.Membership.{claims_exact}
use Rattle.service_status.proofs.claims.claims_of.Goals as goal

pub returns-clause-exact : goal.returns-clause-exact
returns-clause-exact c = claims_exact c.args.nodes.now c.in_ok-claims.claims.items c.sort.new.self.items c.in_ok-claims.ensures c.sort.ensures.permutation
