use Rattle.event_recorders.proofs.LengthFacts.{node-records-fit, client-records-fit}
use Rattle.event_recorders.proofs.laws.records_fit.Goals as goal

pub returns-clause-nodes : goal.returns-clause-nodes
returns-clause-nodes c = node-records-fit

pub returns-clause-clients : goal.returns-clause-clients
returns-clause-clients c = client-records-fit
