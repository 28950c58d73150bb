use Rattle.stable_record.proofs.ClientFacts.{one_client_spelling}
use Rattle.stable_record.proofs.RecordFacts.{one_spelling}
use Rattle.stable_record.proofs.laws.one_spelling.Goals as goal

pub returns-clause-nodes : goal.returns-clause-nodes
returns-clause-nodes c = one_spelling c.fields_are_exact.ensures

pub returns-clause-clients : goal.returns-clause-clients
returns-clause-clients c = one_client_spelling c.fields_are_exact.ensures
