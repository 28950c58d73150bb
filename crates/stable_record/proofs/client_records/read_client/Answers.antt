use Rattle.std.proofs.Common.{ap, ◌∙◌, arith}
use Rattle.stable_record.specs.Reading.{client_reading}
use Rattle.stable_record.proofs.ClientFacts.{client_found, client_reading_again}
use Rattle.stable_record.proofs.client_records.read_client.Goals as goal

pub returns-clause-found : goal.returns-clause-found
returns-clause-found c = client_found c.fields_are_exact.ensures c.args.bytes.now c.whole.result (λ i. omega (arith, c.type_inv.bytes i)) c.whole.ensures

pub returns-clause-only : goal.returns-clause-only
returns-clause-only c = λ a high e. c.whole.ensures ∙ ap client_reading e ∙ client_reading_again c.fields_are_exact.ensures a high
