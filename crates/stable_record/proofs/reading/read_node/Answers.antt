use Rattle.std.proofs.Common.{arith}
use Rattle.stable_record.specs.Reading.{IsGoodSoFar}
use Rattle.stable_record.proofs.RecordFacts.{is_found, is_read}
use Rattle.stable_record.proofs.reading.read_node.Goals as goal

pub returns-clause-found : goal.returns-clause-found
returns-clause-found c = is_found c.fields_are_exact.ensures c.judgement_is_exact.ensures.lawful c.judgement_is_exact.ensures.caused (IsGoodSoFar c.args.bytes.now) c.args.bytes.now c.whole.result (λ i. omega (arith, c.type_inv.bytes i)) c.whole.ensures

pub returns-clause-only : goal.returns-clause-only
returns-clause-only c = is_read c.fields_are_exact.ensures c.judgement_is_exact.ensures.lawful c.judgement_is_exact.ensures.caused (IsGoodSoFar c.args.bytes.now) c.args.bytes.now c.whole.result c.whole.ensures
