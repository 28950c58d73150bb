use Rattle.lock_messages.proofs.FieldFacts.{fields_exact}
use Rattle.lock_messages.proofs.laws.fields_are_exact.Goals as goal

pub returns : goal.returns
returns g c = fields_exact _
