use Rattle.std.proofs.Common.{rules}
use Rattle.client_loop.proofs.staying.stay.Goals.{then-does_soften+in_ok-soften_guard, else-does_soften}
use Rattle.client_loop.proofs.staying.stay.Goals as goal

pub returns-clause-stayed : goal.returns-clause-stayed
returns-clause-stayed g c = elim c.if-does_soften.branch [ then-does_soften+in_ok-soften_guard w ↦ search rules | else-does_soften w ↦ search rules ]
