use Rattle.std.proofs.Common.{refl}
use Rattle.merge_model.proofs.Greed.{sourced-same}
use Rattle.merge_model.proofs.laws.said_is_a_set.Goals as goal

pub returns : goal.returns
returns c = λ b parts said more history wider s. sourced-same b history parts parts said more (λ who. refl) wider s
