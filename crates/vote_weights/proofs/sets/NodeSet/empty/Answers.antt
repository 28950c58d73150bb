use Rattle.std.proofs.Common.{refl}
use Rattle.vote_weights.specs.Sets.{marks_of}
use Rattle.vote_weights.proofs.sets.NodeSet.empty.Goals as goal

pub invariant_of-result : goal.invariant_of-result
unfolding marks_of
invariant_of-result c = refl
