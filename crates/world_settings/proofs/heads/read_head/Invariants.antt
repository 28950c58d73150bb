use Rattle.std.proofs.Common.{◌-◌, vec_len}
use Rattle.world_settings.specs.declared.heads.TheConstants.{HEAD_ROOM}
use Rattle.world_settings.proofs.HeadFacts.{HeadSoFar, TakesHead}
use Rattle.world_settings.proofs.heads.read_head.Given as goal

abbrev pub invariant-loop-source : goal.invariant-loop-source
invariant-loop-source g l = record {
  head : HeadSoFar l.fn.source l.source l.head.items;
  taken : TakesHead l.fn.source l.source l.head.items;
}

abbrev pub decreases-loop-source : goal.decreases-loop-source
decreases-loop-source g l = HEAD_ROOM - vec_len l.head
