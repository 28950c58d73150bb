use Rattle.merge_model.proofs.OwnRunFacts.{turns-allowed, run-begins, run-ends, runs-join}
use Rattle.merge_model.proofs.laws.own_runs_are_allowed.Goals as goal

pub returns-clause-turns : goal.returns-clause-turns
returns-clause-turns c = turns-allowed

pub returns-clause-join : goal.returns-clause-join
returns-clause-join c = λ b who p begun rest. (
  λ h. (run-begins b who p begun rest h, run-ends b who p begun rest h),
  λ h. runs-join b who p begun rest h.0 h.1,
)
