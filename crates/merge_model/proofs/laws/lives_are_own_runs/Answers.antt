use Rattle.merge_model.proofs.LifeFacts.{lives-run, begins-as-found, one-log}
use Rattle.merge_model.proofs.laws.lives_are_own_runs.Goals as goal

pub returns-clause-runs : goal.returns-clause-runs
returns-clause-runs c = λ b who p lives log h. lives-run b who lives p log h

pub returns-clause-found : goal.returns-clause-found
returns-clause-found c = begins-as-found

pub returns-clause-one : goal.returns-clause-one
returns-clause-one c = λ b who p lives log other h i. one-log b who lives p log other h i
