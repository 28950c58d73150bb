use Rattle.std.proofs.Common.{refl}
use Rattle.world_model.specs.ExactWorlds.{step}
use Rattle.world_model.proofs.laws.worked_examples.Goals as goal

pub returns-clause-first_reader : goal.returns-clause-first_reader
unfolding step
returns-clause-first_reader c = (refl, refl)

pub returns-clause-one_grant_is_too_few : goal.returns-clause-one_grant_is_too_few
unfolding step
returns-clause-one_grant_is_too_few c = (refl, refl)

pub returns-clause-say_before_kept : goal.returns-clause-say_before_kept
unfolding step
returns-clause-say_before_kept c = (refl, refl)

pub returns-clause-restart_with_old_record : goal.returns-clause-restart_with_old_record
unfolding step
returns-clause-restart_with_old_record c = (refl, refl)

pub returns-clause-restart_with_new_record : goal.returns-clause-restart_with_new_record
unfolding step
returns-clause-restart_with_new_record c = (refl, refl)

pub returns-clause-refused_rises : goal.returns-clause-refused_rises
unfolding step
returns-clause-refused_rises c = (refl, refl)

pub returns-clause-no_such_place : goal.returns-clause-no_such_place
unfolding step
returns-clause-no_such_place c = (refl, refl)

pub returns-clause-restarted_client : goal.returns-clause-restarted_client
unfolding step
returns-clause-restarted_client c = (refl, refl, refl, refl)

pub returns-clause-greatest_attempt : goal.returns-clause-greatest_attempt
unfolding step
returns-clause-greatest_attempt c = (refl, refl)

pub returns-clause-softening : goal.returns-clause-softening
unfolding step
returns-clause-softening c = (refl, refl, refl, refl, refl)

pub returns-clause-switching : goal.returns-clause-switching
unfolding step
returns-clause-switching c = (refl, refl, refl, refl, refl, refl, refl, refl, refl, refl, refl)

pub returns-clause-switching_past_a_fall : goal.returns-clause-switching_past_a_fall
unfolding step
returns-clause-switching_past_a_fall c = (refl, refl, refl, refl, refl, refl)
