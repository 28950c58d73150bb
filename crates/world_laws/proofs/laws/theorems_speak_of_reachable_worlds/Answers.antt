use Rattle.world_model.specs.Forgetting.{forget, setting_of}
use Rattle.world_laws.proofs.ReachFacts.{opened, opened-empty, steps-reach-on, runs-reach-on, spoken-of, alone-there}
use Rattle.world_laws.proofs.laws.theorems_speak_of_reachable_worlds.Goals as goal

pub returns-clause-openings : goal.returns-clause-openings
returns-clause-openings c = record { with_records = opened; empty = opened-empty c.openings_are_lawful.ensures.empty }

pub returns-clause-steps : goal.returns-clause-steps
returns-clause-steps c = steps-reach-on

pub returns-clause-runs : goal.returns-clause-runs
returns-clause-runs c = runs-reach-on

pub returns-clause-both : goal.returns-clause-both
returns-clause-both c = spoken-of c.exact_steps_are_allowed.ensures.steps c.exact_steps_are_allowed.ensures.sound c.openings_are_lawful.ensures.sound c.openings_are_lawful.ensures.lawful

pub returns-clause-alone : goal.returns-clause-alone
returns-clause-alone c = λ w h.
    alone-there c.writers_are_alone.ensures.alone w
    (spoken-of c.exact_steps_are_allowed.ensures.steps c.exact_steps_are_allowed.ensures.sound c.openings_are_lawful.ensures.sound c.openings_are_lawful.ensures.lawful w h)

pub returns-clause-way : goal.returns-clause-way
returns-clause-way c = λ w a h possible below.
    let spoken = spoken-of c.exact_steps_are_allowed.ensures.steps c.exact_steps_are_allowed.ensures.sound c.openings_are_lawful.ensures.sound c.openings_are_lawful.ensures.lawful w h in
    c.nobody_is_locked_out.ensures.way (setting_of w) (forget w) a spoken.crosses spoken.reached possible below
