use Rattle.world_model.specs.ExactWays.{load}
use Rattle.lock_model.specs.Ballots.{node_count}
use Rattle.std.proofs.Common.{length, arith}
use Rattle.world_laws.proofs.LoadFacts.{load-bounded, by-number}
use Rattle.world_laws.proofs.laws.load_is_bounded.Goals as goal

pub returns-clause-each : goal.returns-clause-each
returns-clause-each c = load-bounded c.exact_steps_are_allowed.ensures.steps c.exact_steps_are_allowed.ensures.sound c.steps_change_one_part.ensures.changes c.openings_are_lawful.ensures.sound

pub returns-clause-most : goal.returns-clause-most
returns-clause-most c = λ w chosen a h few_nodes few_clients.
    by-number (load chosen a w) (node_count w.ballots) (length w.clients)
    (load-bounded c.exact_steps_are_allowed.ensures.steps c.exact_steps_are_allowed.ensures.sound c.steps_change_one_part.ensures.changes c.openings_are_lawful.ensures.sound w chosen a h) few_nodes few_clients

pub returns-clause-room : goal.returns-clause-room
returns-clause-room c = λ w chosen a h few_nodes few_clients room.
    let most = by-number (load chosen a w) (node_count w.ballots) (length w.clients)
    (load-bounded c.exact_steps_are_allowed.ensures.steps c.exact_steps_are_allowed.ensures.sound c.steps_change_one_part.ensures.changes c.openings_are_lawful.ensures.sound w chosen a h) few_nodes few_clients in
    omega (arith, most, room)
