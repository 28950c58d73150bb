use Rattle.std.proofs.Common.{List, ◌++◌, replicate, refl, sym, ap, subst, ◌∙◌}
use Rattle.event_lines.specs.declared.wishes.Wish.{Wish}
use Rattle.lock_model.specs.Ballots.{node_count}
use Rattle.lock_model.specs.declared.problems.Problem.TheVariants.{First}
use Rattle.world_settings.specs.declared.settings.Settings.{Settings}
use Rattle.world_settings.specs.Settings.{AreAmong}
use Rattle.run_service.specs.Empty.{empty_node, empty_client}
use Rattle.run_service.proofs.ReadyFacts.{may_run, theirs}
use Rattle.run_tests.proofs.rows.end_of.Goals as goal

pub run_all-requires-clause-may : goal.run_all-requires-clause-may
run_all-requires-clause-may g c κs within =
    let s : Settings = record { ballots = c.args.ballots; problem = First; clients = c.args.row.now.clients } in
    may_run s c.in_ok-world.world (node_count c.args.ballots) _ _ c.in_ok-world.ensures refl c.requires.policies
    (c.in_ok-records.ensures ∙ ap (λ n. replicate n (empty_node First) ++ replicate c.args.row.now.clients empty_client) c.requires.devices)

pub run_all-requires-clause-theirs : goal.run_all-requires-clause-theirs
run_all-requires-clause-theirs g c κs within =
    let s : Settings = record { ballots = c.args.ballots; problem = First; clients = c.args.row.now.clients } in
    theirs s c.in_ok-world.world c.as_slice.result.now c.in_ok-world.ensures (subst (λ (ws : List Wish). AreAmong c.args.row.now.clients c.args.ballots ws) (sym c.as_slice.ensures.value) c.in_ok-wishes.ensures)

pub run_all-requires-clause-placed : goal.run_all-requires-clause-placed
run_all-requires-clause-placed g c κs within =
    (subst (λ (ws : List Wish). AreAmong c.args.row.now.clients c.args.ballots ws) (sym c.as_slice.ensures.value) c.in_ok-wishes.ensures).placed
