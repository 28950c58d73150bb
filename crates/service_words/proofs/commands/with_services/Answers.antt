use Rattle.clap.specs.Words.{app_of, with_subcommand}
use Rattle.clap_arguments.proofs.ShapeFacts.{with_sub}
use Rattle.service_words.specs.Shapes.{with_actors, reap_shape, status_shape, switch_shape}
use Rattle.service_words.proofs.commands.with_services.Goals as goal

pub returns : goal.returns
returns c =
    let before = with_actors (app_of c.args.program) in
    let one = with_sub c.in_ok-actors.actors c.in_ok-reap.reap c.in_ok-with_reap.with_reap before reap_shape c.in_ok-with_reap.ensures c.in_ok-actors.ensures c.in_ok-reap.ensures.shape c.in_ok-reap.ensures.local in
    let two = with_sub c.in_ok-with_reap.with_reap c.in_ok-status.status c.in_ok-with_status.with_status (with_subcommand before reap_shape) status_shape c.in_ok-with_status.ensures one c.in_ok-status.ensures.shape c.in_ok-status.ensures.local in
    with_sub c.in_ok-with_status.with_status c.in_ok-switch.switch c.in_ok-with_switch.with_switch (with_subcommand (with_subcommand before reap_shape) status_shape) switch_shape c.in_ok-with_switch.ensures two c.in_ok-switch.ensures.shape c.in_ok-switch.ensures.local
