use Rattle.std.proofs.Common.{refl}
use Rattle.clap.specs.Words.{app_of, with_subcommand}
use Rattle.clap_arguments.proofs.ShapeFacts.{with_sub}
use Rattle.service_words.specs.Shapes.{init_shape, node_shape, client_shape}
use Rattle.service_words.proofs.commands.with_actors.Goals as goal

pub returns : goal.returns
returns c =
    let before = app_of c.args.program in
    let one = with_sub c.args.program c.in_ok-init.init c.in_ok-with_init.with_init before init_shape c.in_ok-with_init.ensures refl c.in_ok-init.ensures.shape c.in_ok-init.ensures.local in
    let two = with_sub c.in_ok-with_init.with_init c.in_ok-node.node c.in_ok-with_node.with_node (with_subcommand before init_shape) node_shape c.in_ok-with_node.ensures one c.in_ok-node.ensures.shape c.in_ok-node.ensures.local in
    with_sub c.in_ok-with_node.with_node c.in_ok-client.client c.in_ok-with_client.with_client (with_subcommand (with_subcommand before init_shape) node_shape) client_shape c.in_ok-with_client.ensures two c.in_ok-client.ensures.shape c.in_ok-client.ensures.local
