use Rattle.std.proofs.Common.{◌+◌, refl}
use Rattle.picture_cli.specs.Drawing.{node_down}
use Rattle.picture_cli.proofs.DrawFacts.{down_more}
use Rattle.picture_cli.proofs.serving.add_nodes.Goals as goal

pub loop-before-preserved : goal.loop-before-preserved
loop-before-preserved c =
    down_more node_down c.loop-before.before (c.loop-before.before + 1) c.args.lasting.now.items c.loop-before.lasting.items c.add_node.new.lasting.items c.loop-before.invariant refl c.in_ok-add_node.ensures
