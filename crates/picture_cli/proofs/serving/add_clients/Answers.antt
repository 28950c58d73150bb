use Rattle.std.proofs.Common.{◌+◌, refl}
use Rattle.picture_cli.specs.Drawing.{client_down}
use Rattle.picture_cli.proofs.DrawFacts.{down_more}
use Rattle.picture_cli.proofs.serving.add_clients.Goals as goal

pub loop-before-preserved : goal.loop-before-preserved
loop-before-preserved c =
    down_more client_down c.loop-before.before (c.loop-before.before + 1) c.args.lasting.now.items c.loop-before.lasting.items c.add_client.new.lasting.items c.loop-before.invariant refl c.in_ok-add_client.ensures
