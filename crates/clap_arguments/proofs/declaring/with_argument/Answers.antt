use Rattle.clap_arguments.proofs.ShapeFacts.{shape_adding, still_local}
use Rattle.clap_arguments.proofs.declaring.with_argument.Goals as goal

pub returns : goal.returns
returns c =
    record {
      shape = shape_adding c.args.command c.in_ok-with_taken.with_taken c.args.taken c.in_ok-with_taken.ensures c.requires.argument;
      local = still_local c.args.command c.in_ok-with_taken.with_taken c.args.taken c.in_ok-with_taken.ensures c.requires.command c.requires.argument;
    }
