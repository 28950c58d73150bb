use Rattle.std.proofs.Common.{◌∙◌, Some, sym, ap}
use Rattle.journal_picture.proofs.TellFacts.{votes_on}
use Rattle.journal_picture.proofs.telling.add_votes.Goals as goal

pub returns-in-Ok-read_node : goal.returns-in-Ok-read_node
returns-in-Ok-read_node g c =
    votes_on c.add_kept.result c.args.world.now c.args.node c.as_slice.result.now c.in-Ok-read_node.kept c.args.lasting.now.items c.add_kept.new.lasting.items
    c.keeping.ensures (c.in-Ok.ensures ∙ ap Some (sym c.as_slice.ensures.value)) c.in-Ok-read_node.ensures.only c.add_kept.ensures
