use Rattle.std.proofs.Common.{rules}
use Rattle.berth_seats.proofs.Moves.{looks}
use Rattle.berth_seats.proofs.seats.show.Goals as goal

pub load-requires : goal.load-requires
load-requires c = (c.requires.table.0, search rules, looks _ _ c.args.book.now.me c.requires.aboard.0 c.requires.aboard.1)
