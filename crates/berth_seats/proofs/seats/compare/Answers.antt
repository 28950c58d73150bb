use Rattle.std.proofs.Common.{rules}
use Rattle.berth_seats.proofs.Moves.{asks}
use Rattle.berth_seats.proofs.seats.compare.Goals as goal

pub load-requires : goal.load-requires
load-requires c = (c.requires.table.0, search rules, asks _ _ c.args.book.now.me)
