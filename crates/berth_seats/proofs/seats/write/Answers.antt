use Rattle.std.proofs.Common.{rules}
use Rattle.berth_seats.proofs.Moves.{adds}
use Rattle.berth_seats.proofs.seats.write.Goals as goal

pub compare_exchange_with-requires : goal.compare_exchange_with-requires
compare_exchange_with-requires c = (c.requires.table.0, search rules, adds _ _ c.args.book.now.me c.args.event c.args.effect c.requires.aboard.0 c.requires.aboard.1 c.requires.own)
