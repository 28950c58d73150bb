use Rattle.std.proofs.Common.{rules, ap}
use Rattle.berth_seats.proofs.Moves.{starts, begins}
use Rattle.berth_seats.proofs.seats.BookSeat.open.Goals as goal

pub of_words-requires : goal.of_words-requires
of_words-requires g c = starts

pub load-requires : goal.load-requires
load-requires g c =
    let s = c.in_ok-table.seat in
    let me = c.in_ok-table.ensures.4 in
    (search rules, search rules, begins c.in_ok-table.table.shared.table_id.slots s.id s.me g.B.OpenedWith.world (ap (λ m. m.0.is_book) me) (ap (λ m. m.0.book.given) me))
