use Rattle.std.proofs.Common.{rules, ap, ◌∙◌}
use Rattle.berth_seats.specs.Views.{is_given}
use Rattle.berth_seats.proofs.Moves.{gives}
use Rattle.berth_seats.proofs.seats.BookSeat.give.Goals as goal

pub compare_exchange_with-requires : goal.compare_exchange_with-requires
compare_exchange_with-requires c =
    let i = c.self.invariant.0 in
    (i.of_table, search rules, gives _ _ c.self.inside.seat.me c.args.actor i.is_book (ap (λ s. is_given s.book.given c.args.actor) c.self.view_is ∙ c.requires))
