use Rattle.history_book.proofs.Stays.{stays, tells}
use Rattle.history_book.proofs.laws.berths_stay_inside.Goals as goal

pub returns-clause-stays : goal.returns-clause-stays
returns-clause-stays c = stays c.locality.ensures.parts c.inside_until_leave_or_fall.ensures.parts

pub returns-clause-told : goal.returns-clause-told
returns-clause-told c = tells
