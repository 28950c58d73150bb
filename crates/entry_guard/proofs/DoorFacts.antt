-- When a door may soften.
use Rattle.std.proofs.Common.{◌≡◌, Bool, Option, sym, subst}
use Rattle.lock_messages.specs.declared.tickets.Mode.TheVariants.{Write}
use Rattle.lock_messages.specs.declared.tickets.Ticket.{Ticket}
use Rattle.entry_guard.specs.Doors.{IsWriters, MaySoften, IsInsideWith}

-- a door that is inside with a writer's ticket may soften
pub may-soften : (t : Ticket) (within : Bool) (held : Option Ticket) → IsInsideWith t within held → t.mode ≡ Write → MaySoften within held
may-soften t within held is writes = record { inside = is.inside; writer = subst IsWriters (sym is.ticket) writes }
