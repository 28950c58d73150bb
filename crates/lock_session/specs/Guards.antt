-- Words on guards of sessions.
use Rattle.std.specs.Borrow.{GName}
use Rattle.lock_messages.specs.declared.tickets.Ticket.{Ticket}
use Rattle.lock_session.specs.declared.guards.SessionGuard.{SessionGuard}
use Rattle.lock_session.specs.Sessions.{SessionValue, IsInside}

module _ {S R L : Type 0} where
  -- the session, as the guard has it
  abbrev pub session_of : SessionGuard S R L → SessionValue
  session_of guard = guard.session.now

  -- the ghost name of the reference to the session
  abbrev pub lender_of : SessionGuard S R L → GName
  lender_of guard = guard.session.ghost_name

  -- the ticket with which the session is inside
  abbrev pub guard_ticket : SessionGuard S R L → Ticket
  guard_ticket guard = guard.ticket

  -- the session's own log has its client inside, with the ticket that the guard has
  abbrev pub IsHeld : SessionGuard S R L → Type 0
  IsHeld guard = IsInside guard.session.now guard.ticket
