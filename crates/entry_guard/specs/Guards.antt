-- Words on guards.
use Rattle.std.specs.Prelude.{◌≡◌, Bool, Option}
use Rattle.std.specs.Borrow.{GName}
use Rattle.std.specs.Global.{Global}
use Rattle.std.specs.declared.dyn_box.DynBox.{DynBox}
use Rattle.lock_messages.specs.declared.tickets.Ticket.{Ticket}
use Rattle.entry_guard.specs.declared.guards.EntryGuard.{EntryGuard}
use Rattle.entry_guard.specs.declared.owned.OwnedEntry.{OwnedEntry}
use Rattle.entry_guard.specs.Doors.{IsInsideWith}

module _ {D : Type 0} where
  -- the door, as the guard has it
  abbrev pub door_of : EntryGuard D → D
  door_of guard = guard.door.now

  -- the ghost name of the reference to the door
  abbrev pub lender_of : EntryGuard D → GName
  lender_of guard = guard.door.ghost_name

  -- the ticket with which the door is inside
  abbrev pub guard_ticket : EntryGuard D → Ticket
  guard_ticket guard = guard.ticket

  -- the door is inside, with the ticket that the guard has
  abbrev pub IsHeld : (D → Bool) → (D → Option Ticket) → EntryGuard D → Type 0
  IsHeld is_inside ticket_of guard = IsInsideWith (guard_ticket guard) (is_inside (door_of guard)) (ticket_of (door_of guard))

module _ {I : Type 0} {F : I → Type 0} where
  -- the door of an entry
  abbrev pub entry_door : OwnedEntry I F → DynBox I Global F
  entry_door entry = entry.door

  -- the ticket with which it is inside
  abbrev pub entry_ticket : OwnedEntry I F → Ticket
  entry_ticket entry = entry.ticket

  -- the box with a door of the same type in it, which meets P
  abbrev pub HasDoor : (before after : DynBox I Global F) → (F before.vtable → Type 0) → Type 0
  HasDoor before after P = (door : F before.vtable) × (after ≡ record before { value = door }) × P door
