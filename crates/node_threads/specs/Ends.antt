-- How the threads of a run may end.
use Rattle.std.specs.Prelude.{◌≡◌, ◌≤◌, ℕ, List, length, map, All, IfSome, IfNone, Option}
use Rattle.std.specs.Option.{option_map}
use Rattle.berth_seats.specs.Views.{TableId}
use Rattle.lock_messages.specs.declared.ids.Actor.{Actor}
use Rattle.lock_messages.specs.declared.ids.Actor.TheVariants as actor
use Rattle.event_recorders.specs.declared.faults.RunFault.{RunFault}
use Rattle.event_lines.specs.declared.wishes.Wish.{Wish}
use Rattle.event_recorders.specs.OwnLogs.{part_now}
use Rattle.book_recorders.specs.Sharing.{log_of}
use Rattle.client_loop.specs.Endings.{IsOutside}
use Rattle.client_loop.specs.Visits.{HasBegun, HasEntered, HasSoftened}
use Rattle.node_loop.specs.Standing.{IsNodeFault}
use Rattle.node_threads.specs.declared.ends.NodeEnd.{NodeEnd}
use Rattle.node_threads.specs.declared.ends.ClientEnd.{ClientEnd}

-- A node that ended by a fault ended by one of a node's.
abbrev pub IsNodeEnd : NodeEnd → Type 0
IsNodeEnd e = IfSome e.fault IsNodeFault

-- A client that ended without a fault entered all its wishes, and none entered more than it has. Its log is
-- its berth's; it begins nothing but what it wishes, and enters so many of its wishes, in order; without a
-- fault it softens just those that say so, and is outside at its end.
pub record IsClientEnd (e : ClientEnd) : Type 0 where
  pub all : IfNone e.fault (e.entered ≡ length e.wishes.items)
  pub few : e.entered ≤ length e.wishes.items
  pub begun : HasBegun (actor.Client e.client) e.wishes.items (log_of e.berth)
  pub entries : HasEntered e.wishes.items e.entered (log_of e.berth)
  pub softened : IfNone e.fault (HasSoftened e.wishes.items e.entered (log_of e.berth))
  pub outside : IfNone e.fault (IsOutside (part_now (log_of e.berth)))

-- the ends of just these nodes, in order
pub record AreNodeEnds (nodes : List ℕ) (ends : List NodeEnd) : Type 0 where
  pub named : map (λ e. e.node) ends ≡ nodes
  pub each : All IsNodeEnd ends

-- a client with the wishes that it was given, and the table of the book whose berth it was given
abbrev pub with_wishes : ℕ → List Wish → TableId → ℕ × List Wish × TableId
with_wishes c wishes book = (c, wishes, book)

abbrev pub client_in : ClientEnd → ℕ × List Wish × TableId
client_in e = with_wishes e.client e.wishes.items e.berth.table

-- the ends of just these clients with these wishes and with berths of these books, in order
pub record AreClientEnds (clients : List (ℕ × List Wish × TableId)) (ends : List ClientEnd) : Type 0 where
  pub named : map client_in ends ≡ clients
  pub each : All IsClientEnd ends

-- the actor with the fault by which it ended, if it did
abbrev pub node_fault : NodeEnd → Option (Actor × RunFault)
node_fault e = option_map (λ f. (actor.Node e.node, f)) e.fault

abbrev pub client_fault : ClientEnd → Option (Actor × RunFault)
client_fault e = option_map (λ f. (actor.Client e.client, f)) e.fault
