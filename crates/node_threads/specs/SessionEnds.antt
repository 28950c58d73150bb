-- How the sessions of all clients ended.
use Rattle.std.specs.Prelude.{◌≡◌, ℕ, List, map, All, Option}
use Rattle.std.specs.List.{range_with_len}
use Rattle.std.specs.Option.{option_map}
use Rattle.berth_seats.specs.Views.{TableId}
use Rattle.lock_messages.specs.declared.ids.Actor.{Actor}
use Rattle.lock_messages.specs.declared.ids.Actor.TheVariants as actor
use Rattle.event_recorders.specs.declared.faults.RunFault.{RunFault}
use Rattle.node_threads.specs.declared.session_ends.SessionEnd.{SessionEnd}
use Rattle.node_threads.specs.Sessions.{IsSessionEnd}

module _ {S : Type 0} where
  -- the client with the fault by which its session ended, if it did
  abbrev pub session_fault : SessionEnd S → Option (Actor × RunFault)
  session_fault e = option_map (λ f. (actor.Client e.client, f)) e.fault

  -- Ends of so many clients, one of each and in order, with berths of the book of this table.
  pub record AreSessionEnds (finds : S → List (List ℕ)) (book : TableId) (count : ℕ) (ends : List (SessionEnd S)) : Type 0 where
    pub clients : map (λ e. e.client) ends ≡ range_with_len 1 count
    pub tables : All (λ e. e.berth.table ≡ book) ends
    pub each : All (λ e. IsSessionEnd e.client e.fault e.berth (finds e.stable)) ends
