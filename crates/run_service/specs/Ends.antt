-- What a run of the service comes to, and how it is told.
use Rattle.std.specs.Prelude.{ℕ, Bool, true, false, List, [], ◌∷◌, ◌++◌, length, codes}
use Rattle.std.specs.List.{flat_map}
use Rattle.std.specs.Fmt.{decimal}
use Rattle.lock_messages.specs.declared.ids.Actor.{Actor}
use Rattle.lock_messages.specs.Texts.{actor_text}
use Rattle.world_model.specs.declared.events.Effect.{Effect}
use Rattle.world_model.specs.declared.events.Event.{Event}
use Rattle.world_model.specs.declared.exact.ExactWorld.{ExactWorld}
use Rattle.world_model.specs.Exclusion.{IsExclusive}
use Rattle.world_model.specs.Forgetting.{forget}
use Rattle.world_model.specs.Locality.{IsHistory, IsRunOf}
use Rattle.event_recorders.specs.declared.faults.RunFault.{RunFault}
use Rattle.event_recorders.specs.Faults.{run_fault_number}
use Rattle.event_lines.specs.declared.wishes.Wish.{Wish}
use Rattle.history_book.specs.Books.{enters}
use Rattle.journal_text.specs.Journals.{history_text}
use Rattle.node_threads.specs.Faults.{AreFaults}
use Rattle.node_threads.specs.Wishes.{AllDidAsWished}
use Rattle.world_settings.specs.declared.settings.Settings.{Settings}
use Rattle.world_settings.specs.Openings.{all_down}

-- The history of a run, the world that this leaves, and the actors that ended by a fault, nodes first.
pub record End : Type 0 where
  pub history : List (Event × Effect)
  pub world : ExactWorld
  pub faults : List (Actor × RunFault)

-- The history begins with the world of the settings, in which all are down and nothing is kept. Each of
-- its events may happen where it stands, so it is a run of the sets and maps too, and in the world that it
-- leaves a writer inside a resource is there alone. Who ended by a fault is told once, in order, nodes
-- first, each by a fault by which its thread may end. Each client began and entered its own wishes alone, in
-- order, and all of them unless it ended by a fault.
pub record IsEndOf (s : Settings) (wishes : List Wish) (e : End) : Type 0 where
  pub history : IsHistory (all_down s) e.history e.world
  pub run : IsRunOf (all_down s) e.history e.world
  pub exclusive : IsExclusive (forget e.world)
  pub faults : AreFaults (all_down s) e.faults
  pub wished : AllDidAsWished (all_down s) e.history wishes e.faults

-- `c2 fault 913`
abbrev pub fault_line : Actor × RunFault → List ℕ
fault_line p = actor_text p.0 ++ codes " fault " ++ decimal (run_fault_number p.1) ++ codes "\n"

-- `entered 1` and `events 36`
abbrev pub counts_text : ℕ → ℕ → List ℕ
counts_text entered events = codes "entered " ++ decimal entered ++ codes "\nevents " ++ decimal events ++ codes "\n"

-- how many Enters the history has, how many events, and a line for each that ended by a fault
abbrev pub end_text : List (Event × Effect) → List (Actor × RunFault) → List ℕ
end_text history faults = counts_text (enters history) (length history) ++ flat_map fault_line faults

-- the settings as they were read, the line that ends them, and the journal
abbrev pub journal_behind : List ℕ → List (Event × Effect) → List ℕ
journal_behind head history = head ++ codes "---\n" ++ history_text history

-- what is told of the end, or its journal
abbrev pub run_text : Bool → List ℕ → End → List ℕ
run_text false head e = end_text e.history e.faults
run_text true head e = journal_behind head e.history

-- 1 where any ended by a fault
abbrev pub end_status : List (Actor × RunFault) → ℕ
end_status [] = 0
end_status (p ∷ ps) = 1
