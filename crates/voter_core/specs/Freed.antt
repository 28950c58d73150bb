-- What a node has to settle: the tickets of the resource of a ticket that ended or was softened. No other
-- waits in vain.
use Rattle.std.specs.Prelude.{◌≡◌, ℕ, ◌-◌, ◌==◌, ◌&&◌, Bool, true, false, List, Option, Some, None, nat_lt, if◌then◌else◌}
use Rattle.std.specs.List.{AllByRecursion}
use Rattle.std.specs.Option.{option_map}
use Rattle.lock_messages.specs.declared.messages.Message.{Message}
use Rattle.lock_messages.specs.declared.messages.Message.TheVariants.{Request, Release, Grant, Busy, Over, Done, Muddled, Soften}
use Rattle.lock_messages.specs.declared.messages.Message.TheVariants as message
use Rattle.lock_model.specs.declared.entries.Entry.{Entry}
use Rattle.lock_model.specs.declared.entries.Live.{Live}
use Rattle.lock_model.specs.declared.entries.Status.{Status}
use Rattle.lock_model.specs.declared.entries.Status.TheVariants.{Waiting, Holding, Softened}
use Rattle.lock_model.specs.declared.problems.Problem.{Problem}
use Rattle.lock_model.specs.ExactStations.{entry_of, is_write, if_live, settled_entry}
use Rattle.lock_model.specs.ExactDecisions.{live_in}
use Rattle.stable_record.specs.Lines.{is_for, waits_for, count_live}

-- the resource of the ticket that ends with the client's attempts up to a, if one does
abbrev pub freed : ℕ → Option Entry → Option (List ℕ)
freed a None = None
freed a (Some e) = if nat_lt e.floor a then option_map (λ l. l.resource) e.live else None

-- a ticket of this status waits or holds as it was asked for
abbrev pub is_as_asked : Status → Bool
is_as_asked Waiting = true
is_as_asked Holding = true
is_as_asked Softened = false

-- softening attempt a changes the ticket: it is a writer's of that attempt, as it was asked for
abbrev pub is_softened_by : ℕ → Live → Bool
is_softened_by a l = ((l.attempt == a) && is_write l.mode) && is_as_asked l.status

-- the resource of the ticket that is softened with attempt a, if one is
abbrev pub freed_by_softening : ℕ → Option Live → Option (List ℕ)
freed_by_softening a None = None
freed_by_softening a (Some l) = if is_softened_by a l then Some l.resource else None

-- the ticket is for the freed resource
abbrev pub is_freed : Option (List ℕ) → Live → Bool
is_freed None l = false
is_freed (Some x) l = is_for x l

-- no ticket but those for the freed resource would settle among the entries
-- Private functions promise it to one another. It follows from a caused station.
abbrev pub OthersStay : Problem → Option (List ℕ) → List Entry → Type 0
OthersStay p freed entries = AllByRecursion (λ e. if_live (is_freed freed) e.live ≡ false → settled_entry p entries e ≡ e) entries

-- the resource of the ticket that ends or is softened where the message is taken, if one does
abbrev pub freed_by : List Entry → Message → Option (List ℕ)
freed_by entries (Request n t) = freed (t.attempt - 1) (entry_of entries t.client)
freed_by entries (Release n c a) = freed a (entry_of entries c)
freed_by entries (Grant n t) = None
freed_by entries (Busy n t) = None
freed_by entries (Over n c a) = None
freed_by entries (Done n c a) = None
freed_by entries (Muddled n c a) = None
freed_by entries (Soften n c a) = freed_by_softening a (live_in (entry_of entries c))
freed_by entries (message.Softened n c a) = None

-- how many tickets wait for the freed resource: no more than these are told a Grant
abbrev pub waiting_for : Option (List ℕ) → List Entry → ℕ
waiting_for None entries = 0
waiting_for (Some x) entries = count_live (waits_for x) entries
