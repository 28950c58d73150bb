-- Entries in the order of arrival, as a list.
use Rattle.std.specs.Prelude.{◌≡◌, ℕ, List, Some, map, slice_get, if◌then◌else◌}
use Rattle.std.specs.List.{AllByRecursion}
use Rattle.lock_messages.specs.Ids.{IsClient}
use Rattle.lock_model.specs.declared.entries.Entry.{Entry}
use Rattle.lock_model.specs.ExactStations.{is_of, EachOnce}

-- the entry is of a client that there can be
abbrev pub HasClient : Entry → Type 0
HasClient e = IsClient e.client

-- each entry is of a client that there can be, and no client has two
pub record AreEntries (entries : List Entry) : Type 0 where
  pub once : EachOnce entries
  pub clients : AllByRecursion HasClient entries

-- the client's entry is at this place, counted from 0
abbrev pub IsPlaceOf : ℕ → List Entry → ℕ → Type 0
IsPlaceOf c entries place = (e : Entry) × (slice_get entries place ≡ Some e) × (e.client ≡ c)

-- the entries with this one in the place of its client's
abbrev pub replaced : Entry → List Entry → List Entry
replaced entry entries = map (λ e. if is_of entry.client e then entry else e) entries
