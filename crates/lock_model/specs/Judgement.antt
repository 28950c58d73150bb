-- Whether a list of entries is that of a lawful and of a caused station, as tests.
use Rattle.std.specs.Prelude.{ℕ, Bool, true, not, ◌&&◌, ◌||◌, List, Option, Some, None}
use Rattle.std.specs.List.{list_all}
use Rattle.lock_model.specs.declared.entries.Entry.{Entry}
use Rattle.lock_model.specs.declared.entries.Live.{Live}
use Rattle.lock_model.specs.declared.problems.Problem.{Problem}
use Rattle.lock_model.specs.ExactStations.{is_of, is_write, is_waiting, is_holding, if_live, holds, admits}

-- no ticket but this client's holds the resource
abbrev pub is_only_holder : List Entry → ℕ → List ℕ → Bool
is_only_holder entries c x = list_all (λ e. is_of c e || not (if_live (holds x) e.live)) entries

-- the client's ticket isn't a writer's that holds, or is the only holder of its resource
abbrev pub leaves_alone : List Entry → ℕ → Option Live → Bool
leaves_alone entries c None = true
leaves_alone entries c (Some l) = not (is_write l.mode && is_holding l.status) || is_only_holder entries c l.resource

-- each writer that holds a resource is its only holder
abbrev pub is_lawful : List Entry → Bool
is_lawful entries = list_all (λ e. leaves_alone entries e.client e.live) entries

-- the ticket doesn't wait, or isn't admitted
abbrev pub has_cause : Problem → List Entry → Option Live → Bool
has_cause p entries None = true
has_cause p entries (Some l) = not (is_waiting l.status) || not (admits p l.mode l.resource entries)

-- each ticket that waits has a cause
abbrev pub is_caused : Problem → List Entry → Bool
is_caused p entries = list_all (λ e. has_cause p entries e.live) entries
