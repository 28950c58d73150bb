-- Stations as a node keeps them: entries in the order in which tickets arrived, and settling over them.
use Rattle.std.specs.Prelude.{◌≡◌, ℕ, ◌+◌, ◌==◌, ◌&&◌, Bool, true, false, not, List, [], ◌∷◌, ◌++◌, Option, Some, None, IfSome, find, map, if◌then◌else◌}
use Rattle.std.specs.List.{AllByRecursion, list_any}
use Rattle.std.specs.Option.{option_map}
use Rattle.std.specs.Str.{bytes_eq}
use Rattle.lock_messages.specs.declared.tickets.Mode.{Mode}
use Rattle.lock_messages.specs.declared.tickets.Mode.TheVariants.{Read, Write}
use Rattle.lock_model.specs.declared.entries.Entry.{Entry}
use Rattle.lock_model.specs.declared.entries.Live.{Live}
use Rattle.lock_model.specs.declared.entries.Status.{Status}
use Rattle.lock_model.specs.declared.entries.Status.TheVariants.{Waiting, Holding, Softened}
use Rattle.lock_model.specs.declared.problems.Problem.{Problem}
use Rattle.lock_model.specs.declared.problems.Problem.TheVariants.{First, Second}
use Rattle.lock_model.specs.Stations.{Claim, Free, Has, Standing, Station, stranger}
use Rattle.lock_model.specs.Decisions.{Among}

-- the entry is this client's
abbrev pub is_of : ℕ → Entry → Bool
is_of c e = e.client == c

-- some entry is this client's
abbrev pub knows : ℕ → List Entry → Bool
knows c entries = list_any (is_of c) entries

-- the client's entry
abbrev pub entry_of : List Entry → ℕ → Option Entry
entry_of entries c = find (is_of c) entries

-- What an entry says of its client. A live ticket is the client's claim; its attempt isn't told,
-- since it is the one above the floor.
abbrev pub claim_of : Option Live → Claim
claim_of None = Free
claim_of (Some l) = Has l.mode l.resource l.status

abbrev pub standing_of : Option Entry → Standing
standing_of None = stranger
standing_of (Some e) = record { floor = e.floor; claim = claim_of e.live }

-- the station that the entries stand for: a client without an entry is a stranger
abbrev pub meaning : Problem → List Entry → Station
meaning p entries = record { problem = p; at = λ c. standing_of (entry_of entries c) }

-- no client has two entries
abbrev pub EachOnce : List Entry → Type 0
EachOnce [] = Unit {0}
EachOnce (e ∷ es) = (knows e.client es ≡ false) × EachOnce es

-- the attempt of a live ticket is one above the floor
abbrev pub IsAboveFloor : Entry → Type 0
IsAboveFloor e = IfSome e.live (λ l. l.attempt ≡ e.floor + 1)

-- a softened ticket is a reader's
abbrev pub IsReaderIfSoftened : Entry → Type 0
IsReaderIfSoftened e = IfSome e.live (λ l. l.status ≡ Softened → l.mode ≡ Read)

-- the entries are those of a station
pub record IsWellFormed (entries : List Entry) : Type 0 where
  pub once : EachOnce entries
  pub attempts : AllByRecursion IsAboveFloor entries
  pub softened : AllByRecursion IsReaderIfSoftened entries

abbrev pub is_write : Mode → Bool
is_write Read = false
is_write Write = true

abbrev pub is_waiting : Status → Bool
is_waiting Waiting = true
is_waiting Holding = false
is_waiting Softened = false

abbrev pub is_holding : Status → Bool
is_holding Waiting = false
is_holding Holding = true
is_holding Softened = true

-- the entry has a live ticket that passes the test
abbrev pub if_live : (Live → Bool) → Option Live → Bool
if_live test None = false
if_live test (Some l) = test l

-- some live ticket passes the test
abbrev pub any_live : (Live → Bool) → List Entry → Bool
any_live test entries = list_any (λ e. if_live test e.live) entries

-- the ticket holds the resource
abbrev pub holds : List ℕ → Live → Bool
holds x l = is_holding l.status && bytes_eq l.resource x

-- the ticket is a writer's that holds the resource
abbrev pub writer_holds : List ℕ → Live → Bool
writer_holds x l = is_write l.mode && holds x l

-- the ticket is a writer's that waits for the resource
abbrev pub writer_waits : List ℕ → Live → Bool
writer_waits x l = is_write l.mode && (is_waiting l.status && bytes_eq l.resource x)

-- the rule by which a reader is admitted, where a writer holds the resource and where one waits
abbrev pub admits_reader : Problem → Bool → Bool → Bool
admits_reader First holding waiting = not holding
admits_reader Second holding waiting = not holding && not waiting

-- a ticket in this mode for this resource is admitted: a writer where no one holds it, a reader by
-- the rule
abbrev pub admits : Problem → Mode → List ℕ → List Entry → Bool
admits p Write x entries = not (any_live (holds x) entries)
admits p Read x entries = admits_reader p (any_live (writer_holds x) entries) (any_live (writer_waits x) entries)

-- the ticket, holding
abbrev pub promoted : Live → Live
promoted l = record l { status = Holding }

-- the entry, holding where its client is chosen
abbrev pub with_choice : (ℕ → Bool) → Entry → Entry
with_choice chosen e = if chosen e.client then record { client = e.client; floor = e.floor; live = option_map promoted e.live } else e

-- the entries in which the tickets of the chosen clients hold
abbrev pub with_holders : (ℕ → Bool) → List Entry → List Entry
with_holders chosen entries = map (with_choice chosen) entries

-- The clients that settling makes holders: each is one whose ticket waits, and a waiting ticket's
-- client is one of them exactly where the ticket is admitted among the entries in which those before
-- it that are chosen hold already.
pub record IsSettling (p : Problem) (entries : List Entry) (chosen : ℕ → Bool) : Type 0 where
  pub waits : (c : ℕ) → chosen c ≡ true → (e : Entry) × (l : Live) × Among e entries × (e.client ≡ c) × (e.live ≡ Some l) × (l.status ≡ Waiting)
  pub exact : (before after : List Entry) (e : Entry) (l : Live) → entries ≡ before ++ e ∷ after → e.live ≡ Some l → l.status ≡ Waiting → chosen e.client ≡ admits p l.mode l.resource (with_holders chosen before ++ e ∷ after)

-- a live ticket, and an entry, once it has been their turn to settle among these entries
abbrev pub settled_live : Problem → List Entry → Live → Live
settled_live p entries l = if is_waiting l.status && admits p l.mode l.resource entries then promoted l else l

abbrev pub settled_entry : Problem → List Entry → Entry → Entry
settled_entry p entries e = record e { live = option_map (settled_live p entries) e.live }

-- the entries, settled one after the other behind a front that has settled
abbrev pub settle : Problem → List Entry → List Entry → List Entry
settle p front [] = []
settle p front (e ∷ rest) = let f = settled_entry p (front ++ e ∷ rest) e in f ∷ settle p (front ++ f ∷ []) rest

abbrev pub settled : Problem → List Entry → List Entry
settled p entries = settle p [] entries

-- the client of this entry waits in it
abbrev pub waits_in : Option Entry → Bool
waits_in None = false
waits_in (Some e) = if_live (λ l. is_waiting l.status) e.live

-- the client of this entry holds in it
abbrev pub holds_in : Option Entry → Bool
holds_in None = false
holds_in (Some e) = if_live (λ l. is_holding l.status) e.live

-- the clients whose tickets wait before and hold after
abbrev pub new_holders : List Entry → List Entry → ℕ → Bool
new_holders before after c = waits_in (entry_of before c) && holds_in (entry_of after c)
