-- What a node knows of one resource: who holds it, and who waits for it.
use Rattle.std.specs.Prelude.{◌≡◌, ℕ, ◌+◌, ◌<◌, ◌&&◌, ◌||◌, ◌==◌, Bool, true, not, nat_lt, List, [], ◌∷◌, ◌++◌, Option, Some, None, map, filter, length, if◌then◌else◌}
use Rattle.std.specs.Map.{lookup}
use Rattle.std.specs.Str.{bytes_eq}
use Rattle.lock_messages.specs.declared.ids.TheConstants.{MAX_CLIENTS}
use Rattle.lock_messages.specs.declared.tickets.Mode.{Mode}
use Rattle.lock_messages.specs.declared.tickets.Mode.TheVariants.{Read, Write}
use Rattle.lock_model.specs.declared.entries.Entry.{Entry}
use Rattle.lock_model.specs.declared.entries.Live.{Live}
use Rattle.lock_model.specs.declared.problems.Problem.{Problem}
use Rattle.lock_model.specs.ExactStations.{is_waiting, is_holding, is_write, if_live, any_live, holds, writer_holds, writer_waits, admits_reader}

-- One resource's tickets: how many hold it, how many of these are writers', how many writers wait for
-- it, and the clients whose tickets wait, in the order of the entries. A softened ticket counts as a
-- reader's that holds.
pub record Tickets : Type 0 where
  pub holders : ℕ
  pub writing_holders : ℕ
  pub waiting_writers : ℕ
  pub waiting : List ℕ

-- the ticket is for the resource
abbrev pub is_for : List ℕ → Live → Bool
is_for x l = bytes_eq l.resource x

-- the ticket waits for the resource
abbrev pub waits_for : List ℕ → Live → Bool
waits_for x l = is_waiting l.status && bytes_eq l.resource x

-- how many live tickets pass the test
abbrev pub count_live : (Live → Bool) → List Entry → ℕ
count_live test entries = length (filter (λ e. if_live test e.live) entries)

-- the clients whose live tickets pass the test, in the order of the entries
abbrev pub clients_of : (Live → Bool) → List Entry → List ℕ
clients_of test entries = map (λ e. e.client) (filter (λ e. if_live test e.live) entries)

-- the tickets of the entries that are for the resource
abbrev pub tickets_for : List ℕ → List Entry → Tickets
tickets_for x entries = record {
  holders = count_live (holds x) entries;
  writing_holders = count_live (writer_holds x) entries;
  waiting_writers = count_live (writer_waits x) entries;
  waiting = clients_of (waits_for x) entries;
}

-- the same, where there is any
abbrev pub line_of : List Entry → List ℕ → Option Tickets
line_of entries x = if any_live (is_for x) entries then Some (tickets_for x entries) else None

-- what an index, as a list of resources with their tickets, has at the resource
abbrev pub line_in : List (List ℕ × Tickets) → List ℕ → Option Tickets
line_in lines x = lookup (bytes_eq x) lines

-- the index is that of the entries: each resource that has a live ticket is in it, with its tickets,
-- and no other is
abbrev pub Indexes : List (List ℕ × Tickets) → List Entry → Type 0
Indexes lines entries = (x : List ℕ) → line_in lines x ≡ line_of entries x

-- ---- what private functions owe one another

-- no tickets
abbrev pub no_tickets : Tickets
no_tickets = record { holders = 0; writing_holders = 0; waiting_writers = 0; waiting = [] }

-- the tickets of a line, or none
abbrev pub or_none : Option Tickets → Tickets
or_none None = no_tickets
or_none (Some t) = t

-- a ticket in this mode is admitted beside these
abbrev pub admitted_beside : Problem → Mode → Tickets → Bool
admitted_beside p Write t = not (nat_lt 0 t.holders)
admitted_beside p Read t = admits_reader p (nat_lt 0 t.writing_holders) (nat_lt 0 t.waiting_writers)

-- the ticket doesn't wait, or isn't admitted beside those of its line
abbrev pub waits_by_line : Problem → List (List ℕ × Tickets) → Option Live → Bool
waits_by_line p lines None = true
waits_by_line p lines (Some l) = not (is_waiting l.status) || not (admitted_beside p l.mode (or_none (line_in lines l.resource)))

-- the ticket isn't a writer's that holds, or is the only one of its line that holds
abbrev pub alone_by_line : List (List ℕ × Tickets) → Option Live → Bool
alone_by_line lines None = true
alone_by_line lines (Some l) = not (is_write l.mode && is_holding l.status) || (or_none (line_in lines l.resource)).holders == 1

-- the tickets with these numbers
abbrev pub tickets_with : ℕ → ℕ → ℕ → List ℕ → Tickets
tickets_with h w q cs = record { holders = h; writing_holders = w; waiting_writers = q; waiting = cs }

-- one more, where it is so
abbrev pub one_if : Bool → ℕ
one_if b = if b then 1 else 0

-- a client's ticket comes to those of its resource, behind those that wait
abbrev pub with_ticket : ℕ → Live → Tickets → Tickets
with_ticket c l t = record {
  holders = t.holders + one_if (is_holding l.status);
  writing_holders = t.writing_holders + one_if (is_write l.mode && is_holding l.status);
  waiting_writers = t.waiting_writers + one_if (is_write l.mode && is_waiting l.status);
  waiting = t.waiting ++ (if is_waiting l.status then c ∷ [] else []);
}

-- the index has in addition the ticket of this client
abbrev pub Joins : ℕ → Live → List (List ℕ × Tickets) → List (List ℕ × Tickets) → Type 0
Joins c l old new = (x : List ℕ) → line_in new x ≡ (if bytes_eq l.resource x then Some (with_ticket c l (or_none (line_in old l.resource))) else line_in old x)

-- there are fewer tickets of each kind than clients
pub record AreFew (t : Tickets) : Type 0 where
  pub holders : t.holders < MAX_CLIENTS
  pub writing_holders : t.writing_holders < MAX_CLIENTS
  pub waiting_writers : t.waiting_writers < MAX_CLIENTS
