-- How an index goes with the entries of a node while these change.
use Rattle.std.specs.Prelude.{◌≡◌, ℕ, ◌+◌, ◌-◌, ◌≤◌, ◌==◌, ◌&&◌, Bool, List, [], ◌∷◌, ◌++◌, length, take, Option, Some, None, IfSome, if◌then◌else◌}
use Rattle.std.specs.Option.{option_map}
use Rattle.std.specs.Str.{bytes_eq}
use Rattle.lock_messages.specs.declared.ids.TheConstants.{MAX_CLIENTS}
use Rattle.lock_messages.specs.declared.tickets.Mode.{Mode}
use Rattle.lock_messages.specs.declared.tickets.Mode.TheVariants.{Read}
use Rattle.lock_model.specs.declared.entries.Entry.{Entry}
use Rattle.lock_model.specs.declared.entries.Live.{Live}
use Rattle.lock_model.specs.declared.entries.Status.TheVariants.{Waiting, Softened}
use Rattle.lock_model.specs.ExactStations.{entry_of, EachOnce, promoted, is_waiting, is_holding, is_write}
use Rattle.stable_record.specs.Lines.{Tickets, Indexes, line_in, one_if}

-- the ticket of a client that is announced for the resource: it counts nowhere, but waits behind the
-- others as a reader does
-- So an announcement changes no answer of the index.
abbrev pub announced_ticket : List ℕ → Live
announced_ticket x = record { attempt = 1; mode = Read; resource = x; status = Waiting }

-- the entry of such a client, with its number and the resource
abbrev pub announced_entry : ℕ × List ℕ → Entry
announced_entry a = record { client = a.0; floor = 0; live = Some (announced_ticket a.1) }

-- the entries, and behind them that of the client that is announced, if one is
abbrev pub with_announced : Option (ℕ × List ℕ) → List Entry → List Entry
with_announced None entries = entries
with_announced (Some a) entries = entries ++ announced_entry a ∷ []

-- the index is that of the entries, and has this client announced for this resource, if one is
abbrev pub IndexesWith : Option (ℕ × List ℕ) → List (List ℕ × Tickets) → List Entry → Type 0
IndexesWith a lines entries = Indexes lines (with_announced a entries)

-- the entry is its client's among the entries of a node
pub record IsEntryAmong (e : Entry) (entries : List Entry) : Type 0 where
  pub once : EachOnce entries
  pub few : length entries ≤ MAX_CLIENTS
  pub found : entry_of entries e.client ≡ Some e

-- the client has no live ticket among the entries of a node
pub record HasNoTicket (c : ℕ) (entries : List Entry) : Type 0 where
  pub once : EachOnce entries
  pub few : length entries ≤ MAX_CLIENTS
  pub none : IfSome (entry_of entries c) (λ e. e.live ≡ None)

-- the entry with its live ticket ended, and this floor
abbrev pub without_live : ℕ → Entry → Entry
without_live floor e = record { client = e.client; floor = floor; live = None }

-- the entry with its live ticket, if it has one, holding
abbrev pub with_holding : Entry → Entry
with_holding e = record { client = e.client; floor = e.floor; live = option_map promoted e.live }

-- a writer's ticket that holds is a softened reader's; any other stays as it is
abbrev pub softened_holder : Live → Live
softened_holder l = if is_write l.mode && is_holding l.status then record l { mode = Read; status = Softened } else l

-- the entry with its live ticket softened, if that is a writer's that holds
abbrev pub with_softened : Entry → Entry
with_softened e = record { client = e.client; floor = e.floor; live = option_map softened_holder e.live }

-- ---- what private functions owe one another

-- without the first of these numbers that is c
abbrev pub without_first : ℕ → List ℕ → List ℕ
without_first c [] = []
without_first c (d ∷ ds) = if d == c then ds else d ∷ without_first c ds

-- a client's ticket goes from those of its resource
abbrev pub without_ticket : ℕ → Live → Tickets → Tickets
without_ticket c l t = record {
  holders = t.holders - one_if (is_holding l.status);
  writing_holders = t.writing_holders - one_if (is_write l.mode && is_holding l.status);
  waiting_writers = t.waiting_writers - one_if (is_write l.mode && is_waiting l.status);
  waiting = if is_waiting l.status then without_first c t.waiting else t.waiting;
}

-- a ticket in this mode comes to those that hold
abbrev pub with_holder : Mode → Tickets → Tickets
with_holder m t = record {
  holders = t.holders + 1;
  writing_holders = t.writing_holders + one_if (is_write m);
  waiting_writers = t.waiting_writers;
  waiting = t.waiting;
}

-- a client's ticket holds, if it waited
abbrev pub with_promoted : ℕ → Live → Tickets → Tickets
with_promoted c l t = if is_waiting l.status then with_holder l.mode (without_ticket c l t) else t

-- a writer's ticket that holds is a reader's that does
abbrev pub with_softened_holder : Live → Tickets → Tickets
with_softened_holder l t = record {
  holders = t.holders;
  writing_holders = t.writing_holders - one_if (is_write l.mode && is_holding l.status);
  waiting_writers = t.waiting_writers;
  waiting = t.waiting;
}

-- the last that waits goes
abbrev pub without_last : Tickets → Tickets
without_last t = record {
  holders = t.holders;
  writing_holders = t.writing_holders;
  waiting_writers = t.waiting_writers;
  waiting = take (length t.waiting - 1) t.waiting;
}

-- the last that waits is this ticket's client: it holds, or is counted
abbrev pub with_confirmed : Live → Tickets → Tickets
with_confirmed l t = if is_holding l.status then with_holder l.mode (without_last t) else record {
  holders = t.holders;
  writing_holders = t.writing_holders;
  waiting_writers = t.waiting_writers + one_if (is_write l.mode);
  waiting = t.waiting;
}

-- there are no tickets
abbrev pub is_no_tickets : Tickets → Bool
is_no_tickets t = (t.holders == 0) && (length t.waiting == 0)

-- a line, unless it has no tickets
abbrev pub unless_empty : Option Tickets → Option Tickets
unless_empty None = None
unless_empty (Some t) = if is_no_tickets t then None else Some t

-- the index has this line at the resource, and elsewhere what it had
abbrev pub Puts : List ℕ → Option Tickets → List (List ℕ × Tickets) → List (List ℕ × Tickets) → Type 0
Puts x line old new = (y : List ℕ) → line_in new y ≡ (if bytes_eq x y then line else line_in old y)

-- each count is at most one above the number of clients
pub record AreCounted (t : Tickets) : Type 0 where
  pub holders : t.holders ≤ MAX_CLIENTS + 1
  pub writing_holders : t.writing_holders ≤ MAX_CLIENTS + 1
  pub waiting_writers : t.waiting_writers ≤ MAX_CLIENTS + 1
