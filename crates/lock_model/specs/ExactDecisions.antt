-- The decision of a node, exactly: the entries after a message, and the replies in their order.
use Rattle.std.specs.Prelude.{◌≢◌, ℕ, ◌-◌, ◌==◌, ◌&&◌, Bool, true, false, not, nat_le, nat_lt, List, [], ◌∷◌, ◌++◌, Option, Some, None, map, filter, if◌then◌else◌}
use Rattle.std.specs.Option.{option_eq}
use Rattle.std.specs.Str.{bytes_eq}
use Rattle.std.specs.Cmp.Lexicographic.{pointwise}
use Rattle.lock_messages.specs.declared.tickets.Mode.{Mode}
use Rattle.lock_messages.specs.declared.tickets.Mode.TheVariants.{Read, Write}
use Rattle.lock_messages.specs.declared.tickets.Ticket.{Ticket}
use Rattle.lock_messages.specs.declared.messages.Message.{Message}
use Rattle.lock_messages.specs.declared.messages.Message.TheVariants.{Request, Release, Grant, Busy, Over, Done, Muddled, Soften}
use Rattle.lock_messages.specs.declared.messages.Message.TheVariants as message
use Rattle.lock_model.specs.declared.entries.Entry.{Entry}
use Rattle.lock_model.specs.declared.entries.Live.{Live}
use Rattle.lock_model.specs.declared.entries.Status.{Status}
use Rattle.lock_model.specs.declared.entries.Status.TheVariants.{Waiting, Holding}
use Rattle.lock_model.specs.declared.entries.Status.TheVariants as status
use Rattle.lock_model.specs.declared.problems.Problem.{Problem}
use Rattle.lock_model.specs.declared.problems.Problem.TheVariants.{First, Second}
use Rattle.lock_model.specs.Stations.{asked_mode}
use Rattle.lock_model.specs.ExactStations.{is_of, knows, entry_of, is_write, is_waiting, is_holding, if_live, admits, settled}

-- what a decision leaves, and what it says
pub record Outcome : Type 0 where
  pub entries : List Entry
  pub replies : List Message

-- an entry with its attempts up to a ended
abbrev pub ended_entry : ℕ → Entry → Entry
ended_entry a e = if nat_lt e.floor a then record { client = e.client; floor = a; live = None } else e

-- The entries with the client's attempts up to a ended. A stranger's entry comes at the end.
abbrev pub ended : ℕ → ℕ → List Entry → List Entry
ended c a entries =
    if knows c entries
    then map (λ e. if is_of c e then ended_entry a e else e) entries
    else entries ++ record { client = c; floor = a; live = None } ∷ []

-- the entries with this one at the end, in place of its client's
abbrev pub moved_last : Entry → List Entry → List Entry
moved_last entry entries = filter (λ e. not (is_of entry.client e)) entries ++ entry ∷ []

-- the Grant of a client's live ticket
abbrev pub grant_of : ℕ → ℕ → Option Live → List Message
grant_of n c None = []
grant_of n c (Some l) = Grant n (record { client = c; attempt = l.attempt; mode = l.mode; resource = l.resource }) ∷ []

-- the Grant of an entry whose ticket waited before and holds after
abbrev pub told : ℕ → Entry → Entry → List Message
told n before after = if if_live (λ l. is_waiting l.status) before.live && if_live (λ l. is_holding l.status) after.live then grant_of n after.client after.live else []

-- the Grants of all entries that settling made holders, in the order of the entries
abbrev pub grants : ℕ → List Entry → List Entry → List Message
grants n [] after = []
grants n (e ∷ es) [] = []
grants n (e ∷ es) (f ∷ fs) = told n e f ++ grants n es fs

-- both modes are one
abbrev pub same_mode : Mode → Mode → Bool
same_mode Read Read = true
same_mode Read Write = false
same_mode Write Read = false
same_mode Write Write = true

-- the reply to a ticket that is the live one, by its status
abbrev pub reply_by_status : ℕ → Ticket → Status → Message
reply_by_status n t Waiting = Busy n t
reply_by_status n t Holding = Grant n t
reply_by_status n t status.Softened = message.Softened n t.client t.attempt

-- the reply to a ticket whose attempt is the live one
abbrev pub live_reply : ℕ → Ticket → Live → Message
live_reply n t l =
    if same_mode (asked_mode l.mode l.status) t.mode && bytes_eq l.resource t.resource
    then reply_by_status n t l.status
    else Muddled n t.client t.attempt

-- the reply to a ticket whose attempt is the live one, if it is
abbrev pub reply_of_live : ℕ → Ticket → Option Live → Option Message
reply_of_live n t None = None
reply_of_live n t (Some l) = if l.attempt == t.attempt then Some (live_reply n t l) else None

-- the floor and the live ticket of the client that has this entry, or none
abbrev pub floor_in : Option Entry → ℕ
floor_in None = 0
floor_in (Some e) = e.floor

abbrev pub live_in : Option Entry → Option Live
live_in None = None
live_in (Some e) = e.live

-- the reply to a ticket that the node has met before, by its client's entry; none for a new one
abbrev pub reply_to_known : ℕ → Ticket → Option Entry → Option Message
reply_to_known n t found = if nat_le t.attempt (floor_in found) then Some (Over n t.client t.attempt) else reply_of_live n t (live_in found)

-- the entry of a ticket that is taken up, which holds where it is admitted
abbrev pub new_entry : Ticket → Bool → Entry
new_entry t admitted = record {
  client = t.client;
  floor = t.attempt - 1;
  live = Some (record { attempt = t.attempt; mode = t.mode; resource = t.resource; status = if admitted then Holding else Waiting });
}

-- a new ticket is taken up: the attempts before it end, the others settle, and then it is admitted or waits
abbrev pub takes_up : ℕ → Problem → List Entry → Ticket → Outcome
takes_up n p entries t =
    let before = ended t.client (t.attempt - 1) entries in
    let after = settled p before in
    let admitted = admits p t.mode t.resource after in
    record {
      entries = moved_last (new_entry t admitted) after;
      replies = (if admitted then Grant n t else Busy n t) ∷ grants n before after;
    }

-- a ticket that isn't new is answered, and nothing changes
abbrev pub answered : ℕ → Problem → List Entry → Ticket → Option Message → Outcome
answered n p entries t None = takes_up n p entries t
answered n p entries t (Some reply) = record { entries = entries; replies = reply ∷ [] }

-- the client's attempts up to a end, and the others settle
abbrev pub releases : ℕ → Problem → List Entry → ℕ → ℕ → Outcome
releases n p entries c a =
    let before = ended c a entries in
    let after = settled p before in
    record { entries = after; replies = Done n c a ∷ grants n before after }

-- A writer's live ticket once it is softened, by its status: who holds is a reader that does, and of who
-- waits nothing is left.
abbrev pub softened_writer : Live → Status → Option Live
softened_writer l Waiting = None
softened_writer l Holding = Some (record l { mode = Read; status = status.Softened })
softened_writer l status.Softened = Some l

-- a live ticket once attempt a is softened
abbrev pub softened_live : ℕ → Live → Option Live
softened_live a l = if (l.attempt == a) && is_write l.mode then softened_writer l l.status else Some l

abbrev pub softened_in : ℕ → Option Live → Option Live
softened_in a None = None
softened_in a (Some l) = softened_live a l

-- an entry with its attempt a softened
abbrev pub softened_entry : ℕ → Entry → Entry
softened_entry a e = record { client = e.client; floor = e.floor; live = softened_in a e.live }

-- the entries with the client's attempt a softened: each stays where it is, and none is added
abbrev pub softened : ℕ → ℕ → List Entry → List Entry
softened c a entries = map (λ e. if is_of c e then softened_entry a e else e) entries

-- the client's attempt a is softened, and the others settle
abbrev pub softens : ℕ → Problem → List Entry → ℕ → ℕ → Outcome
softens n p entries c a =
    let before = softened c a entries in
    let after = settled p before in
    record { entries = after; replies = message.Softened n c a ∷ grants n before after }

-- the node takes another problem, and all settle under it
abbrev pub switches : ℕ → Problem → List Entry → Outcome
switches n p entries = record { entries = settled p entries; replies = grants n entries (settled p entries) }

-- The decision on a message. What is for a client changes nothing and has no reply.
-- A new ticket's entry comes last, and so does the entry that a release of an unknown client adds. No other change moves
-- an entry, and none is taken out. The replies are the sender's first, then the Grants in the order of the entries.
abbrev pub decision : Problem → List Entry → Message → Outcome
decision p entries (Request n t) = answered n p entries t (reply_to_known n t (entry_of entries t.client))
decision p entries (Release n c a) = releases n p entries c a
decision p entries (Grant n t) = record { entries = entries; replies = [] }
decision p entries (Busy n t) = record { entries = entries; replies = [] }
decision p entries (Over n c a) = record { entries = entries; replies = [] }
decision p entries (Done n c a) = record { entries = entries; replies = [] }
decision p entries (Muddled n c a) = record { entries = entries; replies = [] }
decision p entries (Soften n c a) = softens n p entries c a
decision p entries (message.Softened n c a) = record { entries = entries; replies = [] }

-- the decision changes the record: the entries, or their order
abbrev pub Changes : Problem → List Entry → Message → Type 0
Changes p entries message = (decision p entries message).entries ≢ entries

-- the same as a test, which compares the entries one by one
abbrev pub same_status : Status → Status → Bool
same_status Waiting Waiting = true
same_status Waiting Holding = false
same_status Waiting status.Softened = false
same_status Holding Waiting = false
same_status Holding Holding = true
same_status Holding status.Softened = false
same_status status.Softened Waiting = false
same_status status.Softened Holding = false
same_status status.Softened status.Softened = true

abbrev pub same_live : Live → Live → Bool
same_live a b = (a.attempt == b.attempt) && (same_mode a.mode b.mode && (bytes_eq a.resource b.resource && same_status a.status b.status))

abbrev pub same_entry : Entry → Entry → Bool
same_entry a b = (a.client == b.client) && ((a.floor == b.floor) && option_eq same_live a.live b.live)

abbrev pub same_entries : List Entry → List Entry → Bool
same_entries = pointwise same_entry

abbrev pub changes : Problem → List Entry → Message → Bool
changes p entries message = not (same_entries entries (decision p entries message).entries)

-- both problems are one
abbrev pub same_problem : Problem → Problem → Bool
same_problem First First = true
same_problem First Second = false
same_problem Second First = false
same_problem Second Second = true
