-- What follows from the definitions, as statements; each is proved as the contract of a function of
-- `laws`.
use Rattle.std.specs.Prelude.{◌≡◌, ℕ, ◌+◌, ◌%◌, ◌≤◌, List, [], ◌∷◌, ◌++◌, length, Option, None}
use Rattle.std.specs.List.{AllByRecursion}
use Rattle.lock_messages.specs.declared.ids.TheConstants.{MAX_CLIENTS, MAX_ATTEMPT}
use Rattle.lock_model.specs.declared.entries.Entry.{Entry}
use Rattle.lock_model.specs.ExactStations.{EachOnce}
use Rattle.stable_record.specs.declared.node_records.NodeRecord.{NodeRecord}
use Rattle.stable_record.specs.Lines.{Tickets}
use Rattle.stable_record.specs.Indexing.{IndexesWith}
use Rattle.stable_record.specs.Faulty.{Faulty, next_call}
use Rattle.stable_record.specs.Records.{IsEntry, IsNodeRecord, node_record_of, client_record_of}

-- Where the spellings of two records, each followed by any bytes, are the same bytes, the records
-- are the same, and so is what follows. So each record has one spelling, and no spelling begins
-- another.
abbrev pub OneSpelling : Type 0
OneSpelling = (r s : NodeRecord) (xs ys : List ℕ) → IsNodeRecord r → IsNodeRecord s →
    node_record_of r ++ xs ≡ node_record_of s ++ ys → (r ≡ s) × (xs ≡ ys)

-- the same of the records of clients
abbrev pub OneClientSpelling : Type 0
OneClientSpelling = (a b : ℕ) (xs ys : List ℕ) → a ≤ MAX_ATTEMPT → b ≤ MAX_ATTEMPT →
    client_record_of a ++ xs ≡ client_record_of b ++ ys → (a ≡ b) × (xs ≡ ys)

-- entries in range, of each client one at most, are no more than there are clients
abbrev pub EntriesAreFew : Type 0
EntriesAreFew = (entries : List Entry) → EachOnce entries → AllByRecursion IsEntry entries → length entries ≤ MAX_CLIENTS

-- The number of a failing device's next call leaves the same rest as one more than the number of the
-- last; so of any `every` calls in a row just one fails, however many there are.
abbrev pub CallsGoOn : Type 0
CallsGoOn = (f : Faulty) → next_call f % f.every ≡ (f.calls + 1) % f.every

-- An entry without a live ticket that comes behind the others leaves an index that of the entries.
abbrev pub StrangersLeaveTheIndex : Type 0
StrangersLeaveTheIndex = (a : Option (ℕ × List ℕ)) (lines : List (List ℕ × Tickets)) (entries : List Entry) (e : Entry) →
    e.live ≡ None → IndexesWith a lines entries → IndexesWith a lines (entries ++ e ∷ [])
