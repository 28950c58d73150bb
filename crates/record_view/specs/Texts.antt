-- How a record's file is printed.
use Rattle.std.specs.Prelude.{◌≡◌, ◌≢◌, ◌⊎◌, ◌≤◌, ◌==◌, ℕ, List, ◌++◌, length, Option, Some, None, if◌then◌else◌, codes, string_bytes}
use Rattle.std.specs.List.{flat_map}
use Rattle.std.specs.Fmt.{decimal}
use Rattle.lock_messages.specs.declared.ids.TheConstants.{MAX_ATTEMPT}
use Rattle.lock_messages.specs.Texts.{client_text, mode_text}
use Rattle.lock_model.specs.declared.entries.Entry.{Entry}
use Rattle.lock_model.specs.declared.entries.Live.{Live}
use Rattle.lock_model.specs.declared.entries.Status.{Status}
use Rattle.lock_model.specs.declared.entries.Status.TheVariants.{Waiting, Holding, Softened}
use Rattle.lock_model.specs.declared.problems.Problem.{Problem}
use Rattle.lock_model.specs.declared.problems.Problem.TheVariants as problem
use Rattle.stable_record.specs.declared.node_records.NodeRecord.{NodeRecord}
use Rattle.stable_record.specs.Records.{client_record_of, node_record_of, IsNodeRecord}
use Rattle.slot_record.specs.Images.{Image}
use Rattle.slot_record.specs.declared.slots.TheConstants.{OPEN, LEAST_PLATE_LEN}
use Rattle.slot_record.specs.declared.slots.Slot as two_slots
use Rattle.slot_record.specs.declared.slots.Slot.TheVariants as two
use Rattle.slot_record.specs.Slots as TwoSlots
use Rattle.rotating_record.specs.declared.slots.TheConstants.{MARK, ROTATING_PLATE_LEN}
use Rattle.rotating_record.specs.declared.slots.Slot as three_slots
use Rattle.rotating_record.specs.declared.slots.Slot.TheVariants as three
use Rattle.rotating_record.specs.Slots as ThreeSlots
use Rattle.record_view.specs.declared.slots.SlotView.{SlotView}
use Rattle.record_view.specs.declared.files.SeenFile.{SeenFile}
use Rattle.record_view.specs.declared.reports.Verdict.{Verdict}
use Rattle.record_view.specs.declared.reports.Verdict.TheVariants.{Opens, NotWritable, WrongSize, NoRecord}
use Rattle.record_view.specs.declared.reports.Report.{Report}
use Rattle.record_view.specs.Views.{IsWhole, verdict_on}

-- the slots by their numbers, and 0 if no slot has the record
abbrev pub place_in_two : Option two_slots.Slot → ℕ
place_in_two None = 0
place_in_two (Some two.First) = 1
place_in_two (Some two.Second) = 2

abbrev pub place_in_three : Option three_slots.Slot → ℕ
place_in_three None = 0
place_in_three (Some three.First) = 1
place_in_three (Some three.Second) = 2
place_in_three (Some three.Third) = 3

-- what a slot begins with
abbrev pub seen_in_two : two_slots.Slot → Image → SlotView
seen_in_two slot image =
    let head = TwoSlots.head_on slot image in
    record { gate = head.gate; sequence = head.sequence; length = head.length }

abbrev pub seen_in_three : three_slots.Slot → Image → SlotView
seen_in_three slot image =
    let head = ThreeSlots.head_on slot image in
    record { gate = head.gate; sequence = head.sequence; length = head.length }

abbrev pub gate_text : ℕ → List ℕ
gate_text gate = if gate == OPEN then codes "open" else codes "closed"

abbrev pub holder_text : ℕ → ℕ → List ℕ
holder_text holder place = if place == holder then codes ", has the record" else codes ""

abbrev pub place_text : ℕ → List ℕ
place_text place = codes "slot " ++ decimal place ++ codes ": "

abbrev pub numbers_text : ℕ → ℕ → List ℕ
numbers_text sequence length = codes ", sequence " ++ decimal sequence ++ codes ", " ++ decimal length ++ codes " bytes"

-- `slot 2: open, sequence 7, 9 bytes, has the record`
abbrev pub slot_text : ℕ → ℕ → SlotView → List ℕ
slot_text holder place s = place_text place ++ gate_text s.gate ++ numbers_text s.sequence s.length ++ holder_text holder place ++ codes "\n"

-- the lines of two slots and of three, of which one has this number
abbrev pub lines_of_two : ℕ → SlotView → SlotView → List ℕ
lines_of_two holder first second = codes "120026 bytes, 2 slots\n" ++ slot_text holder 1 first ++ slot_text holder 2 second

abbrev pub mark_text : ℕ → List ℕ
mark_text mark = if mark == MARK then codes "200704 bytes, 3 slots\n" else codes "200704 bytes, 3 slots, without the mark of the format\n"

abbrev pub lines_of_three : ℕ → ℕ → SlotView → SlotView → SlotView → List ℕ
lines_of_three mark holder first second third = mark_text mark ++ slot_text holder 1 first ++ slot_text holder 2 second ++ slot_text holder 3 third

-- the slots of a file of either format
abbrev pub two_text : Image → List ℕ
two_text image = lines_of_two (place_in_two (TwoSlots.holder_on image)) (seen_in_two two.First image) (seen_in_two two.Second image)

abbrev pub three_text : Image → List ℕ
three_text image =
    lines_of_three (ThreeSlots.mark_on image) (place_in_three (ThreeSlots.holder_on image)) (seen_in_three three.First image) (seen_in_three three.Second image) (seen_in_three three.Third image)

-- the record of a client
abbrev pub client_words : ℕ → List ℕ
client_words attempt = codes "a client's record: last attempt " ++ decimal attempt ++ codes "\n"

-- the record of a node
abbrev pub status_text : Status → List ℕ
status_text Waiting = codes "waits"
status_text Holding = codes "holds"
status_text Softened = codes "holds, downgraded"

-- `, attempt 5 read a waits`, if a ticket is live
abbrev pub live_text : Option Live → List ℕ
live_text None = codes ""
live_text (Some l) = codes ", attempt " ++ decimal l.attempt ++ codes " " ++ mode_text l.mode ++ codes " " ++ l.resource ++ codes " " ++ status_text l.status

-- `c5: floor 4, attempt 5 read a waits`
abbrev pub entry_text : Entry → List ℕ
entry_text e = codes "" ++ client_text e.client ++ codes ": floor " ++ decimal e.floor ++ live_text e.live ++ codes "\n"

abbrev pub problem_text : Problem → List ℕ
problem_text problem.First = codes "1 (reader-first)"
problem_text problem.Second = codes "2 (writer-first)"

abbrev pub count_words : ℕ → List ℕ
count_words count = codes ", entries " ++ decimal count ++ codes "\n"

abbrev pub head_words : List ℕ → ℕ → List ℕ
head_words problem count = codes "a node's record: problem " ++ problem ++ count_words count

abbrev pub node_words : NodeRecord → List ℕ
node_words r = head_words (problem_text r.problem) (length r.entries) ++ flat_map entry_text r.entries

-- other bytes
abbrev pub other_words : ℕ → List ℕ
other_words length = decimal length ++ codes " bytes, not the record of an actor\n"

-- a body is the record of a client, or of a node, or of neither
abbrev pub IsOfClient : List ℕ → ℕ → Type 0
IsOfClient body attempt = (attempt ≤ MAX_ATTEMPT) × (body ≡ client_record_of attempt)

abbrev pub IsOfNode : List ℕ → NodeRecord → Type 0
IsOfNode body r = IsNodeRecord r × (body ≡ node_record_of r)

-- What is said of a body: the actor's record that it is, or that it is none.
abbrev pub SaysBody : List ℕ → List ℕ → Type 0
SaysBody body text =
    ((attempt : ℕ) × IsOfClient body attempt × (text ≡ client_words attempt))
    ⊎ (((r : NodeRecord) × IsOfNode body r × (text ≡ node_words r))
    ⊎ (((attempt : ℕ) → IsOfClient body attempt → ⊥) × ((r : NodeRecord) → IsOfNode body r → ⊥) × (text ≡ other_words (length body))))

-- what is said of the record that opening finds
abbrev pub SaysFound : Option (List ℕ) → List ℕ → Type 0
SaysFound None text = text ≡ codes "no slot has a record\n"
SaysFound (Some body) text = SaysBody body text

-- these lines, and then what is said of the record
abbrev pub SaysAfter : List ℕ → Option (List ℕ) → List ℕ → Type 0
SaysAfter lines found text = (rest : List ℕ) × SaysFound found rest × (text ≡ lines ++ rest)

-- What is said of a file with two slots, and of one with three.
abbrev pub SaysTwo : Image → List ℕ → Type 0
SaysTwo image text = SaysAfter (two_text image) (TwoSlots.found_on image) text

abbrev pub SaysThree : Image → List ℕ → Type 0
SaysThree image text = SaysAfter (three_text image) (ThreeSlots.found_on image) text

-- whether it would be opened, and why not
abbrev pub verdict_text : Verdict → List ℕ
verdict_text Opens = codes "would open\n"
verdict_text NotWritable = codes "would not open: fault 945: the file can't be opened for writing\n"
verdict_text WrongSize = codes "would not open: fault 943: a record has three slots, and 200704 bytes\n"
verdict_text NoRecord = codes "would not open: fault 944: no slot has a record\n"

-- What is said of a file's content: by its size it has two slots, or three, or is none of a record.
pub record SaysContent (f : SeenFile) (text : List ℕ) : Type 0 where
  pub two : f.size ≡ LEAST_PLATE_LEN → SaysTwo f.bytes.items text
  pub three : f.size ≡ ROTATING_PLATE_LEN → SaysThree f.bytes.items text
  pub other : f.size ≢ LEAST_PLATE_LEN → f.size ≢ ROTATING_PLATE_LEN → text ≡ decimal f.size ++ codes " bytes\n"

-- What a report says of a file: its content, and whether it would be opened.
pub record Reports (f : SeenFile) (r : Report) : Type 0 where
  pub verdict : r.verdict ≡ verdict_on f
  pub text : (content : List ℕ) × SaysContent f content × (string_bytes r.text ≡ content ++ verdict_text (verdict_on f))

-- some file was read to its end, and this is said of it
abbrev pub IsReport : Report → Type 0
IsReport r = (f : SeenFile) × IsWhole f × Reports f r
