-- Worked examples of the definitions. Node 1 is asked for the votes of clients 1, 2 and 3.
use Rattle.std.specs.Prelude.{◌≡◌, ℕ, ◌==◌, ◌||◌, List, [], ◌∷◌, Some, None, codes}
use Rattle.lock_messages.specs.declared.tickets.Mode.{Mode}
use Rattle.lock_messages.specs.declared.tickets.Mode.TheVariants.{Read, Write}
use Rattle.lock_messages.specs.declared.tickets.Ticket.{Ticket}
use Rattle.lock_messages.specs.declared.messages.Message.{Message}
use Rattle.lock_messages.specs.declared.messages.Message.TheVariants.{Request, Release, Grant, Busy, Over, Done, Muddled, Soften}
use Rattle.lock_messages.specs.declared.messages.Message.TheVariants as message
use Rattle.lock_model.specs.declared.entries.Entry.{Entry}
use Rattle.lock_model.specs.declared.entries.Status.{Status}
use Rattle.lock_model.specs.declared.entries.Status.TheVariants.{Waiting, Holding, Softened}
use Rattle.lock_model.specs.declared.problems.Problem.{Problem}
use Rattle.lock_model.specs.declared.problems.Problem.TheVariants.{First, Second}
use Rattle.lock_model.specs.Ballots.{Ballot, votes_of, larger_votes}
use Rattle.lock_model.specs.ExactDecisions.{decision, switches}

-- the ticket of a client for the resource `a`, and for a resource of this name
abbrev pub asks : ℕ → ℕ → Mode → Ticket
asks c a m = record { client = c; attempt = a; mode = m; resource = codes "a" }

abbrev pub asks_for : ℕ → ℕ → Mode → List ℕ → Ticket
asks_for c a m x = record { client = c; attempt = a; mode = m; resource = x }

-- the entry of a client that has taken up this ticket, and of one whose attempts are all ended
abbrev pub entry_with : Ticket → ℕ → Status → Entry
entry_with t floor status = record { client = t.client; floor = floor; live = Some (record { attempt = t.attempt; mode = t.mode; resource = t.resource; status = status }) }

abbrev pub entry_without : ℕ → ℕ → Entry
entry_without c floor = record { client = c; floor = floor; live = None }

-- from these entries, the message leads to those entries and these replies
abbrev pub Leads : Problem → List Entry → Message → List Entry → List Message → Type 0
Leads p before message after replies = decision p before message ≡ record { entries = after; replies = replies }

-- a reader at a node that knows nobody is granted
abbrev pub FirstReader : Type 0
FirstReader = Leads First [] (Request 1 (asks 1 1 Read)) (entry_with (asks 1 1 Read) 0 Holding ∷ []) (Grant 1 (asks 1 1 Read) ∷ [])

-- its request again is granted again, and changes nothing
abbrev pub RepeatedRequest : Type 0
RepeatedRequest = Leads First (entry_with (asks 1 1 Read) 0 Holding ∷ []) (Request 1 (asks 1 1 Read)) (entry_with (asks 1 1 Read) 0 Holding ∷ []) (Grant 1 (asks 1 1 Read) ∷ [])

-- a writer behind a reader waits
abbrev pub WriterBehindReader : Type 0
WriterBehindReader = Leads First (entry_with (asks 1 1 Read) 0 Holding ∷ []) (Request 1 (asks 2 1 Write))
    (entry_with (asks 1 1 Read) 0 Holding ∷ entry_with (asks 2 1 Write) 0 Waiting ∷ []) (Busy 1 (asks 2 1 Write) ∷ [])

-- a release, and the request that comes too late
abbrev pub ReleasedReader : Type 0
ReleasedReader = Leads First (entry_with (asks 1 1 Read) 0 Holding ∷ []) (Release 1 1 1) (entry_without 1 1 ∷ []) (Done 1 1 1 ∷ [])

abbrev pub LateRequest : Type 0
LateRequest = Leads First (entry_without 1 1 ∷ []) (Request 1 (asks 1 1 Read)) (entry_without 1 1 ∷ []) (Over 1 1 1 ∷ [])

-- a release of an unknown client
abbrev pub ReleasedStranger : Type 0
ReleasedStranger = Leads First [] (Release 1 3 5) (entry_without 3 5 ∷ []) (Done 1 3 5 ∷ [])

-- a reader behind a writer that waits, under both problems
abbrev pub behind_writer : Status → List Entry
behind_writer status = entry_with (asks 1 1 Read) 0 Holding ∷ entry_with (asks 2 1 Write) 0 Waiting ∷ entry_with (asks 3 1 Read) 0 status ∷ []

abbrev pub ReaderPasses : Type 0
ReaderPasses = Leads First (entry_with (asks 1 1 Read) 0 Holding ∷ entry_with (asks 2 1 Write) 0 Waiting ∷ []) (Request 1 (asks 3 1 Read)) (behind_writer Holding) (Grant 1 (asks 3 1 Read) ∷ [])

abbrev pub ReaderWaits : Type 0
ReaderWaits = Leads Second (entry_with (asks 1 1 Read) 0 Holding ∷ entry_with (asks 2 1 Write) 0 Waiting ∷ []) (Request 1 (asks 3 1 Read)) (behind_writer Waiting) (Busy 1 (asks 3 1 Read) ∷ [])

-- when the writer's attempt ends, the reader behind it holds
abbrev pub ReleaseSettles : Type 0
ReleaseSettles = Leads Second (behind_writer Waiting) (Release 1 2 1)
    (entry_with (asks 1 1 Read) 0 Holding ∷ entry_without 2 1 ∷ entry_with (asks 3 1 Read) 0 Holding ∷ []) (Done 1 2 1 ∷ Grant 1 (asks 3 1 Read) ∷ [])

-- the attempt comes again for another mode
abbrev pub MuddledRequest : Type 0
MuddledRequest = Leads First (entry_with (asks 1 1 Read) 0 Holding ∷ []) (Request 1 (asks 1 1 Write)) (entry_with (asks 1 1 Read) 0 Holding ∷ []) (Muddled 1 1 1 ∷ [])

-- the next attempt ends the last, others settle, and its entry comes last
abbrev pub NextAttempt : Type 0
NextAttempt = Leads First (entry_with (asks 1 1 Write) 0 Holding ∷ entry_with (asks 2 1 Read) 0 Waiting ∷ []) (Request 1 (asks_for 1 2 Read (codes "b")))
    (entry_with (asks 2 1 Read) 0 Holding ∷ entry_with (asks_for 1 2 Read (codes "b")) 1 Holding ∷ [])
    (Grant 1 (asks_for 1 2 Read (codes "b")) ∷ Grant 1 (asks 2 1 Read) ∷ [])

-- a writer that holds is softened: it holds as a reader, and the reader behind it holds as well
abbrev pub SoftenedHolder : Type 0
SoftenedHolder = Leads First (entry_with (asks 1 1 Write) 0 Holding ∷ entry_with (asks 2 1 Read) 0 Waiting ∷ []) (Soften 1 1 1)
    (entry_with (asks 1 1 Read) 0 Softened ∷ entry_with (asks 2 1 Read) 0 Holding ∷ []) (message.Softened 1 1 1 ∷ Grant 1 (asks 2 1 Read) ∷ [])

-- under problem 2 a writer that waits keeps that reader out
abbrev pub with_both_waiting : Mode → Status → List Entry
with_both_waiting m status = entry_with (asks 1 1 m) 0 status ∷ entry_with (asks 2 1 Read) 0 Waiting ∷ entry_with (asks 3 1 Write) 0 Waiting ∷ []

abbrev pub SoftenedBeforeWriter : Type 0
SoftenedBeforeWriter = Leads Second (with_both_waiting Write Holding) (Soften 1 1 1) (with_both_waiting Read Softened) (message.Softened 1 1 1 ∷ [])

-- a writer that waits is taken away, with the floor as it was, and the reader behind it holds
abbrev pub SoftenedWaiter : Type 0
SoftenedWaiter = Leads Second (behind_writer Waiting) (Soften 1 2 1)
    (entry_with (asks 1 1 Read) 0 Holding ∷ entry_without 2 0 ∷ entry_with (asks 3 1 Read) 0 Holding ∷ []) (message.Softened 1 2 1 ∷ Grant 1 (asks 3 1 Read) ∷ [])

-- the softened attempt is asked for again as it was, and as a reader
abbrev pub SoftenedRequest : Type 0
SoftenedRequest = Leads First (entry_with (asks 1 1 Read) 0 Softened ∷ []) (Request 1 (asks 1 1 Write)) (entry_with (asks 1 1 Read) 0 Softened ∷ []) (message.Softened 1 1 1 ∷ [])

abbrev pub MuddledSoftenedRequest : Type 0
MuddledSoftenedRequest = Leads First (entry_with (asks 1 1 Read) 0 Softened ∷ []) (Request 1 (asks 1 1 Read)) (entry_with (asks 1 1 Read) 0 Softened ∷ []) (Muddled 1 1 1 ∷ [])

-- a Soften of an unknown client adds no entry
abbrev pub SoftenedStranger : Type 0
SoftenedStranger = Leads First [] (Soften 1 3 5) [] (message.Softened 1 3 5 ∷ [])

-- a switch to problem 1 lets in the reader behind a writer that waits; a switch to problem 2 sends nobody
-- away
abbrev pub SwitchesTo : Problem → List Entry → List Entry → List Message → Type 0
SwitchesTo p before after replies = switches 1 p before ≡ record { entries = after; replies = replies }

abbrev pub SwitchedToFirst : Type 0
SwitchedToFirst = SwitchesTo First (behind_writer Waiting) (behind_writer Holding) (Grant 1 (asks 3 1 Read) ∷ [])

abbrev pub SwitchedToSecond : Type 0
SwitchedToSecond = SwitchesTo Second (behind_writer Holding) (behind_writer Holding) []

-- votes 3, 1, 1 and 0: nodes 2 and 4 have one together, nodes 1 and 2 have four, node 9 has none
abbrev pub weighted : Ballot
weighted = record { votes = 3 ∷ 1 ∷ 1 ∷ 0 ∷ []; read = 2; write = 4 }

abbrev pub WeightedVotes : Type 0
WeightedVotes = (votes_of weighted (λ n. (n == 2) || (n == 4)) ≡ 1) × (votes_of weighted (λ n. n == 1) ≡ 3)
    × (votes_of weighted (λ n. (n == 1) || (n == 2)) ≡ 4) × (votes_of weighted (λ n. n == 9) ≡ 0)

-- a ballot of two nodes: beside the first one it has the larger votes at node 2 alone
abbrev pub short : Ballot
short = record { votes = 1 ∷ 2 ∷ []; read = 2; write = 2 }

abbrev pub LargerVotes : Type 0
LargerVotes = (larger_votes weighted short ≡ 6) × (larger_votes short weighted ≡ 6) × (larger_votes weighted weighted ≡ 5)
