-- What follows from the definitions, as statements. Each is the contract of a function of `laws`.
use Rattle.std.specs.Prelude.{◌≡◌, ℕ, ◌+◌, ◌≤◌, List, ◌∷◌, ◌++◌, length, map, Some, None}
use Rattle.lock_messages.specs.declared.ids.Actor.{Actor}
use Rattle.lock_messages.specs.declared.messages.Message.{Message}
use Rattle.lock_model.specs.Ballots.{Ballot}
use Rattle.lock_model.specs.Decisions.{Among}
use Rattle.world_model.specs.declared.TheConstants.{MAX_MESSAGES}
use Rattle.world_model.specs.declared.events.Effect.{Effect}
use Rattle.world_model.specs.declared.events.Event.{Event}
use Rattle.world_model.specs.declared.exact.ExactWorld.{ExactWorld}
use Rattle.world_model.specs.Worlds.{World, Run}
use Rattle.world_model.specs.Exclusion.{IsExclusive}
use Rattle.world_model.specs.Forgetting.{forget, setting_of, IsSound}
use Rattle.world_model.specs.ExactWorlds.{actor_of}
use Rattle.world_model.specs.Parts.{Part, part, own_refusal}
use Rattle.world_model.specs.Locality.{IsHistory, own_events, local_part}
use Rattle.merge_model.specs.OwnRuns.{IsTurn, IsOwnRun}
use Rattle.merge_model.specs.LongHistories.{IsLongHistory}
use Rattle.merge_model.specs.Merging.{Logs, HasSource, IsSourced, all_said, Interleaves, IsMerge, IsLeft, content_of}
use Rattle.merge_model.specs.Lives.{Life, kept_record, Restarts, TellsLives}

-- The actor's own part refuses no turn.
abbrev pub TurnsAreAllowed : Type 0
TurnsAreAllowed = (b : List Ballot) (p : Part) (e : Event) (done : Effect) → IsTurn b p e done → own_refusal b e p ≡ None

-- Own runs can be cut and joined: what begins an own run is one, what follows is one from the part that it leaves, and
-- the other way round.
abbrev pub OwnRunsJoin : Type 0
OwnRunsJoin = (b : List Ballot) (who : Actor) (p : Part) (begun rest : List (Event × Effect)) →
    (IsOwnRun b who p (begun ++ rest) → IsOwnRun b who p begun × IsOwnRun b who (local_part b p begun) rest) ×
    (IsOwnRun b who p begun × IsOwnRun b who (local_part b p begun) rest → IsOwnRun b who p (begun ++ rest))

-- A merge from a sound world is a run, of any length and with any number of messages, and leaves each actor as its own
-- log says.
abbrev pub MergesAreRuns : Type 0
MergesAreRuns = (w : ExactWorld) (logs : Logs) (history : List (Event × Effect)) → IsSound w → IsMerge w logs history →
    (v : World) × Run (setting_of w) (forget w) (map (λ q. q.0) history) v × IsLeft w logs history v

-- So in the world that it leaves a writer is alone, and each reader that waits has a cause.
abbrev pub MergesAreExclusive : Type 0
MergesAreExclusive = (w : ExactWorld) (logs : Logs) (history : List (Event × Effect)) (v : World) → IsSound w → IsMerge w logs history → IsLeft w logs history v → IsExclusive v

-- What begins a merge is a merge of what begins the logs. So both hold at every moment of it.
abbrev pub BeginningsAreMerges : Type 0
BeginningsAreMerges = (w : ExactWorld) (logs : Logs) (begun rest : List (Event × Effect)) → IsMerge w logs (begun ++ rest) →
    IsMerge w (λ who. own_events who begun) begun × ((who : Actor) → logs who ≡ own_events who begun ++ own_events who rest)

-- While the list of messages has room, there is a history of the exact world with the content of the merge: each message
-- then has the number under which it was said.
abbrev pub MergesAreHistories : Type 0
MergesAreHistories = (w : ExactWorld) (logs : Logs) (history : List (Event × Effect)) → IsMerge w logs history →
    length w.sent + length (all_said w.ballots (part w) history) ≤ MAX_MESSAGES →
    (told : List (Event × Effect)) × (v : ExactWorld) × IsHistory w told v × (content_of told ≡ content_of history)

-- The other way round: a history is a merge of each actor's own events in it.
abbrev pub HistoriesAreMerges : Type 0
HistoriesAreMerges = (w v : ExactWorld) (history : List (Event × Effect)) → IsHistory w history v → IsMerge w (λ who. own_events who history) history

-- So is a history of any length, with any number of messages. Each history is such a one.
abbrev pub LongHistoriesAreMerges : Type 0
LongHistoriesAreMerges = (w v : ExactWorld) (history : List (Event × Effect)) → IsLongHistory w history v → IsMerge w (λ who. own_events who history) history

abbrev pub HistoriesAreLong : Type 0
HistoriesAreLong = (w v : ExactWorld) (history : List (Event × Effect)) → IsHistory w history v → IsLongHistory w history v

-- Only the set of the messages that were said counts, and more of them do no harm.
abbrev pub SaidIsASet : Type 0
SaidIsASet = (b : List Ballot) (parts : Actor → Part) (said more : List Message) (history : List (Event × Effect)) →
    ((m : Message) → Among m said → Among m more) → IsSourced b parts said history → IsSourced b parts more history

-- What may come next may come first: if the rest can be merged at all, and an actor's next event has its source now,
-- then the rest can be merged with this event first. So it does not matter which such event is taken.
abbrev pub WhatMayComeNextMayComeFirst : Type 0
WhatMayComeNextMayComeFirst = (b : List Ballot) (parts : Actor → Part) (said : List Message) (history : List (Event × Effect)) (next : Event × Effect) (own : List (Event × Effect)) →
    IsSourced b parts said history → own_events (actor_of next.0) history ≡ next ∷ own → HasSource said next.1 →
    (rest : List (Event × Effect)) × IsSourced b parts said (next ∷ rest) × ((who : Actor) → own_events who (next ∷ rest) ≡ own_events who history)

-- Whatever was merged so far: if the logs have a merge at all, then what is left of them has one from here on. So no
-- choice of the next event is ever wrong.
abbrev pub MergesGoOn : Type 0
MergesGoOn = (w v : ExactWorld) (logs begun left : Logs) (told history : List (Event × Effect)) → IsMerge w logs history → IsHistory w told v →
    ((who : Actor) → logs who ≡ begun who ++ left who) → ((who : Actor) → content_of (begun who) ≡ content_of (own_events who told)) →
    (rest : List (Event × Effect)) × IsMerge v left rest

-- If no actor's next event has its source, and there is a next event, then the rest has no merge.
abbrev pub StuckLogsHaveNoMerge : Type 0
StuckLogsHaveNoMerge = (b : List Ballot) (parts : Actor → Part) (said : List Message) (logs : Logs) (someone : Actor) (next : Event × Effect) (own : List (Event × Effect)) →
    logs someone ≡ next ∷ own →
    ((who : Actor) (q : Event × Effect) (rest : List (Event × Effect)) → logs who ≡ q ∷ rest → HasSource said q.1 → ⊥) →
    (history : List (Event × Effect)) → Interleaves logs history → IsSourced b parts said history → ⊥

-- The lives of an actor are one own run.
abbrev pub LivesAreOwnRuns : Type 0
LivesAreOwnRuns = (b : List Ballot) (who : Actor) (p : Part) (lives : List Life) (log : List (Event × Effect)) → TellsLives b who p lives log → IsOwnRun b who p log

-- A life begins with just what its process found.
abbrev pub LivesBeginAsFound : Type 0
LivesBeginAsFound = (b : List Ballot) (who : Actor) (p : Part) (found : List ℕ) (restart : List (Event × Effect)) → Restarts who p found restart →
    kept_record who (local_part b p restart) ≡ Some found

-- Lives tell one log at most.
abbrev pub LivesTellOneLog : Type 0
LivesTellOneLog = (b : List Ballot) (who : Actor) (p : Part) (lives : List Life) (log other : List (Event × Effect)) →
    TellsLives b who p lives log → TellsLives b who p lives other → log ≡ other
