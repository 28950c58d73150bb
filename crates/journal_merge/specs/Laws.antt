-- What follows, as statements.
use Rattle.std.specs.Prelude.{◌≡◌, List, [], ◌∷◌}
use Rattle.lock_messages.specs.declared.ids.Actor.{Actor}
use Rattle.world_model.specs.declared.events.Effect.{Effect}
use Rattle.world_model.specs.declared.events.Event.{Event}
use Rattle.world_model.specs.declared.exact.ExactWorld.{ExactWorld}
use Rattle.world_model.specs.Locality.{IsHistory}
use Rattle.world_model.specs.Parts.{part}
use Rattle.merge_model.specs.LongHistories.{IsLongHistory}
use Rattle.own_journals.specs.declared.lines.OwnLine.{OwnLine}
use Rattle.journal_merge.specs.LineMerges.{TellsLine, Journals, HasMerge, IsMerging, IsJudging, IsRefused, IsWaiting}

-- The next line of an actor is taken: its events happen, and one line fewer is left.
abbrev pub TakingGoesOn : Type 0
TakingGoesOn = (w u v : ExactWorld) (journals left after : Journals) (who : Actor) (line : OwnLine) (events : List (Event × Effect)) → IsMerging w journals left u →
    left who ≡ line ∷ after who → ((other : Actor) → (other ≡ who → ⊥) → after other ≡ left other) →
    TellsLine u.ballots who (part u who) line events → IsHistory u events v → IsMerging w journals after v

-- No line is left: then the journals have a merge.
abbrev pub MergedHaveMerge : Type 0
MergedHaveMerge = (w v : ExactWorld) (journals left : Journals) → IsMerging w journals left v → ((who : Actor) → left who ≡ []) → HasMerge w journals

-- A next line is refused: then they have none.
abbrev pub RefusedHaveNoMerge : Type 0
RefusedHaveNoMerge = (w v : ExactWorld) (journals left : Journals) (who : Actor) (line : OwnLine) (rest : List OwnLine) → IsMerging w journals left v →
    left who ≡ line ∷ rest → IsRefused v who line → HasMerge w journals → ⊥

-- There is a next line, and all next lines wait for what nobody said: then they have none.
abbrev pub WaitingHaveNoMerge : Type 0
WaitingHaveNoMerge = (w v : ExactWorld) (journals left : Journals) (someone : Actor) (line : OwnLine) (rest : List OwnLine) → IsMerging w journals left v →
    left someone ≡ line ∷ rest → ((who : Actor) (next : OwnLine) (more : List OwnLine) → left who ≡ next ∷ more → IsWaiting v who next) → HasMerge w journals → ⊥

-- The same for journals that are judged, however many messages are said.
abbrev pub JudgingGoesOn : Type 0
JudgingGoesOn = (w u v : ExactWorld) (journals left after : Journals) (who : Actor) (line : OwnLine) (events : List (Event × Effect)) → IsJudging w journals left u →
    left who ≡ line ∷ after who → ((other : Actor) → (other ≡ who → ⊥) → after other ≡ left other) →
    TellsLine u.ballots who (part u who) line events → IsLongHistory u events v → IsJudging w journals after v

abbrev pub JudgedHaveMerge : Type 0
JudgedHaveMerge = (w v : ExactWorld) (journals left : Journals) → IsJudging w journals left v → ((who : Actor) → left who ≡ []) → HasMerge w journals

abbrev pub RefusedAreJudged : Type 0
RefusedAreJudged = (w v : ExactWorld) (journals left : Journals) (who : Actor) (line : OwnLine) (rest : List OwnLine) → IsJudging w journals left v →
    left who ≡ line ∷ rest → IsRefused v who line → HasMerge w journals → ⊥

abbrev pub WaitingAreJudged : Type 0
WaitingAreJudged = (w v : ExactWorld) (journals left : Journals) (someone : Actor) (line : OwnLine) (rest : List OwnLine) → IsJudging w journals left v →
    left someone ≡ line ∷ rest → ((who : Actor) (next : OwnLine) (more : List OwnLine) → left who ≡ next ∷ more → IsWaiting v who next) → HasMerge w journals → ⊥
