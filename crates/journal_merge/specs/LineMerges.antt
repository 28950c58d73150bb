-- The lines of actors' own journals, and what it means to merge them.
use Rattle.std.specs.Prelude.{◌≡◌, ℕ, true, false, List, [], ◌∷◌, ◌++◌, Some}
use Rattle.lock_messages.specs.declared.ids.Actor.{Actor}
use Rattle.lock_messages.specs.declared.messages.Message.{Message}
use Rattle.lock_messages.specs.Messages.{IsMessage}
use Rattle.lock_messages.specs.Frames.{frame_of}
use Rattle.lock_model.specs.Ballots.{Ballot}
use Rattle.world_model.specs.declared.events.Effect.{Effect}
use Rattle.world_model.specs.declared.events.Event.{Event}
use Rattle.world_model.specs.declared.exact.ExactWorld.{ExactWorld}
use Rattle.world_model.specs.Kinds.{kind_of, is_reading}
use Rattle.world_model.specs.Locality.{IsHistory, own_events, local_part}
use Rattle.world_model.specs.Parts.{Part, part, is_own, message_of}
use Rattle.merge_model.specs.OwnRuns.{IsTurn}
use Rattle.merge_model.specs.LongHistories.{IsLongHistory}
use Rattle.merge_model.specs.Merging.{Logs, HasSource, IsMerge}
use Rattle.merge_model.specs.Lives.{Restarts}
use Rattle.own_journals.specs.declared.lines.OwnLine.{OwnLine}
use Rattle.own_journals.specs.declared.lines.OwnLine.TheVariants as own

-- The event reads the message of this frame.
pub record ReadsFrame (frame : List ℕ) (q : Event × Effect) : Type 0 where
  pub message : Message
  pub is : IsMessage message
  pub spelled : frame_of message ≡ frame
  pub reading : is_reading (kind_of q.0) ≡ true
  pub carried : message_of q.1 ≡ Some message

-- What a line of the actor's journal says in this part of the actor: a restart, or one turn of the actor's own.
abbrev pub TellsLine : List Ballot → Actor → Part → OwnLine → List (Event × Effect) → Type 0
TellsLine b who p (own.Life whose found) events = (whose ≡ who) × Restarts who p found events
TellsLine b who p (own.Reads whose frame) events = (q : Event × Effect) × (events ≡ q ∷ []) × (is_own who q.0 ≡ true) × IsTurn b p q.0 q.1 × ReadsFrame frame q
TellsLine b who p (own.Does e) events = (done : Effect) × (events ≡ (e, done) ∷ []) × (is_own who e ≡ true) × IsTurn b p e done × (is_reading (kind_of e) ≡ false)

-- The lines tell this log, from a part on.
abbrev pub TellsLines : List Ballot → Actor → Part → List OwnLine → List (Event × Effect) → Type 0
TellsLines b who p [] log = log ≡ []
TellsLines b who p (line ∷ lines) log =
    (events : List (Event × Effect)) × (rest : List (Event × Effect)) × TellsLine b who p line events × TellsLines b who (local_part b p events) lines rest × (log ≡ events ++ rest)

-- the lines of each actor's journal
abbrev pub Journals : Type 0
Journals = Actor → List OwnLine

-- The journals have a merge from a world on: they tell logs that have one.
pub record HasMerge (w : ExactWorld) (journals : Journals) : Type 0 where
  pub logs : Logs
  pub history : List (Event × Effect)
  pub merge : IsMerge w logs history
  pub told : (who : Actor) → TellsLines w.ballots who (part w who) (journals who) (logs who)

-- the lines of a journal: those that were taken, which tell the actor's events of the history, and those that are left
pub record IsCut (w : ExactWorld) (who : Actor) (lines left : List OwnLine) (own : List (Event × Effect)) : Type 0 where
  pub taken : List OwnLine
  pub cut : lines ≡ taken ++ left
  pub told : TellsLines w.ballots who (part w who) taken own

-- Journals that are being merged: a history leads from the world w to v, and these lines are left.
pub record IsMerging (w : ExactWorld) (journals left : Journals) (v : ExactWorld) : Type 0 where
  pub told : List (Event × Effect)
  pub history : IsHistory w told v
  pub cut : (who : Actor) → IsCut w who (journals who) (left who) (own_events who told)

-- Journals that are being judged: a history of any length leads from the world w to v, and these lines are left.
pub record IsJudging (w : ExactWorld) (journals left : Journals) (v : ExactWorld) : Type 0 where
  pub told : List (Event × Effect)
  pub history : IsLongHistory w told v
  pub cut : (who : Actor) → IsCut w who (journals who) (left who) (own_events who told)

-- The line says nothing that the actor could do in the world v.
abbrev pub IsRefused : ExactWorld → Actor → OwnLine → Type 0
IsRefused v who line = (events : List (Event × Effect)) → TellsLine v.ballots who (part v who) line events → ⊥

-- Nobody said yet what the line reads.
abbrev pub IsWaiting : ExactWorld → Actor → OwnLine → Type 0
IsWaiting v who line = (q : Event × Effect) (more : List (Event × Effect)) → TellsLine v.ballots who (part v who) line (q ∷ more) → HasSource v.sent q.1 → ⊥
