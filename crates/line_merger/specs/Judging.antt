-- What a judge keeps of a world, and what comes of a line that it judges.
use Rattle.std.specs.Prelude.{◌≡◌, ℕ, List, [], ◌∷◌, map, Result, Ok, Err}
use Rattle.lock_messages.specs.declared.ids.Actor.{Actor}
use Rattle.lock_messages.specs.declared.messages.Message.{Message}
use Rattle.lock_model.specs.Decisions.{Among}
use Rattle.world_model.specs.declared.events.Effect.{Effect}
use Rattle.world_model.specs.declared.events.Event.{Event}
use Rattle.world_model.specs.declared.exact.ExactWorld.{ExactWorld}
use Rattle.world_model.specs.Parts.{part}
use Rattle.world_machine.specs.Machines.{with_sent}
use Rattle.merge_model.specs.LongHistories.{IsLongHistory}
use Rattle.merge_model.specs.Merging.{HasSource}
use Rattle.own_journals.specs.declared.lines.OwnLine.{OwnLine}
use Rattle.journal_merge.specs.LineMerges.{TellsLine, IsRefused, IsWaiting}
use Rattle.frame_numbers.specs.SaidFrames.{AreFramesOf}
use Rattle.line_merger.specs.declared.offers.MergeFault.{MergeFault}
use Rattle.line_merger.specs.declared.offers.Offer.{Offer}
use Rattle.line_merger.specs.declared.offers.Offer.TheVariants as offer
use Rattle.line_merger.specs.Offers.{TakesLine, events_of}

-- the actors, and the frames of the messages that were said
pub record Judged : Type 0 where
  pub actors : ExactWorld
  pub frames : List (List ℕ)

-- It has the actors of this world without their messages, and the frames of all messages that were said there.
pub record IsOf (j : Judged) (w : ExactWorld) : Type 0 where
  pub actors : j.actors ≡ with_sent w []
  pub said : AreFramesOf j.frames w.sent

-- What came of a line of the actor is right, however many messages were said: what it says happened, by these events, or
-- nobody said yet what it reads and nothing changed, or it says nothing that the actor could do.
abbrev pub JudgesLine : {F : Type 0} → ExactWorld → Actor → OwnLine → Result Offer F → ExactWorld → Type 0
JudgesLine w who line (Ok (offer.Took taken)) v =
    (events : List (Event × Effect)) × TellsLine w.ballots who (part w who) line events × IsLongHistory w events v × (map (λ q. q.0) events ≡ events_of who line taken)
JudgesLine w who line (Ok offer.Waits) v = (v ≡ w) × IsWaiting w who line
JudgesLine w who line (Ok (offer.Refused why)) v = IsRefused w who line
JudgesLine w who line (Err f) v = Unit {0}

-- A world with the same actors that recalls some of the messages that were said: all that the line may read.
pub record Recalls (who : Actor) (line : OwnLine) (w b : ExactWorld) : Type 0 where
  pub same : b ≡ with_sent w b.sent
  pub said : (m : Message) → Among m b.sent → Among m w.sent
  pub enough : (q : Event × Effect) (more : List (Event × Effect)) → TellsLine w.ballots who (part w who) line (q ∷ more) → HasSource w.sent q.1 → HasSource b.sent q.1

-- The line was taken in a world that recalls enough.
abbrev pub TakesRecalled : ExactWorld → Actor → OwnLine → Result Offer MergeFault → ExactWorld → Type 0
TakesRecalled w who line r a = (b : ExactWorld) × Recalls who line w b × TakesLine b who line r a
