-- What an own log tells of what its actor sends, as the log grows and as it is sent.
use Rattle.std.proofs.Common.{◌≡◌, ◌⊎◌, inl, inr, List, [], ◌++◌, Option, refl, sym, ap, ◌∙◌}
use Rattle.lock_messages.specs.declared.ids.Actor.{Actor}
use Rattle.lossy_link.specs.declared.parcels.Sending.{Sending}
use Rattle.lossy_link.specs.Links.{all_more}
use Rattle.lossy_link.proofs.GivenFacts.{none_more}
use Rattle.world_model.specs.declared.events.Age.{Age}
use Rattle.world_model.specs.declared.events.Effect.{Effect}
use Rattle.world_model.specs.declared.events.Effect.TheVariants as effect
use Rattle.world_model.specs.declared.events.Event.{Event}
use Rattle.world_model.specs.declared.events.Event.TheVariants as event
use Rattle.event_recorders.specs.OwnLogs.{OwnLog, all_of, part_now, adds, IsAdded, IsUnused}
use Rattle.event_recorders.proofs.LogFacts.{log_more, nothing_more}
use Rattle.actor_steps.specs.Sendings.{sent_for, sent_of, SentFollows}
use Rattle.actor_steps.specs.Steps.{IsKept}

-- one event more sends what it sends from the part before it
pub sent_more : (l l' : OwnLog) (e : Event) (done : Effect) → IsAdded l e done l' → sent_of l' ≡ sent_of l ++ sent_for l.ballots e done (part_now l)
sent_more l l' e done added = log_more sent_for l l' e done added

pub silent : (l l' : OwnLog) (e : Event) (done : Effect) → IsAdded l e done l' → sent_for l.ballots e done (part_now l) ≡ [] → sent_of l' ≡ sent_of l
silent l l' e done added nothing = nothing_more sent_for l l' e done added nothing

pub unused_sends_nothing : (l : OwnLog) (who : Actor) → IsUnused l who → sent_of l ≡ []
unused_sends_nothing l who unused = ap (all_of sent_for l.ballots l.opening) unused.events

pub first_rise_sends_nothing : (l l' : OwnLog) (who : Actor) (age : Age) → IsUnused l who → IsAdded l (event.Rise who age) effect.Up l' → sent_of l' ≡ []
first_rise_sends_nothing l l' who age unused added = silent l l' (event.Rise who age) effect.Up added refl ∙ unused_sends_nothing l who unused

pub trying_sends_nothing : (l l' : OwnLog) (who : Actor) → IsAdded l (event.Try who) effect.Tried l' → sent_of l' ≡ sent_of l
trying_sends_nothing l l' who added = silent l l' (event.Try who) effect.Tried added refl

-- at most a Try was logged
pub tried_sends_nothing : (l l' : OwnLog) (who : Actor) → (l' ≡ l) ⊎ IsAdded l (event.Try who) effect.Tried l' → sent_of l' ≡ sent_of l
tried_sends_nothing l l' who (inl same) = ap sent_of same
tried_sends_nothing l l' who (inr added) = trying_sends_nothing l l' who added

pub keeping_sends_nothing : (l l' : OwnLog) (who : Actor) → IsKept l who l' → sent_of l' ≡ sent_of l
keeping_sends_nothing l l' who kept =
    let tried = adds l (event.Try who) effect.Tried in
    silent tried l' (event.Kept who) effect.Kept kept.kept refl ∙ trying_sends_nothing l tried who kept.tried

-- What was given to a link follows the log.

-- nothing more in either
pub follows_none : (l l' : OwnLog) (given : Option (List Sending)) → sent_of l' ≡ sent_of l → SentFollows l l' given given
follows_none l l' given same = record { follows = λ before was. was ∙ ap (all_more before) (sym same) }

-- one after the other
pub follows_on : (l m l' : OwnLog) (given between given' : Option (List Sending)) → SentFollows l m given between → SentFollows m l' between given' → SentFollows l l' given given'
follows_on l m l' given between given' first second = record { follows = λ before was. second.follows before (first.follows before was) }

-- what was sent after a log that sends no more follows from it too
pub follows_from : (l m l' : OwnLog) (given given' : Option (List Sending)) → sent_of m ≡ sent_of l → SentFollows m l' given given' → SentFollows l l' given given'
follows_from l m l' given given' same later = record { follows = λ before was. later.follows before (was ∙ ap (all_more before) (sym same)) }

-- on top of what was there before a log that sends nothing
pub all_told : (l l' : OwnLog) (given given' : Option (List Sending)) → sent_of l ≡ [] → SentFollows l l' given given' → given' ≡ all_more given (sent_of l')
all_told l l' given given' nothing follows = follows.follows given (sym (ap (all_more given) nothing ∙ none_more given))
