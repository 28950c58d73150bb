-- What a node's own log tells of what it sends.
use Rattle.std.proofs.Common.{◌≡◌, ℕ, Bool, List, [], ◌∷◌, ◌++◌, Option, refl, sym, ap, ◌∙◌}
use Rattle.lock_messages.specs.declared.ids.Actor.TheVariants as actor
use Rattle.lock_messages.specs.declared.messages.Message.{Message}
use Rattle.lock_model.specs.declared.problems.Problem.{Problem}
use Rattle.lossy_link.specs.declared.parcels.Post.TheVariants as post
use Rattle.lossy_link.specs.declared.parcels.Sending.{Sending}
use Rattle.lossy_link.specs.declared.parcels.Sending.TheVariants as sending
use Rattle.lossy_link.specs.Links.{one_more, all_more}
use Rattle.lossy_link.proofs.GivenFacts.{more_and_more, one_is_more}
use Rattle.voter_core.specs.Voters.{Voter, Stored, record_of, replies_in}
use Rattle.world_model.specs.declared.events.Age.{Age}
use Rattle.world_model.specs.declared.events.Effect.{Effect}
use Rattle.world_model.specs.declared.events.Effect.TheVariants as effect
use Rattle.world_model.specs.declared.events.Event.{Event}
use Rattle.world_model.specs.declared.events.Event.TheVariants as event
use Rattle.world_model.specs.Parts.{said_by, number_of}
use Rattle.event_recorders.specs.OwnLogs.{OwnLog, part_now, adds, IsAdded}
use Rattle.actor_steps.specs.Steps.{HasRead, IsRisenAgain}
use Rattle.node_loop.specs.Standing.{StandsBy}
use Rattle.actor_steps.specs.Sendings.{sendings, sent_for, sent_of, SentFollows}
use Rattle.node_loop.specs.Replies.{SendsNudge}
use Rattle.actor_steps.proofs.SendingFacts.{sent_more, silent}

pub read_sends_nothing : (l l' : OwnLog) (n k : ℕ) (m : Message) → HasRead l (event.Take n k) m l' → sent_of l' ≡ sent_of l
read_sends_nothing l l' n k m read = silent l l' (event.Take n k) read.done read.added refl

pub switch_sends_nothing : (l l' : OwnLog) (n : ℕ) (p : Problem) (done : Effect) → IsAdded l (event.Switch n p) done l' → sent_of l' ≡ sent_of l
switch_sends_nothing l l' n p done added = silent l l' (event.Switch n p) done added refl

-- a node that falls and rises has its nudge told
pub rising_tells : (l l' : OwnLog) (n m : ℕ) (age : Age) → n ≡ m → IsRisenAgain l (actor.Node n) age l' → SendsNudge m l l'
rising_tells l l' n m age same again =
    let fallen = adds l (event.Fall (actor.Node n)) effect.Down in
    silent fallen l' (event.Rise (actor.Node n) age) effect.Up again.risen refl
    ∙ sent_more l fallen (event.Fall (actor.Node n)) effect.Down again.fallen
    ∙ ap (λ k. sent_of l ++ sending.Told (post.Nudge k) ∷ []) same

-- Say: what is sent is what is said
pub said_is_sent : (l : OwnLog) (v : Voter) (n first : ℕ) (done : Effect) (strings : List (List ℕ)) (stuck : Bool) (replies : List Message) →
    StandsBy (Stored (replies_in v.state)) l v (record_of v) strings stuck → n ≡ v.node → first ≡ number_of done → replies ≡ replies_in v.state →
    sent_for l.ballots (event.Say n) done (part_now l) ≡ sendings first replies
said_is_sent l v n first done strings stuck replies s same kind all =
    ap (λ k. sendings k (said_by l.ballots (event.Say n) (part_now l))) (sym kind)
    ∙ ap (sendings first) (ap (said_by l.ballots (event.Say n)) s.part ∙ sym all)

-- all of it was given
pub say_is_told : (l l' : OwnLog) (e : Event) (done : Effect) (all : List Sending) (given given' : Option (List Sending)) → IsAdded l e done l' → sent_for l.ballots e done (part_now l) ≡ all →
    given' ≡ all_more given all → SentFollows l l' given given'
say_is_told l l' e done all given given' added is sent = record {
  follows = λ before was.
      sent
      ∙ ap (λ g. all_more g all) was
      ∙ more_and_more before (sent_of l) all
      ∙ ap (all_more before) (sym (sent_more l l' e done added ∙ ap (λ xs. sent_of l ++ xs) is));
}

-- a nudge that was told after a fall
pub nudge_follows : (l l' : OwnLog) (n k : ℕ) (given given' : Option (List Sending)) → SendsNudge n l l' → k ≡ n → given' ≡ one_more given (sending.Told (post.Nudge k)) → SentFollows l l' given given'
nudge_follows l l' n k given given' so number told =
    let x = sending.Told (post.Nudge n) in
    record {
      follows = λ before was.
          told
          ∙ ap (λ i. one_more given (sending.Told (post.Nudge i))) number
          ∙ one_is_more given x
          ∙ ap (λ g. all_more g (x ∷ [])) was
          ∙ more_and_more before (sent_of l) (x ∷ [])
          ∙ ap (all_more before) (sym so);
    }
