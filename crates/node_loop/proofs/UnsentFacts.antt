-- What is left unsent where a node ends by a fault.
use Rattle.std.proofs.Common.{◌≡◌, ◌⊎◌, ◌+◌, ◌%◌, ◌^◌, ◌<◌, ℕ, suc, Bool, drop, get_or, length, arith, List, [], ◌∷◌, ◌++◌, Option, None, Some, Result, Ok, Err, OnOk, OnErr, IfErr, IsOkUnless, inl, inr, refl, sym, ap, ◌∙◌, subst, append_assoc, append-nil}
use Rattle.std.proofs.Math.Seq.{drop-cons}
use Rattle.lock_messages.specs.declared.ids.Actor.{Actor}
use Rattle.lock_messages.specs.declared.ids.Actor.TheVariants as actor
use Rattle.lock_messages.specs.declared.messages.Message.{Message}
use Rattle.lock_messages.specs.Frames.{frame_of}
use Rattle.lock_model.specs.Ballots.{Ballot}
use Rattle.lossy_link.specs.declared.faults.LinkFault.{LinkFault}
use Rattle.lossy_link.specs.declared.parcels.Post.TheVariants as post
use Rattle.lossy_link.specs.declared.parcels.Sending.{Sending}
use Rattle.lossy_link.specs.declared.parcels.Sending.TheVariants as sending
use Rattle.lossy_link.specs.Links.{one_more, all_more, refused_after, IsRefused}
use Rattle.lossy_link.proofs.GivenFacts.{more_and_more, one_is_more, none_more}
use Rattle.stable_record.specs.declared.node_records.NodeRecord.{NodeRecord}
use Rattle.voter_core.specs.Voters.{Voter}
use Rattle.world_model.specs.declared.events.Age.{Age}
use Rattle.world_model.specs.declared.events.Effect.{Effect}
use Rattle.world_model.specs.declared.events.Effect.TheVariants as effect
use Rattle.world_model.specs.declared.events.Event.{Event}
use Rattle.world_model.specs.declared.events.Event.TheVariants as event
use Rattle.world_model.specs.Locality.{local_part}
use Rattle.world_model.specs.Parts.{Part, after_own}
use Rattle.event_recorders.specs.declared.faults.RunFault.{RunFault}
use Rattle.event_recorders.specs.declared.faults.RunFault.TheVariants as fault
use Rattle.event_recorders.specs.OwnLogs.{OwnLog, part_now, adds, IsAdded}
use Rattle.actor_steps.specs.Endings.{IsDown}
use Rattle.actor_steps.specs.Steps.{IsRisenAgain}
use Rattle.node_loop.specs.Standing.{FailsToKeep}
use Rattle.lock_messages.specs.Messages.{addressee}
use Rattle.actor_steps.specs.Sendings.{sendings, sent_for, sent_of, SentFollows}
use Rattle.node_loop.specs.Unsent.{latest, last_by, last_sent, HasGiven, GivesSome, HasSent, IsWhole, SentAsFar, ToldAsFar, TellsGone, HasGone}
use Rattle.actor_steps.proofs.SendingFacts.{sent_more}

latest_of_none : {X : Type 0} (xs : List X) → latest [] xs ≡ xs
latest_of_none [] = refl
latest_of_none (x ∷ xs) = refl

latest_assoc : {X : Type 0} (a b c : List X) → latest a (latest b c) ≡ latest (latest a b) c
latest_assoc a b [] = refl
latest_assoc a b (x ∷ xs) = refl

-- the last of one event more
by_one_more : (b : List Ballot) (p : Part) (own : List (Event × Effect)) (e : Event) (done : Effect) →
    last_by b p (own ++ (e, done) ∷ []) ≡ latest (last_by b p own) (sent_for b e done (local_part b p own))
by_one_more b p [] e done = sym (latest_of_none (sent_for b e done p))
by_one_more b p (q ∷ own) e done =
    let here = sent_for b q.0 q.1 p in
    let next = after_own b q.0 q.1 p in
    ap (latest here) (by_one_more b next own e done)
    ∙ latest_assoc here (last_by b next own) (sent_for b e done (local_part b next own))

last_more : (l l' : OwnLog) (e : Event) (done : Effect) → IsAdded l e done l' → last_sent l' ≡ latest (last_sent l) (sent_for l.ballots e done (part_now l))
last_more l l' e done added = ap last_sent added.log ∙ by_one_more l.ballots l.opening l.events e done

-- a log that tells nothing more leaves nothing unsent
pub none_left : (l l' : OwnLog) → sent_of l' ≡ sent_of l → HasSent l' (sent_of l)
none_left l l' same = record { begun = last_sent l'; left = []; all = same ∙ sym (append-nil (sent_of l)); last = sym (append-nil (last_sent l')) }

-- where the log before tells nothing more than another one, what was sent by that was sent by this
pub sent_before : (l m l' : OwnLog) → sent_of m ≡ sent_of l → HasSent l' (sent_of m) → HasSent l' (sent_of l)
sent_before l m l' same far = subst (HasSent l') same far

-- an event that sends nothing leaves as much unsent
silent_stays : (l l' : OwnLog) (e : Event) (done : Effect) (sent : List Sending) → IsAdded l e done l' → sent_for l.ballots e done (part_now l) ≡ [] → HasSent l sent → HasSent l' sent
silent_stays l l' e done sent added nothing far = record {
  begun = far.begun;
  left = far.left;
  all = sent_more l l' e done added ∙ ap (λ xs. sent_of l ++ xs) nothing ∙ append-nil (sent_of l) ∙ far.all;
  last = last_more l l' e done added ∙ ap (latest (last_sent l)) nothing ∙ far.last;
}

-- a node that has fallen has not told its nudge yet
pub falling_leaves : (l l' : OwnLog) (n : ℕ) → IsAdded l (event.Fall (actor.Node n)) effect.Down l' → HasSent l' (sent_of l)
falling_leaves l l' n added =
    record { begun = []; left = sending.Told (post.Nudge n) ∷ []; all = sent_more l l' (event.Fall (actor.Node n)) effect.Down added; last = last_more l l' (event.Fall (actor.Node n)) effect.Down added }

-- nor has it when it has risen again
pub rising_leaves : (l l' : OwnLog) (n : ℕ) (age : Age) → IsRisenAgain l (actor.Node n) age l' → HasSent l' (sent_of l)
rising_leaves l l' n age again =
    let fallen = adds l (event.Fall (actor.Node n)) effect.Down in
    silent_stays fallen l' (event.Rise (actor.Node n) age) effect.Up (sent_of l) again.risen refl (falling_leaves l fallen n again.fallen)

-- the same where it could not rise, or not even fall
pub failing_leaves : (l l' : OwnLog) (n : ℕ) → (l' ≡ l) ⊎ IsAdded l (event.Fall (actor.Node n)) effect.Down l' → HasSent l' (sent_of l)
failing_leaves l l' n (inl same) = none_left l l' (ap sent_of same)
failing_leaves l l' n (inr added) = falling_leaves l l' n added

-- what was last said ends with the rest of it
ends_last : (a xs begun left : List Sending) → xs ≡ begun ++ left → (more : List Sending) × (latest a xs ≡ more ++ left)
ends_last a [] [] left is = (a, sym (append-nil a) ∙ ap (λ ys. a ++ ys) is)
ends_last a [] (y ∷ ys) left is = absurd (cc is)
ends_last a (x ∷ xs) begun left is = (begun, is)

-- what is left whole: where memory was refused nothing is asked
pub memory_whole : (l : OwnLog) (sent : List Sending) → IsWhole fault.Memory l sent
memory_whole l sent = λ other up. absurd (other refl)

pub silent_whole : (f : RunFault) (l l' : OwnLog) → sent_of l' ≡ sent_of l → IsWhole f l' (sent_of l)
silent_whole f l l' same = λ other up. same

-- a node that could not rise, or not even fall
pub failing_whole : (f : RunFault) (l l' : OwnLog) (n : ℕ) (v : Voter) (before : NodeRecord) (tried : List ℕ) (strings : List (List ℕ)) → FailsToKeep l v before tried strings →
    (l' ≡ l) ⊎ IsAdded l (event.Fall (actor.Node n)) effect.Down l' → IsWhole f l' (sent_of l)
failing_whole f l l' n v before tried strings is (inl same) = silent_whole f l l' (ap sent_of same)
failing_whole f l l' n v before tried strings is (inr added) =
    λ other up. absurd (up (subst IsDown (sym (added.part ∙ ap (after_own l.ballots (event.Fall (actor.Node n)) effect.Down) is.part)) refl))

pub whole_from : (f : RunFault) (l m l' : OwnLog) → sent_of m ≡ sent_of l → IsWhole f l' (sent_of m) → IsWhole f l' (sent_of l)
whole_from f l m l' same whole = subst (IsWhole f l') same whole

-- what was sent of what an event sends
pub said_as_far : (l l' : OwnLog) (e : Event) (done : Effect) (all : List Sending) (given given' : Option (List Sending)) → IsAdded l e done l' → sent_for l.ballots e done (part_now l) ≡ all →
    GivesSome all given given' → SentAsFar fault.Memory l l' given given'
said_as_far l l' e done all given given' added is some =
    let begun = some.1.begun in
    let last = ends_last (last_sent l) all begun some.0 some.1.whole in
    record {
      sent = sent_of l ++ begun;
      far = record {
        begun = last.0;
        left = some.0;
        all = sent_more l l' e done added ∙ ap (λ xs. sent_of l ++ xs) (is ∙ some.1.whole) ∙ sym (append_assoc (sent_of l) begun some.0);
        last = last_more l l' e done added ∙ ap (latest (last_sent l)) is ∙ last.1;
      };
      whole = memory_whole l' (sent_of l ++ begun);
      follows = λ before was. some.1.now ∙ ap (λ g. all_more g begun) was ∙ more_and_more before (sent_of l) begun;
    }

-- where an answer fails, it is for want of memory
pub fails_for_memory : {X : Type 0} (r : Result X RunFault) (Given : Type 0) (P : RunFault → Type 0) → IsOkUnless r fault.Memory → OnErr r Given → (Given → P fault.Memory) → IfErr r P
fails_for_memory (Ok x) Given P memory given then = tt
fails_for_memory (Err f) Given P memory given then = subst P (sym memory) (then given)

-- nothing was given since
pub nothing_given : (f : RunFault) (l l' : OwnLog) (given given' : Option (List Sending)) → given' ≡ given → HasSent l' (sent_of l) → IsWhole f l' (sent_of l) → SentAsFar f l l' given given'
nothing_given f l l' given given' same far whole = record { sent = sent_of l; far = far; whole = whole; follows = λ before was. same ∙ was }

-- nor told
pub silent_far : (f : RunFault) (l l' : OwnLog) (given given' : Option (List Sending)) → given' ≡ given → sent_of l' ≡ sent_of l → SentAsFar f l l' given given'
silent_far f l l' given given' same silent = nothing_given f l l' given given' same (none_left l l' silent) (silent_whole f l l' silent)

-- one after the other
pub far_on : (f : RunFault) (l m l' : OwnLog) (given between given' : Option (List Sending)) → SentFollows l m given between → SentAsFar f m l' between given' → SentAsFar f l l' given given'
far_on f l m l' given between given' first second =
    record { sent = second.sent; far = second.far; whole = second.whole; follows = λ before was. second.follows before (first.follows before was) }

-- on top of what was there before a log that tells nothing
pub told_far : (f : RunFault) (l l' : OwnLog) (given given' : Option (List Sending)) → sent_of l ≡ [] → SentAsFar f l l' given given' → ToldAsFar f l' given given'
told_far f l l' given given' nothing later =
    record { sent = later.sent; far = later.far; whole = later.whole; now = later.follows given (sym (ap (all_more given) nothing ∙ none_more given)) }

-- a log that tells nothing
pub none_told : (f : RunFault) (l : OwnLog) (given : Option (List Sending)) → sent_of l ≡ [] → ToldAsFar f l given given
none_told f l given nothing = told_far f l l given given nothing (silent_far f l l given given refl refl)

-- nothing was begun yet
pub none_given : (all : List Sending) (given : Option (List Sending)) → HasGiven all all given given
none_given all given = record { begun = []; whole = refl; now = sym (none_more given) }

-- and then one more was given
one_given : (all left : List Sending) (x : Sending) (given between given' : Option (List Sending)) → HasGiven all (x ∷ left) given between → given' ≡ one_more between x → HasGiven all left given given'
one_given all left x given between given' so more = record {
  begun = so.begun ++ x ∷ [];
  whole = so.whole ∙ sym (append_assoc so.begun (x ∷ []) left);
  now = more ∙ one_is_more between x ∙ ap (λ g. all_more g (x ∷ [])) so.now ∙ more_and_more given so.begun (x ∷ []);
}

-- the messages from a place on are the one there and those behind it
from_place : (messages : List Message) (i number : ℕ) (m other : Message) → i < length messages → m ≡ get_or messages i other →
    sendings number (drop i messages) ≡ sending.Sent (addressee m) (record { number = number; frame = frame_of m }) ∷ sendings ((number + 1) % 2 ^ 32) (drop (i + 1) messages)
from_place messages i number m other few at =
    let next : suc i ≡ i + 1 = omega arith in
    ap (sendings number) (drop-cons messages i other few ∙ ap (λ x. x ∷ drop (suc i) messages) (sym at) ∙ ap (λ k. m ∷ drop k messages) next)

-- and then the one at a place was given
pub reply_given : (all : List Sending) (messages : List Message) (i number : ℕ) (m other : Message) (to : Actor) (frame : List ℕ) (given between given' : Option (List Sending)) →
    i < length messages → m ≡ get_or messages i other → to ≡ addressee m → frame ≡ frame_of m → HasGiven all (sendings number (drop i messages)) given between →
    given' ≡ one_more between (sending.Sent to (record { number = number; frame = frame })) → HasGiven all (sendings ((number + 1) % 2 ^ 32) (drop (i + 1) messages)) given given'
reply_given all messages i number m other to frame given between given' few at whom spelled so more =
    let x = sending.Sent (addressee m) (record { number = number; frame = frame_of m }) in
    let same : sending.Sent to (record { number = number; frame = frame }) ≡ x =
    ap (λ a. sending.Sent a (record { number = number; frame = frame })) whom ∙ ap (λ f. sending.Sent (addressee m) (record { number = number; frame = f })) spelled in
    one_given all (sendings ((number + 1) % 2 ^ 32) (drop (i + 1) messages)) x given between given'
    (subst (λ xs. HasGiven all xs given between) (from_place messages i number m other few at) so) (more ∙ ap (one_more between) same)

-- once all were given, nothing is left
pub all_given : (all : List Sending) (given given' : Option (List Sending)) → HasGiven all [] given given' → given' ≡ all_more given all
all_given all given given' so = so.now ∙ ap (all_more given) (sym (so.whole ∙ append-nil so.begun))

is_refused : (X : Type 0) (before : Option Bool) (fault : LinkFault) → IsRefused (refused_after {X = X} before (Err fault))
is_refused X None fault = tt
is_refused X (Some was) fault = refl

-- every client is told, or memory was refused
pub gone_is_told : {X : Type 0} (answer : Result X LinkFault) (n : ℕ) (given given' : Option (List Sending)) (before after : Option Bool) →
    OnOk answer (given' ≡ one_more given (sending.Told (post.Gone n))) → OnErr answer (given' ≡ given) → after ≡ refused_after before answer → TellsGone n given given' after
gone_is_told (Ok x) n given given' before after told still was = inl told
gone_is_told (Err fault) n given given' before after told still was = inr (still, subst IsRefused (sym was) (is_refused _ before fault))

pub has_gone : (n : ℕ) (f : RunFault) (l : OwnLog) (given between given' : Option (List Sending)) (refused : Option Bool) → ToldAsFar f l given between → TellsGone n between given' refused → HasGone n f l given given' refused
has_gone n f l given between given' refused told gone = record { between = between; told = told; gone = gone }
