-- What a client's own log tells of what it sends.
use Rattle.std.proofs.Common.{◌≡◌, ℕ, Bool, true, false, List, [], ◌∷◌, ◌++◌, Option, None, Some, refl, sym, ap, ◌∙◌, append-nil, if◌then◌else◌, map, ◌==◌, subst, arith}
use Rattle.lock_messages.specs.declared.ids.Actor.TheVariants as actor
use Rattle.lock_messages.specs.declared.messages.Message.{Message}
use Rattle.lock_messages.specs.declared.tickets.Mode.{Mode}
use Rattle.lock_messages.specs.Frames.{frame_of}
use Rattle.lock_model.specs.Ballots.{Ballot, node_count}
use Rattle.lock_model.specs.ExactHearing.{is_node_of}
use Rattle.lossy_link.specs.declared.parcels.Sending.{Sending}
use Rattle.lossy_link.specs.declared.parcels.Sending.TheVariants as sending
use Rattle.lossy_link.specs.Links.{one_more, all_more}
use Rattle.lossy_link.proofs.GivenFacts.{more_and_more, one_is_more, none_more}
use Rattle.client_core.specs.declared.phases.State.{State}
use Rattle.client_core.specs.declared.phases.State.TheVariants.{Idle, Chosen, Asking, Inside}
use Rattle.client_core.specs.Clients.{Client}
use Rattle.client_core.specs.Calls.{message_for, message_in}
use Rattle.world_model.specs.declared.events.Effect.{Effect}
use Rattle.world_model.specs.declared.events.Event.TheVariants as event
use Rattle.world_model.specs.Parts.{Part, ClientPart, said_by, number_of}
use Rattle.event_recorders.specs.declared.faults.RunFault.{RunFault}
use Rattle.event_recorders.specs.declared.faults.RunFault.TheVariants as fault
use Rattle.event_recorders.specs.OwnLogs.{OwnLog, part_now, IsAdded}
use Rattle.actor_steps.specs.Steps.{HasRead}
use Rattle.client_loop.specs.Standing.{Stands, part_of}
use Rattle.actor_steps.specs.Sendings.{sent_of, sending_to, SentFollows}
use Rattle.actor_steps.proofs.SendingFacts.{sent_more, silent, follows_none}
use Rattle.client_loop.specs.Sendings.{SentUnlessMemory, ToldUnlessMemory, EndsHere}

pub begin_sends_nothing : (l l' : OwnLog) (c : ℕ) (m : Mode) (x : List ℕ) (place : ℕ) (done : Effect) → IsAdded l (event.Begin c m x place) done l' → sent_of l' ≡ sent_of l
begin_sends_nothing l l' c m x place done added = silent l l' (event.Begin c m x place) done added refl

pub read_sends_nothing : (l l' : OwnLog) (c k : ℕ) (m : Message) → HasRead l (event.Hear c k) m l' → sent_of l' ≡ sent_of l
read_sends_nothing l l' c k m read = silent l l' (event.Hear c k) read.done read.added refl

pub enter_sends_nothing : (l l' : OwnLog) (c : ℕ) (done : Effect) → IsAdded l (event.Enter c) done l' → sent_of l' ≡ sent_of l
enter_sends_nothing l l' c done added = silent l l' (event.Enter c) done added refl

pub leave_sends_nothing : (l l' : OwnLog) (c : ℕ) (done : Effect) → IsAdded l (event.Leave c) done l' → sent_of l' ≡ sent_of l
leave_sends_nothing l l' c done added = silent l l' (event.Leave c) done added refl

pub soften_sends_nothing : (l l' : OwnLog) (c : ℕ) (done : Effect) → IsAdded l (event.Soften c) done l' → sent_of l' ≡ sent_of l
soften_sends_nothing l l' c done added = silent l l' (event.Soften c) done added refl

-- what a client says to a node is the message that its core has for it
says_in : (b : List Ballot) (c n attempt : ℕ) (s : State) (is_node none : Bool) (m : Message) → is_node_of (node_count b) n ≡ is_node → (attempt == 0) ≡ none →
    (if is_node then message_in n c attempt s else None) ≡ Some m →
    said_by b (event.SayTo c n) (ClientPart (part_of (record { client = c; ballots = b; attempt = attempt; state = s }))) ≡ m ∷ []
says_in b c n attempt s false none m node zero_is has = cc
says_in b c n attempt Idle true true m node zero_is has =
    let none = rw zero_is at has in cc
says_in b c n attempt Idle true false m node zero_is has =
    let some = rw zero_is at has in
    rw (node, zero_is) cc
says_in b c n attempt (Chosen t place) true none m node zero_is has = cc
says_in b c n attempt (Asking p) true none m node zero_is has = rw node cc
says_in b c n attempt (Inside p) true none m node zero_is has = rw node cc

pub says_message : (c : Client) (n : ℕ) (m : Message) → message_for c n ≡ Some m → said_by c.ballots (event.SayTo c.client n) (ClientPart (part_of c)) ≡ m ∷ []
says_message c n m has = says_in c.ballots c.client n c.attempt c.state (is_node_of (node_count c.ballots) n) (c.attempt == 0) m refl refl has

-- a SayTo sends its message
pub sayto_sends : (l l' : OwnLog) (finds : List (List ℕ)) (c : Client) (who n number : ℕ) (m : Message) (done : Effect) → Stands l finds c → who ≡ c.client → message_for c n ≡ Some m →
    number ≡ number_of done → IsAdded l (event.SayTo who n) done l' → sent_of l' ≡ sent_of l ++ sending_to n number m ∷ []
sayto_sends l l' finds c who n number m done s same has is added =
    let says : said_by l.ballots (event.SayTo who n) (part_now l) ≡ m ∷ [] =
    ap (λ (p : Part). said_by l.ballots (event.SayTo who n) p) s.part ∙ ap (λ (b : List Ballot). said_by b (event.SayTo who n) (ClientPart (part_of c))) s.ballots
    ∙ ap (λ (k : ℕ). said_by c.ballots (event.SayTo k n) (ClientPart (part_of c))) same ∙ says_message c n m has in
    sent_more l l' (event.SayTo who n) done added
    ∙ ap (λ (xs : List Message). sent_of l ++ map (sending_to n (number_of done)) xs) says
    ∙ ap (λ k. sent_of l ++ sending_to n k m ∷ []) (sym is)

-- one more in the log, and one more over the link
pub one_follows : (l l' : OwnLog) (x : Sending) (given given' : Option (List Sending)) → sent_of l' ≡ sent_of l ++ x ∷ [] → given' ≡ one_more given x → SentFollows l l' given given'
one_follows l l' x given given' so told = record {
  follows = λ before was.
      told ∙ one_is_more given x ∙ ap (λ (g : Option (List Sending)). all_more g (x ∷ [])) was ∙ more_and_more before (sent_of l) (x ∷ []) ∙ ap (all_more before) (sym so);
}

-- a message that was said went as its frame
pub tell_follows : (l l' : OwnLog) (n number : ℕ) (m : Message) (frame : List ℕ) (given given' : Option (List Sending)) → sent_of l' ≡ sent_of l ++ sending_to n number m ∷ [] →
    frame ≡ frame_of m → given' ≡ one_more given (sending.Sent (actor.Node n) (record { number = number; frame = frame })) → SentFollows l l' given given'
tell_follows l l' n number m frame given given' so spelled told =
    one_follows l l' (sending_to n number m) given given' so
    (told ∙ ap (λ (bytes : List ℕ). one_more given (sending.Sent (actor.Node n) (record { number = number; frame = bytes }))) spelled)

-- The same where it ends by a fault.

-- memory was refused before what was said last was sent
pub unless_memory : (l l' : OwnLog) (x : Sending) (given given' : Option (List Sending)) → sent_of l' ≡ sent_of l ++ x ∷ [] → given' ≡ given → SentUnlessMemory fault.Memory l l' given given'
unless_memory l l' x given given' said still =
    record { sent = sent_of l; left = x ∷ []; all = said; last = omega arith; none = λ other. absurd (other refl); follows = λ before was. still ∙ was }

-- all that the log tells was sent
pub unless_follows : (f : RunFault) (l l' : OwnLog) (given given' : Option (List Sending)) → SentFollows l l' given given' → SentUnlessMemory f l l' given given'
unless_follows f l l' given given' follows =
    record { sent = sent_of l'; left = []; all = sym (append-nil (sent_of l')); last = omega arith; none = λ other. refl; follows = follows.follows }

-- nothing more in either
pub unless_none : (f : RunFault) (l l' : OwnLog) (given given' : Option (List Sending)) → sent_of l' ≡ sent_of l → given' ≡ given → SentUnlessMemory f l l' given given'
unless_none f l l' given given' same still = unless_follows f l l' given given' (record { follows = λ before was. still ∙ was ∙ ap (all_more before) (sym same) })

pub unless_on : (f : RunFault) (l m l' : OwnLog) (given between given' : Option (List Sending)) → SentFollows l m given between → SentUnlessMemory f m l' between given' → SentUnlessMemory f l l' given given'
unless_on f l m l' given between given' first second =
    record { sent = second.sent; left = second.left; all = second.all; last = second.last; none = second.none; follows = λ before was. second.follows before (first.follows before was) }

pub unless_from : (f : RunFault) (l m l' : OwnLog) (given given' : Option (List Sending)) → sent_of m ≡ sent_of l → SentUnlessMemory f m l' given given' → SentUnlessMemory f l l' given given'
unless_from f l m l' given given' same later = unless_on f l m l' given given given' (follows_none l m given same) later

-- where memory wasn't refused, nothing is left
pub none_left : (f : RunFault) (l l' : OwnLog) (given given' : Option (List Sending)) → (f ≡ fault.Memory → ⊥) → SentUnlessMemory f l l' given given' → SentFollows l l' given given'
none_left f l l' given given' other is = record {
  follows = λ before was. is.follows before was ∙ ap (all_more before) (sym (is.all ∙ ap (λ xs. is.sent ++ xs) (is.none other) ∙ append-nil is.sent));
}

-- nothing more was logged, nor given, and the fault is the same
ended-there : (f later : RunFault) (l m l' : OwnLog) (given between given' : Option (List Sending)) → f ≡ fault.Memory → EndsHere later m l' between given' → SentUnlessMemory f l m given between →
    SentUnlessMemory later l l' given given'
ended-there f later l m l' given between given' memory here first =
    subst (λ g. SentUnlessMemory later l l' given g) (sym here.still)
    (subst (λ x. SentUnlessMemory later l x given between) (sym here.log) (subst (λ k. SentUnlessMemory k l m given between) (memory ∙ sym here.same) first))

-- If the first fault is not of memory, all was sent before it.
unless_then : (f later : RunFault) (l m l' : OwnLog) (given between given' : Option (List Sending)) → (f ≡ fault.Memory → ⊥) → SentUnlessMemory f l m given between → SentUnlessMemory later m l' between given' → SentUnlessMemory later l l' given given'
unless_then f later l m l' given between given' other first second = unless_on later l m l' given between given' (none_left f l m given between other first) second

-- The same of a fault and a later one by which the thread ends. After running out of memory nothing more is done.
pub unless_both : (f later : RunFault) (l m l' : OwnLog) (given between given' : Option (List Sending)) → (f ≡ fault.Memory → EndsHere later m l' between given') →
    SentUnlessMemory f l m given between → SentUnlessMemory later m l' between given' → SentUnlessMemory later l l' given given'
unless_both fault.Memory later l m l' given between given' memory first second = ended-there fault.Memory later l m l' given between given' refl (memory refl) first
unless_both fault.NotReopened later l m l' given between given' memory first second = unless_then _ _ _ _ _ _ _ _ (λ is. absurd (cc is)) first second
unless_both fault.Book later l m l' given between given' memory first second = unless_then _ _ _ _ _ _ _ _ (λ is. absurd (cc is)) first second
unless_both fault.Spent later l m l' given between given' memory first second = unless_then _ _ _ _ _ _ _ _ (λ is. absurd (cc is)) first second
unless_both fault.TooFewNodes later l m l' given between given' memory first second = unless_then _ _ _ _ _ _ _ _ (λ is. absurd (cc is)) first second
unless_both fault.GaveUp later l m l' given between given' memory first second = unless_then _ _ _ _ _ _ _ _ (λ is. absurd (cc is)) first second

-- on top of what was there before a log that sends nothing

pub told_unless : (f : RunFault) (l l' : OwnLog) (given given' : Option (List Sending)) → sent_of l ≡ [] → SentUnlessMemory f l l' given given' → ToldUnlessMemory f l' given given'
told_unless f l l' given given' nothing is =
    record { sent = is.sent; left = is.left; all = is.all; last = is.last; none = is.none; now = is.follows given (sym (ap (all_more given) nothing ∙ none_more given)) }

pub told_nothing : (f : RunFault) (l : OwnLog) (given : Option (List Sending)) → sent_of l ≡ [] → ToldUnlessMemory f l given given
told_nothing f l given nothing =
    record { sent = []; left = []; all = nothing; last = omega arith; none = λ other. refl; now = sym (none_more given) }
