-- What a client sends.
use Rattle.std.specs.Prelude.{◌≡◌, ℕ, ◌≤◌, length, Bool, true, false, List, [], ◌∷◌, ◌++◌, filter, Option, None, Some, Result, OnOk, IfErr}
use Rattle.std.specs.List.{range_with_len}
use Rattle.lock_messages.specs.declared.messages.Message.{Message}
use Rattle.lock_messages.specs.declared.messages.Message.TheVariants as message
use Rattle.lock_model.specs.Ballots.{node_count}
use Rattle.vote_weights.specs.Sets.{has_node}
use Rattle.client_core.specs.Clients.{Client}
use Rattle.lossy_link.specs.declared.parcels.Sending.{Sending}
use Rattle.lossy_link.specs.Links.{all_more}
use Rattle.event_recorders.specs.declared.faults.RunFault.{RunFault}
use Rattle.event_recorders.specs.declared.faults.RunFault.TheVariants as fault
use Rattle.event_recorders.specs.OwnLogs.{OwnLog}
pub use Rattle.actor_steps.specs.Sendings.{sending_to, sent_for, sent_of, SentFollows}

-- The same where it ended by a fault, but for what is left of what the other log tells: its last message at most, and
-- nothing unless memory was refused, which may come between a message's line in the log and its sending.
pub record SentUnlessMemory (f : RunFault) (l l' : OwnLog) (given given' : Option (List Sending)) : Type 0 where
  pub sent : List Sending
  pub left : List Sending
  pub all : sent_of l' ≡ sent ++ left
  pub last : length left ≤ 1
  pub none : (f ≡ fault.Memory → ⊥) → left ≡ []
  pub follows : (before : Option (List Sending)) → given ≡ all_more before (sent_of l) → given' ≡ all_more before sent

-- What was sent is what the other log tells beyond the one. If it ended by a fault, the last message may be missing if memory ran out.
pub record SendsBy {A : Type 0} (r : Result A RunFault) (l l' : OwnLog) (given given' : Option (List Sending)) : Type 0 where
  pub all : OnOk r (SentFollows l l' given given')
  pub faulted : IfErr r (λ f. SentUnlessMemory f l l' given given')

-- it ends here, by want of memory: nothing more is logged, and nothing more is given
pub record EndsHere (f : RunFault) (l l' : OwnLog) (given given' : Option (List Sending)) : Type 0 where
  pub same : f ≡ fault.Memory
  pub log : l' ≡ l
  pub still : given' ≡ given

-- what the one log tells beyond the other: that the message went to the node, once, or nothing where there is
-- none
abbrev pub Tells : Option Message → ℕ → OwnLog → OwnLog → Type 0
Tells None n l l' = sent_of l' ≡ sent_of l
Tells (Some m) n l l' = (number : ℕ) × (sent_of l' ≡ sent_of l ++ sending_to n number m ∷ [])

-- to each of the nodes, one after the other, its message went, under some number
abbrev pub AreToldEach : List ℕ → (ℕ → Message) → List Sending → Type 0
AreToldEach [] message [] = Unit {0}
AreToldEach [] message (s ∷ sent) = ⊥
AreToldEach (n ∷ nodes) message [] = ⊥
AreToldEach (n ∷ nodes) message (s ∷ sent) = ((number : ℕ) × (s ≡ sending_to n number (message n))) × AreToldEach nodes message sent

-- what the one log tells beyond the other: that to each of these nodes its message went, once, and nothing
-- else
pub record TellsEach (nodes : List ℕ) (message : ℕ → Message) (l l' : OwnLog) : Type 0 where
  pub more : List Sending
  pub sent : sent_of l' ≡ sent_of l ++ more
  pub each : AreToldEach nodes message more

-- the nodes of the set among the first so many, in ascending order
abbrev pub nodes_of : List ℕ → ℕ → List ℕ
nodes_of set count = filter (λ n. has_node set n) (range_with_len 1 count)

-- that an attempt is softened, as it is said to a node
abbrev pub soften_of : ℕ → ℕ → ℕ → Message
soften_of client attempt n = message.Soften n client attempt

-- The Soften of the client's attempt went once to each node of the ballots that is in the set, and nothing
-- else was sent since.
abbrev pub TellsSoftened : Client → List ℕ → OwnLog → OwnLog → Type 0
TellsSoftened c set l l' = TellsEach (nodes_of set (node_count c.ballots)) (soften_of c.client c.attempt) l l'

-- the same where the client softens; else nothing was sent since
abbrev pub TellsSoftenedIf : Bool → Client → List ℕ → OwnLog → OwnLog → Type 0
TellsSoftenedIf true c set l l' = TellsSoftened c set l l'
TellsSoftenedIf false c set l l' = sent_of l' ≡ sent_of l

-- What the log tells was sent, on top of what was sent before, but for what is left of it: its last message at most, and
-- nothing unless memory was refused.
pub record ToldUnlessMemory (f : RunFault) (l : OwnLog) (given given' : Option (List Sending)) : Type 0 where
  pub sent : List Sending
  pub left : List Sending
  pub all : sent_of l ≡ sent ++ left
  pub last : length left ≤ 1
  pub none : (f ≡ fault.Memory → ⊥) → left ≡ []
  pub now : given' ≡ all_more given sent
