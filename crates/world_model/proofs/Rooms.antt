-- Each exact step on the way in pays what it says out of what is owed: with room for what is owed the list of
-- messages never gets full.
use Rattle.std.proofs.Common.{◌≡◌, ℕ, ◌+◌, ◌<◌, ◌≤◌, ◌==◌, Bool, true, false, if◌then◌else◌, List, length, Option, None, Some, Ok, Err, arith}
use Rattle.lock_messages.specs.declared.messages.Message.TheVariants as message
use Rattle.lock_model.specs.Ballots.{Ballot, node_count}
use Rattle.lock_model.specs.ExactHearing.{is_node_of}
use Rattle.world_model.specs.declared.TheConstants.{MAX_MESSAGES}
use Rattle.world_model.specs.declared.events.Event.{Event}
use Rattle.world_model.specs.declared.events.Event.TheVariants as event
use Rattle.world_model.specs.declared.events.StepFault.TheVariants as fault
use Rattle.world_model.specs.declared.exact.ExactClient.{ExactClient}
use Rattle.world_model.specs.declared.exact.ExactClientPhase.{ExactClientPhase}
use Rattle.world_model.specs.declared.exact.ExactClientPhase.TheVariants as client
use Rattle.world_model.specs.declared.exact.ExactWorld.{ExactWorld}
use Rattle.world_model.specs.declared.ways.Move.{Move}
use Rattle.world_model.specs.declared.ways.Move.TheVariants.{Alone, Hand, HearFrom}
use Rattle.world_model.specs.declared.ways.Want.{Want}
use Rattle.world_model.specs.ExactClients.{says_one, tells_in, tells}
use Rattle.world_model.specs.ExactWorlds.{numbered, ClientDoes, Stepped, next_number, refusal, step}
use Rattle.world_model.specs.Forgetting.{forget, setting_of, IsSound}
use Rattle.world_model.specs.Parts.{client_part, turn_says, said_in}
use Rattle.world_model.proofs.Nearer.{Fine}
use Rattle.world_model.proofs.MoveKinds.{MoveKind, finishes, rests, hands_away, begins, hands_in, hears, enters}
use Rattle.world_model.proofs.RefusalFacts.{full-without-room}
use Rattle.world_model.proofs.Deeds.{ModelLaws}
use Rattle.world_model.proofs.Owed.{owed}
use Rattle.world_model.proofs.AloneRooms.{EventFits, EventPaid, finishes-paid, rests-paid, begins-paid, enters-paid, hears-paid}
use Rattle.world_model.proofs.HandRooms.{away-pays, away-owed, in-pays, in-owed}

-- a hand pays what it says: the client says, and the node takes the next number
abbrev pub HandPays : (ℕ → Bool) → Want → ExactWorld → ℕ → ℕ → Type 0
HandPays chosen a x d n =
    (t u : Stepped) → step x (event.SayTo d n) ≡ Ok t → step t.world (event.Take n (next_number x)) ≡ Ok u → length u.world.sent + owed chosen a u.world ≤ length x.sent + owed chosen a x

-- a move is paid: each of its steps that is taken, and what it says is owed
abbrev pub IsPaid : (ℕ → Bool) → Want → ExactWorld → Move → Type 0
IsPaid chosen a x (Alone e) = EventPaid chosen a x e
IsPaid chosen a x (Hand d n) = HandPays chosen a x d n × EventFits chosen a x (event.SayTo d n)
IsPaid chosen a x (HearFrom n) = (number : ℕ) → EventPaid chosen a x (event.Hear a.client number)

-- a client says one message, if any
tells-one : (b : List Ballot) (d n : ℕ) (k : ExactClient) → length (turn_says (tells b d n k)) ≤ 1
tells-one b d n k = known (is_node_of (node_count b) n)
  where
    some : (z : Bool) → length (turn_says {A = ExactClient} (if z then Err fault.NothingToSay else says_one k (message.Release n d k.kept))) ≤ 1
    some true = omega arith
    some false = omega arith

    in_phase : (p : ExactClientPhase) → length (turn_says (tells_in d n k p)) ≤ 1
    in_phase client.Down = omega arith
    in_phase client.Idle = some (k.kept == 0)
    in_phase (client.Chosen t place) = omega arith
    in_phase (client.Asking p) = omega arith
    in_phase (client.Inside p) = omega arith

    known : (z : Bool) → length (turn_says {A = ExactClient} (if z then tells_in d n k k.phase else Err fault.UnknownActor)) ≤ 1
    known true = in_phase k.phase
    known false = omega arith

hand-fits : ModelLaws → (chosen : ℕ → Bool) (a : Want) (x : ExactWorld) (d n : ℕ) → 2 ≤ owed chosen a x → EventFits chosen a x (event.SayTo d n)
hand-fits laws chosen a x d n some full = omega (arith, some, full-without-room laws x (event.SayTo d n) full, one (numbered x.clients d))
  where
    one : (o : Option ExactClient) → length (said_in x.ballots (ClientDoes d (λ b k. tells b d n k)) (client_part o)) ≤ 1
    one None = omega arith
    one (Some k) = tells-one x.ballots d n k

-- Each kind of move is paid.
pub paid : ModelLaws → (chosen : ℕ → Bool) (a : Want) (x : ExactWorld) (mv : Move) → IsSound x → Fine (setting_of x) chosen a (forget x) → MoveKind (setting_of x) chosen a (forget x) mv → IsPaid chosen a x mv
paid laws chosen a x _ ok fine (finishes n e is known next) = finishes-paid laws chosen a x n ok is known e next
paid laws chosen a x _ ok fine (rests d e known apart up next) = rests-paid laws chosen a x d e ok apart next
paid laws chosen a x _ ok fine (hands_away n d is known idle blocking resting) = (
  away-pays laws chosen a x n d ok fine is known idle blocking resting,
  hand-fits laws chosen a x d n (away-owed laws chosen a x n d ok fine is known idle blocking resting),
)
paid laws chosen a x _ ok fine (begins e next) = begins-paid laws chosen a x e ok next
paid laws chosen a x _ ok fine (hands_in n p is known idle none asking wanted ungranted unsent) = (
  in-pays laws chosen a x n p ok fine is known idle none asking wanted ungranted unsent,
  hand-fits laws chosen a x a.client n (in-owed laws chosen a x n p ok fine is known idle none asking wanted ungranted unsent),
)
paid laws chosen a x _ ok fine (hears n p is known asking wanted ungranted said) = λ number. hears-paid laws chosen a x number ok
paid laws chosen a x _ ok fine (enters p asking wanted all) = enters-paid laws chosen a x p ok asking wanted

-- The same one by one: a move of one event,

pub alone-pays : ModelLaws → (chosen : ℕ → Bool) (a : Want) (x : ExactWorld) (e : Event) (t : Stepped) → IsSound x → Fine (setting_of x) chosen a (forget x) → MoveKind (setting_of x) chosen a (forget x) (Alone e) →
    step x e ≡ Ok t → length t.world.sent + owed chosen a t.world ≤ length x.sent + owed chosen a x
alone-pays laws chosen a x e t ok fine kind taken = (paid laws chosen a x (Alone e) ok fine kind).0 t taken

pub alone-full : ModelLaws → (chosen : ℕ → Bool) (a : Want) (x : ExactWorld) (e : Event) → IsSound x → Fine (setting_of x) chosen a (forget x) → MoveKind (setting_of x) chosen a (forget x) (Alone e) →
    refusal x e ≡ Some fault.SentListFull → MAX_MESSAGES < length x.sent + owed chosen a x
alone-full laws chosen a x e ok fine kind full = (paid laws chosen a x (Alone e) ok fine kind).1 full

-- and a hand

pub hand-pays : ModelLaws → (chosen : ℕ → Bool) (a : Want) (x : ExactWorld) (d n : ℕ) (t u : Stepped) → IsSound x → Fine (setting_of x) chosen a (forget x) → MoveKind (setting_of x) chosen a (forget x) (Hand d n) →
    step x (event.SayTo d n) ≡ Ok t → step t.world (event.Take n (next_number x)) ≡ Ok u → length u.world.sent + owed chosen a u.world ≤ length x.sent + owed chosen a x
hand-pays laws chosen a x d n t u ok fine kind said taken = (paid laws chosen a x (Hand d n) ok fine kind).0 t u said taken

pub hand-full : ModelLaws → (chosen : ℕ → Bool) (a : Want) (x : ExactWorld) (d n : ℕ) → IsSound x → Fine (setting_of x) chosen a (forget x) → MoveKind (setting_of x) chosen a (forget x) (Hand d n) →
    refusal x (event.SayTo d n) ≡ Some fault.SentListFull → MAX_MESSAGES < length x.sent + owed chosen a x
hand-full laws chosen a x d n ok fine kind full = (paid laws chosen a x (Hand d n) ok fine kind).1 full

-- whatever the client hears, nothing is said
pub hear-pays : ModelLaws → (chosen : ℕ → Bool) (a : Want) (x : ExactWorld) (number : ℕ) (t : Stepped) → IsSound x → step x (event.Hear a.client number) ≡ Ok t →
    length t.world.sent + owed chosen a t.world ≤ length x.sent + owed chosen a x
hear-pays laws chosen a x number t ok heard = (hears-paid laws chosen a x number ok).0 t heard
