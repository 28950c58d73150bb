-- What follows from the definitions, as statements; each is proved as the contract of a function of
-- `laws`.
use Rattle.std.specs.Prelude.{◌≡◌, ◌↔◌, ℕ, ◌≤◌, Bool, true, false, IsTrue, List, []}
use Rattle.lock_messages.specs.declared.tickets.Mode.{Mode}
use Rattle.lock_messages.specs.declared.tickets.Mode.TheVariants.{Write}
use Rattle.lock_messages.specs.declared.tickets.Ticket.{Ticket}
use Rattle.lock_messages.specs.declared.messages.Message.{Message}
use Rattle.lock_messages.specs.Messages.{is_for_node}
use Rattle.lock_model.specs.declared.entries.Entry.{Entry}
use Rattle.lock_model.specs.declared.hearing.Heard.{Heard}
use Rattle.lock_model.specs.declared.problems.Problem.{Problem}
use Rattle.lock_model.specs.Ballots.{Ballot, Crosses, IsEnough, IsShared, AreCrossing, IsSharedUnderBoth, HasPlace, ballot_at, AllCross}
use Rattle.lock_model.specs.Stations.{Station, IsLawful, IsCaused, IsEnded, Settles}
use Rattle.lock_model.specs.Decisions.{Decides, IsSwitched}
use Rattle.lock_model.specs.Hearing.{HearsOfTicket, HearsSoftened, HearsAtRest}
use Rattle.lock_model.specs.ExactHearing.{heard_of_ticket, heard_softened, heard_at_rest}
use Rattle.lock_model.specs.ExactStations.{EachOnce, IsWellFormed, meaning, IsSettling, with_holders, settled, new_holders}
use Rattle.lock_model.specs.ExactDecisions.{decision, Changes, changes, switches, same_problem}
use Rattle.lock_model.specs.Judgement.{is_lawful, is_caused}

-- where a ballot crosses, two sets that are enough, one of them for a writer, share a node of the
-- ballot that has votes
abbrev pub EnoughSetsShareANode : Type 0
EnoughSetsShareANode = (b : Ballot) (mode : Mode) (writers others : ℕ → Bool) → Crosses b →
    IsEnough b Write writers → IsEnough b mode others → (n : ℕ) × IsShared b writers others n

-- where two ballots cross, two sets that are enough, one for a writer under the first ballot and the
-- other under the second, share a node that has votes in both
abbrev pub EnoughSetsShareANodeOfBoth : Type 0
EnoughSetsShareANodeOfBoth = (first second : Ballot) (mode : Mode) (writers others : ℕ → Bool) → AreCrossing first second →
    IsEnough first Write writers → IsEnough second mode others → (n : ℕ) × IsSharedUnderBoth first second writers others n

-- a ballot that crosses crosses with itself as well
abbrev pub CrossesWithItself : Type 0
CrossesWithItself = (b : Ballot) → Crosses b → AreCrossing b b

-- where the ballots of a list cross, those at any two places do, in either order, and the one at a place
-- with itself
abbrev pub AnyTwoCross : Type 0
AnyTwoCross = (ballots : List Ballot) (first second : ℕ) → AllCross ballots → HasPlace ballots first → HasPlace ballots second →
    AreCrossing (ballot_at ballots first) (ballot_at ballots second)

-- entries, each client once, are those of a lawful station, or of a caused one, exactly where the test
-- on them passes
abbrev pub LawfulIsSeen : Type 0
LawfulIsSeen = (p : Problem) (entries : List Entry) → EachOnce entries → IsTrue (is_lawful entries) ↔ IsLawful (meaning p entries)

abbrev pub CausedIsSeen : Type 0
CausedIsSeen = (p : Problem) (entries : List Entry) → EachOnce entries → IsTrue (is_caused p entries) ↔ IsCaused (meaning p entries)

-- settling makes holders of a set of clients that is as it must be, and leaves the entries in which
-- these hold
abbrev pub SettlingIsExact : Type 0
SettlingIsExact = (p : Problem) (entries : List Entry) → EachOnce entries →
    IsSettling p entries (new_holders entries (settled p entries))
    × (settled p entries ≡ with_holders (new_holders entries (settled p entries)) entries)

-- no other set of clients is as it must be
abbrev pub SettlingIsUnique : Type 0
SettlingIsUnique = (p : Problem) (entries : List Entry) (chosen others : ℕ → Bool) → EachOnce entries →
    IsSettling p entries chosen → IsSettling p entries others → (c : ℕ) → chosen c ≡ others c

-- from a caused station settling changes nothing, and from its entries neither
abbrev pub NothingToSettle : Type 0
NothingToSettle = (s t : Station) → IsCaused s → Settles s t → (c : ℕ) → t.at c ≡ s.at c

abbrev pub NoEntryToSettle : Type 0
NoEntryToSettle = (p : Problem) (entries : List Entry) → EachOnce entries → IsCaused (meaning p entries) → settled p entries ≡ entries

-- From a lawful and caused station, the exact decision on a message for the node is one that the
-- node may take, and leaves the entries of a lawful and caused station.
pub record IsAllowed (p : Problem) (entries : List Entry) (message : Message) : Type 0 where
  pub decides : Decides (meaning p entries) message (meaning p (decision p entries message).entries) (decision p entries message).replies
  pub well_formed : IsWellFormed (decision p entries message).entries
  pub lawful : IsLawful (meaning p (decision p entries message).entries)
  pub caused : IsCaused (meaning p (decision p entries message).entries)

abbrev pub ExactDecisionIsAllowed : Type 0
ExactDecisionIsAllowed = (p : Problem) (entries : List Entry) (message : Message) (n : ℕ) → is_for_node message n ≡ true →
    IsWellFormed entries → IsLawful (meaning p entries) → IsCaused (meaning p entries) →
    IsAllowed p entries message

-- From a lawful station, whatever its problem, the exact switch to a problem is one that the node may
-- take, and leaves the entries of a lawful station that is caused under the new problem.
pub record IsAllowedSwitch (p q : Problem) (entries : List Entry) (n : ℕ) : Type 0 where
  pub switched : IsSwitched n (meaning p entries) q (meaning q (switches n q entries).entries) (switches n q entries).replies
  pub well_formed : IsWellFormed (switches n q entries).entries
  pub lawful : IsLawful (meaning q (switches n q entries).entries)
  pub caused : IsCaused (meaning q (switches n q entries).entries)

abbrev pub ExactSwitchIsAllowed : Type 0
ExactSwitchIsAllowed = (p q : Problem) (entries : List Entry) (n : ℕ) → IsWellFormed entries → IsLawful (meaning p entries) → IsAllowedSwitch p q entries n

-- a switch to the problem that a caused station has already changes no entry and tells nobody anything
abbrev pub SwitchToTheSame : Type 0
SwitchToTheSame = (p : Problem) (entries : List Entry) (n : ℕ) → IsWellFormed entries → IsCaused (meaning p entries) →
    switches n p entries ≡ record { entries = entries; replies = [] }

-- the test on two problems passes exactly where they are one
abbrev pub ProblemsAreCompared : Type 0
ProblemsAreCompared = (p q : Problem) → IsTrue (same_problem p q) ↔ (p ≡ q)

-- the test on entries by which a change is seen passes exactly where they change, and fails exactly
-- where they stay
abbrev pub ChangesAreSeen : Type 0
ChangesAreSeen = (p : Problem) (entries : List Entry) (message : Message) → IsTrue (changes p entries message) ↔ Changes p entries message

abbrev pub StayingIsSeen : Type 0
StayingIsSeen = (p : Problem) (entries : List Entry) (message : Message) → (changes p entries message ≡ false) ↔ ((decision p entries message).entries ≡ entries)

-- a decision never lowers a floor
abbrev pub FloorsNeverFall : Type 0
FloorsNeverFall = (s t : Station) (message : Message) (replies : List Message) → Decides s message t replies →
    (c : ℕ) → (s.at c).floor ≤ (t.at c).floor

-- an attempt that is ended stays ended
abbrev pub EndedStaysEnded : Type 0
EndedStaysEnded = (s t : Station) (message : Message) (replies : List Message) → Decides s message t replies →
    (c a : ℕ) → IsEnded s c a → IsEnded t c a

-- what a client hears is the one answer that the relation allows
abbrev pub HearingOfTicketIsExact : Type 0
HearingOfTicketIsExact = (nodes : ℕ) (t : Ticket) (granted : ℕ → Bool) (message : Message) (heard : Heard) →
    HearsOfTicket nodes t granted message heard ↔ (heard ≡ heard_of_ticket nodes t granted message)

abbrev pub HearingSoftenedIsExact : Type 0
HearingSoftenedIsExact = (nodes : ℕ) (client attempt : ℕ) (message : Message) (heard : Heard) →
    HearsSoftened nodes client attempt message heard ↔ (heard ≡ heard_softened nodes client attempt message)

abbrev pub HearingAtRestIsExact : Type 0
HearingAtRestIsExact = (nodes : ℕ) (client attempt : ℕ) (message : Message) (heard : Heard) →
    HearsAtRest nodes client attempt message heard ↔ (heard ≡ heard_at_rest nodes client attempt message)
