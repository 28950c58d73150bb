-- Stations: what one node knows of its clients, as a map, and what it must always be.
--
-- From Courtois, Heymans and Parnas (1971): readers may use a resource together, and a writer must
-- have it alone. Problem 1: no reader waits unless a writer has already obtained permission. Problem
-- 2: a reader that arrives after a writer has announced itself waits, even while that writer waits.
-- Each node keeps these requirements for its own vote.
use Rattle.std.specs.Prelude.{◌≡◌, ◌≢◌, ℕ, ◌+◌, ◌<◌, ◌≤◌, ◌⊎◌, List}
use Rattle.lock_messages.specs.declared.tickets.Mode.{Mode}
use Rattle.lock_messages.specs.declared.tickets.Mode.TheVariants.{Read, Write}
use Rattle.lock_messages.specs.declared.tickets.Ticket.{Ticket}
use Rattle.lock_model.specs.declared.entries.Status.{Status}
use Rattle.lock_model.specs.declared.entries.Status.TheVariants.{Waiting, Holding, Softened}
use Rattle.lock_model.specs.declared.problems.Problem.{Problem}
use Rattle.lock_model.specs.declared.problems.Problem.TheVariants.{Second}

-- A client's claim to a node's vote: none, or to this resource in this mode, which waits or holds. A
-- softened one holds too: it was asked for by a writer, and is a reader's since.
pub data Claim : Type 0 where
  Free : Claim
  Has : (mode : Mode) (resource : List ℕ) (status : Status) → Claim

-- Where a client stands: its attempts up to the floor are ended, and its claim is that of the
-- attempt one above the floor.
pub record Standing : Type 0 where
  pub floor : ℕ
  pub claim : Claim

-- a station: the problem that it solves, and where each client stands
pub record Station : Type 0 where
  pub problem : Problem
  pub at : ℕ → Standing

-- the station under another problem: each client stands where it stood
abbrev pub under : Problem → Station → Station
under p s = record { problem = p; at = s.at }

-- the client that a node doesn't know
abbrev pub stranger : Standing
stranger = record { floor = 0; claim = Free }

-- a claim of this status holds the vote
abbrev pub IsHolder : Status → Type 0
IsHolder Waiting = ⊥
IsHolder Holding = Unit {0}
IsHolder Softened = Unit {0}

-- the mode in which a claim of this mode and status was asked for
abbrev pub asked_mode : Mode → Status → Mode
asked_mode m Waiting = m
asked_mode m Holding = m
asked_mode m Softened = Write

-- the client is among the holders of the resource, in this mode
abbrev pub Holds : Station → ℕ → Mode → List ℕ → Type 0
Holds s c m x = (status : Status) × IsHolder status × ((s.at c).claim ≡ Has m x status)

-- the client is among the waiters for the resource, in this mode
abbrev pub Waits : Station → ℕ → Mode → List ℕ → Type 0
Waits s c m x = (s.at c).claim ≡ Has m x Waiting

-- the ticket by which it does so
abbrev pub ticket_at : Station → ℕ → Mode → List ℕ → Ticket
ticket_at s c m x = record { client = c; attempt = (s.at c).floor + 1; mode = m; resource = x }

-- a writer that holds a resource is its only holder
pub record IsLawful (s : Station) : Type 0 where
  pub alone : (c d : ℕ) (m : Mode) (x : List ℕ) → Holds s c Write x → Holds s d m x → d ≡ c

-- Why a ticket for the resource has to wait. A writer: someone holds it. A reader: a writer holds it
-- or, under problem 2, a writer waits for it.
abbrev pub Cause : Station → Mode → List ℕ → Type 0
Cause s Write x = (d : ℕ) × (m : Mode) × Holds s d m x
Cause s Read x = ((d : ℕ) × Holds s d Write x) ⊎ ((s.problem ≡ Second) × ((d : ℕ) × Waits s d Write x))

-- who waits has a cause
pub record IsCaused (s : Station) : Type 0 where
  pub cause : (c : ℕ) (m : Mode) (x : List ℕ) → Waits s c m x → Cause s m x

-- t is s but for where this client stands
pub record Puts (s : Station) (c : ℕ) (standing : Standing) (t : Station) : Type 0 where
  pub problem : t.problem ≡ s.problem
  pub here : t.at c ≡ standing
  pub others : (d : ℕ) → d ≢ c → t.at d ≡ s.at d

-- attempt a of the client is ended
abbrev pub IsEnded : Station → ℕ → ℕ → Type 0
IsEnded s c a = a ≤ (s.at c).floor

-- Ending the attempts up to a: below the floor they are ended already, and else the floor rises to a
-- and the claim, which is of an attempt up to a, goes.
abbrev pub EndsAt : ℕ → Standing → Standing → Type 0
EndsAt a before after = ((a ≤ before.floor) × (after ≡ before)) ⊎ ((before.floor < a) × (after ≡ record { floor = a; claim = Free }))

-- t is s with the client's attempts up to a ended
abbrev pub Ends : Station → ℕ → ℕ → Station → Type 0
Ends s c a t = (after : Standing) × EndsAt a (s.at c) after × Puts s c after t

-- What softening an attempt makes of where its client stands. Where the attempt's claim is a writer's
-- that holds, it holds as a reader's; where it is a writer's that waits, it goes, and the floor stays.
-- Nothing else is softened.
pub data SoftensAt (a : ℕ) (before : Standing) : Standing → Type 0 where
  holder : (x : List ℕ) → a ≡ before.floor + 1 → before.claim ≡ Has Write x Holding → SoftensAt a before (record { floor = before.floor; claim = Has Read x Softened })
  waiter : (x : List ℕ) → a ≡ before.floor + 1 → before.claim ≡ Has Write x Waiting → SoftensAt a before (record { floor = before.floor; claim = Free })
  neither : (a ≡ before.floor + 1 → (x : List ℕ) → (before.claim ≢ Has Write x Holding) × (before.claim ≢ Has Write x Waiting)) → SoftensAt a before before

-- t is s with the client's attempt a softened
abbrev pub Softens : Station → ℕ → ℕ → Station → Type 0
Softens s c a t = (after : Standing) × SoftensAt a (s.at c) after × Puts s c after t

-- the client's ticket waited, and holds now
abbrev pub Becomes : Station → Station → ℕ → Mode → List ℕ → Type 0
Becomes s t c m x = Waits s c m x × ((t.at c).claim ≡ Has m x Holding)

-- s settles to t: some waiting tickets hold now, nothing else differs, the outcome is lawful and
-- caused, and under problem 2 no reader passes a writer that still waits. Which tickets become
-- holders is otherwise free.
pub record Settles (s t : Station) : Type 0 where
  pub problem : t.problem ≡ s.problem
  pub floors : (c : ℕ) → (t.at c).floor ≡ (s.at c).floor
  pub claims : (c : ℕ) → ((t.at c).claim ≡ (s.at c).claim) ⊎ ((m : Mode) × (x : List ℕ) × Becomes s t c m x)
  pub lawful : IsLawful t
  pub caused : IsCaused t
  pub no_passing : s.problem ≡ Second → (c d : ℕ) (x : List ℕ) → Becomes s t c Read x → ¬ (Waits t d Write x)
