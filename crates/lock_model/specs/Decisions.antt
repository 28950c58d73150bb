-- What a node may decide on a message, or on another problem: a relation between the station before, the
-- message or the problem, the station after, and the replies as a set.
use Rattle.std.specs.Prelude.{◌≡◌, ◌≢◌, ◌↔◌, ℕ, ◌+◌, ◌-◌, ◌<◌, ◌≤◌, ◌⊎◌, List, [], ◌∷◌}
use Rattle.lock_messages.specs.declared.tickets.Mode.{Mode}
use Rattle.lock_messages.specs.declared.tickets.Mode.TheVariants.{Read, Write}
use Rattle.lock_messages.specs.declared.tickets.Ticket.{Ticket}
use Rattle.lock_messages.specs.declared.messages.Message.{Message}
use Rattle.lock_messages.specs.declared.messages.Message.TheVariants.{Request, Release, Grant, Busy, Over, Done, Muddled, Soften}
use Rattle.lock_messages.specs.declared.messages.Message.TheVariants as message
use Rattle.lock_model.specs.declared.problems.Problem.{Problem}
use Rattle.lock_model.specs.declared.entries.Status.{Status}
use Rattle.lock_model.specs.declared.entries.Status.TheVariants.{Waiting, Holding, Softened}
use Rattle.lock_model.specs.Stations.{Station, Standing, Free, Has, Cause, Puts, Ends, Softens, Settles, Becomes, asked_mode, ticket_at, under}

-- x is one of the list
abbrev pub Among : {A : Type 0} → A → List A → Type 0
Among x [] = ⊥
Among x (y ∷ ys) = (x ≡ y) ⊎ Among x ys

-- the replies are this one alone
abbrev pub IsOnly : Message → List Message → Type 0
IsOnly first replies = (r : Message) → Among r replies ↔ (r ≡ first)

-- the Grant by which node n tells a ticket that settling from s to t made it a holder
abbrev pub TellsGrant : ℕ → Station → Station → Message → Type 0
TellsGrant n s t r = (c : ℕ) × (m : Mode) × (x : List ℕ) × Becomes s t c m x × (r ≡ Grant n (ticket_at t c m x))

-- the replies are the first one, and a Grant for each ticket that settling made a holder
abbrev pub AreReplies : ℕ → Message → Station → Station → List Message → Type 0
AreReplies n first s t replies = (r : Message) → Among r replies ↔ ((r ≡ first) ⊎ TellsGrant n s t r)

-- the replies are a Grant for each ticket that settling made a holder, and nothing else
abbrev pub AreGrants : ℕ → Station → Station → List Message → Type 0
AreGrants n s t replies = (r : Message) → Among r replies ↔ TellsGrant n s t r

-- The attempt is one that the node hasn't met: it is above the attempt of the client's claim, or is
-- just above the floor and the client has no claim.
abbrev pub IsNew : Standing → ℕ → Type 0
IsNew standing a = (standing.floor + 1 < a) ⊎ ((a ≡ standing.floor + 1) × (standing.claim ≡ Free))

-- where the client of the ticket stands once the node has taken it up
abbrev pub taken_up : Ticket → Status → Standing
taken_up t status = record { floor = t.attempt - 1; claim = Has t.mode t.resource status }

-- Node n, at s, is asked with the ticket t. The cases of a new ticket first end the attempts before
-- it (ended), and then settle (settled).
pub data IsAsked (n : ℕ) (s : Station) (t : Ticket) (after : Station) (replies : List Message) : Type 0 where
  -- the attempt is ended
  over : t.attempt ≤ (s.at t.client).floor → after ≡ s → IsOnly (Over n t.client t.attempt) replies → IsAsked n s t after replies
  -- the attempt's claim was asked for in another mode or for another resource
  muddled : (m : Mode) (x : List ℕ) (status : Status) → t.attempt ≡ (s.at t.client).floor + 1 →
      (s.at t.client).claim ≡ Has m x status → ((asked_mode m status ≢ t.mode) ⊎ (x ≢ t.resource)) → after ≡ s →
      IsOnly (Muddled n t.client t.attempt) replies → IsAsked n s t after replies
  -- the ticket holds already
  held : t.attempt ≡ (s.at t.client).floor + 1 → (s.at t.client).claim ≡ Has t.mode t.resource Holding → after ≡ s →
      IsOnly (Grant n t) replies → IsAsked n s t after replies
  -- the ticket waits already
  waited : t.attempt ≡ (s.at t.client).floor + 1 → (s.at t.client).claim ≡ Has t.mode t.resource Waiting → after ≡ s →
      IsOnly (Busy n t) replies → IsAsked n s t after replies
  -- the ticket is softened already
  softened : t.attempt ≡ (s.at t.client).floor + 1 → t.mode ≡ Write → (s.at t.client).claim ≡ Has Read t.resource Softened → after ≡ s →
      IsOnly (message.Softened n t.client t.attempt) replies → IsAsked n s t after replies
  -- the ticket is new, and nothing stands in its way
  granted : IsNew (s.at t.client) t.attempt → (ended settled : Station) → Ends s t.client (t.attempt - 1) ended → Settles ended settled →
      ¬ (Cause settled t.mode t.resource) → Puts settled t.client (taken_up t Holding) after →
      AreReplies n (Grant n t) ended settled replies → IsAsked n s t after replies
  -- the ticket is new, and has to wait
  queued : IsNew (s.at t.client) t.attempt → (ended settled : Station) → Ends s t.client (t.attempt - 1) ended → Settles ended settled →
      Cause settled t.mode t.resource → Puts settled t.client (taken_up t Waiting) after →
      AreReplies n (Busy n t) ended settled replies → IsAsked n s t after replies

-- Node n, at s, is told that the client's attempts up to a are over.
pub record IsReleased (n : ℕ) (s : Station) (c a : ℕ) (after : Station) (replies : List Message) : Type 0 where
  pub ended : Station
  pub ends : Ends s c a ended
  pub settles : Settles ended after
  pub replies_are : AreReplies n (Done n c a) ended after replies

-- Node n, at s, is told that the client's attempt a is softened.
pub record IsSoftened (n : ℕ) (s : Station) (c a : ℕ) (after : Station) (replies : List Message) : Type 0 where
  pub changed : Station
  pub softens : Softens s c a changed
  pub settles : Settles changed after
  pub replies_are : AreReplies n (message.Softened n c a) changed after replies

-- Node n, at s, takes the problem p: all tickets settle under it, and nobody else is told anything.
pub record IsSwitched (n : ℕ) (s : Station) (p : Problem) (after : Station) (replies : List Message) : Type 0 where
  pub settles : Settles (under p s) after
  pub replies_are : AreGrants n (under p s) after replies

-- a node may decide so on a message; on one that is for a client it decides nothing
abbrev pub Decides : Station → Message → Station → List Message → Type 0
Decides s (Request n t) after replies = IsAsked n s t after replies
Decides s (Release n c a) after replies = IsReleased n s c a after replies
Decides s (Grant n t) after replies = ⊥
Decides s (Busy n t) after replies = ⊥
Decides s (Over n c a) after replies = ⊥
Decides s (Done n c a) after replies = ⊥
Decides s (Muddled n c a) after replies = ⊥
Decides s (Soften n c a) after replies = IsSoftened n s c a after replies
Decides s (message.Softened n c a) after replies = ⊥
