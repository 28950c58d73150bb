-- What holds of every world after every run, and makes a writer alone. A reader of the theorem needs none
-- of it; it is what a step has to keep.
use Rattle.std.specs.Prelude.{◌≡◌, ℕ, ◌+◌, ◌<◌, ◌≤◌, ◌⊎◌, true, false, List, Option, None, IfSome}
use Rattle.lock_messages.specs.declared.tickets.Mode.{Mode}
use Rattle.lock_messages.specs.declared.tickets.Ticket.{Ticket}
use Rattle.lock_messages.specs.declared.messages.Message.{Message}
use Rattle.lock_messages.specs.declared.messages.Message.TheVariants.{Request, Release, Grant, Busy, Over, Done, Muddled, Soften}
use Rattle.lock_messages.specs.declared.messages.Message.TheVariants as message
use Rattle.lock_model.specs.declared.entries.Status.{Status}
use Rattle.lock_model.specs.declared.entries.Status.TheVariants.{Softened}
use Rattle.lock_model.specs.Ballots.{Ballot, HasPlace, IsEnough, ballot_at}
use Rattle.lock_model.specs.Stations.{Claim, Has, Standing, Station, IsHolder, asked_mode, IsLawful, IsCaused}
use Rattle.lock_model.specs.Decisions.{Among}
use Rattle.world_model.specs.Worlds.{NodePhase, NodeDown, NodeIdle, Decided, Stored, Node, Present, ClientPhase, ClientDown, ClientIdle, Chosen, Asking, IsIn, Client, World, Setting, EachStation, IsWithin}

-- the ticket is the present one: the client asks with it, or is inside with it
abbrev pub IsPresentIn : Ticket → ClientPhase → Type 0
IsPresentIn t ClientDown = ⊥
IsPresentIn t ClientIdle = ⊥
IsPresentIn t (Chosen u place) = ⊥
IsPresentIn t (Asking p) = p.ticket ≡ t
IsPresentIn t (IsIn p) = p.ticket ≡ t

abbrev pub IsPresent : World → ℕ → Ticket → Type 0
IsPresent w c t = IsPresentIn t (w.clients c).phase

-- the client's present attempt is a, and it has not softened it
abbrev pub IsUnsoftenedIn : ℕ → ClientPhase → Type 0
IsUnsoftenedIn a ClientDown = ⊥
IsUnsoftenedIn a ClientIdle = ⊥
IsUnsoftenedIn a (Chosen u place) = ⊥
IsUnsoftenedIn a (Asking p) = (p.ticket.attempt ≡ a) × (p.softened ≡ false)
IsUnsoftenedIn a (IsIn p) = (p.ticket.attempt ≡ a) × (p.softened ≡ false)

abbrev pub IsUnsoftened : World → ℕ → ℕ → Type 0
IsUnsoftened w c a = IsUnsoftenedIn a (w.clients c).phase

-- the ticket was requested, or may be requested now
abbrev pub WasAsked : World → Ticket → Type 0
WasAsked w t = ((n : ℕ) × Among (Request n t) w.sent) ⊎ IsPresent w t.client t

-- the claim is a holder's of the resource, and was asked for in this mode
abbrev pub IsHeldAs : Claim → Mode → List ℕ → Type 0
IsHeldAs claim m x = (n : Mode) × (status : Status) × IsHolder status × (claim ≡ Has n x status) × (asked_mode n status ≡ m)

-- The standing honors a Grant of attempt a: the attempt is ended there, or it holds, softened or not.
abbrev pub Honors : Standing → ℕ → Mode → List ℕ → Type 0
Honors standing a m x = (a ≤ standing.floor) ⊎ ((a ≡ standing.floor + 1) × IsHeldAs standing.claim m x)

abbrev pub IsHonored : Station → Ticket → Type 0
IsHonored s t = Honors (s.at t.client) t.attempt t.mode t.resource

-- What a station owes the client c: neither floor nor live attempt is above the attempt that the client
-- has kept; no present attempt is ended; a claim is that of the ticket which was asked with its attempt; and
-- the claim of a present attempt is softened only where the client has softened it.
pub record Owes (w : World) (c : ℕ) (standing : Standing) : Type 0 where
  pub within : IsWithin (w.clients c).kept standing
  pub present : (t : Ticket) → IsPresent w c t → standing.floor < t.attempt
  pub agrees : (t : Ticket) (m : Mode) (x : List ℕ) (status : Status) → standing.claim ≡ Has m x status → WasAsked w t → t.client ≡ c → t.attempt ≡ standing.floor + 1 → (asked_mode m status ≡ t.mode) × (x ≡ t.resource)
  pub softened : (m : Mode) (x : List ℕ) → standing.claim ≡ Has m x Softened → ¬ (IsUnsoftened w c (standing.floor + 1))

-- A station of node n is lawful and caused, honors each Grant that the node ever sent, and has what it
-- owes each client.
pub record IsSafeStation (w : World) (n : ℕ) (s : Station) : Type 0 where
  pub lawful : IsLawful s
  pub caused : IsCaused s
  pub honors : (t : Ticket) → Among (Grant n t) w.sent → IsHonored s t
  pub owes : (c : ℕ) → Owes w c (s.at c)

-- A reply that node n may say at the station s: a Grant is its own, and honored there; none is Muddled.
abbrev pub IsGoodReply : ℕ → Station → Message → Type 0
IsGoodReply n s (Request k t) = ⊥
IsGoodReply n s (Release k c a) = ⊥
IsGoodReply n s (Grant k t) = (k ≡ n) × IsHonored s t
IsGoodReply n s (Busy k t) = Unit {0}
IsGoodReply n s (Over k c a) = Unit {0}
IsGoodReply n s (Done k c a) = Unit {0}
IsGoodReply n s (Muddled k c a) = ⊥
IsGoodReply n s (Soften k c a) = ⊥
IsGoodReply n s (message.Softened k c a) = Unit {0}

abbrev pub AreGoodReplies : ℕ → Station → List Message → Type 0
AreGoodReplies n s replies = (r : Message) → Among r replies → IsGoodReply n s r

-- A station is tried only while the node is decided on it, or down. Replies are good at the station that
-- will be the kept one when they are said.
abbrev pub IsSafePhase : ℕ → Station → Option Station → NodePhase → Type 0
IsSafePhase n kept tried NodeDown = Unit {0}
IsSafePhase n kept tried NodeIdle = tried ≡ None
IsSafePhase n kept tried (Decided s replies) = IfSome tried (λ u. u ≡ s) × AreGoodReplies n s replies
IsSafePhase n kept tried (Stored replies) = (tried ≡ None) × AreGoodReplies n kept replies

pub record IsSafeNode (w : World) (n : ℕ) (v : Node) : Type 0 where
  pub stations : EachStation (IsSafeStation w n) v
  pub phase : IsSafePhase n v.kept v.tried v.phase

-- The ticket is the client's own and has this attempt, by a ballot that is there; each node of the set sent
-- a Grant of it.
pub record IsGranted (b : List Ballot) (w : World) (c attempt : ℕ) (p : Present) : Type 0 where
  pub placed : HasPlace b p.place
  pub client : p.ticket.client ≡ c
  pub attempt_is : p.ticket.attempt ≡ attempt
  pub grants : (n : ℕ) → p.granted n ≡ true → Among (Grant n p.ticket) w.sent

-- A chosen ticket is the next one, by a ballot that is there; a present ticket is the last one, and who is
-- inside has enough votes by its attempt's ballot, in the mode that was asked for, softened or not.
abbrev pub IsSafeTicket : List Ballot → World → ℕ → ℕ → ClientPhase → Type 0
IsSafeTicket b w c kept ClientDown = Unit {0}
IsSafeTicket b w c kept ClientIdle = Unit {0}
IsSafeTicket b w c kept (Chosen t place) = (t.client ≡ c) × (t.attempt ≡ kept + 1) × HasPlace b place
IsSafeTicket b w c kept (Asking p) = IsGranted b w c kept p
IsSafeTicket b w c kept (IsIn p) = IsGranted b w c kept p × IsEnough (ballot_at b p.place) p.ticket.mode p.granted

pub record IsSafeClient (b : List Ballot) (w : World) (c : ℕ) (k : Client) : Type 0 where
  pub tried : IfSome k.tried (λ a. a ≡ k.kept + 1)
  pub ticket : IsSafeTicket b w c k.kept k.phase

-- Each node and each client is as above. One attempt of one client is asked for with one ticket only, of
-- an attempt up to the kept one; a Release names an attempt that is over; a Soften names one that its client
-- has softened, or that is over; no Muddled was ever sent.
pub record IsSafe (s : Setting) (w : World) : Type 0 where
  pub nodes : (n : ℕ) → IsSafeNode w n (w.nodes n)
  pub clients : (c : ℕ) → IsSafeClient s.ballots w c (w.clients c)
  pub one_ticket : (t u : Ticket) → WasAsked w t → WasAsked w u → t.client ≡ u.client → t.attempt ≡ u.attempt → t ≡ u
  pub asked : (t : Ticket) → WasAsked w t → t.attempt ≤ (w.clients t.client).kept
  pub released : (n c a : ℕ) → Among (Release n c a) w.sent → a ≤ (w.clients c).kept
  pub over : (n c a : ℕ) (t : Ticket) → Among (Release n c a) w.sent → IsPresent w c t → a < t.attempt
  pub softening : (n c a : ℕ) → Among (Soften n c a) w.sent → a ≤ (w.clients c).kept
  pub softened : (n c a : ℕ) → Among (Soften n c a) w.sent → ¬ (IsUnsoftened w c a)
  pub none_muddled : (n c a : ℕ) → ¬ (Among (Muddled n c a) w.sent)
