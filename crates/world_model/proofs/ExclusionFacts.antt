-- In a safe world of ballots that cross a writer is alone. This is the one place where that is used.
use Rattle.std.proofs.Common.{◌≡◌, ℕ, ◌+◌, Bool, true, false, cond, List, refl, sym, ◌∙◌, ap, subst, inl, inr, arith}
use Rattle.lock_messages.specs.declared.tickets.Mode.{Mode}
use Rattle.lock_messages.specs.declared.tickets.Mode.TheVariants.{Read, Write}
use Rattle.lock_messages.specs.declared.tickets.Ticket.{Ticket}
use Rattle.lock_messages.specs.declared.messages.Message.TheVariants.{Grant}
use Rattle.lock_model.specs.declared.entries.Status.{Status}
use Rattle.lock_model.specs.declared.entries.Status.TheVariants.{Waiting, Holding, Softened}
use Rattle.lock_model.specs.Ballots.{AllCross, HasPlace, IsEnough, ballot_at}
use Rattle.lock_model.specs.Stations.{Has, IsHolder, Holds, IsLawful, IsCaused, asked_mode}
use Rattle.lock_model.specs.Decisions.{Among}
use Rattle.lock_model.specs.Laws.{EnoughSetsShareANodeOfBoth, AnyTwoCross}
use Rattle.world_model.specs.Worlds.{IsIn, World, Setting, IsInside}
use Rattle.world_model.specs.Invariants.{IsPresentIn, IsUnsoftenedIn, IsUnsoftened, IsHeldAs, Honors, IsSafeTicket, IsSafeStation, IsSafe}
use Rattle.world_model.specs.Exclusion.{ReadersHaveCause, IsExclusive, HasSoundStations}
use Rattle.world_model.proofs.Carried.{each-station}

-- What a client that is inside has: a ticket of its own that is present, and enough votes by a ballot of the
-- list for the mode that it asked in. A writer inside asked as one, and hasn't softened.
record InsideWith (s : Setting) (w : World) (c : ℕ) (m : Mode) (x : List ℕ) : Type 0 where
  ticket : Ticket
  place : ℕ
  placed : HasPlace s.ballots place
  votes : ℕ → Bool
  client : ticket.client ≡ c
  resource : ticket.resource ≡ x
  present : IsPresentIn ticket (w.clients c).phase
  grants : (n : ℕ) → votes n ≡ true → Among (Grant n ticket) w.sent
  enough : IsEnough (ballot_at s.ballots place) ticket.mode votes
  writes : m ≡ Write → (ticket.mode ≡ Write) × IsUnsoftened w c ticket.attempt

-- who is inside as a writer asked as one, and hasn't softened
unsoftened-writer : (softened : Bool) (m : Mode) → cond softened Read m ≡ Write → (m ≡ Write) × (softened ≡ false)
unsoftened-writer true m h = absurd (let q : Read ≡ Write = h in cc)
unsoftened-writer false m h = (h, refl)

inside-with : (s : Setting) (w : World) (c : ℕ) (m : Mode) (x : List ℕ) → IsSafe s w → IsInside w c m x → InsideWith s w c m x
inside-with s w c m x safe inside =
    let p = inside.0 in
    let phase : (w.clients c).phase ≡ IsIn p = inside.1 in
    let own : IsSafeTicket s.ballots w c (w.clients c).kept (IsIn p) = subst (IsSafeTicket s.ballots w c (w.clients c).kept) phase (safe.clients c).ticket in
    record {
      ticket = p.ticket;
      place = p.place;
      placed = own.0.placed;
      votes = p.granted;
      client = own.0.client;
      resource = inside.3;
      present = subst (IsPresentIn p.ticket) (sym phase) refl;
      grants = own.0.grants;
      enough = own.1;
      writes = λ e. (let whole = unsoftened-writer p.softened p.ticket.mode (inside.2 ∙ e) in (whole.0, subst (IsUnsoftenedIn p.ticket.attempt) (sym phase) (refl, whole.1)));
    }

-- at a node whose vote it has, the claim is of its ticket's attempt, and is a holder's in the mode that was asked
record HeldThere (w : World) (c n : ℕ) (t : Ticket) (x : List ℕ) : Type 0 where
  attempt : t.attempt ≡ ((w.nodes n).kept.at c).floor + 1
  held : IsHeldAs ((w.nodes n).kept.at c).claim t.mode x

held-there : (s : Setting) (w : World) (c : ℕ) (m : Mode) (x : List ℕ) (n : ℕ) → IsSafe s w → (inside : InsideWith s w c m x) → inside.votes n ≡ true → HeldThere w c n inside.ticket x
held-there s w c m x n safe inside vote =
    go (subst (λ y. Honors ((w.nodes n).kept.at c) t.attempt t.mode y) inside.resource
    (subst (λ d. Honors ((w.nodes n).kept.at d) t.attempt t.mode t.resource) inside.client (kept.honors t (inside.grants n vote))))
  where
    kept : IsSafeStation w n (w.nodes n).kept
    kept = (safe.nodes n).stations.kept

    t : Ticket
    t = inside.ticket

    go : Honors ((w.nodes n).kept.at c) t.attempt t.mode x → HeldThere w c n t x
    go (inl over) = absurd (omega (arith, over, (kept.owes c).present t inside.present))
    go (inr h) = record { attempt = h.0; held = h.1 }

-- and where it is inside as a writer, it holds as one
writer-holds : (s : Setting) (w : World) (c : ℕ) (x : List ℕ) (n : ℕ) → IsSafe s w → (inside : InsideWith s w c Write x) → inside.votes n ≡ true → Holds (w.nodes n).kept c Write x
writer-holds s w c x n safe inside vote = go there.held.0 there.held.1 there.held.2 there.held.3 there.held.4
  where
    there : HeldThere w c n inside.ticket x
    there = held-there s w c Write x n safe inside vote

    whole : (inside.ticket.mode ≡ Write) × IsUnsoftened w c inside.ticket.attempt
    whole = inside.writes refl

    go : (mode : Mode) (status : Status) → IsHolder status → ((w.nodes n).kept.at c).claim ≡ Has mode x status → asked_mode mode status ≡ inside.ticket.mode → Holds (w.nodes n).kept c Write x
    go mode Waiting holds claim asked = absurd holds
    go mode Holding holds claim asked = (Holding, tt, claim ∙ ap (λ k. Has k x Holding) (asked ∙ whole.0))
    go mode Softened holds claim asked = absurd (((safe.nodes n).stations.kept.owes c).softened mode x claim (subst (IsUnsoftened w c) there.attempt whole.1))

pub writer-alone : EnoughSetsShareANodeOfBoth → AnyTwoCross → (s : Setting) (w : World) → AllCross s.ballots → IsSafe s w → (c d : ℕ) (m : Mode) (x : List ℕ) → IsInside w c Write x → IsInside w d m x → d ≡ c
writer-alone share two s w crosses safe c d m x writer other =
    let a = inside-with s w c Write x safe writer in
    let b = inside-with s w d m x safe other in
    let cross = two s.ballots a.place b.place crosses a.placed b.placed in
    let first = subst (λ mode. IsEnough (ballot_at s.ballots a.place) mode a.votes) (a.writes refl).0 a.enough in
    let shared = share (ballot_at s.ballots a.place) (ballot_at s.ballots b.place) b.ticket.mode a.votes b.votes cross first b.enough in
    let n = shared.0 in
    let held = (held-there s w d m x n safe b shared.1.under_first.in_right).held in
    (safe.nodes n).stations.kept.lawful.alone c d held.0 x (writer-holds s w c x n safe a shared.1.under_first.in_left) (held.1, held.2, held.3)

pub sound-stations : (s : Setting) (w : World) → IsSafe s w → HasSoundStations w
sound-stations s w safe = record {
  lawful = λ n. each-station (IsSafeStation w n) IsLawful (λ x h. h.lawful) (w.nodes n) (safe.nodes n).stations;
  caused = λ n. each-station (IsSafeStation w n) IsCaused (λ x h. h.caused) (w.nodes n) (safe.nodes n).stations;
}

pub exclusive : EnoughSetsShareANodeOfBoth → AnyTwoCross → (s : Setting) (w : World) → AllCross s.ballots → IsSafe s w → IsExclusive w
exclusive share two s w crosses safe = record {
  alone = writer-alone share two s w crosses safe;
  readers = λ n. each-station (IsSafeStation w n) ReadersHaveCause (λ x h c y waits. h.caused.cause c Read y waits) (w.nodes n) (safe.nodes n).stations;
}
