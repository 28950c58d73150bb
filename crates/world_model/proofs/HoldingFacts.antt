-- The lists of those that wait for a node's vote, and of those that hold it, are the sets of them.
use Rattle.std.proofs.Common.{◌≡◌, ◌↔◌, ℕ, ◌+◌, ◌&&◌, Bool, true, false, cond, List, [], ◌∷◌, Option, Some, None, IfSome, refl, sym, ◌∙◌, ap, subst, inl, inr}
use Rattle.std.specs.Str.{bytes_eq}
use Rattle.std.proofs.lemmas.Slice.Eq.{bytes_eq-Decides}
use Rattle.std.proofs.lemmas.Bool.{and_parts, and_from}
use Rattle.lock_messages.specs.declared.tickets.Ticket.{Ticket}
use Rattle.lock_model.specs.declared.entries.Entry.{Entry}
use Rattle.lock_model.specs.declared.entries.Live.{Live}
use Rattle.lock_model.specs.declared.entries.Status.{Status}
use Rattle.lock_model.specs.declared.entries.Status.TheVariants.{Waiting, Holding, Softened}
use Rattle.lock_model.specs.Stations.{Free, Has, Standing, IsHolder, Waits, Holds, ticket_at}
use Rattle.lock_model.specs.Decisions.{Among}
use Rattle.lock_model.specs.ExactStations.{IsAboveFloor, entry_of, claim_of, standing_of, is_waiting, is_holding, holds}
use Rattle.lock_model.proofs.EntryFacts.{entry_of-found, entry_of-among}
use Rattle.world_model.specs.declared.exact.ExactStation.{ExactStation}
use Rattle.world_model.specs.Forgetting.{station_of, IsSoundStation}
use Rattle.world_model.specs.Views.{live_ticket, live_tickets, waits}
use Rattle.world_model.proofs.ListFacts.{each-among}
use Rattle.world_model.proofs.InsideFacts.{among-part, part-among}

-- the statuses that a test picks
pub record Picks (is : Status → Bool) (P : Status → Type 0) : Type 0 where
  pub only : (s : Status) → is s ≡ true → P s
  pub all : (s : Status) → P s → is s ≡ true

picks-waiting : Picks is_waiting (λ s. s ≡ Waiting)
picks-waiting = record { only = only; all = λ s e. ap is_waiting e }
  where
    only : (s : Status) → is_waiting s ≡ true → s ≡ Waiting
    only Waiting e = refl
    only Holding e = absurd (let q : false ≡ true = e in cc)
    only Softened e = absurd (let q : false ≡ true = e in cc)

picks-holding : Picks is_holding IsHolder
picks-holding = record { only = only; all = all }
  where
    only : (s : Status) → is_holding s ≡ true → IsHolder s
    only Waiting e = let q : false ≡ true = e in cc
    only Holding e = tt
    only Softened e = tt

    all : (s : Status) → IsHolder s → is_holding s ≡ true
    all Waiting h = absurd h
    all Holding h = refl
    all Softened h = refl

-- the live tickets of these statuses for the resource
abbrev picked : (Status → Bool) → List ℕ → Live → Bool
picked is x l = is l.status && bytes_eq l.resource x

abbrev ticket-of : ℕ → Live → Ticket
ticket-of c l = record { client = c; attempt = l.attempt; mode = l.mode; resource = l.resource }

-- what a station says of a client, and the ticket by which it does
record StandsSo (s : ExactStation) (P : Status → Type 0) (x : List ℕ) (t : Ticket) : Type 0 where
  status : Status
  picked : P status
  claim : ((station_of s).at t.client).claim ≡ Has t.mode x status
  is : t ≡ ticket_at (station_of s) t.client t.mode x

listed-stands : (is : Status → Bool) (P : Status → Type 0) → Picks is P → (s : ExactStation) → IsSoundStation s → (x : List ℕ) (t : Ticket) → Among t (live_tickets (picked is x) s.entries) → StandsSo s P x t
listed-stands is P picks s sound x t m = go part.0.live refl part.2
  where
    part : (e : Entry) × Among e s.entries × Among t (live_ticket (picked is x) e.client e.live)
    part = among-part (λ e. live_ticket (picked is x) e.client e.live) s.entries t m

    e : Entry
    e = part.0

    at : (station_of s).at e.client ≡ standing_of (Some e)
    at = ap standing_of (entry_of-among s.entries e sound.well_formed.once part.1)

    above : IsAboveFloor e
    above = each-among IsAboveFloor s.entries e sound.well_formed.attempts part.1

    -- the entry's ticket, if the test passes
    stands : (l : Live) → e.live ≡ Some l → picked is x l ≡ true → StandsSo s P x (ticket-of e.client l)
    stands l live passes =
        let parts = and_parts (is l.status) (bytes_eq l.resource x) passes in
        let resource : l.resource ≡ x = (bytes_eq-Decides l.resource x).0 parts.1 in
        let claim : ((station_of s).at e.client).claim ≡ Has l.mode l.resource l.status = ap (λ (w : Standing). w.claim) at ∙ ap claim_of live in
        let attempt : l.attempt ≡ ((station_of s).at e.client).floor + 1 =
        subst (λ o. IfSome o (λ (y : Live). y.attempt ≡ e.floor + 1)) live above ∙ ap (λ (w : Standing). w.floor + 1) (sym at) in
        record {
          status = l.status;
          picked = picks.only l.status parts.0;
          claim = claim ∙ ap (λ y. Has l.mode y l.status) resource;
          is = λ i. record { client = e.client; attempt = attempt i; mode = l.mode; resource = resource i };
        }

    pass : (l : Live) (b : Bool) → e.live ≡ Some l → picked is x l ≡ b → Among t (cond b (ticket-of e.client l ∷ []) []) → StandsSo s P x t
    pass l true live passes (inl same) = subst (StandsSo s P x) (sym same) (stands l live passes)
    pass l true live passes (inr h) = absurd h
    pass l false live passes h = absurd h

    go : (o : Option Live) → e.live ≡ o → Among t (live_ticket (picked is x) e.client o) → StandsSo s P x t
    go None live h = absurd h
    go (Some l) live h = pass l (picked is x l) live refl h

stands-listed : (is : Status → Bool) (P : Status → Type 0) → Picks is P → (s : ExactStation) → IsSoundStation s → (x : List ℕ) (t : Ticket) → StandsSo s P x t → Among t (live_tickets (picked is x) s.entries)
stands-listed is P picks s sound x t so = go (entry_of s.entries t.client) refl
  where
    live : (e : Entry) → entry_of s.entries t.client ≡ Some e → (o : Option Live) → e.live ≡ o → Among t (live_tickets (picked is x) s.entries)
    live e found None is_live =
        absurd (let q : Free ≡ Has t.mode x so.status = sym (ap (λ (w : Standing). w.claim) (ap standing_of found) ∙ ap claim_of is_live) ∙ so.claim in cc)
    live e found (Some l) is_live =
        let place = entry_of-found s.entries t.client e found in
        let q : Has l.mode l.resource l.status ≡ Has t.mode x so.status = sym (ap (λ (w : Standing). w.claim) (ap standing_of found) ∙ ap claim_of is_live) ∙ so.claim in
        let mode : l.mode ≡ t.mode = cc in
        let resource : l.resource ≡ x = cc in
        let st : so.status ≡ l.status = cc in
        let passes : picked is x l ≡ true = and_from (is l.status) (bytes_eq l.resource x) (subst (λ y. is y ≡ true) st (picks.all so.status so.picked)) ((bytes_eq-Decides l.resource x).1 resource) in
        let floor : l.attempt ≡ ((station_of s).at t.client).floor + 1 =
        subst (λ o. IfSome o (λ (y : Live). y.attempt ≡ e.floor + 1)) is_live (each-among IsAboveFloor s.entries e sound.well_formed.attempts place.0)
        ∙ ap (λ (w : Standing). w.floor + 1) (sym (ap standing_of found)) in
        let same : ticket-of e.client l ≡ t =
        (λ i. record { client = place.1 i; attempt = floor i; mode = mode i; resource = resource i }) ∙ sym so.is in
        part-among (λ y. live_ticket (picked is x) y.client y.live) s.entries e t place.0
        (subst (λ o. Among t (live_ticket (picked is x) e.client o)) (sym is_live) (subst (λ b. Among t (cond b (ticket-of e.client l ∷ []) [])) (sym passes) (inl (sym same))))

    go : (o : Option Entry) → entry_of s.entries t.client ≡ o → Among t (live_tickets (picked is x) s.entries)
    go None found = absurd (let q : Free ≡ Has t.mode x so.status = sym (ap (λ (w : Standing). w.claim) (ap standing_of found)) ∙ so.claim in cc)
    go (Some e) found = live e found e.live refl

pub waiting-is-set : (s : ExactStation) → IsSoundStation s → (x : List ℕ) (t : Ticket) → Among t (live_tickets (waits x) s.entries) ↔ (Waits (station_of s) t.client t.mode x × (t ≡ ticket_at (station_of s) t.client t.mode x))
waiting-is-set s sound x t = (
  λ m. (let so = listed-stands is_waiting (λ st. st ≡ Waiting) picks-waiting s sound x t m in (so.claim ∙ ap (Has t.mode x) so.picked, so.is)),
  λ h. stands-listed is_waiting (λ st. st ≡ Waiting) picks-waiting s sound x t (record { status = Waiting; picked = refl; claim = h.0; is = h.1 }),
)

pub holding-is-set : (s : ExactStation) → IsSoundStation s → (x : List ℕ) (t : Ticket) → Among t (live_tickets (holds x) s.entries) ↔ (Holds (station_of s) t.client t.mode x × (t ≡ ticket_at (station_of s) t.client t.mode x))
holding-is-set s sound x t = (
  λ m. (let so = listed-stands is_holding IsHolder picks-holding s sound x t m in ((so.status, so.picked, so.claim), so.is)),
  λ h. stands-listed is_holding IsHolder picks-holding s sound x t (record { status = h.0.0; picked = h.0.1; claim = h.0.2; is = h.1 }),
)
