-- Two that are inside one resource both read.
use Rattle.std.proofs.Common.{◌≡◌, ◌≢◌, ◌↔◌, ℕ, ◌==◌, true, false, not, ◌&&◌, List, Option, Some, None, refl, sym, ap, subst, ◌∙◌, eq-eqb, ne_eqb}
use Rattle.std.specs.Str.{bytes_eq}
use Rattle.std.proofs.lemmas.Slice.Eq.{bytes_eq-Decides}
use Rattle.std.proofs.lemmas.Bool.{and_parts}
use Rattle.lock_messages.specs.declared.ids.Actor.{Actor}
use Rattle.lock_messages.specs.declared.ids.Actor.TheVariants as actor
use Rattle.lock_messages.specs.declared.tickets.Mode.{Mode}
use Rattle.lock_messages.specs.declared.tickets.Mode.TheVariants.{Read, Write}
use Rattle.lock_messages.specs.declared.tickets.Ticket.{Ticket}
use Rattle.world_model.specs.Exclusion.{IsExclusive}
use Rattle.world_model.specs.Worlds.{World, IsInside}
use Rattle.world_machine.specs.Listing.{IsInsideBy}
use Rattle.history_book.specs.Books.{are_together, AreInsideOneResource, Reads, IsInsideAs, IsOwnTicket}

no_write : (m : Mode) → (m ≡ Write → ⊥) → m ≡ Read
no_write Read h = refl
no_write Write h = absurd (h refl)

-- two tickets that are together are of two clients, for one resource, and the other way round
together_are : (t u : Ticket) → are_together (Some t) (Some u) ≡ true → (t.client ≢ u.client) × (t.resource ≡ u.resource)
together_are t u h =
    let two = and_parts (not (t.client == u.client)) (bytes_eq t.resource u.resource) h in (
      λ same. let clash : false ≡ true = ap not (sym (eq-eqb t.client u.client same)) ∙ two.0 in cc,
      (bytes_eq-Decides t.resource u.resource).0 two.1,
    )

are_together_of : (t u : Ticket) → t.client ≢ u.client → t.resource ≡ u.resource → are_together (Some t) (Some u) ≡ true
are_together_of t u apart same =
    ap (λ b. not b && bytes_eq t.resource u.resource) (ne_eqb t.client u.client apart) ∙ (bytes_eq-Decides t.resource u.resource).1 same

-- the client that a found ticket names is inside with it
inside_with : (w : World) (a : Actor) (t : Ticket) → IsInsideAs w a (Some t) → IsOwnTicket a (Some t) → IsInside w t.client t.mode t.resource
inside_with w a t found own = let by : IsInsideBy w t.client (Some t) = subst (λ x. IsInsideAs w x (Some t)) own found in (by t.mode t.resource).1 (t, refl, refl, refl)

-- who is inside beside another one doesn't write
beside : (w : World) (t u : Ticket) → IsExclusive w → IsInside w t.client t.mode t.resource → IsInside w u.client u.mode u.resource → t.client ≢ u.client → t.resource ≡ u.resource → t.mode ≡ Write → ⊥
beside w t u alone one other two same writes =
    let first : IsInside w t.client Write t.resource = subst (λ m. IsInside w t.client m t.resource) writes one in
    let second : IsInside w u.client u.mode t.resource = subst (λ x. IsInside w u.client u.mode x) (sym same) other in
    two (sym (alone.alone t.client u.client u.mode t.resource first second))

pub both_read : (w : World) (a b : Actor) (t u : Option Ticket) → IsExclusive w → IsInsideAs w a t → IsInsideAs w b u → IsOwnTicket a t → IsOwnTicket b u → are_together t u ≡ true → Reads t × Reads u
both_read w a b None u alone one other mine theirs h = let clash : false ≡ true = h in absurd (cc)
both_read w a b (Some t) None alone one other mine theirs h = let clash : false ≡ true = h in absurd (cc)
both_read w a b (Some t) (Some u) alone one other mine theirs h =
    let are = together_are t u h in
    let first = inside_with w a t one mine in
    let second = inside_with w b u other theirs in (
      no_write t.mode (beside w t u alone first second are.0 are.1),
      no_write u.mode (beside w u t alone second first (λ e. are.0 (sym e)) (sym are.1)),
    )

-- what a berth's ticket tells is what the world has

told_is_met : (w : World) (a b : Actor) (t u : Option Ticket) → IsInsideAs w a t → IsInsideAs w b u → IsOwnTicket a t → IsOwnTicket b u → are_together t u ≡ true → AreInsideOneResource w a b
told_is_met w a b None u one other mine theirs h = let clash : false ≡ true = h in absurd (cc)
told_is_met w a b (Some t) None one other mine theirs h = let clash : false ≡ true = h in absurd (cc)
told_is_met w a b (Some t) (Some u) one other mine theirs h =
    let are = together_are t u h in
    record {
      first = t.client;
      second = u.client;
      first_mode = t.mode;
      second_mode = u.mode;
      resource = t.resource;
      clients = (mine, theirs);
      two = are.0;
      inside = (inside_with w a t one mine, subst (λ x. IsInside w u.client u.mode x) (sym are.1) (inside_with w b u other theirs));
    }

-- the ticket of a client that is inside
ticket_with : (w : World) (a : Actor) (found : Option Ticket) (c : ℕ) (m : Mode) (x : List ℕ) → IsInsideAs w a found → IsOwnTicket a found → a ≡ actor.Client c → IsInside w c m x → (t : Ticket) × (found ≡ Some t) × (t.client ≡ c) × (t.resource ≡ x)
ticket_with w a found c m x one own is inside =
    let by : IsInsideBy w c found = subst (λ y. IsInsideAs w y found) is one in
    let its = (by m x).0 inside in
    let named : a ≡ actor.Client its.0.client = subst (IsOwnTicket a) its.1 own in
    let client : actor.Client its.0.client ≡ actor.Client c = sym named ∙ is in
    (its.0, its.1, cc, its.3)

met_is_told : (w : World) (a b : Actor) (t u : Option Ticket) → IsInsideAs w a t → IsInsideAs w b u → IsOwnTicket a t → IsOwnTicket b u → AreInsideOneResource w a b → are_together t u ≡ true
met_is_told w a b t u one other mine theirs r =
    let first = ticket_with w a t r.first r.first_mode r.resource one mine r.clients.0 r.inside.0 in
    let second = ticket_with w b u r.second r.second_mode r.resource other theirs r.clients.1 r.inside.1 in
    ap (λ x. are_together x u) first.1
    ∙ ap (are_together (Some first.0)) second.1
    ∙ are_together_of first.0 second.0 (λ same. r.two (sym first.2 ∙ same ∙ second.2)) (first.3 ∙ sym second.3)

pub met : (w : World) (a b : Actor) (t u : Option Ticket) → IsInsideAs w a t → IsInsideAs w b u → IsOwnTicket a t → IsOwnTicket b u → (are_together t u ≡ true) ↔ AreInsideOneResource w a b
met w a b t u one other mine theirs = (told_is_met w a b t u one other mine theirs, met_is_told w a b t u one other mine theirs)
