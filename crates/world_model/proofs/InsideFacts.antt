-- The list of those inside a resource is the set of them, and a writer in it is its only member.
use Rattle.std.proofs.Common.{◌≡◌, ◌≢◌, ◌↔◌, ℕ, ◌+◌, ◌⊎◌, Bool, true, false, cond, List, [], ◌∷◌, ◌++◌, zero, suc, Option, Some, None, refl, sym, ◌∙◌, ap, subst, inl, inr, arith}
use Rattle.std.specs.Prelude.{slice_get}
use Rattle.std.specs.List.{flat_map}
use Rattle.std.specs.Str.{bytes_eq}
use Rattle.std.proofs.lemmas.Slice.Eq.{bytes_eq-Decides}
use Rattle.lock_messages.specs.declared.tickets.Mode.{Mode}
use Rattle.lock_messages.specs.declared.tickets.Mode.TheVariants.{Read, Write}
use Rattle.lock_messages.specs.declared.tickets.Ticket.{Ticket}
use Rattle.lock_model.specs.Decisions.{Among}
use Rattle.lock_model.specs.Laws.{EnoughSetsShareANodeOfBoth, AnyTwoCross}
use Rattle.world_model.specs.declared.exact.ExactClient.{ExactClient}
use Rattle.world_model.specs.declared.exact.ExactPresent.{ExactPresent}
use Rattle.world_model.specs.declared.exact.ExactClientPhase.{ExactClientPhase}
use Rattle.world_model.specs.declared.exact.ExactClientPhase.TheVariants as client
use Rattle.world_model.specs.declared.exact.ExactWorld.{ExactWorld}
use Rattle.world_model.specs.Worlds.{Present, ClientDown, IsIn, Client, present_mode, IsInside}
use Rattle.world_model.specs.Invariants.{IsSafeTicket}
use Rattle.world_model.specs.ExactWorlds.{numbered}
use Rattle.world_model.specs.Forgetting.{present_of, client_phase_of, client_numbered, forget, setting_of, IsSound}
use Rattle.world_model.specs.Views.{softened_ticket, present_ticket, ticket_in, ticket_for, inside}
use Rattle.world_model.proofs.ListFacts.{among-append, numbered-among, among-got, got-numbered}
use Rattle.world_model.proofs.PhaseFacts.{client-inside}
use Rattle.world_model.proofs.ExclusionFacts.{exclusive}

-- among the parts of a list

pub among-part : {A B : Type 0} (f : A → List B) (xs : List A) (y : B) → Among y (flat_map f xs) → (x : A) × Among x xs × Among y (f x)
among-part f [] y m = absurd m
among-part {A} {B} f (x ∷ xs) y m = go ((among-append y (f x) (flat_map f xs)).0 m) (among-part f xs y)
  where
    go : Among y (f x) ⊎ Among y (flat_map f xs) → (Among y (flat_map f xs) → (z : A) × Among z xs × Among y (f z)) → (z : A) × Among z (x ∷ xs) × Among y (f z)
    go (inl h) ih = (x, inl refl, h)
    go (inr h) ih = let r = ih h in (r.0, inr r.1, r.2)

pub part-among : {A B : Type 0} (f : A → List B) (xs : List A) (x : A) (y : B) → Among x xs → Among y (f x) → Among y (flat_map f xs)
part-among f [] x y m h = absurd m
part-among f (z ∷ xs) x y (inl e) h = (among-append y (f z) (flat_map f xs)).1 (inl (subst (λ a. Among y (f a)) e h))
part-among f (z ∷ xs) x y (inr m) h = (among-append y (f z) (flat_map f xs)).1 (inr (part-among f xs x y m h))

-- where one element alone gives anything
none-of : {A B : Type 0} (f : A → List B) (xs : List A) → ((j : ℕ) (x : A) → slice_get xs j ≡ Some x → f x ≡ []) → flat_map f xs ≡ []
none-of f [] none = refl
none-of f (x ∷ xs) none = ap (λ l. l ++ flat_map f xs) (none zero x refl) ∙ none-of f xs (λ j. none (suc j))

only-one : {A B : Type 0} (f : A → List B) (xs : List A) (i : ℕ) (x : A) (y : B) → slice_get xs i ≡ Some x → f x ≡ y ∷ [] → ((j : ℕ) (z : A) → slice_get xs j ≡ Some z → j ≢ i → f z ≡ []) → flat_map f xs ≡ y ∷ []
only-one f [] i x y is gives none = absurd (let q : None ≡ Some x = is in cc)
only-one f (z ∷ xs) zero x y is gives none =
    let q : Some z ≡ Some x = is in
    let same : z ≡ x = cc in
    ap (λ l. l ++ flat_map f xs) (ap f same ∙ gives) ∙ ap (λ l. y ∷ l) (none-of f xs (λ j u h. none (suc j) u h (λ e. let p : suc j ≡ zero = e in absurd (omega (arith, p)))))
only-one f (z ∷ xs) (suc i) x y is gives none =
    ap (λ l. l ++ flat_map f xs) (none zero z refl (λ e. let p : zero ≡ suc i = e in absurd (omega (arith, p))))
    ∙ only-one f xs i x y is gives (λ j u h apart. none (suc j) u h (λ e. apart (omega (arith, e))))

-- A present ticket is one of the client and the resource that it was asked with, in the mode in which the
-- client is inside.

abbrev as_reader : Bool → Ticket → Ticket
as_reader softened t = cond softened (softened_ticket t) t

reader-client : (softened : Bool) (t : Ticket) → (as_reader softened t).client ≡ t.client
reader-client true t = refl
reader-client false t = refl

reader-resource : (softened : Bool) (t : Ticket) → (as_reader softened t).resource ≡ t.resource
reader-resource true t = refl
reader-resource false t = refl

reader-mode : (softened : Bool) (t : Ticket) → (as_reader softened t).mode ≡ cond softened Read t.mode
reader-mode true t = refl
reader-mode false t = refl

-- a client's ticket for a resource
pub record HasTicket (x : List ℕ) (k : ExactClient) (t : Ticket) : Type 0 where
  pub present : ExactPresent
  pub phase : k.phase ≡ client.Inside present
  pub ticket : present_ticket present ≡ t
  pub resource : t.resource ≡ x

abbrev tickets : List ℕ → ExactClient → List Ticket
tickets x k = ticket_for x (ticket_in k.phase)

has-ticket : (x : List ℕ) (k : ExactClient) (t : Ticket) → Among t (tickets x k) → HasTicket x k t
has-ticket x k t m = go k.phase refl m
  where
    for : (p : ExactPresent) (b : Bool) → k.phase ≡ client.Inside p → bytes_eq (present_ticket p).resource x ≡ b → Among t (cond b (present_ticket p ∷ []) []) → HasTicket x k t
    for p true is e (inl s) =
        record { present = p; phase = is; ticket = sym s; resource = ap (λ (y : Ticket). y.resource) s ∙ (bytes_eq-Decides (present_ticket p).resource x).0 e }
    for p true is e (inr h) = absurd h
    for p false is e h = absurd h

    go : (p : ExactClientPhase) → k.phase ≡ p → Among t (ticket_for x (ticket_in p)) → HasTicket x k t
    go client.Down is h = absurd h
    go client.Idle is h = absurd h
    go (client.Chosen u place) is h = absurd h
    go (client.Asking p) is h = absurd h
    go (client.Inside p) is h = for p (bytes_eq (present_ticket p).resource x) is refl h

is-listed : (x : List ℕ) (k : ExactClient) (t : Ticket) → HasTicket x k t → tickets x k ≡ t ∷ []
is-listed x k t has =
    ap (λ p. ticket_for x (ticket_in p)) has.phase ∙ ap (λ u. ticket_for x (Some u)) has.ticket ∙ ap (λ b. cond b (t ∷ []) []) ((bytes_eq-Decides t.resource x).1 has.resource)

either-empty : (x : List ℕ) (k : ExactClient) → (tickets x k ≡ []) ⊎ ((t : Ticket) × HasTicket x k t)
either-empty x k = go (tickets x k) refl
  where
    go : (l : List Ticket) → tickets x k ≡ l → (tickets x k ≡ []) ⊎ ((t : Ticket) × HasTicket x k t)
    go [] e = inl e
    go (t ∷ l) e = inr (t, has-ticket x k t (subst (Among t) (sym e) (inl refl)))

-- a client with a ticket is inside, with a ticket of its own

client-inside-world : (w : ExactWorld) (x : List ℕ) (c : ℕ) (k : ExactClient) (t : Ticket) → numbered w.clients c ≡ Some k → HasTicket x k t → IsInside (forget w) c t.mode x
client-inside-world w x c k t is has = (
  present_of has.present,
  ap (λ (y : Client). y.phase) (ap client_numbered is) ∙ ap client_phase_of has.phase,
  sym (reader-mode has.present.softened has.present.ticket) ∙ ap (λ (u : Ticket). u.mode) has.ticket,
  sym (reader-resource has.present.softened has.present.ticket) ∙ ap (λ (u : Ticket). u.resource) has.ticket ∙ has.resource,
)

own-client : (w : ExactWorld) → IsSound w → (x : List ℕ) (c : ℕ) (k : ExactClient) (t : Ticket) → numbered w.clients c ≡ Some k → HasTicket x k t → t.client ≡ c
own-client w sound x c k t is has =
    let safe = subst (λ (y : Client). IsSafeTicket w.ballots (forget w) c y.kept y.phase) (ap client_numbered is) (sound.safe.clients c).ticket in
    ap (λ (u : Ticket). u.client) (sym has.ticket) ∙ reader-client has.present.softened has.present.ticket ∙ (subst (λ p. IsSafeTicket w.ballots (forget w) c k.kept p) (ap client_phase_of has.phase) safe).0.client

pub inside-is-set : (w : ExactWorld) → IsSound w → (x : List ℕ) (c : ℕ) (m : Mode) → IsInside (forget w) c m x ↔ ((t : Ticket) × Among t (inside x w) × (t.client ≡ c) × (t.mode ≡ m))
inside-is-set w sound x c m = (to, from)
  where
    to : IsInside (forget w) c m x → (t : Ticket) × Among t (inside x w) × (t.client ≡ c) × (t.mode ≡ m)
    to h = go (numbered w.clients c) refl
      where
        go : (o : Option ExactClient) → numbered w.clients c ≡ o → (u : Ticket) × Among u (inside x w) × (u.client ≡ c) × (u.mode ≡ m)
        go None is = absurd (let q : ClientDown ≡ IsIn h.0 = sym (ap (λ (y : Client). y.phase) (ap client_numbered is)) ∙ h.1 in cc)
        go (Some k) is =
            let at = client-inside k.phase h.0 (sym (ap (λ (y : Client). y.phase) (ap client_numbered is)) ∙ h.1) in
            let t = present_ticket at.0 in
            let resource : t.resource ≡ x = reader-resource at.0.softened at.0.ticket ∙ ap (λ (p : Present). p.ticket.resource) at.2 ∙ h.3 in
            let has : HasTicket x k t = record { present = at.0; phase = at.1; ticket = refl; resource = resource } in
            (t, part-among (tickets x) w.clients k t (numbered-among w.clients c k is) (subst (Among t) (sym (is-listed x k t has)) (inl refl)), own-client w sound x c k t is has, reader-mode at.0.softened at.0.ticket ∙ ap present_mode at.2 ∙ h.2)

    from : (t : Ticket) × Among t (inside x w) × (t.client ≡ c) × (t.mode ≡ m) → IsInside (forget w) c m x
    from h =
        let part = among-part (tickets x) w.clients h.0 h.1 in
        let place = among-got w.clients part.0 part.1 in
        let is = got-numbered w.clients place.0 part.0 place.1 in
        let has = has-ticket x part.0 h.0 part.2 in
        let d : place.0 + 1 ≡ c = sym (own-client w sound x (place.0 + 1) part.0 h.0 is has) ∙ h.2 in
        subst (λ mode. IsInside (forget w) c mode x) h.3 (subst (λ e. IsInside (forget w) e h.0.mode x) d (client-inside-world w x (place.0 + 1) part.0 h.0 is has))

pub writer-inside-only : EnoughSetsShareANodeOfBoth → AnyTwoCross → (w : ExactWorld) → IsSound w → (x : List ℕ) (t : Ticket) → Among t (inside x w) → t.mode ≡ Write → inside x w ≡ t ∷ []
writer-inside-only share two w sound x t m writes = only-one (tickets x) w.clients place.0 part.0 t place.1 (is-listed x part.0 t has) others
  where
    part : (k : ExactClient) × Among k w.clients × Among t (tickets x k)
    part = among-part (tickets x) w.clients t m

    place : (i : ℕ) × (slice_get w.clients i ≡ Some part.0)
    place = among-got w.clients part.0 part.1

    has : HasTicket x part.0 t
    has = has-ticket x part.0 t part.2

    here : IsInside (forget w) (place.0 + 1) Write x
    here = subst (λ mode. IsInside (forget w) (place.0 + 1) mode x) writes (client-inside-world w x (place.0 + 1) part.0 t (got-numbered w.clients place.0 part.0 place.1) has)

    others : (j : ℕ) (k : ExactClient) → slice_get w.clients j ≡ Some k → j ≢ place.0 → tickets x k ≡ []
    others j k is apart = go (either-empty x k)
      where
        go : (tickets x k ≡ []) ⊎ ((u : Ticket) × HasTicket x k u) → tickets x k ≡ []
        go (inl e) = e
        go (inr h) =
            let there = client-inside-world w x (j + 1) k h.0 (got-numbered w.clients j k is) h.1 in
            let same : j + 1 ≡ place.0 + 1 = (exclusive share two (setting_of w) (forget w) sound.crosses sound.safe).alone (place.0 + 1) (j + 1) h.0.mode x here there in
            absurd (apart (omega (arith, same)))
