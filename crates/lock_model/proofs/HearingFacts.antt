-- What a client hears, as a function, is what the relation allows.
use Rattle.std.proofs.Common.{◌≡◌, ◌≢◌, ◌↔◌, ℕ, ◌==◌, Bool, true, false, ◌&&◌, cond, leb, refl, sym, ◌∙◌, ap, subst}
use Rattle.std.specs.Str.{bytes_eq}
use Rattle.std.proofs.lemmas.Bool.{and_parts, and_from, leb-true, le-leb}
use Rattle.std.proofs.lemmas.Bool.Decides.{Decides-eqb}
use Rattle.std.proofs.lemmas.Slice.Eq.{bytes_eq-Decides}
use Rattle.lock_messages.specs.declared.tickets.Mode.{Mode}
use Rattle.lock_messages.specs.declared.tickets.Mode.TheVariants.{Read, Write}
use Rattle.lock_messages.specs.declared.tickets.Ticket.{Ticket}
use Rattle.lock_messages.specs.declared.messages.Message.{Message}
use Rattle.lock_messages.specs.declared.messages.Message.TheVariants as message
use Rattle.lock_model.specs.declared.hearing.Heard.{Heard}
use Rattle.lock_model.specs.declared.hearing.Heard.TheVariants.{Counted, Known, Busy, Done, Softened, NotMine}
use Rattle.lock_model.specs.Ballots.{IsNodeOf}
use Rattle.lock_model.specs.Hearing.{HearsOfTicket, HearsSoftened, HearsAtRest}
use Rattle.lock_model.specs.ExactDecisions.{same_mode}
use Rattle.lock_model.specs.ExactHearing.{is_node_of, same_ticket, heard_of_ticket, heard_softened, heard_at_rest}

node-from : (nodes : ℕ) (n : ℕ) → IsNodeOf nodes n → is_node_of nodes n ≡ true
node-from nodes n h = and_from (leb 1 n) (leb n nodes) (le-leb 1 n h.0) (le-leb n nodes h.1)

node-to : (nodes : ℕ) (n : ℕ) → is_node_of nodes n ≡ true → IsNodeOf nodes n
node-to nodes n h = let p = and_parts (leb 1 n) (leb n nodes) h in (leb-true 1 n p.0, leb-true n nodes p.1)

-- the tests of modes and tickets are as they should be

pub mode-to : (a b : Mode) → same_mode a b ≡ true → a ≡ b
mode-to Read Read h = refl
mode-to Read Write h = cc
mode-to Write Read h = cc
mode-to Write Write h = refl

pub mode-self : (a : Mode) → same_mode a a ≡ true
mode-self Read = refl
mode-self Write = refl

pub ticket-to : (t u : Ticket) → same_ticket t u ≡ true → t ≡ u
ticket-to t u h =
    let p = and_parts (t.client == u.client) ((t.attempt == u.attempt) && (same_mode t.mode u.mode && bytes_eq t.resource u.resource)) h in
    let q = and_parts (t.attempt == u.attempt) (same_mode t.mode u.mode && bytes_eq t.resource u.resource) p.1 in
    let r = and_parts (same_mode t.mode u.mode) (bytes_eq t.resource u.resource) q.1 in
    ap (λ c. record { client = c; attempt = t.attempt; mode = t.mode; resource = t.resource }) ((Decides-eqb t.client u.client).0 p.0)
    ∙ ap (λ a. record { client = u.client; attempt = a; mode = t.mode; resource = t.resource }) ((Decides-eqb t.attempt u.attempt).0 q.0)
    ∙ ap (λ m. record { client = u.client; attempt = u.attempt; mode = m; resource = t.resource }) (mode-to t.mode u.mode r.0)
    ∙ ap (λ x. record { client = u.client; attempt = u.attempt; mode = u.mode; resource = x }) ((bytes_eq-Decides t.resource u.resource).0 r.1)

pub ticket-self : (t : Ticket) → same_ticket t t ≡ true
ticket-self t =
    and_from (t.client == t.client) ((t.attempt == t.attempt) && (same_mode t.mode t.mode && bytes_eq t.resource t.resource)) ((Decides-eqb t.client t.client).1 refl)
    (and_from (t.attempt == t.attempt) (same_mode t.mode t.mode && bytes_eq t.resource t.resource) ((Decides-eqb t.attempt t.attempt).1 refl)
    (and_from (same_mode t.mode t.mode) (bytes_eq t.resource t.resource) (mode-self t.mode) ((bytes_eq-Decides t.resource t.resource).1 refl)))

-- the answer is a Grant's, a Busy's or a Done's of the right node and ticket, or it is none of these

grant-test : (nodes : ℕ) (n : ℕ) (t : Ticket) → IsNodeOf nodes n → (is_node_of nodes n && same_ticket t t) ≡ true
grant-test nodes n t h = and_from (is_node_of nodes n) (same_ticket t t) (node-from nodes n h) (ticket-self t)

-- a Grant of another ticket, or from elsewhere
grant-other : (nodes : ℕ) (n : ℕ) (t u : Ticket) → (is_node_of nodes n && same_ticket u t) ≡ false → (k : ℕ) → IsNodeOf nodes k → (message.Grant n u ≢ message.Grant k t) × (message.Grant n u ≢ message.Busy k t)
grant-other nodes n t u h k at = (to, λ e. cc)
  where
    to : message.Grant n u ≡ message.Grant k t → ⊥
    to e =
        let same_node : k ≡ n = cc in
        let same_one : t ≡ u = cc in
        let agrees : (is_node_of nodes n && same_ticket u t) ≡ true = subst (λ v. (is_node_of nodes n && same_ticket v t) ≡ true) same_one (subst (λ v. (is_node_of nodes v && same_ticket t t) ≡ true) same_node (grant-test nodes k t at)) in
        let z : false ≡ true = sym h ∙ agrees in cc

busy-other : (nodes : ℕ) (n : ℕ) (t u : Ticket) → (is_node_of nodes n && same_ticket u t) ≡ false → (k : ℕ) → IsNodeOf nodes k → (message.Busy n u ≢ message.Grant k t) × (message.Busy n u ≢ message.Busy k t)
busy-other nodes n t u h k at = (λ e. cc, to)
  where
    to : message.Busy n u ≡ message.Busy k t → ⊥
    to e =
        let same_node : k ≡ n = cc in
        let same_one : t ≡ u = cc in
        let agrees : (is_node_of nodes n && same_ticket u t) ≡ true = subst (λ v. (is_node_of nodes n && same_ticket v t) ≡ true) same_one (subst (λ v. (is_node_of nodes v && same_ticket t t) ≡ true) same_node (grant-test nodes k t at)) in
        let z : false ≡ true = sym h ∙ agrees in cc

-- the function's answer is allowed
ticket-sound : (nodes : ℕ) (t : Ticket) (granted : ℕ → Bool) (m : Message) → HearsOfTicket nodes t granted m (heard_of_ticket nodes t granted m)
ticket-sound nodes t granted (message.Request n u) = λ k at. (λ e. cc, λ e. cc)
ticket-sound nodes t granted (message.Release n c a) = λ k at. (λ e. cc, λ e. cc)
ticket-sound nodes t granted (message.Over n c a) = λ k at. (λ e. cc, λ e. cc)
ticket-sound nodes t granted (message.Done n c a) = λ k at. (λ e. cc, λ e. cc)
ticket-sound nodes t granted (message.Muddled n c a) = λ k at. (λ e. cc, λ e. cc)
ticket-sound nodes t granted (message.Soften n c a) = λ k at. (λ e. cc, λ e. cc)
ticket-sound nodes t granted (message.Softened n c a) = λ k at. (λ e. cc, λ e. cc)
ticket-sound nodes t granted (message.Grant n u) = go (is_node_of nodes n && same_ticket u t) refl (granted n) refl
  where
    go : (v : Bool) → (is_node_of nodes n && same_ticket u t) ≡ v → (g : Bool) → granted n ≡ g → HearsOfTicket nodes t granted (message.Grant n u) (cond v (cond g Known Counted) NotMine)
    go false h g k = grant-other nodes n t u h
    go true h true k = let p = and_parts (is_node_of nodes n) (same_ticket u t) h in (n, node-to nodes n p.0, (k, ap (message.Grant n) (ticket-to u t p.1)))
    go true h false k = let p = and_parts (is_node_of nodes n) (same_ticket u t) h in (n, node-to nodes n p.0, (k, ap (message.Grant n) (ticket-to u t p.1)))
ticket-sound nodes t granted (message.Busy n u) = go (is_node_of nodes n && same_ticket u t) refl
  where
    go : (v : Bool) → (is_node_of nodes n && same_ticket u t) ≡ v → HearsOfTicket nodes t granted (message.Busy n u) (cond v Busy NotMine)
    go false h = busy-other nodes n t u h
    go true h = let p = and_parts (is_node_of nodes n) (same_ticket u t) h in (n, node-to nodes n p.0, ap (message.Busy n) (ticket-to u t p.1))

-- and no other answer is
ticket-only : (nodes : ℕ) (t : Ticket) (granted : ℕ → Bool) (m : Message) (heard : Heard) → HearsOfTicket nodes t granted m heard → heard ≡ heard_of_ticket nodes t granted m
ticket-only nodes t granted m Counted h =
    sym (ap (heard_of_ticket nodes t granted) h.2.1 ∙ ap (λ v. cond v (cond (granted h.0) Known Counted) NotMine) (grant-test nodes h.0 t h.1) ∙ ap (λ g. cond g Known Counted) h.2.0)
ticket-only nodes t granted m Known h =
    sym (ap (heard_of_ticket nodes t granted) h.2.1 ∙ ap (λ v. cond v (cond (granted h.0) Known Counted) NotMine) (grant-test nodes h.0 t h.1) ∙ ap (λ g. cond g Known Counted) h.2.0)
ticket-only nodes t granted m Busy h = sym (ap (heard_of_ticket nodes t granted) h.2 ∙ ap (λ v. cond v Busy NotMine) (grant-test nodes h.0 t h.1))
ticket-only nodes t granted m Done h = absurd h
ticket-only nodes t granted m Softened h = absurd h
ticket-only nodes t granted (message.Request n u) NotMine h = refl
ticket-only nodes t granted (message.Release n c a) NotMine h = refl
ticket-only nodes t granted (message.Over n c a) NotMine h = refl
ticket-only nodes t granted (message.Done n c a) NotMine h = refl
ticket-only nodes t granted (message.Muddled n c a) NotMine h = refl
ticket-only nodes t granted (message.Soften n c a) NotMine h = refl
ticket-only nodes t granted (message.Softened n c a) NotMine h = refl
ticket-only nodes t granted (message.Grant n u) NotMine h = go (is_node_of nodes n && same_ticket u t) refl
  where
    go : (v : Bool) → (is_node_of nodes n && same_ticket u t) ≡ v → NotMine ≡ cond v (cond (granted n) Known Counted) NotMine
    go false k = refl
    go true k = let p = and_parts (is_node_of nodes n) (same_ticket u t) k in absurd ((h n (node-to nodes n p.0)).0 (ap (message.Grant n) (ticket-to u t p.1)))
ticket-only nodes t granted (message.Busy n u) NotMine h = go (is_node_of nodes n && same_ticket u t) refl
  where
    go : (v : Bool) → (is_node_of nodes n && same_ticket u t) ≡ v → NotMine ≡ cond v Busy NotMine
    go false k = refl
    go true k = let p = and_parts (is_node_of nodes n) (same_ticket u t) k in absurd ((h n (node-to nodes n p.0)).1 (ap (message.Busy n) (ticket-to u t p.1)))

pub of-ticket : (nodes : ℕ) (t : Ticket) (granted : ℕ → Bool) (m : Message) (heard : Heard) → HearsOfTicket nodes t granted m heard ↔ (heard ≡ heard_of_ticket nodes t granted m)
of-ticket nodes t granted m heard = (ticket-only nodes t granted m heard, λ e. subst (HearsOfTicket nodes t granted m) (sym e) (ticket-sound nodes t granted m))

-- from a node of the list, about this client and attempt

about-test : (nodes : ℕ) (n c a : ℕ) → IsNodeOf nodes n → (is_node_of nodes n && ((c == c) && (a == a))) ≡ true
about-test nodes n c a h = and_from (is_node_of nodes n) ((c == c) && (a == a)) (node-from nodes n h) (and_from (c == c) (a == a) ((Decides-eqb c c).1 refl) ((Decides-eqb a a).1 refl))

record About (nodes n c d a e : ℕ) : Type 0 where
  pub node : IsNodeOf nodes n
  pub client : d ≡ c
  pub attempt : e ≡ a

about-to : (nodes : ℕ) (n c d a e : ℕ) → (is_node_of nodes n && ((d == c) && (e == a))) ≡ true → About nodes n c d a e
about-to nodes n c d a e h =
    let p = and_parts (is_node_of nodes n) ((d == c) && (e == a)) h in
    let q = and_parts (d == c) (e == a) p.1 in
    record { node = node-to nodes n p.0; client = (Decides-eqb d c).0 q.0; attempt = (Decides-eqb e a).0 q.1 }

about-from : (nodes : ℕ) (n c d a e : ℕ) → About nodes n c d a e → (is_node_of nodes n && ((d == c) && (e == a))) ≡ true
about-from nodes n c d a e h =
    ap (λ v. is_node_of nodes n && ((v == c) && (e == a))) h.client ∙ ap (λ v. is_node_of nodes n && ((c == c) && (v == a))) h.attempt ∙ about-test nodes n c a h.node

-- then a message made of these three is the one that is waited for
said-to : (make : ℕ → ℕ → ℕ → Message) (nodes : ℕ) (n c d a e : ℕ) → About nodes n c d a e → make n d e ≡ make n c a
said-to make nodes n c d a e h = ap (λ k. make n k e) h.client ∙ ap (make n c) h.attempt

-- ---- once it has softened

softened-sound : (nodes : ℕ) (c a : ℕ) (m : Message) → HearsSoftened nodes c a m (heard_softened nodes c a m)
softened-sound nodes c a (message.Request n u) = λ k at e. cc
softened-sound nodes c a (message.Release n d e) = λ k at q. cc
softened-sound nodes c a (message.Grant n u) = λ k at e. cc
softened-sound nodes c a (message.Busy n u) = λ k at e. cc
softened-sound nodes c a (message.Over n d e) = λ k at q. cc
softened-sound nodes c a (message.Done n d e) = λ k at q. cc
softened-sound nodes c a (message.Muddled n d e) = λ k at q. cc
softened-sound nodes c a (message.Soften n d e) = λ k at q. cc
softened-sound nodes c a (message.Softened n d e) = go (is_node_of nodes n && ((d == c) && (e == a))) refl
  where
    go : (v : Bool) → (is_node_of nodes n && ((d == c) && (e == a))) ≡ v → HearsSoftened nodes c a (message.Softened n d e) (cond v Softened NotMine)
    go true h = let r = about-to nodes n c d a e h in (n, r.node, said-to message.Softened nodes n c d a e r)
    go false h = λ k at q.
        let node : k ≡ n = cc in
        let client : d ≡ c = cc in
        let attempt : e ≡ a = cc in
        let z : false ≡ true = sym h ∙ about-from nodes n c d a e (record { node = subst (IsNodeOf nodes) node at; client = client; attempt = attempt }) in cc

softened-only : (nodes : ℕ) (c a : ℕ) (m : Message) (heard : Heard) → HearsSoftened nodes c a m heard → heard ≡ heard_softened nodes c a m
softened-only nodes c a m Counted h = absurd h
softened-only nodes c a m Known h = absurd h
softened-only nodes c a m Busy h = absurd h
softened-only nodes c a m Done h = absurd h
softened-only nodes c a m Softened h = sym (ap (heard_softened nodes c a) h.2 ∙ ap (λ v. cond v Softened NotMine) (about-test nodes h.0 c a h.1))
softened-only nodes c a (message.Request n u) NotMine h = refl
softened-only nodes c a (message.Release n d e) NotMine h = refl
softened-only nodes c a (message.Grant n u) NotMine h = refl
softened-only nodes c a (message.Busy n u) NotMine h = refl
softened-only nodes c a (message.Over n d e) NotMine h = refl
softened-only nodes c a (message.Done n d e) NotMine h = refl
softened-only nodes c a (message.Muddled n d e) NotMine h = refl
softened-only nodes c a (message.Soften n d e) NotMine h = refl
softened-only nodes c a (message.Softened n d e) NotMine h = go (is_node_of nodes n && ((d == c) && (e == a))) refl
  where
    go : (v : Bool) → (is_node_of nodes n && ((d == c) && (e == a))) ≡ v → NotMine ≡ cond v Softened NotMine
    go false k = refl
    go true k = let r = about-to nodes n c d a e k in absurd (h n r.node (said-to message.Softened nodes n c d a e r))

pub once-softened : (nodes : ℕ) (c a : ℕ) (m : Message) (heard : Heard) → HearsSoftened nodes c a m heard ↔ (heard ≡ heard_softened nodes c a m)
once-softened nodes c a m heard = (softened-only nodes c a m heard, λ e. subst (HearsSoftened nodes c a m) (sym e) (softened-sound nodes c a m))

-- ---- at rest

rest-sound : (nodes : ℕ) (c a : ℕ) (m : Message) → HearsAtRest nodes c a m (heard_at_rest nodes c a m)
rest-sound nodes c a (message.Request n u) = λ k at e. cc
rest-sound nodes c a (message.Release n d e) = λ k at q. cc
rest-sound nodes c a (message.Grant n u) = λ k at e. cc
rest-sound nodes c a (message.Busy n u) = λ k at e. cc
rest-sound nodes c a (message.Over n d e) = λ k at q. cc
rest-sound nodes c a (message.Muddled n d e) = λ k at q. cc
rest-sound nodes c a (message.Soften n d e) = λ k at q. cc
rest-sound nodes c a (message.Softened n d e) = λ k at q. cc
rest-sound nodes c a (message.Done n d e) = go (is_node_of nodes n && ((d == c) && (e == a))) refl
  where
    go : (v : Bool) → (is_node_of nodes n && ((d == c) && (e == a))) ≡ v → HearsAtRest nodes c a (message.Done n d e) (cond v Done NotMine)
    go true h = let r = about-to nodes n c d a e h in (n, r.node, said-to message.Done nodes n c d a e r)
    go false h = λ k at q.
        let node : k ≡ n = cc in
        let client : d ≡ c = cc in
        let attempt : e ≡ a = cc in
        let z : false ≡ true = sym h ∙ about-from nodes n c d a e (record { node = subst (IsNodeOf nodes) node at; client = client; attempt = attempt }) in cc

rest-only : (nodes : ℕ) (c a : ℕ) (m : Message) (heard : Heard) → HearsAtRest nodes c a m heard → heard ≡ heard_at_rest nodes c a m
rest-only nodes c a m Counted h = absurd h
rest-only nodes c a m Known h = absurd h
rest-only nodes c a m Busy h = absurd h
rest-only nodes c a m Softened h = absurd h
rest-only nodes c a m Done h = sym (ap (heard_at_rest nodes c a) h.2 ∙ ap (λ v. cond v Done NotMine) (about-test nodes h.0 c a h.1))
rest-only nodes c a (message.Request n u) NotMine h = refl
rest-only nodes c a (message.Release n d e) NotMine h = refl
rest-only nodes c a (message.Grant n u) NotMine h = refl
rest-only nodes c a (message.Busy n u) NotMine h = refl
rest-only nodes c a (message.Over n d e) NotMine h = refl
rest-only nodes c a (message.Muddled n d e) NotMine h = refl
rest-only nodes c a (message.Soften n d e) NotMine h = refl
rest-only nodes c a (message.Softened n d e) NotMine h = refl
rest-only nodes c a (message.Done n d e) NotMine h = go (is_node_of nodes n && ((d == c) && (e == a))) refl
  where
    go : (v : Bool) → (is_node_of nodes n && ((d == c) && (e == a))) ≡ v → NotMine ≡ cond v Done NotMine
    go false k = refl
    go true k = let r = about-to nodes n c d a e k in absurd (h n r.node (said-to message.Done nodes n c d a e r))

pub at-rest : (nodes : ℕ) (c a : ℕ) (m : Message) (heard : Heard) → HearsAtRest nodes c a m heard ↔ (heard ≡ heard_at_rest nodes c a m)
at-rest nodes c a m heard = (rest-only nodes c a m heard, λ e. subst (HearsAtRest nodes c a m) (sym e) (rest-sound nodes c a m))
