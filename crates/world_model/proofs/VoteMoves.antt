-- The client that wants in hears a Grant that was sent, and enters once all chosen nodes have granted its ticket:
-- both can be done, and bring it nearer.
use Rattle.std.proofs.Common.{◌≡◌, ℕ, zero, suc, ◌+◌, ◌-◌, ◌<◌, ◌≤◌, ◌==◌, ◌&&◌, ◌||◌, Bool, true, false, not, if◌then◌else◌, length, slice_index_or, sum_by, List, [], ◌∷◌, refl, sym, ◌∙◌, ap, subst, inl, arith}
use Rattle.std.specs.List.{range_with_len, list_any}
use Rattle.std.specs.Str.{bytes_eq}
use Rattle.std.proofs.lemmas.Bool.{eqb-true, eq-eqb, and_parts}
use Rattle.std.proofs.lemmas.List.Sums.{sum_by-cons}
use Rattle.lock_messages.specs.declared.tickets.Mode.TheVariants.{Read}
use Rattle.lock_messages.specs.declared.tickets.Ticket.{Ticket}
use Rattle.lock_messages.specs.declared.messages.Message.{Message}
use Rattle.lock_messages.specs.declared.messages.Message.TheVariants.{Request, Release, Grant, Busy, Over, Done, Muddled, Soften}
use Rattle.lock_messages.specs.declared.messages.Message.TheVariants as message
use Rattle.lock_messages.specs.Messages.{is_for_client}
use Rattle.lock_model.specs.declared.hearing.Heard.{Heard}
use Rattle.lock_model.specs.declared.hearing.Heard.TheVariants as heard
use Rattle.lock_model.specs.Ballots.{Ballot, HasAnyNode, IsEnough, IsNodeOf, ballot_at, no_ballot, node_count, votes_at, votes_of}
use Rattle.lock_model.specs.Decisions.{Among}
use Rattle.lock_model.specs.ExactDecisions.{same_mode}
use Rattle.lock_model.specs.ExactHearing.{same_ticket}
use Rattle.lock_model.proofs.HearingFacts.{mode-to, ticket-to}
use Rattle.lock_model.specs.Hearing.{HearsOfTicket}
use Rattle.lock_model.proofs.EntryFacts.{any-found}
use Rattle.world_model.specs.declared.events.Event.TheVariants as event
use Rattle.world_model.specs.Worlds.{NodePhase, Present, ClientDown, ClientIdle, Chosen, Asking, IsIn, Client, World, Setting, ByClient, gained, Hears, counts, counts_inside, passes, passes_inside, passes_softened, passes_idle, passes_chosen, Enters, enters}
use Rattle.world_model.specs.Invariants.{IsGranted, IsSafeTicket}
use Rattle.world_model.specs.declared.ways.Move.TheVariants.{Alone, HearFrom}
use Rattle.world_model.specs.declared.ways.Want.{Want}
use Rattle.world_model.specs.Advice.{is_wanted, asks_for, is_inside_as, is_grant}
use Rattle.world_model.proofs.Costs.{own_cost, client_cost, cost, promises, vote_cost, ask_cost}
use Rattle.world_model.specs.ExactWays.{IsLeft}
use Rattle.world_model.proofs.Nearer.{Fine, Nears, Goes, OnlyClient, costs_at, vote-le, vote-nearer}
use Rattle.world_model.proofs.FineFacts.{only-client, fine-of-client}
use Rattle.world_model.proofs.RestMoves.{client-goes}
use Rattle.world_model.proofs.OwnMoves.{own-client, costs-le, IsNearerOwn, nearer-own}

-- A message that passes the test is the node's Grant of the ticket.

pub grant-is : (n : ℕ) (t : Ticket) (m : Message) → is_grant n t m ≡ true → m ≡ Grant n t
grant-is n t (Grant k u) h = let parts = and_parts (k == n) (same_ticket u t) h in ap (λ j. Grant j u) (eqb-true k n parts.0) ∙ ap (Grant n) (ticket-to u t parts.1)
grant-is n t (Request k u) h = cc
grant-is n t (Release k c b) h = cc
grant-is n t (Busy k u) h = cc
grant-is n t (Over k c b) h = cc
grant-is n t (Done k c b) h = cc
grant-is n t (Muddled k c b) h = cc
grant-is n t (Soften k c b) h = cc
grant-is n t (message.Softened k c b) h = cc

grant-sent : (n : ℕ) (t : Ticket) (sent : List Message) → list_any (is_grant n t) sent ≡ true → Among (Grant n t) sent
grant-sent n t sent h = let found = any-found (is_grant n t) sent h in subst (λ m. Among m sent) (grant-is n t found.0 found.2) found.1

-- who asks for what is wanted asks in that mode, by that ballot
record AsWanted (a : Want) (p : Present) : Type 0 where
  mode : p.ticket.mode ≡ a.mode
  place : p.place ≡ a.place

wanted-ticket : (softened wanted : Bool) → (not softened && wanted) ≡ true → wanted ≡ true
wanted-ticket true wanted h = absurd (let q : false ≡ true = h in cc)
wanted-ticket false wanted h = h

as-wanted : (a : Want) (p : Present) → asks_for a p ≡ true → AsWanted a p
as-wanted a p h =
    let ticket = wanted-ticket p.softened (is_wanted a p.ticket p.place) h in
    let mode = and_parts (same_mode p.ticket.mode a.mode) (bytes_eq p.ticket.resource a.resource && (p.place == a.place)) ticket in
    let rest = and_parts (bytes_eq p.ticket.resource a.resource) (p.place == a.place) mode.1 in
    record {
      mode = mode-to p.ticket.mode a.mode mode.0;
      place = eqb-true p.place a.place rest.1;
    }

-- A Grant of a node that hasn't granted the ticket counts, and nothing else is made of it.

pub same-present : (q p : Present) → Asking q ≡ Asking p → q ≡ p
same-present q p h = cc

counts-only : (nodes n : ℕ) (t : Ticket) (granted : ℕ → Bool) (h : Heard) → IsNodeOf nodes n → granted n ≡ false → HearsOfTicket nodes t granted (Grant n t) h → h ≡ heard.Counted
counts-only nodes n t granted heard.Counted known apart hears = refl
counts-only nodes n t granted heard.Known known apart hears =
    let q : Grant n t ≡ Grant hears.0 t = hears.2.1 in
    let same : n ≡ hears.0 = cc in
    absurd (let z : false ≡ true = sym apart ∙ ap granted same ∙ hears.2.0 in cc)
counts-only nodes n t granted heard.Busy known apart hears = absurd (let q : Grant n t ≡ Busy hears.0 t = hears.2 in cc)
counts-only nodes n t granted heard.Done known apart hears = absurd hears
counts-only nodes n t granted heard.Softened known apart hears = absurd hears
counts-only nodes n t granted heard.NotMine known apart hears = absurd ((hears n known).0 refl)

hears-counted : (s : Setting) (c n : ℕ) (p : Present) (before after : Client) → HasAnyNode s.ballots n → p.granted n ≡ false → before.phase ≡ Asking p → Hears s.ballots c (Grant n p.ticket) before after →
    after.phase ≡ Asking (gained (Grant n p.ticket) p)
hears-counted s c n p before after known apart asks (counts kept tried q h) = ap (λ x. Asking (gained (Grant n p.ticket) x)) (same-present q p asks)
hears-counted s c n p before after known apart asks (counts_inside kept tried q whole h) = absurd (let z : IsIn q ≡ Asking p = asks in cc)
hears-counted s c n p before after known apart asks (passes kept tried q h hears other) =
    absurd (other (counts-only (node_count s.ballots) n p.ticket p.granted h known apart (subst (λ (x : Present). HearsOfTicket (node_count s.ballots) x.ticket x.granted (Grant n p.ticket) h) (same-present q p asks) hears)))
hears-counted s c n p before after known apart asks (passes_inside kept tried q h whole hears other) = absurd (let z : IsIn q ≡ Asking p = asks in cc)
hears-counted s c n p before after known apart asks (passes_softened kept tried q h softened hears) = absurd (let z : IsIn q ≡ Asking p = asks in cc)
hears-counted s c n p before after known apart asks (passes_idle kept tried h hears) = absurd (let z : ClientIdle ≡ Asking p = asks in cc)
hears-counted s c n p before after known apart asks (passes_chosen kept tried t place) = absurd (let z : Chosen t place ≡ Asking p = asks in cc)

-- who asks for what is wanted has one event before it
own-asks : (a : Want) (k : Client) (p : Present) → k.phase ≡ Asking p → asks_for a p ≡ true → client_cost a a.client k ≡ 1
own-asks a k p is wants = own-client a k ∙ ap (λ phase. own_cost a phase k.tried) is ∙ ap (λ b. if b then 1 else 5) wants

-- the client has one vote more, and everything else is as it was
module _ (s : Setting) (chosen : ℕ → Bool) (a : Want) (w v : World) (n : ℕ) (p : Present) (only : OnlyClient s a.client w v) (wants : asks_for a p ≡ true) (asks : (w.clients a.client).phase ≡ Asking p)
    (now : (v.clients a.client).phase ≡ Asking (gained (Grant n p.ticket) p)) where
  votes-le : (k : ℕ) (phase : NodePhase) → ask_cost a (v.clients a.client).phase v.sent k phase ≤ ask_cost a (w.clients a.client).phase w.sent k phase
  votes-le k phase = rw (now, asks) (go (asks_for a p) (n == k) (p.granted k))
    where
      go : (wanted new old : Bool) → (if wanted then (if new || old then 0 else vote_cost k p.ticket v.sent phase) else 7) ≤ (if wanted then (if old then 0 else vote_cost k p.ticket w.sent phase) else 7)
      go true true old = omega arith
      go true false true = omega arith
      go true false false = vote-le k p.ticket w v phase only.grows
      go false new old = omega arith

  counted : (phase : NodePhase) → ask_cost a (v.clients a.client).phase v.sent n phase ≡ 0
  counted phase =
      ap (λ x. ask_cost a x v.sent n phase) now ∙ ap (λ b. if b then (if (n == n) || p.granted n then 0 else vote_cost n p.ticket v.sent phase) else 7) wants
      ∙ ap (λ b. if b || p.granted n then 0 else vote_cost n p.ticket v.sent phase) (eq-eqb n n refl)

  uncounted : (phase : NodePhase) → p.granted n ≡ false → list_any (is_grant n p.ticket) w.sent ≡ true → ask_cost a (w.clients a.client).phase w.sent n phase ≡ 1
  uncounted phase apart said =
      ap (λ x. ask_cost a x w.sent n phase) asks ∙ ap (λ b. if b then (if p.granted n then 0 else vote_cost n p.ticket w.sent phase) else 7) wants
      ∙ ap (λ b. if b then 0 else vote_cost n p.ticket w.sent phase) apart ∙ ap (λ b. if b then 1 else (if promises n p.ticket phase then 2 else 7)) said

  less-here : p.granted n ≡ false → list_any (is_grant n p.ticket) w.sent ≡ true → costs_at s a v n < costs_at s a w n
  less-here apart said =
      rw (only.nodes n) (let after = counted (w.nodes n).phase in let before = uncounted (w.nodes n).phase apart said in omega (arith, after, before))

  pub nearer-vote : HasAnyNode s.ballots n → chosen n ≡ true → p.granted n ≡ false → list_any (is_grant n p.ticket) w.sent ≡ true → cost s chosen a v < cost s chosen a w
  nearer-vote known is apart said =
      vote-nearer s chosen a w v a.client n only known is (costs-le s a w v only votes-le) (less-here apart said) (omega (arith, own-asks a (v.clients a.client) (gained (Grant n p.ticket) p) now wants, own-asks a (w.clients a.client) p asks wants))

-- it hears a Grant that was sent
pub hears-grant : (s : Setting) (chosen : ℕ → Bool) (a : Want) (w : World) (n : ℕ) (p : Present) → Fine s chosen a w → chosen n ≡ true → HasAnyNode s.ballots n → (w.clients a.client).phase ≡ Asking p → asks_for a p ≡ true →
    p.granted n ≡ false → list_any (is_grant n p.ticket) w.sent ≡ true → Goes s a w (HearFrom n) × Nears s chosen a w (HearFrom n)
hears-grant s chosen a w n p fine is known asks wants apart said = (goes, nears)
  where
    grant : Message
    grant = Grant n p.ticket

    sent : Among grant w.sent
    sent = grant-sent n p.ticket w.sent said

    granted : IsGranted s.ballots w a.client (w.clients a.client).kept p
    granted = subst (IsSafeTicket s.ballots w a.client (w.clients a.client).kept) asks (fine.safe.clients a.client).ticket

    mine : is_for_client grant a.client ≡ true
    mine = eq-eqb p.ticket.client a.client granted.client

    goes : Goes s a w (HearFrom n)
    goes =
        let kept = (w.clients a.client).kept in
        let tried = (w.clients a.client).tried in
        let put = client-goes s a.client w (Hears s.ballots a.client grant) (record { kept = kept; tried = tried; phase = Asking p }) (record { kept = kept; tried = tried; phase = Asking (gained grant p) }) fine.possible.client
        (λ i. record { kept = kept; tried = tried; phase = asks i }) (counts kept tried p (n, known, (apart, refl))) in
        (put.0, record { present = p; asks = asks; sent = sent; mine = mine; heard = put.1 })

    nears : Nears s chosen a w (HearFrom n)
    nears v h =
        let same = same-present h.present p (sym h.asks ∙ asks) in
        let by : ByClient s w v a.client (Hears s.ballots a.client grant) = subst (λ (x : Present). ByClient s w v a.client (Hears s.ballots a.client (Grant n x.ticket))) same h.heard in
        let of = by.3 in
        let only = only-client s a.client w by.0 by.1 [] v of in
        let now : (v.clients a.client).phase ≡ Asking (gained grant p) =
        ap (λ (k : Client). k.phase) of.is ∙ hears-counted s a.client n p by.0 by.1 known apart (ap (λ (k : Client). k.phase) (sym of.was) ∙ asks) by.2 in (
          fine-of-client s chosen a w (event.Hear a.client 0) v a.client fine (grant, sent, mine, by) only (λ down. let z : Asking (gained grant p) ≡ ClientDown = sym now ∙ down in cc)
              (subst (IsLeft a (v.clients a.client).kept) (sym now) (inl wants)),
          nearer-vote s chosen a w v n p only wants asks now known is apart said,
        )

-- Once all chosen nodes have granted its ticket, its votes are enough.

-- a ballot of the list has no more nodes than the longest
pub shorter : (ballots : List Ballot) (i : ℕ) → length (slice_index_or ballots i no_ballot).votes ≤ node_count ballots
shorter [] i = omega arith
shorter (b ∷ ballots) zero = omega arith
shorter (b ∷ ballots) (suc i) = let rest = shorter ballots i in omega (arith, rest)

if-more : (some more : Bool) (votes : ℕ) → (some ≡ true → more ≡ true) → (if some then votes else 0) ≤ (if more then votes else 0)
if-more true more votes within = subst (λ b. votes ≤ (if b then votes else 0)) (sym (within refl)) (omega arith)
if-more false more votes within = omega arith

-- a set that has all nodes of another has no fewer votes
pub no-fewer-votes : (f : ℕ → ℕ) (some more : ℕ → Bool) (from count : ℕ) → ((n : ℕ) → from ≤ n → n < from + count → some n ≡ true → more n ≡ true) →
    sum_by (λ n. if some n then f n else 0) (range_with_len from count) ≤ sum_by (λ n. if more n then f n else 0) (range_with_len from count)
no-fewer-votes f some more from zero within = omega arith
no-fewer-votes f some more from (suc count) within =
    rw (sum_by-cons (λ n. if some n then f n else 0) from (range_with_len (from + 1) count), sum_by-cons (λ n. if more n then f n else 0) from (range_with_len (from + 1) count))
    (let here = if-more (some from) (more from) (f from) (within from (omega arith) (omega arith)) in
    let rest = no-fewer-votes f some more (from + 1) count (λ n above below. within n (omega (arith, above)) (omega (arith, below))) in
    omega (arith, here, rest))

has-enough : (s : Setting) (chosen : ℕ → Bool) (a : Want) (w : World) (p : Present) → Fine s chosen a w → asks_for a p ≡ true → ((n : ℕ) → HasAnyNode s.ballots n → chosen n ≡ true → p.granted n ≡ true) →
    IsEnough (ballot_at s.ballots p.place) p.ticket.mode p.granted
has-enough s chosen a w p fine wants all =
    let is = as-wanted a p wants in
    subst (λ place. IsEnough (ballot_at s.ballots place) p.ticket.mode p.granted) (sym is.place) (subst (λ mode. IsEnough ballot mode p.granted) (sym is.mode) (omega (arith, fine.enough, more)))
  where
    ballot : Ballot
    ballot = ballot_at s.ballots a.place

    more : votes_of ballot chosen ≤ votes_of ballot p.granted
    more = no-fewer-votes (votes_at ballot) chosen p.granted 1 (length ballot.votes) (λ n above below. all n (above, omega (arith, below, shorter s.ballots (a.place - 1))))

-- who asks for what is wanted is inside as is wanted once it has entered
enters-as : (a : Want) (p : Present) → asks_for a p ≡ true → is_inside_as a p ≡ true
enters-as a p = go p.softened
  where
    go : (softened : Bool) → (not softened && is_wanted a p.ticket p.place) ≡ true → (same_mode (if softened then Read else p.ticket.mode) a.mode && (bytes_eq p.ticket.resource a.resource && (p.place == a.place))) ≡ true
    go true h = absurd (let z : false ≡ true = h in cc)
    go false h = h

pub enters-nearer : (s : Setting) (a : Want) (p : Present) (before after : Client) → Enters s.ballots before after → before.phase ≡ Asking p → asks_for a p ≡ true → IsNearerOwn a before after
enters-nearer s a p before after (enters kept tried q enough) asks wants =
    let wanted : asks_for a q ≡ true = ap (asks_for a) (same-present q p asks) ∙ wants in
    let inside = enters-as a q wanted in
    record {
      up = λ e. let z : IsIn q ≡ ClientDown = e in cc;
      left = inl inside;
      votes = λ sent n phase. rw (inside) (omega arith);
      less = rw (inside, wanted) (omega arith);
    }

-- it enters once all chosen nodes have granted its ticket
pub enters-own : (s : Setting) (chosen : ℕ → Bool) (a : Want) (w : World) (p : Present) → Fine s chosen a w → (w.clients a.client).phase ≡ Asking p → asks_for a p ≡ true →
    ((n : ℕ) → HasAnyNode s.ballots n → chosen n ≡ true → p.granted n ≡ true) → Goes s a w (Alone (event.Enter a.client)) × Nears s chosen a w (Alone (event.Enter a.client))
enters-own s chosen a w p fine asks wants all = (goes, nears)
  where
    goes : Goes s a w (Alone (event.Enter a.client))
    goes =
        let kept = (w.clients a.client).kept in
        let tried = (w.clients a.client).tried in
        client-goes s a.client w (Enters s.ballots) (record { kept = kept; tried = tried; phase = Asking p }) (record { kept = kept; tried = tried; phase = IsIn p }) fine.possible.client
        (λ i. record { kept = kept; tried = tried; phase = asks i }) (enters kept tried p (has-enough s chosen a w p fine wants all))

    nears : Nears s chosen a w (Alone (event.Enter a.client))
    nears v h =
        let of = h.3 in
        nearer-own s chosen a w (event.Enter a.client) v h.0 h.1 fine h of (enters-nearer s a p h.0 h.1 h.2 (ap (λ (k : Client). k.phase) (sym of.was) ∙ asks) wants)
