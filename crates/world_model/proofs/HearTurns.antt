-- What a client's turn in hearing is told to be: a vote that counts joins the set, nothing else changes.
use Rattle.std.proofs.Common.{◌≡◌, ◌≢◌, ℕ, Bool, true, false, cond, List, Err, refl, sym, ◌∙◌, ap, subst, inl, inr}
use Rattle.lock_messages.specs.declared.tickets.Ticket.{Ticket}
use Rattle.lock_messages.specs.declared.messages.Message.{Message}
use Rattle.lock_messages.specs.declared.messages.Message.TheVariants as message
use Rattle.lock_messages.specs.Messages.{is_for_client, named_node}
use Rattle.lock_model.specs.declared.hearing.Heard.{Heard}
use Rattle.lock_model.specs.declared.hearing.Heard.TheVariants as heard
use Rattle.lock_model.specs.Ballots.{Ballot, node_count}
use Rattle.lock_model.specs.Hearing.{HearsOfTicket, HearsSoftened}
use Rattle.lock_model.specs.ExactHearing.{heard_of_ticket, heard_softened, heard_at_rest, is_counted}
use Rattle.lock_model.specs.Laws.{HearingOfTicketIsExact, HearingSoftenedIsExact, HearingAtRestIsExact}
use Rattle.vote_weights.specs.Sets.{has_node}
use Rattle.vote_weights.specs.SetLaws.{has_node-with_node}
use Rattle.world_model.specs.declared.events.Effect.TheVariants as effect
use Rattle.world_model.specs.declared.events.Event.TheVariants as event
use Rattle.world_model.specs.declared.events.StepFault.TheVariants as fault
use Rattle.world_model.specs.declared.exact.ExactClient.{ExactClient}
use Rattle.world_model.specs.declared.exact.ExactPresent.{ExactPresent}
use Rattle.world_model.specs.declared.exact.ExactClientPhase.{ExactClientPhase}
use Rattle.world_model.specs.declared.exact.ExactClientPhase.TheVariants as exact
use Rattle.world_model.specs.Worlds.{Present, Client, Asking, IsIn, Setting, gained, Hears, counts, counts_inside, passes, passes_inside, passes_softened, passes_idle, passes_chosen}
use Rattle.world_model.specs.Turns.{reads}
use Rattle.world_model.specs.ExactClients.{client_in, heard_in, heard_inside, with_vote, counts_in, after_hearing, is_down, hears}
use Rattle.world_model.specs.Forgetting.{present_of, client_of, IsSoundChoice, IsSoundClient}
use Rattle.world_model.proofs.Told.{told-if}
use Rattle.world_model.proofs.ClientTurns.{clients, ClientTold}

grant-joins : (m : Message) (n : ℕ) (t : Ticket) (p : ExactPresent) → m ≡ message.Grant n t → present_of (with_vote (named_node m) p) ≡ gained m (present_of p)
grant-joins m n t p e =
    subst (λ x. present_of (with_vote (named_node x) p) ≡ gained x (present_of p)) (sym e)
    (λ i. record { ticket = p.ticket; place = p.place; granted = λ k. has_node-with_node p.granted n k i; softened = p.softened })

-- the laws of hearing, as they are used here
pub record HearingLaws : Type 1 where
  pub of_ticket : HearingOfTicketIsExact
  pub softened : HearingSoftenedIsExact
  pub at_rest : HearingAtRestIsExact

-- with a ticket, asking or inside: into is the phase with what the client has of its attempt
with-ticket : HearingLaws → (b : List Ballot) (c : ℕ) (m : Message) (k : ExactClient) (into : ExactPresent → ExactClientPhase) (seen : Present → Client) → ((q : ExactPresent) → client_of (client_in k (into q)) ≡ seen (present_of q)) →
    (p : ExactPresent) →
    (HearsOfTicket (node_count b) p.ticket (has_node p.granted) m heard.Counted → Hears b c m (seen (present_of p)) (seen (gained m (present_of p)))) →
    ((h : Heard) → HearsOfTicket (node_count b) p.ticket (has_node p.granted) m h → h ≢ heard.Counted → Hears b c m (seen (present_of p)) (seen (present_of p))) →
    Hears b c m (client_of (client_in k (into p)))
    (client_of (cond (is_counted (heard_of_ticket (node_count b) p.ticket (has_node p.granted) m)) (client_in k (into (with_vote (named_node m) p))) (client_in k (into p))))
with-ticket laws b c m k into seen are p counted passed = go (heard_of_ticket (node_count b) p.ticket (has_node p.granted) m) refl
  where
    before : ExactClient
    before = client_in k (into p)

    with : ExactClient
    with = client_in k (into (with_vote (named_node m) p))

    from : (x : Heard) → heard_of_ticket (node_count b) p.ticket (has_node p.granted) m ≡ x → HearsOfTicket (node_count b) p.ticket (has_node p.granted) m x
    from x e = (laws.of_ticket (node_count b) p.ticket (has_node p.granted) m x).1 (sym e)

    same : (x : Heard) → heard_of_ticket (node_count b) p.ticket (has_node p.granted) m ≡ x → x ≢ heard.Counted → Hears b c m (client_of before) (client_of before)
    same x e apart = subst (λ d. Hears b c m d d) (sym (are p)) (passed x (from x e) apart)

    go : (x : Heard) → heard_of_ticket (node_count b) p.ticket (has_node p.granted) m ≡ x → Hears b c m (client_of before) (client_of (cond (is_counted x) with before))
    go heard.Counted e =
        let h = from heard.Counted e in
        let after : seen (gained m (present_of p)) ≡ client_of with = ap seen (sym (grant-joins m h.0 p.ticket p h.2.1)) ∙ sym (are (with_vote (named_node m) p)) in
        subst (Hears b c m (client_of before)) after (subst (λ d. Hears b c m d (seen (gained m (present_of p)))) (sym (are p)) (counted h))
    go heard.Known e = same heard.Known e (λ q. let p : heard.Known ≡ heard.Counted = q in cc)
    go heard.Busy e = same heard.Busy e (λ q. let p : heard.Busy ≡ heard.Counted = q in cc)
    go heard.Done e = same heard.Done e (λ q. let p : heard.Done ≡ heard.Counted = q in cc)
    go heard.Softened e = same heard.Softened e (λ q. let p : heard.Softened ≡ heard.Counted = q in cc)
    go heard.NotMine e = same heard.NotMine e (λ q. let p : heard.NotMine ≡ heard.Counted = q in cc)

either-same : {A : Type 0} (b : Bool) (x : A) → cond b x x ≡ x
either-same true x = refl
either-same false x = refl

-- once it is softened nothing counts
softened-uncounted : (nodes c a : ℕ) (m : Message) (h : Heard) → HearsSoftened nodes c a m h → is_counted h ≡ false
softened-uncounted nodes c a m heard.Counted hears = absurd hears
softened-uncounted nodes c a m heard.Known hears = refl
softened-uncounted nodes c a m heard.Busy hears = refl
softened-uncounted nodes c a m heard.Done hears = refl
softened-uncounted nodes c a m heard.Softened hears = refl
softened-uncounted nodes c a m heard.NotMine hears = refl

-- inside, with the ticket that was asked with or with it as a reader's
inside-hears : HearingLaws → (b : List Ballot) (c : ℕ) (m : Message) (k : ExactClient) (p : ExactPresent) →
    Hears b c m (client_of (client_in k (exact.Inside p))) (client_of (cond (is_counted (heard_inside (node_count b) c p m)) (client_in k (exact.Inside (with_vote (named_node m) p))) (client_in k (exact.Inside p))))
inside-hears laws b c m k p = go p.softened refl
  where
    before : ExactClient
    before = client_in k (exact.Inside p)

    with : ExactClient
    with = client_in k (exact.Inside (with_vote (named_node m) p))

    go : (s : Bool) → p.softened ≡ s →
        Hears b c m (client_of before) (client_of (cond (is_counted (cond s (heard_softened (node_count b) c p.ticket.attempt m) (heard_of_ticket (node_count b) p.ticket (has_node p.granted) m))) with before))
    go true e =
        let x = heard_softened (node_count b) c p.ticket.attempt m in
        let hears = (laws.softened (node_count b) c p.ticket.attempt m x).1 refl in
        subst (λ counted. Hears b c m (client_of before) (client_of (cond counted with before))) (sym (softened-uncounted (node_count b) c p.ticket.attempt m x hears)) (passes_softened k.kept k.tried (present_of p) x e hears)
    go false e =
        with-ticket laws b c m k exact.Inside (λ q. record { kept = k.kept; tried = k.tried; phase = IsIn q }) (λ q. refl) p
        (counts_inside k.kept k.tried (present_of p) e) (λ h. passes_inside k.kept k.tried (present_of p) h e)

pub hears-message : HearingLaws → (b : List Ballot) (c : ℕ) (m : Message) (k : ExactClient) → is_down k.phase ≡ false → Hears b c m (client_of k) (client_of (after_hearing (node_count b) c k m))
hears-message laws b c m k up = go k.phase up
  where
    go : (p : ExactClientPhase) → is_down p ≡ false → Hears b c m (client_of (client_in k p)) (client_of (after_hearing (node_count b) c (client_in k p) m))
    go exact.Down e = absurd (let q : true ≡ false = e in cc)
    go exact.Idle e =
        let x = heard_at_rest (node_count b) c k.kept m in
        let idle = client_in k exact.Idle in
        subst (λ (d : ExactClient). Hears b c m (client_of idle) (client_of d)) (sym (either-same (is_counted x) idle)) (passes_idle k.kept k.tried x ((laws.at_rest (node_count b) c k.kept m x).1 refl))
    go (exact.Chosen t place) e = passes_chosen k.kept k.tried t place
    go (exact.Asking p) e =
        with-ticket laws b c m k exact.Asking (λ q. record { kept = k.kept; tried = k.tried; phase = Asking q }) (λ q. refl) p
        (counts k.kept k.tried (present_of p)) (passes k.kept k.tried (present_of p))
    go (exact.Inside p) e = inside-hears laws b c m k p

counts-sound : (n : ℕ) (p : ExactClientPhase) → IsSoundChoice p → IsSoundChoice (counts_in n p)
counts-sound n exact.Down h = h
counts-sound n exact.Idle h = h
counts-sound n (exact.Chosen t place) h = h
counts-sound n (exact.Asking p) h = h
counts-sound n (exact.Inside p) h = h

hears-sound : (nodes c : ℕ) (k : ExactClient) (m : Message) → IsSoundClient k → IsSoundClient (after_hearing nodes c k m)
hears-sound nodes c k m ok = go (is_counted (heard_in nodes c k.kept k.phase m))
  where
    go : (b : Bool) → IsSoundClient (cond b (client_in k (counts_in (named_node m) k.phase)) k)
    go true = record { kept = ok.kept; tried = ok.tried; chosen = counts-sound (named_node m) k.phase ok.chosen }
    go false = ok

pub hears-told : HearingLaws → (s : Setting) (c number : ℕ) (k : ExactClient) → ClientTold s (event.Hear c number) c k (hears (node_count s.ballots) c number k)
hears-told laws s c number k =
    told-if _ (clients s c) s (event.Hear c number) k (is_down k.phase) (Err fault.Down)
    (reads number (λ m. is_for_client m c) (after_hearing nodes c k) (λ m. effect.Heard m (heard_in nodes c k.kept k.phase m))) (λ _. refl) heard_it
  where
    nodes : ℕ
    nodes = node_count s.ballots

    heard_it : is_down k.phase ≡ false → ClientTold s (event.Hear c number) c k (reads number (λ m. is_for_client m c) (after_hearing nodes c k) (λ m. effect.Heard m (heard_in nodes c k.kept k.phase m)))
    heard_it up = record {
      happens = λ m mine ok w v there of. (m, there, mine, (client_of k, client_of (after_hearing nodes c k m), hears-message laws s.ballots c m k up, of));
      sound = λ m mine ok. hears-sound nodes c k m ok;
      kind = λ m mine. (m, heard_in nodes c k.kept k.phase m, mine, refl);
      numbers = λ w m. tt;
      listed = λ w m h. sym h;
      carries = λ m. refl;
      no_such = inl refl;
      not_mine = inr refl;
    }
