-- What a client says keeps the world safe: a request is of its present ticket, a release of an attempt
-- that is over, a softening of one that it has softened.
use Rattle.std.proofs.Common.{◌≡◌, ◌≢◌, ℕ, ◌<◌, ◌≤◌, ◌⊎◌, true, false, List, [], ◌∷◌, refl, sym, ◌∙◌, subst, inl, inr}
use Rattle.std.proofs.lemmas.Bool.{cases_eq}
use Rattle.lock_messages.specs.declared.tickets.Ticket.{Ticket}
use Rattle.lock_messages.specs.declared.messages.Message.{Message}
use Rattle.lock_messages.specs.declared.messages.Message.TheVariants.{Request, Release, Grant, Muddled, Soften}
use Rattle.lock_model.specs.Decisions.{Among}
use Rattle.world_model.specs.Worlds.{Client, World, Setting, OfClient, Tells, asks, asks_inside, tells_softened, releases}
use Rattle.world_model.specs.Invariants.{IsPresentIn, IsPresent, IsUnsoftenedIn, IsUnsoftened, IsSafeClient, IsSafeNode, IsSafe}
use Rattle.world_model.proofs.Carried.{self-le, Carries, node-still, client-still, all-safe}

-- a message that a client may say: no Grant and no Muddled, a request of a present ticket only, a
-- release of an attempt that is over only, a softening of one that is kept and softened only
record MaySay (w : World) (m : Message) : Type 0 where
  request : (n : ℕ) (t : Ticket) → m ≡ Request n t → IsPresent w t.client t
  release : (n c a : ℕ) → m ≡ Release n c a → (a ≤ (w.clients c).kept) × ((t : Ticket) → IsPresent w c t → a < t.attempt)
  soften : (n c a : ℕ) → m ≡ Soften n c a → (a ≤ (w.clients c).kept) × ¬ (IsUnsoftened w c a)
  grant : (n : ℕ) (t : Ticket) → m ≢ Grant n t
  muddled : (n c a : ℕ) → m ≢ Muddled n c a

one-keeps : (s : Setting) (c : ℕ) (w : World) (before : Client) (m : Message) (v : World) → IsSafe s w → OfClient s c w before before (m ∷ []) v → MaySay w m → IsSafe s v
one-keeps s c w before m v safe of may = all-safe s w v safe carries nodes clients
  where
    same-at : (d : ℕ) → (d ≡ c) ⊎ (d ≢ c) → v.clients d ≡ w.clients d
    same-at d (inl e) = subst (λ x. v.clients x ≡ w.clients x) (sym e) (of.is ∙ sym of.was)
    same-at d (inr apart) = of.others d apart

    same : (d : ℕ) → v.clients d ≡ w.clients d
    same d = same-at d (cases_eq d c)

    new : (x : Message) → Among x v.sent → Among x w.sent ⊎ (m ≡ x)
    new x h = go ((of.sends x).0 h)
      where
        go : Among x w.sent ⊎ Among x (m ∷ []) → Among x w.sent ⊎ (m ≡ x)
        go (inl k) = inl k
        go (inr (inl e)) = inr (sym e)
        go (inr (inr k)) = absurd k

    old : (x : Message) → m ≢ x → Among x v.sent → Among x w.sent
    old x apart h = go (new x h)
      where
        go : Among x w.sent ⊎ (m ≡ x) → Among x w.sent
        go (inl k) = k
        go (inr e) = absurd (apart e)

    present : (d : ℕ) (t : Ticket) → IsPresent v d t → IsPresent w d t
    present d t p = subst (λ (k : Client). IsPresentIn t k.phase) (same d) p

    requested : (n : ℕ) (t : Ticket) → Among (Request n t) w.sent ⊎ (m ≡ Request n t) → Among (Request n t) w.sent ⊎ IsPresent w t.client t
    requested n t (inl h) = inl h
    requested n t (inr e) = inr (may.request n t e)

    released : (n d a : ℕ) → Among (Release n d a) w.sent ⊎ (m ≡ Release n d a) → Among (Release n d a) w.sent ⊎ ((a ≤ (v.clients d).kept) × ((t : Ticket) → IsPresent v d t → a < t.attempt))
    released n d a (inl h) = inl h
    released n d a (inr e) =
        let r = may.release n d a e in
        inr (subst (λ (k : Client). a ≤ k.kept) (sym (same d)) r.0, λ t p. r.1 t (present d t p))

    unsoftened : (d a : ℕ) → IsUnsoftened v d a → IsUnsoftened w d a
    unsoftened d a un = subst (λ (k : Client). IsUnsoftenedIn a k.phase) (same d) un

    softening : (n d a : ℕ) → Among (Soften n d a) w.sent ⊎ (m ≡ Soften n d a) → Among (Soften n d a) w.sent ⊎ ((a ≤ (v.clients d).kept) × ¬ (IsUnsoftened v d a))
    softening n d a (inl h) = inl h
    softening n d a (inr e) =
        let r = may.soften n d a e in
        inr (subst (λ (k : Client). a ≤ k.kept) (sym (same d)) r.0, λ un. r.1 (unsoftened d a un))

    carries : Carries w v
    carries = record {
      kept = λ d. subst (λ (k : Client). (w.clients d).kept ≤ k.kept) (sym (same d)) (self-le (w.clients d).kept);
      present = λ d t p. inl (present d t p);
      unsoftened = λ d a un. inl (unsoftened d a un);
      requested = λ n t h. requested n t (new (Request n t) h);
      released = λ n d a h. released n d a (new (Release n d a) h);
      softening = λ n d a h. softening n d a (new (Soften n d a) h);
      muddled = λ n d a h. old (Muddled n d a) (may.muddled n d a) h;
      grows = λ x h. (of.sends x).1 (inl h);
    }

    nodes : (n : ℕ) → IsSafeNode v n (v.nodes n)
    nodes n = subst (IsSafeNode v n) (sym (of.nodes n)) (node-still w v carries n (λ t h. old (Grant n t) (may.grant n t) h) (w.nodes n) (safe.nodes n))

    clients : (d : ℕ) → IsSafeClient s.ballots v d (v.clients d)
    clients d = subst (IsSafeClient s.ballots v d) (sym (same d)) (client-still s.ballots w v carries d (w.clients d) (safe.clients d))

-- a request of the present ticket, which is the client's own
request-may : (w : World) (n : ℕ) (t : Ticket) → IsPresent w t.client t → MaySay w (Request n t)
request-may w n t present = record {
  request = λ k u e. (let q : Request n t ≡ Request k u = e in let same : t ≡ u = cc in subst (λ (x : Ticket). IsPresent w x.client x) same present);
  release = λ k c a e. absurd (let q : Request n t ≡ Release k c a = e in cc);
  soften = λ k c a e. absurd (let q : Request n t ≡ Soften k c a = e in cc);
  grant = λ k u e. (let q : Request n t ≡ Grant k u = e in cc);
  muddled = λ k c a e. (let q : Request n t ≡ Muddled k c a = e in cc);
}

-- a release of the kept attempt, while nothing is asked
release-may : (w : World) (n c a : ℕ) → a ≤ (w.clients c).kept → ((t : Ticket) → IsPresent w c t → ⊥) → MaySay w (Release n c a)
release-may w n c a below absent = record {
  request = λ k u e. absurd (let q : Release n c a ≡ Request k u = e in cc);
  release = λ k d b e.
      (let q : Release n c a ≡ Release k d b = e in
      let client : c ≡ d = cc in
      let attempt : a ≡ b = cc in
      (subst (λ x. b ≤ (w.clients x).kept) client (subst (λ x. x ≤ (w.clients c).kept) attempt below), λ t p. absurd (absent t (subst (λ x. IsPresent w x t) (sym client) p))));
  soften = λ k d b e. absurd (let q : Release n c a ≡ Soften k d b = e in cc);
  grant = λ k u e. (let q : Release n c a ≡ Grant k u = e in cc);
  muddled = λ k d b e. (let q : Release n c a ≡ Muddled k d b = e in cc);
}

-- a softening of an attempt that is kept and softened
soften-may : (w : World) (n c a : ℕ) → a ≤ (w.clients c).kept → ¬ (IsUnsoftened w c a) → MaySay w (Soften n c a)
soften-may w n c a below done = record {
  request = λ k u e. absurd (let q : Soften n c a ≡ Request k u = e in cc);
  release = λ k d b e. absurd (let q : Soften n c a ≡ Release k d b = e in cc);
  soften = λ k d b e.
      (let q : Soften n c a ≡ Soften k d b = e in
      let client : c ≡ d = cc in
      let attempt : a ≡ b = cc in
      subst (λ x. (b ≤ (w.clients x).kept) × ¬ (IsUnsoftened w x b)) client (subst (λ x. (x ≤ (w.clients c).kept) × ¬ (IsUnsoftened w c x)) attempt (below, done)));
  grant = λ k u e. (let q : Soften n c a ≡ Grant k u = e in cc);
  muddled = λ k d b e. (let q : Soften n c a ≡ Muddled k d b = e in cc);
}

pub tells-keeps : (s : Setting) (c n : ℕ) (w : World) (before : Client) (said : List Message) (v : World) → IsSafe s w → Tells c n before said → OfClient s c w before before said v → IsSafe s v
tells-keeps s c n w before said v safe (asks kept tried p) of =
    one-keeps s c w before (Request n p.ticket) v safe of (request-may w n p.ticket (subst (λ d. IsPresent w d p.ticket) (sym own.ticket.client) (subst (λ (k : Client). IsPresentIn p.ticket k.phase) (sym of.was) refl)))
  where
    own : IsSafeClient s.ballots w c before
    own = subst (IsSafeClient s.ballots w c) of.was (safe.clients c)
tells-keeps s c n w before said v safe (asks_inside kept tried p whole) of =
    one-keeps s c w before (Request n p.ticket) v safe of (request-may w n p.ticket (subst (λ d. IsPresent w d p.ticket) (sym own.ticket.0.client) (subst (λ (k : Client). IsPresentIn p.ticket k.phase) (sym of.was) refl)))
  where
    own : IsSafeClient s.ballots w c before
    own = subst (IsSafeClient s.ballots w c) of.was (safe.clients c)
tells-keeps s c n w before said v safe (tells_softened kept tried p softened) of =
    one-keeps s c w before (Soften n c p.ticket.attempt) v safe of
    (soften-may w n c p.ticket.attempt (subst (λ (k : Client). p.ticket.attempt ≤ k.kept) (sym of.was) (subst (λ a. p.ticket.attempt ≤ a) own.ticket.0.attempt_is (self-le p.ticket.attempt))) done)
  where
    own : IsSafeClient s.ballots w c before
    own = subst (IsSafeClient s.ballots w c) of.was (safe.clients c)

    done : IsUnsoftened w c p.ticket.attempt → ⊥
    done un =
        let whole : p.softened ≡ false = (subst (λ (k : Client). IsUnsoftenedIn p.ticket.attempt k.phase) of.was un).1 in
        let q : true ≡ false = sym softened ∙ whole in cc
tells-keeps s c n w before said v safe (releases kept tried some) of =
    one-keeps s c w before (Release n c kept) v safe of
    (release-may w n c kept (subst (λ (k : Client). kept ≤ k.kept) (sym of.was) (self-le kept)) (λ t p. subst (λ (k : Client). IsPresentIn t k.phase) of.was p))
