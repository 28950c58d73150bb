-- A decision of a node keeps its station safe, and its replies are good.
use Rattle.std.proofs.Common.{◌≡◌, ◌≢◌, ℕ, ◌+◌, ◌-◌, ◌<◌, ◌≤◌, ◌⊎◌, true, List, refl, sym, ◌∙◌, ap, subst, inl, inr, arith}
use Rattle.std.proofs.lemmas.Bool.{cases_eq, eqb-true}
use Rattle.lock_messages.specs.declared.tickets.Ticket.{Ticket}
use Rattle.lock_messages.specs.declared.messages.Message.{Message}
use Rattle.lock_messages.specs.declared.messages.Message.TheVariants.{Request, Release, Grant, Busy, Over, Done, Muddled, Soften}
use Rattle.lock_messages.specs.declared.messages.Message.TheVariants as message
use Rattle.lock_messages.specs.Messages.{is_for_node}
use Rattle.lock_model.specs.declared.problems.Problem.{Problem}
use Rattle.lock_model.specs.declared.entries.Status.{Status}
use Rattle.lock_model.specs.declared.entries.Status.TheVariants.{Waiting, Holding, Softened}
use Rattle.lock_model.specs.Stations.{Standing, Station, IsLawful, IsCaused, Puts, Ends, Softens, Settles, asked_mode, under}
use Rattle.lock_model.specs.Decisions.{Among, IsOnly, TellsGrant, AreReplies, IsNew, taken_up, IsAsked, over, muddled, held, waited, softened, granted, queued, IsReleased, IsSoftened, IsSwitched, Decides}
use Rattle.world_model.specs.Worlds.{World}
use Rattle.world_model.specs.Invariants.{IsPresent, IsUnsoftened, WasAsked, Honors, IsSafeStation, IsGoodReply, AreGoodReplies}
use Rattle.world_model.proofs.StandingSteps.{GoesOn, goes-nowhere, goes-further, ended-goes-on, softened-goes-on, settled-goes-on, cleared, new-cleared, settled-cleared, new-some, AsksOnce, taken-goes-on}
use Rattle.world_model.proofs.StationSteps.{TakesUp, holding-lawful, holding-caused, waiting-lawful, waiting-caused}

-- every client stands where it stood, or went on from there
abbrev pub StationGoesOn : World → Station → Station → Type 0
StationGoesOn w s u = (c : ℕ) → GoesOn w c (s.at c) (u.at c)

ends-go-on : (w : World) (s : Station) (c a : ℕ) (u : Station) → Ends s c a u → a ≤ (w.clients c).kept → ((t : Ticket) → IsPresent w c t → a < t.attempt) → StationGoesOn w s u
ends-go-on w s c a u ends kept present d = go (cases_eq d c)
  where
    go : (d ≡ c) ⊎ (d ≢ c) → GoesOn w d (s.at d) (u.at d)
    go (inl e) =
        subst (λ k. GoesOn w k (s.at k) (u.at k)) (sym e)
        (subst (GoesOn w c (s.at c)) (sym ends.2.here) (ended-goes-on w c a (s.at c) ends.0 ends.1 kept present))
    go (inr apart) = subst (GoesOn w d (s.at d)) (sym (ends.2.others d apart)) (goes-nowhere w d (s.at d))

softens-go-on : (w : World) (s : Station) (c a : ℕ) (u : Station) → Softens s c a u → ¬ (IsUnsoftened w c a) → StationGoesOn w s u
softens-go-on w s c a u softens done d = go (cases_eq d c)
  where
    go : (d ≡ c) ⊎ (d ≢ c) → GoesOn w d (s.at d) (u.at d)
    go (inl e) =
        subst (λ k. GoesOn w k (s.at k) (u.at k)) (sym e)
        (subst (GoesOn w c (s.at c)) (sym softens.2.here) (softened-goes-on w c a (s.at c) softens.0 softens.1 done))
    go (inr apart) = subst (GoesOn w d (s.at d)) (sym (softens.2.others d apart)) (goes-nowhere w d (s.at d))

settles-go-on : (w : World) (s u : Station) → Settles s u → StationGoesOn w s u
settles-go-on w s u settles c = settled-goes-on w c (s.at c) (u.at c) (settles.floors c) (settles.claims c)

takes-go-on : (w : World) (s u : Station) (t : Ticket) (status : Status) → status ≢ Softened → AsksOnce w → WasAsked w t → 1 ≤ t.attempt → s.at t.client ≡ cleared t → Puts s t.client (taken_up t status) u → StationGoesOn w s u
takes-go-on w s u t status fresh once asked some is puts d = go (cases_eq d t.client)
  where
    go : (d ≡ t.client) ⊎ (d ≢ t.client) → GoesOn w d (s.at d) (u.at d)
    go (inl e) =
        subst (λ k. GoesOn w k (s.at k) (u.at k)) (sym e)
        (subst (λ before. GoesOn w t.client before (u.at t.client)) (sym is) (subst (GoesOn w t.client (cleared t)) (sym puts.here) (taken-goes-on w t status fresh once asked some)))
    go (inr apart) = subst (GoesOn w d (s.at d)) (sym (puts.others d apart)) (goes-nowhere w d (s.at d))

go-further : (w : World) (s u v : Station) → StationGoesOn w s u → StationGoesOn w u v → StationGoesOn w s v
go-further w s u v p q c = goes-further w c (s.at c) (u.at c) (v.at c) (p c) (q c)

-- a station that went on from a safe one, and is lawful and caused, is safe
went-on-safe : (w : World) (n : ℕ) (s u : Station) → StationGoesOn w s u → IsLawful u → IsCaused u → IsSafeStation w n s → IsSafeStation w n u
went-on-safe w n s u goes lawful caused safe = record {
  lawful = lawful;
  caused = caused;
  honors = λ t sent. (goes t.client).honors t.attempt t.mode t.resource (safe.honors t sent);
  owes = λ c. (goes c).owes (safe.owes c);
}

-- a reply that is good at a station is good at one that went on from it
good-later : (w : World) (n : ℕ) (s u : Station) → StationGoesOn w s u → (r : Message) → IsGoodReply n s r → IsGoodReply n u r
good-later w n s u goes (Request k t) h = h
good-later w n s u goes (Release k c a) h = h
good-later w n s u goes (Grant k t) h = (h.0, (goes t.client).honors t.attempt t.mode t.resource h.1)
good-later w n s u goes (Busy k t) h = h
good-later w n s u goes (Over k c a) h = h
good-later w n s u goes (Done k c a) h = h
good-later w n s u goes (Muddled k c a) h = h
good-later w n s u goes (Soften k c a) h = h
good-later w n s u goes (message.Softened k c a) h = h

-- the Grants that settling brings
told-good : (n : ℕ) (s u : Station) (r : Message) → TellsGrant n s u r → IsGoodReply n u r
told-good n s u r told = subst (IsGoodReply n u) (sym told.4) (refl, inr (refl, (told.1, Holding, tt, told.3.1, refl)))

-- the station after a decision, and what is said then
pub record DecidedSafely (w : World) (n : ℕ) (after : Station) (replies : List Message) : Type 0 where
  pub station : IsSafeStation w n after
  pub good : AreGoodReplies n after replies

-- one reply, at the same station
stays-safely : (w : World) (n : ℕ) (s after : Station) (first : Message) (replies : List Message) → IsSafeStation w n s → after ≡ s → IsOnly first replies → IsGoodReply n s first → DecidedSafely w n after replies
stays-safely w n s after first replies safe same only good = subst (λ u. DecidedSafely w n u replies) (sym same) (record {
  station = safe;
  good = λ r m. subst (IsGoodReply n s) (sym ((only r).0 m)) good;
})

-- a new ticket: what came before it ended, the others settled, and it was taken up
record TakenUp (w : World) (n : ℕ) (s : Station) (t : Ticket) (status : Status) (after : Station) (first : Message) (replies : List Message) : Type 0 where
  new : IsNew (s.at t.client) t.attempt
  ended : Station
  settled : Station
  ends : Ends s t.client (t.attempt - 1) ended
  settles : Settles ended settled
  puts : Puts settled t.client (taken_up t status) after
  replies_are : AreReplies n first ended settled replies

module _ (w : World) (n : ℕ) (s : Station) (t : Ticket) (once : AsksOnce w) (asked : WasAsked w t) (safe : IsSafeStation w n s) (status : Status) (fresh : status ≢ Softened) (after : Station) (first : Message) (replies : List Message) (up : TakenUp w n s t status after first replies) where
  some : 1 ≤ t.attempt
  some = new-some (s.at t.client) t.attempt up.new

  is-cleared : up.settled.at t.client ≡ cleared t
  is-cleared =
      settled-cleared t (up.ended.at t.client) (up.settled.at t.client)
      (up.ends.2.here ∙ new-cleared t (s.at t.client) up.ends.0 up.new up.ends.1)
      (up.settles.floors t.client) (up.settles.claims t.client)

  takes-up : TakesUp up.settled after t status
  takes-up = record { free = ap (λ (x : Standing). x.claim) is-cleared; puts = up.puts }

  to-after : StationGoesOn w up.settled after
  to-after = takes-go-on w up.settled after t status fresh once asked some is-cleared up.puts

  from-start : StationGoesOn w s after
  from-start =
      go-further w s up.ended after
      (ends-go-on w s t.client (t.attempt - 1) up.ended up.ends (omega (arith, once.asked t asked)) (λ u p. omega (arith, once.latest t u asked p, some)))
      (go-further w up.ended up.settled after (settles-go-on w up.ended up.settled up.settles) to-after)

  taken-safely : IsLawful after → IsCaused after → IsGoodReply n after first → DecidedSafely w n after replies
  taken-safely lawful caused good = record { station = went-on-safe w n s after from-start lawful caused safe; good = λ r m. reply r ((up.replies_are r).0 m) }
    where
      reply : (r : Message) → (r ≡ first) ⊎ TellsGrant n up.ended up.settled r → IsGoodReply n after r
      reply r (inl e) = subst (IsGoodReply n after) (sym e) good
      reply r (inr told) = good-later w n up.settled after to-after r (told-good n up.ended up.settled r told)

-- a node is asked
asked-safely : (w : World) (n : ℕ) (s : Station) (t : Ticket) (after : Station) (replies : List Message) → AsksOnce w → WasAsked w t → IsSafeStation w n s → IsAsked n s t after replies → DecidedSafely w n after replies
asked-safely w n s t after replies once asked safe (over below same only) = stays-safely w n s after (Over n t.client t.attempt) replies safe same only tt
asked-safely w n s t after replies once asked safe (muddled m x status attempt claim differs same only) = go differs
  where
    agrees : (asked_mode m status ≡ t.mode) × (x ≡ t.resource)
    agrees = (safe.owes t.client).agrees t m x status claim asked refl attempt

    go : (asked_mode m status ≢ t.mode) ⊎ (x ≢ t.resource) → DecidedSafely w n after replies
    go (inl apart) = absurd (apart agrees.0)
    go (inr apart) = absurd (apart agrees.1)
asked-safely w n s t after replies once asked safe (held attempt claim same only) = stays-safely w n s after (Grant n t) replies safe same only (refl, inr (attempt, (t.mode, Holding, tt, claim, refl)))
asked-safely w n s t after replies once asked safe (waited attempt claim same only) = stays-safely w n s after (Busy n t) replies safe same only tt
asked-safely w n s t after replies once asked safe (softened attempt mode claim same only) = stays-safely w n s after (message.Softened n t.client t.attempt) replies safe same only tt
asked-safely w n s t after replies once asked safe (granted new ended settled ends settles free puts are) =
    let up : TakenUp w n s t Holding after (Grant n t) replies = record { new = new; ended = ended; settled = settled; ends = ends; settles = settles; puts = puts; replies_are = are } in
    let takes = takes-up w n s t once asked safe Holding (λ e. cc) after (Grant n t) replies up in
    let one : 1 ≤ t.attempt = new-some (s.at t.client) t.attempt new in
    let attempt : t.attempt ≡ (t.attempt - 1) + 1 = omega (arith, one) in
    let here : after.at t.client ≡ taken_up t Holding = puts.here in
    taken-safely w n s t once asked safe Holding (λ e. cc) after (Grant n t) replies up (holding-lawful settled after t takes free settles.lawful) (holding-caused settled after t takes settles.caused)
    (refl, subst (λ standing. Honors standing t.attempt t.mode t.resource) (sym here) (inr (attempt, (t.mode, Holding, tt, refl, refl))))
asked-safely w n s t after replies once asked safe (queued new ended settled ends settles why puts are) =
    let up : TakenUp w n s t Waiting after (Busy n t) replies = record { new = new; ended = ended; settled = settled; ends = ends; settles = settles; puts = puts; replies_are = are } in
    let takes = takes-up w n s t once asked safe Waiting (λ e. cc) after (Busy n t) replies up in
    taken-safely w n s t once asked safe Waiting (λ e. cc) after (Busy n t) replies up (waiting-lawful settled after t takes settles.lawful) (waiting-caused settled after t takes why settles.caused) tt

-- a node is told that attempts are over
released-safely : (w : World) (n : ℕ) (s : Station) (c a : ℕ) (after : Station) (replies : List Message) → a ≤ (w.clients c).kept → ((t : Ticket) → IsPresent w c t → a < t.attempt) → IsSafeStation w n s →
    IsReleased n s c a after replies → DecidedSafely w n after replies
released-safely w n s c a after replies kept present safe told = record {
  station = went-on-safe w n s after (go-further w s told.ended after (ends-go-on w s c a told.ended told.ends kept present) (settles-go-on w told.ended after told.settles)) told.settles.lawful told.settles.caused safe;
  good = λ r m. reply r ((told.replies_are r).0 m);
}
  where
    reply : (r : Message) → (r ≡ Done n c a) ⊎ TellsGrant n told.ended after r → IsGoodReply n after r
    reply r (inl e) = subst (IsGoodReply n after) (sym e) tt
    reply r (inr grant) = told-good n told.ended after r grant

-- a node is told that an attempt is softened
softened-safely : (w : World) (n : ℕ) (s : Station) (c a : ℕ) (after : Station) (replies : List Message) → ¬ (IsUnsoftened w c a) → IsSafeStation w n s → IsSoftened n s c a after replies → DecidedSafely w n after replies
softened-safely w n s c a after replies done safe told = record {
  station = went-on-safe w n s after (go-further w s told.changed after (softens-go-on w s c a told.changed told.softens done) (settles-go-on w told.changed after told.settles)) told.settles.lawful told.settles.caused safe;
  good = λ r m. reply r ((told.replies_are r).0 m);
}
  where
    reply : (r : Message) → (r ≡ message.Softened n c a) ⊎ TellsGrant n told.changed after r → IsGoodReply n after r
    reply r (inl e) = subst (IsGoodReply n after) (sym e) tt
    reply r (inr grant) = told-good n told.changed after r grant

-- a node takes a problem: each client stands where it stood, and then all settle
pub switched-safely : (w : World) (n : ℕ) (s : Station) (p : Problem) (after : Station) (replies : List Message) → IsSafeStation w n s → IsSwitched n s p after replies → DecidedSafely w n after replies
switched-safely w n s p after replies safe h = record {
  station = went-on-safe w n s after (settles-go-on w (under p s) after h.settles) h.settles.lawful h.settles.caused safe;
  good = λ r m. told-good n (under p s) after r ((h.replies_are r).0 m);
}

-- a decision on a message that was sent to the node
pub decided-safely : (w : World) (n : ℕ) (s : Station) (m : Message) (after : Station) (replies : List Message) → AsksOnce w → ((k c a : ℕ) → Among (Release k c a) w.sent → a ≤ (w.clients c).kept) →
    ((k c a : ℕ) (t : Ticket) → Among (Release k c a) w.sent → IsPresent w c t → a < t.attempt) → ((k c a : ℕ) → Among (Soften k c a) w.sent → ¬ (IsUnsoftened w c a)) → IsSafeStation w n s → Among m w.sent → is_for_node m n ≡ true → Decides s m after replies → DecidedSafely w n after replies
decided-safely w n s (Request k t) after replies once kept past done safe sent mine h =
    let same : k ≡ n = eqb-true k n mine in
    asked-safely w n s t after replies once (inl (k, sent)) safe (subst (λ j. IsAsked j s t after replies) same h)
decided-safely w n s (Release k c a) after replies once kept past done safe sent mine h =
    let same : k ≡ n = eqb-true k n mine in
    released-safely w n s c a after replies (kept k c a sent) (λ t. past k c a t sent) safe (subst (λ j. IsReleased j s c a after replies) same h)
decided-safely w n s (Grant k t) after replies once kept past done safe sent mine h = absurd h
decided-safely w n s (Busy k t) after replies once kept past done safe sent mine h = absurd h
decided-safely w n s (Over k c a) after replies once kept past done safe sent mine h = absurd h
decided-safely w n s (Done k c a) after replies once kept past done safe sent mine h = absurd h
decided-safely w n s (Muddled k c a) after replies once kept past done safe sent mine h = absurd h
decided-safely w n s (Soften k c a) after replies once kept past done safe sent mine h =
    let same : k ≡ n = eqb-true k n mine in
    softened-safely w n s c a after replies (done k c a sent) safe (subst (λ j. IsSoftened j s c a after replies) same h)
decided-safely w n s (message.Softened k c a) after replies once kept past done safe sent mine h = absurd h
