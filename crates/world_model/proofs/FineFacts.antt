-- What holds from the first move to the last: how one event keeps it.
use Rattle.std.proofs.Common.{◌≡◌, ◌≢◌, ℕ, ◌+◌, ◌<◌, ◌≤◌, ◌⊎◌, Bool, true, List, [], Option, sym, ◌∙◌, ap, subst, inl, inr, arith}
use Rattle.std.proofs.lemmas.Bool.{cases_eq, cases_lt}
use Rattle.lock_messages.specs.declared.ids.Actor.TheVariants as actor
use Rattle.lock_messages.specs.declared.messages.Message.{Message}
use Rattle.lock_model.specs.Stations.{Claim, Free, Has, Standing, Station, stranger}
use Rattle.world_model.specs.declared.events.Event.{Event}
use Rattle.world_model.specs.declared.events.Event.TheVariants as event
use Rattle.world_model.specs.Worlds.{NodePhase, NodeDown, NodeIdle, Decided, Stored, Node, Client, World, Setting, HasClient, OfNode, OfClient, Sends, Happens, IsWithin, EachStation}
use Rattle.world_model.specs.Invariants.{IsSafeStation, IsSafe}
use Rattle.world_model.specs.declared.ways.Want.{Want}
use Rattle.world_model.specs.Advice.{coming, coming_in}
use Rattle.world_model.specs.Ways.{IsReady, IsUp, StandsInWay}
use Rattle.world_model.proofs.SafeRuns.{happens-safe}
use Rattle.world_model.specs.ExactWays.{IsLeft}
use Rattle.world_model.proofs.Nearer.{Fine, Grows, OnlyNode, OnlyClient}
use Rattle.world_model.proofs.FewClients.{IsFew}

-- what is said is only more

pub sends-grow : (w : World) (said : List Message) (v : World) → Sends w said v → Grows w v
sends-grow w said v sends m h = (sends m).1 (inl h)

pub only-node : (s : Setting) (n : ℕ) (w : World) (before after : Node) (said : List Message) (v : World) → OfNode s n w before after said v → OnlyNode s n w v
only-node s n w before after said v of = record { known = of.known; others = of.others; clients = of.clients; grows = sends-grow w said v of.sends }

pub only-client : (s : Setting) (c : ℕ) (w : World) (before after : Client) (said : List Message) (v : World) → OfClient s c w before after said v → OnlyClient s c w v
only-client s c w before after said v of = record { known = of.known; others = of.others; nodes = of.nodes; grows = sends-grow w said v of.sends }

-- a client that stays as it is leaves all clients as they are
pub same-clients : (s : Setting) (c : ℕ) (w : World) (k : Client) (said : List Message) (v : World) → OfClient s c w k k said v → (d : ℕ) → v.clients d ≡ w.clients d
same-clients s c w k said v of d = elim (cases_eq d c) [
  | inl e ↦ subst (λ j. v.clients j ≡ w.clients j) (sym e) (of.is ∙ sym of.was)
  | inr apart ↦ of.others d apart
]

-- who is none of the setting's clients has done nothing

by-client-same : (s : Setting) (c : ℕ) (w v : World) (before after : Client) (said : List Message) → OfClient s c w before after said v → (d : ℕ) → ¬ (HasClient s d) → v.clients d ≡ w.clients d
by-client-same s c w v before after said of d nobody = of.others d (λ e. nobody (subst (HasClient s) (sym e) of.known))

pub strangers-stay : (s : Setting) (w : World) (e : Event) (v : World) → Happens s w e v → (d : ℕ) → ¬ (HasClient s d) → v.clients d ≡ w.clients d
strangers-stay s w (event.Begin c m x place) v h d nobody = by-client-same s c w v h.0 h.1 [] h.3 d nobody
strangers-stay s w (event.Try (actor.Node n)) v h d nobody = h.3.clients d
strangers-stay s w (event.Try (actor.Client c)) v h d nobody = by-client-same s c w v h.0 h.1 [] h.3 d nobody
strangers-stay s w (event.Kept (actor.Node n)) v h d nobody = h.3.clients d
strangers-stay s w (event.Kept (actor.Client c)) v h d nobody = by-client-same s c w v h.0 h.1 [] h.3 d nobody
strangers-stay s w (event.SayTo c n) v h d nobody = let says = h.1 in by-client-same s c w v says.0 says.0 says.1 says.3 d nobody
strangers-stay s w (event.Say n) v h d nobody = h.4.clients d
strangers-stay s w (event.Take n k) v h d nobody = let by = h.3 in by.3.clients d
strangers-stay s w (event.Hear c k) v h d nobody = let by = h.3 in by-client-same s c w v by.0 by.1 [] by.3 d nobody
strangers-stay s w (event.Enter c) v h d nobody = by-client-same s c w v h.0 h.1 [] h.3 d nobody
strangers-stay s w (event.Leave c) v h d nobody = by-client-same s c w v h.0 h.1 [] h.3 d nobody
strangers-stay s w (event.Soften c) v h d nobody = by-client-same s c w v h.0 h.1 [] h.3 d nobody
strangers-stay s w (event.Fall (actor.Node n)) v h d nobody = h.3.clients d
strangers-stay s w (event.Fall (actor.Client c)) v h d nobody = by-client-same s c w v h.0 h.1 [] h.3 d nobody
strangers-stay s w (event.Rise (actor.Node n) age) v h d nobody = h.3.clients d
strangers-stay s w (event.Rise (actor.Client c) age) v h d nobody = by-client-same s c w v h.0 h.1 [] h.3 d nobody
strangers-stay s w (event.Switch n p) v h d nobody = h.3.clients d

still-strangers : (s : Setting) (chosen : ℕ → Bool) (a : Want) (w : World) (e : Event) (v : World) → Fine s chosen a w → Happens s w e v → (c : ℕ) → ¬ (HasClient s c) → (v.clients c).kept ≡ 0
still-strangers s chosen a w e v fine h c nobody = ap (λ (k : Client). k.kept) (strangers-stay s w e v h c nobody) ∙ fine.strangers c nobody

-- An event of a node that stays up, and where no ticket comes to stand in the way.
pub fine-of-node : (s : Setting) (chosen : ℕ → Bool) (a : Want) (w : World) (e : Event) (v : World) (n : ℕ) → Fine s chosen a w → Happens s w e v → OnlyNode s n w v → IsUp v (actor.Node n) →
    ((d : ℕ) → StandsInWay a (coming (v.nodes n)) d → StandsInWay a (coming (w.nodes n)) d) → Fine s chosen a v
fine-of-node s chosen a w e v n fine h of up less = record {
  possible = fine.possible;
  enough = fine.enough;
  safe = happens-safe s w e v fine.safe h;
  strangers = still-strangers s chosen a w e v fine h;
  left = subst (λ (k : Client). IsLeft a k.kept k.phase) (sym (of.clients a.client)) fine.left;
  ready = λ k is. at k is (cases_eq k n);
}
  where
    still-up : (d : ℕ) → IsUp w (actor.Client d) → IsUp v (actor.Client d)
    still-up d is e = is (ap (λ (k : Client). k.phase) (sym (of.clients d)) ∙ e)

    at : (k : ℕ) → chosen k ≡ true → (k ≡ n) ⊎ (k ≢ n) → IsReady v a k
    at k is (inl q) =
        record {
          up = subst (λ j. IsUp v (actor.Node j)) (sym q) up;
          in_way = λ d stands. still-up d ((fine.ready k is).in_way d (subst (λ j. StandsInWay a (coming (w.nodes j)) d) (sym q) (less d (subst (λ j. StandsInWay a (coming (v.nodes j)) d) q stands))));
        }
    at k is (inr apart) =
        record {
          up = λ e. (fine.ready k is).up (ap (λ (x : Node). x.phase) (sym (of.others k apart)) ∙ e);
          in_way = λ d stands. still-up d ((fine.ready k is).in_way d (subst (λ (x : Node). StandsInWay a (coming x) d) (of.others k apart) stands));
        }

-- An event of a client that stays up, with an attempt left to the one that wants in.
pub fine-of-client : (s : Setting) (chosen : ℕ → Bool) (a : Want) (w : World) (e : Event) (v : World) (c : ℕ) → Fine s chosen a w → Happens s w e v → OnlyClient s c w v → IsUp v (actor.Client c) →
    IsLeft a (v.clients a.client).kept (v.clients a.client).phase → Fine s chosen a v
fine-of-client s chosen a w e v c fine h of up left = record {
  possible = fine.possible;
  enough = fine.enough;
  safe = happens-safe s w e v fine.safe h;
  strangers = still-strangers s chosen a w e v fine h;
  left = left;
  ready = λ n is. record {
    up = λ e. (fine.ready n is).up (ap (λ (x : Node). x.phase) (sym (of.nodes n)) ∙ e);
    in_way = λ d stands. still-up d (cases_eq d c) ((fine.ready n is).in_way d (subst (λ (x : Node). StandsInWay a (coming x) d) (of.nodes n) stands));
  };
}
  where
    still-up : (d : ℕ) → (d ≡ c) ⊎ (d ≢ c) → IsUp w (actor.Client d) → IsUp v (actor.Client d)
    still-up d (inl q) is = subst (λ j. IsUp v (actor.Client j)) (sym q) up
    still-up d (inr apart) is = λ e. is (ap (λ (k : Client). k.phase) (sym (of.others d apart)) ∙ e)

-- another client's event leaves the one that wants in as it was
pub left-of-others : (s : Setting) (chosen : ℕ → Bool) (a : Want) (w v : World) (c : ℕ) → Fine s chosen a w → OnlyClient s c w v → c ≢ a.client → IsLeft a (v.clients a.client).kept (v.clients a.client).phase
left-of-others s chosen a w v c fine of apart = subst (λ (k : Client). IsLeft a k.kept k.phase) (sym (of.others a.client (λ e. apart (sym e)))) fine.left

-- A node's stations know the setting's clients only.

coming-safe : (w : World) (n : ℕ) (kept : Station) (tried : Option Station) (phase : NodePhase) → EachStation (IsSafeStation w n) (record { kept = kept; tried = tried; phase = phase }) → IsSafeStation w n (coming_in kept phase)
coming-safe w n kept tried NodeDown each = each.kept
coming-safe w n kept tried NodeIdle each = each.kept
coming-safe w n kept tried (Decided s replies) each = each.decided
coming-safe w n kept tried (Stored replies) each = each.kept

-- the station that is to come is a safe one
pub safe-coming : (s : Setting) (w : World) (n : ℕ) → IsSafe s w → IsSafeStation w n (coming (w.nodes n))
safe-coming s w n safe = coming-safe w n (w.nodes n).kept (w.nodes n).tried (w.nodes n).phase (safe.nodes n).stations

-- a number is a client's of the setting, or it isn't
pub cases-client : (s : Setting) (c : ℕ) → HasClient s c ⊎ (¬ (HasClient s c))
cases-client s c = go (cases_lt c 1) (cases_lt s.clients c)
  where
    go : (c < 1) ⊎ (1 ≤ c) → (s.clients < c) ⊎ (c ≤ s.clients) → HasClient s c ⊎ (¬ (HasClient s c))
    go (inl low) past = inr (λ has. let z : ⊥ = omega (arith, has.0) in z)
    go (inr high) (inl past) = inr (λ has. let z : ⊥ = omega (arith, has.1) in z)
    go (inr high) (inr within) = inl (high, within)

standing-stranger : (t : Standing) → IsWithin 0 t → t ≡ stranger
standing-stranger t within = go t.floor t.claim within.floor (λ h. within.live h)
  where
    go : (floor : ℕ) (claim : Claim) → floor ≤ 0 → (claim ≢ Free → floor + 1 ≤ 0) → record { floor = floor; claim = claim } ≡ stranger
    go floor Free le live = let e : floor ≡ 0 = omega arith in ap (λ f. record { floor = f; claim = Free }) e
    go floor (Has m x status) le live = absurd (let r : floor + 1 ≤ 0 = live (λ e. let q : Has m x status ≡ Free = e in cc) in omega (arith, r))

-- where a client that isn't there has kept nothing, it stands at no safe station
pub stranger-is : (s : Setting) (w : World) (n : ℕ) (t : Station) → ((c : ℕ) → ¬ (HasClient s c) → (w.clients c).kept ≡ 0) → IsSafeStation w n t → (c : ℕ) → ¬ (HasClient s c) → t.at c ≡ stranger
stranger-is s w n t none safe c nobody = standing-stranger (t.at c) (subst (λ k. IsWithin k (t.at c)) (none c nobody) (safe.owes c).within)

pub stranger-stands : (s : Setting) (chosen : ℕ → Bool) (a : Want) (w : World) (n : ℕ) (t : Station) → Fine s chosen a w → IsSafeStation w n t → (c : ℕ) → ¬ (HasClient s c) → t.at c ≡ stranger
stranger-stands s chosen a w n t fine safe c nobody = stranger-is s w n t fine.strangers safe c nobody

pub few-stand : (s : Setting) (chosen : ℕ → Bool) (a : Want) (w : World) (n : ℕ) (t : Station) → Fine s chosen a w → IsSafeStation w n t → IsFew s.clients t
few-stand s chosen a w n t fine safe c past = stranger-stands s chosen a w n t fine safe c (λ has. let z : ⊥ = omega (arith, has.1) in z)
