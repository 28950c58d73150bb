-- A round over all journals.
use Rattle.std.proofs.Common.{◌≡◌, ◌==◌, ◌⊎◌, ℕ, ◌+◌, ◌<◌, ◌≤◌, Bool, true, false, List, length, Option, Some, None, Result, Ok, Err, IfOk, refl, sym, ◌∙◌, ap, subst, inl, inr, arith}
use Rattle.std.specs.Prelude.{slice_get}
use Rattle.std.proofs.lemmas.Bool.{eqb-true, eq-eqb}
use Rattle.lock_messages.specs.declared.ids.Actor.{Actor}
use Rattle.world_model.specs.declared.exact.ExactWorld.{ExactWorld}
use Rattle.own_journals.specs.declared.lines.OwnLine.{OwnLine}
use Rattle.frame_numbers.specs.FrameNumbers.{Seen, IsIndexOf}
use Rattle.line_merger.specs.declared.offers.MergeFault.{MergeFault}
use Rattle.line_merger.specs.declared.offers.MergeFault.TheVariants as full
use Rattle.line_merger.specs.declared.offers.Offer.{Offer}
use Rattle.line_merger.specs.declared.offers.Offer.TheVariants as offer
use Rattle.line_merger.specs.Offers.{TakesLine, TriesLine, GoesOn, TryGoesOn}
use Rattle.journal_merger.specs.declared.finding.Turn.{Turn}
use Rattle.journal_merger.specs.declared.finding.Turn.TheVariants as turn
use Rattle.journal_merger.specs.Pendings.{Pending}
use Rattle.journal_merger.specs.declared.finding.Found.TheVariants as found
use Rattle.line_merger.specs.declared.offers.Refusal.{Refusal}
use Rattle.line_merger.specs.declared.offers.Taken.{Taken}
use Rattle.journal_merger.specs.Merges.{IsTurn, IsTriedTurn, IsGoing, IsTryGoing, turn_of, turn_tried, IsIdle, AreIdle, OneWaits, IsFound}

-- what comes of an offer

pub turn-is : (w v : ExactWorld) (who : Actor) (line : OwnLine) (r : Result Offer MergeFault) → TakesLine w who line r v → IfOk (turn_of r) (λ t. IsTurn w who (Some line) t v)
turn-is w v who line (Ok (offer.Took t)) h = record { line = line; next_is = refl; events = h.0; tells = h.1; history = h.2; are = h.3 }
turn-is w v who line (Ok offer.Waits) h = (h.0, (line, refl, h.1), (line, refl, h.2))
turn-is w v who line (Ok (offer.Refused why)) h = record { refuses = (line, refl, h.0); reason = (line, refl, h.1); attempted = h.2 }
turn-is w v who line (Err full.Full) h = tt
turn-is w v who line (Err full.Memory) h = tt

pub turn-index : (s : Seen) (v : ExactWorld) (r : Result Offer MergeFault) → IfOk r (λ o. GoesOn o → IsIndexOf s v.sent) → IfOk (turn_of r) (λ t. IsGoing t → IsIndexOf s v.sent)
turn-index s v (Ok (offer.Took t)) h = h
turn-index s v (Ok offer.Waits) h = h
turn-index s v (Ok (offer.Refused why)) h = λ on. absurd on
turn-index s v (Err full.Full) h = tt
turn-index s v (Err full.Memory) h = tt

-- and of one that was only tried

pub tried-turn : (w v : ExactWorld) (who : Actor) (line : OwnLine) (r : Result (Option Offer) MergeFault) → TriesLine w who line r v → IfOk (turn_tried r) (λ t. IsTriedTurn w who (Some line) t v)
tried-turn w v who line (Ok None) h = h
tried-turn w v who line (Ok (Some (offer.Took t))) h = turn-is w v who line (Ok (offer.Took t)) h
tried-turn w v who line (Ok (Some offer.Waits)) h = turn-is w v who line (Ok offer.Waits) h
tried-turn w v who line (Ok (Some (offer.Refused why))) h = turn-is w v who line (Ok (offer.Refused why)) h
tried-turn w v who line (Err full.Full) h = tt
tried-turn w v who line (Err full.Memory) h = tt

pub tried-going : (s : Seen) (v : ExactWorld) (r : Result (Option Offer) MergeFault) → IfOk r (λ o. TryGoesOn o → IsIndexOf s v.sent) → IfOk (turn_tried r) (λ t. IsTryGoing t → IsIndexOf s v.sent)
tried-going s v (Ok None) h = h
tried-going s v (Ok (Some (offer.Took t))) h = h
tried-going s v (Ok (Some offer.Waits)) h = h
tried-going s v (Ok (Some (offer.Refused why))) h = λ on. absurd on
tried-going s v (Err full.Full) h = tt
tried-going s v (Err full.Memory) h = tt

-- a journal more

pub below : (i n : ℕ) → i < n + 1 → (i < n) ⊎ (i ≡ n)
below i n h = go (i == n) refl
  where
    go : (t : Bool) → (i == n) ≡ t → (i < n) ⊎ (i ≡ n)
    go true e = inr (eqb-true i n e)
    go false e =
        let apart : (i ≡ n) → ⊥ = λ q. let z : false ≡ true = sym e ∙ eq-eqb i n q in cc in
        inl (omega (arith, h, apart))

pub idle-more : (w : ExactWorld) (pending : List Pending) (n : ℕ) (p : Pending) → slice_get pending n ≡ Some p → IsIdle w p → AreIdle w pending n → AreIdle w pending (n + 1)
idle-more w pending n p at idle all i q less h = go (below i n less)
  where
    go : (i < n) ⊎ (i ≡ n) → IsIdle w q
    go (inl e) = all i q e h
    go (inr e) = let z : Some p ≡ Some q = sym at ∙ ap (slice_get pending) (sym e) ∙ h in let is : p ≡ q = cc in subst (IsIdle w) is idle

one-ended : (pending : List Pending) (n : ℕ) (p : Pending) (i : ℕ) (q : Pending) → slice_get pending n ≡ Some p → p.next ≡ None → ((j : ℕ) (r : Pending) → j < n → slice_get pending j ≡ Some r → r.next ≡ None) → slice_get pending i ≡ Some q → (i < n) ⊎ (i ≡ n) → q.next ≡ None
one-ended pending n p i q at ended all h (inl e) = all i q e h
one-ended pending n p i q at ended all h (inr e) = let z : Some p ≡ Some q = sym at ∙ ap (slice_get pending) (sym e) ∙ h in let is : p ≡ q = cc in ap (λ (x : Pending). x.next) (sym is) ∙ ended

pub ended-more : (w : ExactWorld) (pending : List Pending) (n : ℕ) (p : Pending) (t : Bool) → slice_get pending n ≡ Some p → p.next ≡ None → OneWaits w pending n t → OneWaits w pending (n + 1) t
ended-more w pending n p true at ended one = one
ended-more w pending n p false at ended all = λ i q less h. one-ended pending n p i q at ended all h (below i n less)

-- the round so far: the world is as it was, and the first journals are idle

pub record SoFar (w u : ExactWorld) (pending : List Pending) (n : ℕ) (some : Bool) (s : Seen) : Type 0 where
  pub same : u ≡ w
  pub index : IsIndexOf s u.sent
  pub idle : AreIdle w pending n
  pub waits : OneWaits w pending n some

turn-at : (w u v : ExactWorld) (p : Pending) (q r : Turn) → u ≡ w → q ≡ r → IsTurn u p.who p.next q v → IsTurn w p.who p.next r v
turn-at w u v p q r same is h = subst (λ (x : ExactWorld). IsTurn x p.who p.next r v) same (subst (λ x. IsTurn u p.who p.next x v) is h)

index-at : (q r : Turn) (s : Seen) (v : ExactWorld) → q ≡ r → IsGoing r → (IsGoing q → IsIndexOf s v.sent) → IsIndexOf s v.sent
index-at q r s v is on h = h (subst IsGoing (sym is) on)

pub more-waits : (w u v : ExactWorld) (pending : List Pending) (n : ℕ) (p : Pending) (q : Turn) (some : Bool) (s t : Seen) → SoFar w u pending n some s → slice_get pending n ≡ Some p → q ≡ turn.Waits → IsTurn u p.who p.next q v → (IsGoing q → IsIndexOf t v.sent) → SoFar w v pending (n + 1) true t
more-waits w u v pending n p q some s t so at is h index =
    let (same, waits, lacks) = turn-at w u v p q turn.Waits so.same is h in
    record { same = same; index = index-at q turn.Waits t v is tt index; idle = idle-more w pending n p at (inr waits) so.idle; waits = (n, p, at, waits) }

pub more-ended : (w u v : ExactWorld) (pending : List Pending) (n : ℕ) (p : Pending) (q : Turn) (some : Bool) (s t : Seen) → SoFar w u pending n some s → slice_get pending n ≡ Some p → q ≡ turn.Ended → IsTurn u p.who p.next q v → (IsGoing q → IsIndexOf t v.sent) → SoFar w v pending (n + 1) some t
more-ended w u v pending n p q some s t so at is h index =
    let (same, last) = turn-at w u v p q turn.Ended so.same is h in
    record { same = same; index = index-at q turn.Ended t v is tt index; idle = idle-more w pending n p at (inl last) so.idle; waits = ended-more w pending n p some at last so.waits }

pub one-took : (w u v : ExactWorld) (pending : List Pending) (n : ℕ) (p : Pending) (q : Turn) (taken : Taken) (some : Bool) (s : Seen) → SoFar w u pending n some s → slice_get pending n ≡ Some p → q ≡ turn.Took taken → IsTurn u p.who p.next q v → IsFound w pending (found.Took n taken) v
one-took w u v pending n p q taken some s so at is h = (p, at, turn-at w u v p q (turn.Took taken) so.same is h)

pub one-refused : (w u v : ExactWorld) (pending : List Pending) (n : ℕ) (p : Pending) (q : Turn) (why : Refusal) (some : Bool) (s : Seen) → SoFar w u pending n some s → slice_get pending n ≡ Some p → q ≡ turn.Refused why → IsTurn u p.who p.next q v → IsFound w pending (found.Refused n why) v
one-refused w u v pending n p q why some s so at is h = (p, at, turn-at w u v p q (turn.Refused why) so.same is h)

pub all-idle : (w u v : ExactWorld) (pending : List Pending) (n : ℕ) (some : Bool) (s : Seen) → SoFar w u pending n some s → length pending ≤ n → some ≡ true → IsFound w pending found.Stuck v
all-idle w u v pending n some s so long is =
    let one : OneWaits w pending n true = subst (OneWaits w pending n) is so.waits in
    ((λ i p less at. so.idle i p (omega (arith, long, less)) at), one)

pub all-ended : (w u : ExactWorld) (pending : List Pending) (n : ℕ) (some : Bool) (s : Seen) → SoFar w u pending n some s → length pending ≤ n → some ≡ false → IsFound w pending found.Merged u
all-ended w u pending n some s so long is =
    let none : OneWaits w pending n false = subst (OneWaits w pending n) is so.waits in
    (so.same, λ i p less at. none i p (omega (arith, long, less)) at)
