-- Own runs are allowed, and can be cut and joined.
use Rattle.std.proofs.Common.{◌≡◌, Bool, true, false, cond, List, [], ◌∷◌, ◌++◌, None, Ok, Err, refl, subst}
use Rattle.std.proofs.lemmas.Bool.{eq-eqb}
use Rattle.lock_messages.specs.declared.ids.Actor.{Actor}
use Rattle.lock_model.specs.Ballots.{Ballot}
use Rattle.world_model.specs.declared.events.Effect.{Effect}
use Rattle.world_model.specs.declared.events.Event.{Event}
use Rattle.world_model.specs.Turns.{Acts, Speaks, Reads, Turns}
use Rattle.world_model.specs.ExactWorlds.{actor_of, Deed, NodeDoes, ClientDoes, deed_of, refusal_of}
use Rattle.world_model.specs.Parts.{place, is_own, Part, NoPart, NodePart, ClientPart, refused_in, own_refusal, after_own}
use Rattle.world_model.specs.Locality.{own_events, local_part}
use Rattle.merge_model.specs.OwnRuns.{HasEffect, HasEffectIn, IsTurn, IsOwnRun}
use Rattle.merge_model.specs.Merging.{moved}

abbrev pub Pair : Type 0
Pair = Event × Effect

-- turns are allowed

turn-taken : {A : Type 0} (t : Turns A) (done : Effect) → HasEffect t done → refusal_of t ≡ None
turn-taken (Err e) done h = absurd h
turn-taken (Ok (Acts after effect)) done h = refl
turn-taken (Ok (Speaks after said effect)) done h = refl
turn-taken (Ok (Reads number is_mine after effect)) done h = refl

deed-taken : (b : List Ballot) (deed : Deed) (p : Part) (done : Effect) → HasEffectIn b deed p done → refused_in b deed p ≡ None
deed-taken b (NodeDoes n turn) NoPart done h = absurd h
deed-taken b (NodeDoes n turn) (NodePart v) done h = turn-taken (turn v) done h
deed-taken b (NodeDoes n turn) (ClientPart k) done h = absurd h
deed-taken b (ClientDoes c turn) NoPart done h = absurd h
deed-taken b (ClientDoes c turn) (NodePart v) done h = absurd h
deed-taken b (ClientDoes c turn) (ClientPart k) done h = turn-taken (turn b k) done h

pub turns-allowed : (b : List Ballot) (p : Part) (e : Event) (done : Effect) → IsTurn b p e done → own_refusal b e p ≡ None
turns-allowed b p e done h = deed-taken b (deed_of e) p done h

-- own runs join

pub local-joined : (b : List Ballot) (p : Part) (begun rest : List Pair) → local_part b p (begun ++ rest) ≡ local_part b (local_part b p begun) rest
local-joined b p [] rest = refl
local-joined b p (q ∷ begun) rest = local-joined b (after_own b q.0 q.1 p) begun rest

pub run-begins : (b : List Ballot) (who : Actor) (p : Part) (begun rest : List Pair) → IsOwnRun b who p (begun ++ rest) → IsOwnRun b who p begun
run-begins b who p [] rest h = tt
run-begins b who p (q ∷ begun) rest h = (h.0, h.1, run-begins b who (after_own b q.0 q.1 p) begun rest h.2)

pub run-ends : (b : List Ballot) (who : Actor) (p : Part) (begun rest : List Pair) → IsOwnRun b who p (begun ++ rest) → IsOwnRun b who (local_part b p begun) rest
run-ends b who p [] rest h = h
run-ends b who p (q ∷ begun) rest h = run-ends b who (after_own b q.0 q.1 p) begun rest h.2

pub runs-join : (b : List Ballot) (who : Actor) (p : Part) (begun rest : List Pair) → IsOwnRun b who p begun → IsOwnRun b who (local_part b p begun) rest → IsOwnRun b who p (begun ++ rest)
runs-join b who p [] rest h i = i
runs-join b who p (q ∷ begun) rest h i = (h.0, h.1, runs-join b who (after_own b q.0 q.1 p) begun rest h.2 i)

-- own runs, event by event of a history

abbrev pub AreTurns : List Ballot → (Actor → Part) → List Pair → Type 0
AreTurns b parts [] = Unit {0}
AreTurns b parts (q ∷ history) = IsTurn b (parts (actor_of q.0)) q.0 q.1 × AreTurns b (moved b parts q) history

pub own-self : (e : Event) → is_own (actor_of e) e ≡ true
own-self e = eq-eqb (place (actor_of e)) (place (actor_of e)) refl

pub own-rest : (b : List Ballot) (who : Actor) (p : Part) (q : Pair) (rest : List Pair) (t : Bool) → IsOwnRun b who p (cond t (q ∷ rest) rest) → IsOwnRun b who (cond t (after_own b q.0 q.1 p) p) rest
own-rest b who p q rest true run = run.2
own-rest b who p q rest false run = run

pub own-turns : (b : List Ballot) (history : List Pair) (parts : Actor → Part) → ((who : Actor) → IsOwnRun b who (parts who) (own_events who history)) → AreTurns b parts history
own-turns b [] parts runs = tt
own-turns b (q ∷ history) parts runs =
    let a = actor_of q.0 in
    let first : IsOwnRun b a (parts a) (q ∷ own_events a history) = subst (λ t. IsOwnRun b a (parts a) (cond t (q ∷ own_events a history) (own_events a history))) (own-self q.0) (runs a) in
    (first.1, own-turns b history (moved b parts q) (λ who. own-rest b who (parts who) q (own_events who history) (is_own who q.0) (runs who)))
