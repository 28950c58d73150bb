-- Taking any event that has its source loses no merge.
use Rattle.std.proofs.Common.{◌≡◌, ◌⊎◌, Bool, true, false, cond, List, [], ◌∷◌, ◌++◌, Option, Some, None, refl, sym, ◌∙◌, ap, subst, inl, inr}
use Rattle.std.specs.Prelude.{IfSome}
use Rattle.std.proofs.lemmas.Bool.{eqb-true, eq-eqb}
use Rattle.lock_messages.specs.declared.ids.Actor.{Actor}
use Rattle.lock_messages.specs.declared.messages.Message.{Message}
use Rattle.lock_model.specs.Ballots.{Ballot}
use Rattle.lock_model.specs.Decisions.{Among}
use Rattle.lock_model.proofs.GrantFacts.{among-left, among-right, among-cases}
use Rattle.world_model.specs.declared.events.Effect.{Effect}
use Rattle.world_model.specs.declared.events.Event.{Event}
use Rattle.world_model.specs.ExactWorlds.{actor_of}
use Rattle.world_model.specs.Parts.{place, is_own, Part, message_of, after_own, said_by}
use Rattle.world_model.specs.Locality.{own_events}
use Rattle.merge_model.specs.Merging.{Logs, moved, says, HasSource, IsSourced, Interleaves}
use Rattle.merge_model.proofs.OwnRunFacts.{Pair, own-self}

-- what was said, as a set

if-some : (o : Option Message) (P Q : Message → Type 0) → ((m : Message) → P m → Q m) → IfSome o P → IfSome o Q
if-some None P Q f h = h
if-some (Some m) P Q f h = f m h

source-wider : (said more : List Message) (done : Effect) → ((m : Message) → Among m said → Among m more) → HasSource said done → HasSource more done
source-wider said more done wider h = if-some (message_of done) (λ m. Among m said) (λ m. Among m more) wider h

append-wider : (said more new new' : List Message) → ((m : Message) → Among m said → Among m more) → new ≡ new' → (m : Message) → Among m (said ++ new) → Among m (more ++ new')
append-wider said more new new' wider same m a = go (among-cases m said new a)
  where
    go : Among m said ⊎ Among m new → Among m (more ++ new')
    go (inl l) = among-left m more new' (wider m l)
    go (inr r) = among-right m more new' (subst (λ xs. Among m xs) same r)

pub sourced-same : (b : List Ballot) (history : List (Event × Effect)) (parts parts' : Actor → Part) (said more : List Message) →
    ((who : Actor) → parts who ≡ parts' who) → ((m : Message) → Among m said → Among m more) → IsSourced b parts said history → IsSourced b parts' more history
sourced-same b [] parts parts' said more same wider s = tt
sourced-same b (q ∷ history) parts parts' said more same wider s = (
  source-wider said more q.1 wider s.0,
  sourced-same b history (moved b parts q) (moved b parts' q) (said ++ says b parts q) (more ++ says b parts' q)
      (λ who. ap (λ p. cond (is_own who q.0) (after_own b q.0 q.1 p) p) (same who))
      (append-wider said more (says b parts q) (says b parts' q) wider (ap (said_by b q.0) (same (actor_of q.0)))) s.1,
)

-- an event of another actor

-- two events of one actor
own-both : (who : Actor) (d e : Event) → is_own who d ≡ true → is_own who e ≡ true → is_own (actor_of d) e ≡ true
own-both who d e hd he =
    eq-eqb (place (actor_of e)) (place (actor_of d)) (eqb-true (place (actor_of e)) (place who) he ∙ sym (eqb-true (place (actor_of d)) (place who) hd))

not-both : (who : Actor) (d e : Event) → is_own (actor_of d) e ≡ false → is_own who d ≡ true → is_own who e ≡ true → ⊥
not-both who d e apart hd he = let z : false ≡ true = sym apart ∙ own-both who d e hd he in cc

other-way : (d e : Event) → is_own (actor_of d) e ≡ false → is_own (actor_of e) d ≡ false
other-way d e apart = go (is_own (actor_of e) d) refl
  where
    go : (t : Bool) → is_own (actor_of e) d ≡ t → is_own (actor_of e) d ≡ false
    go true h = absurd (not-both (actor_of e) d e apart h (own-self e))
    go false h = h

-- two changes of two actors' parts
swap : (p : Part) (f g : Part → Part) (s t : Bool) → (s ≡ true → t ≡ true → ⊥) → cond s (f (cond t (g p) p)) (cond t (g p) p) ≡ cond t (g (cond s (f p) p)) (cond s (f p) p)
swap p f g true true apart = absurd (apart refl refl)
swap p f g true false apart = refl
swap p f g false true apart = refl
swap p f g false false apart = refl

-- what may come next may come first

swap-own : (next q : Pair) (rest h : List Pair) (n t : Bool) → (n ≡ true → t ≡ true → ⊥) → cond n (next ∷ rest) rest ≡ h → cond n (next ∷ cond t (q ∷ rest) rest) (cond t (q ∷ rest) rest) ≡ cond t (q ∷ h) h
swap-own next q rest h true true apart same = absurd (apart refl refl)
swap-own next q rest h true false apart same = same
swap-own next q rest h false true apart same = ap (λ xs. q ∷ xs) same
swap-own next q rest h false false apart same = same

pub comes-first : (b : List Ballot) (history : List Pair) (parts : Actor → Part) (said : List Message) (next : Pair) (own : List Pair) →
    IsSourced b parts said history → own_events (actor_of next.0) history ≡ next ∷ own → HasSource said next.1 →
    (rest : List Pair) × IsSourced b parts said (next ∷ rest) × ((who : Actor) → own_events who (next ∷ rest) ≡ own_events who history)
comes-first b [] parts said next own s is source = absurd (let z : [] ≡ next ∷ own = is in cc)
comes-first b (q ∷ h) parts said next own s is source = go (λ later wider. comes-first b h (moved b parts q) (said ++ says b parts q) next own s.1 later wider) (is_own (actor_of next.0) q.0) refl is
  where
    go : (own_events (actor_of next.0) h ≡ next ∷ own → HasSource (said ++ says b parts q) next.1 →
        (rest : List Pair) × IsSourced b (moved b parts q) (said ++ says b parts q) (next ∷ rest) × ((who : Actor) → own_events who (next ∷ rest) ≡ own_events who h)) →
        (t : Bool) → is_own (actor_of next.0) q.0 ≡ t → cond t (q ∷ own_events (actor_of next.0) h) (own_events (actor_of next.0) h) ≡ next ∷ own →
        (rest : List Pair) × IsSourced b parts said (next ∷ rest) × ((who : Actor) → own_events who (next ∷ rest) ≡ own_events who (q ∷ h))
    go again true e first =
        let same : q ≡ next = cc in
        (h, subst (λ x. IsSourced b parts said (x ∷ h)) same s, λ who. ap (λ x. own_events who (x ∷ h)) (sym same))
    go again false e later =
        let back = other-way next.0 q.0 e in
        let i = again later (source-wider said (said ++ says b parts q) next.1 (λ m a. among-left m said (says b parts q) a) source) in
        let one : says b (moved b parts q) next ≡ says b parts next = ap (λ t. said_by b next.0 (cond t (after_own b q.0 q.1 (parts (actor_of next.0))) (parts (actor_of next.0)))) e in
        let two : says b (moved b parts next) q ≡ says b parts q = ap (λ t. said_by b q.0 (cond t (after_own b next.0 next.1 (parts (actor_of q.0))) (parts (actor_of q.0)))) back in (
          q ∷ i.0,
          (
            source,
            (
              source-wider said (said ++ says b parts next) q.1 (λ m a. among-left m said (says b parts next) a) s.0,
              sourced-same b i.0 (moved b (moved b parts q) next) (moved b (moved b parts next) q)
                  ((said ++ says b parts q) ++ says b (moved b parts q) next) ((said ++ says b parts next) ++ says b (moved b parts next) q)
                  (λ who. swap (parts who) (after_own b next.0 next.1) (after_own b q.0 q.1) (is_own who next.0) (is_own who q.0) (not-both who next.0 q.0 e))
                  (both said (says b parts q) (says b (moved b parts q) next) (says b parts next) (says b (moved b parts next) q) one two) i.1.1,
            ),
          ),
          λ who. swap-own next q (own_events who i.0) (own_events who h) (is_own who next.0) (is_own who q.0) (not-both who next.0 q.0 e) (i.2 who),
        )
      where
        both : (said a c d f : List Message) → c ≡ d → f ≡ a → (m : Message) → Among m ((said ++ a) ++ c) → Among m ((said ++ d) ++ f)
        both said a c d f cd fa m among = outer (among-cases m (said ++ a) c among)
          where
            inner : Among m said ⊎ Among m a → Among m ((said ++ d) ++ f)
            inner (inl l) = among-left m (said ++ d) f (among-left m said d l)
            inner (inr r) = among-right m (said ++ d) f (subst (λ xs. Among m xs) (sym fa) r)

            outer : Among m (said ++ a) ⊎ Among m c → Among m ((said ++ d) ++ f)
            outer (inl l) = inner (among-cases m said a l)
            outer (inr r) = among-left m (said ++ d) f (among-right m said d (subst (λ xs. Among m xs) cd r))

-- and where nothing may come next, there is no merge

pub stuck : (b : List Ballot) (parts : Actor → Part) (said : List Message) (logs : Logs) (someone : Actor) (next : Pair) (own : List Pair) →
    logs someone ≡ next ∷ own → ((who : Actor) (q : Pair) (rest : List Pair) → logs who ≡ q ∷ rest → HasSource said q.1 → ⊥) →
    (history : List Pair) → Interleaves logs history → IsSourced b parts said history → ⊥
stuck b parts said logs someone next own has none [] are s = let z : [] ≡ next ∷ own = are someone ∙ has in cc
stuck b parts said logs someone next own has none (q ∷ h) are s =
    let first : own_events (actor_of q.0) (q ∷ h) ≡ q ∷ own_events (actor_of q.0) h = ap (λ t. cond t (q ∷ own_events (actor_of q.0) h) (own_events (actor_of q.0) h)) (own-self q.0) in
    none (actor_of q.0) q (own_events (actor_of q.0) h) (sym (are (actor_of q.0)) ∙ first) s.0
