-- What lines tell, cut and joined, and that they tell one content.
use Rattle.std.proofs.Common.{◌≡◌, ℕ, Bool, true, false, cond, List, [], ◌∷◌, ◌++◌, Some, refl, sym, ◌∙◌, ap, subst}
use Rattle.std.proofs.lemmas.List.{append_assoc}
use Rattle.std.proofs.lemmas.Bool.{eqb-true, eq-eqb}
use Rattle.lock_messages.specs.declared.ids.Actor.{Actor}
use Rattle.lock_messages.specs.declared.ids.Actor.TheVariants as actor
use Rattle.lock_messages.specs.Laws.{OneSpelling}
use Rattle.lock_model.specs.Ballots.{Ballot}
use Rattle.world_model.specs.declared.events.Age.{Age}
use Rattle.world_model.specs.declared.events.Age.TheVariants.{Old, New}
use Rattle.world_model.specs.declared.events.Effect.{Effect}
use Rattle.world_model.specs.declared.events.Effect.TheVariants as effect
use Rattle.world_model.specs.declared.events.Event.{Event}
use Rattle.world_model.specs.declared.events.Event.TheVariants as event
use Rattle.world_model.specs.Kinds.{kind_of, is_reading}
use Rattle.world_model.specs.ExactWorlds.{actor_of}
use Rattle.world_model.specs.Locality.{own_events, local_part}
use Rattle.world_model.specs.Parts.{place, is_own, Part, message_of}
use Rattle.world_model.proofs.LocalityFacts.{places-apart}
use Rattle.merge_model.specs.OwnRuns.{IsTurn}
use Rattle.merge_model.specs.Merging.{unnumbered, unsaid, content_of}
use Rattle.merge_model.specs.Lives.{IsRise, rises_old, rises_new, Restarts, only_rises, falls_first}
use Rattle.merge_model.proofs.OwnRunFacts.{Pair, local-joined}
use Rattle.merge_model.proofs.LifeFacts.{one-restart}
use Rattle.own_journals.specs.declared.lines.OwnLine.{OwnLine}
use Rattle.own_journals.specs.declared.lines.OwnLine.TheVariants as own
use Rattle.journal_merge.specs.LineMerges.{ReadsFrame, TellsLine, TellsLines}
use Rattle.journal_merge.proofs.ContentFacts.{turn-content, own-kind, no-message, reading_of, reading-content, same-local}

-- lines, cut and joined

pub told-joined : (b : List Ballot) (who : Actor) (p : Part) (taken more : List OwnLine) (log rest : List Pair) → TellsLines b who p taken log → TellsLines b who (local_part b p log) more rest → TellsLines b who p (taken ++ more) (log ++ rest)
told-joined b who p [] more log rest h i = subst (λ xs. TellsLines b who p more (xs ++ rest)) (sym h) (subst (λ xs. TellsLines b who (local_part b p xs) more rest) h i)
told-joined b who p (line ∷ taken) more log rest h i =
    let part-now : local_part b p log ≡ local_part b (local_part b p h.0) h.1 = ap (local_part b p) h.4 ∙ local-joined b p h.0 h.1 in (
      h.0,
      h.1 ++ rest,
      h.2,
      told-joined b who (local_part b p h.0) taken more h.1 rest h.3 (subst (λ q. TellsLines b who q more rest) part-now i),
      ap (λ xs. xs ++ rest) h.4 ∙ append_assoc h.0 h.1 rest,
    )

pub record Cut (b : List Ballot) (who : Actor) (p : Part) (taken more : List OwnLine) (log : List Pair) : Type 0 where
  pub begun : List Pair
  pub rest : List Pair
  pub told : TellsLines b who p taken begun
  pub after : TellsLines b who (local_part b p begun) more rest
  pub is : log ≡ begun ++ rest

pub told-cut : (b : List Ballot) (who : Actor) (p : Part) (taken more : List OwnLine) (log : List Pair) → TellsLines b who p (taken ++ more) log → Cut b who p taken more log
told-cut b who p [] more log h = record { begun = []; rest = log; told = refl; after = h; is = refl }
told-cut b who p (line ∷ taken) more log h =
    let c = told-cut b who (local_part b p h.0) taken more h.1 h.3 in
    record {
      begun = h.0 ++ c.begun;
      rest = c.rest;
      told = (h.0, c.begun, h.2, c.told, refl);
      after = subst (λ q. TellsLines b who q more c.rest) (sym (local-joined b p h.0 c.begun)) c.after;
      is = h.4 ∙ ap (λ xs. h.0 ++ xs) c.is ∙ sym (append_assoc h.0 c.begun c.rest);
    }

-- lines tell one content

content-joined : (xs ys : List Pair) → content_of (xs ++ ys) ≡ content_of xs ++ content_of ys
content-joined [] ys = refl
content-joined (q ∷ xs) ys = ap (λ zs. (unnumbered q.0, unsaid q.1) ∷ zs) (content-joined xs ys)

same-reader : (who : Actor) (q r : Pair) → is_own who q.0 ≡ true → is_own who r.0 ≡ true → actor_of q.0 ≡ actor_of r.0
same-reader who q r mine also =
    places-apart (actor_of q.0) who (eqb-true (place (actor_of q.0)) (place who) mine) ∙ sym (places-apart (actor_of r.0) who (eqb-true (place (actor_of r.0)) (place who) also))

reads-content : OneSpelling → (b : List Ballot) (who : Actor) (p : Part) (frame : List ℕ) (q r : Pair) → is_own who q.0 ≡ true → IsTurn b p q.0 q.1 → ReadsFrame frame q → is_own who r.0 ≡ true → IsTurn b p r.0 r.1 → ReadsFrame frame r → content_of (q ∷ []) ≡ content_of (r ∷ [])
reads-content once b who p frame q r mine turn reads also again rereads =
    let same : reads.message ≡ rereads.message = (once reads.message rereads.message [] [] reads.is rereads.is (ap (λ xs. xs ++ []) (reads.spelled ∙ sym rereads.spelled))).0 in
    let message : message_of q.1 ≡ message_of r.1 = reads.carried ∙ ap Some same ∙ sym rereads.carried in
    let events : unnumbered q.0 ≡ unnumbered r.0 = reading-content q.0 reads.reading ∙ ap reading_of (same-reader who q r mine also) ∙ sym (reading-content r.0 rereads.reading) in
    let effects : unsaid q.1 ≡ unsaid r.1 = turn-content b p q r turn again events message in
    ap (λ e. (e, unsaid q.1) ∷ []) events ∙ ap (λ d. (unnumbered r.0, d) ∷ []) effects

does-content : (b : List Ballot) (p : Part) (e : Event) (done other : Effect) → IsTurn b p e done → IsTurn b p e other → is_reading (kind_of e) ≡ false → content_of ((e, done) ∷ []) ≡ content_of ((e, other) ∷ [])
does-content b p e done other turn again plain =
    let message : message_of done ≡ message_of other = no-message e done plain (own-kind b p e done turn) ∙ sym (no-message e other plain (own-kind b p e other again)) in
    ap (λ d. (unnumbered e, d) ∷ []) (turn-content b p (e, done) (e, other) turn again refl message)

line-content : OneSpelling → (b : List Ballot) (who : Actor) (p : Part) (line : OwnLine) (events other : List Pair) → TellsLine b who p line events → TellsLine b who p line other → content_of events ≡ content_of other
line-content once b who p (own.Life whose found) events other h i = ap content_of (one-restart who p found events other h.1 i.1)
line-content once b who p (own.Reads whose frame) events other h i =
    ap content_of h.1 ∙ reads-content once b who p frame h.0 i.0 h.2 h.3 h.4 i.2 i.3 i.4 ∙ ap content_of (sym i.1)
line-content once b who p (own.Does e) events other h i = ap content_of h.1 ∙ does-content b p e h.0 i.0 h.3 i.3 h.4 ∙ ap content_of (sym i.1)

pub lines-content : OneSpelling → (b : List Ballot) (who : Actor) (p : Part) (lines : List OwnLine) (log other : List Pair) → TellsLines b who p lines log → TellsLines b who p lines other → content_of log ≡ content_of other
lines-content once b who p [] log other h i = ap content_of (h ∙ sym i)
lines-content once b who p (line ∷ lines) log other h i =
    let first : content_of h.0 ≡ content_of i.0 = line-content once b who p line h.0 i.0 h.2 i.2 in
    let rest : content_of h.1 ≡ content_of i.1 = lines-content once b who (local_part b p i.0) lines h.1 i.1 (subst (λ q. TellsLines b who q lines h.1) (same-local b p h.0 i.0 first) h.3) i.3 in
    ap content_of h.4 ∙ content-joined h.0 h.1 ∙ ap (λ xs. xs ++ content_of h.1) first ∙ ap (λ xs. content_of i.0 ++ xs) rest ∙ sym (content-joined i.0 i.1) ∙ ap content_of (sym i.4)

-- a line tells something, all of it the actor's own

own-place : (who : Actor) (age : Age) → is_own who (event.Rise who age) ≡ true
own-place (actor.Node n) age = eq-eqb (place (actor.Node n)) (place (actor.Node n)) refl
own-place (actor.Client c) age = eq-eqb (place (actor.Client c)) (place (actor.Client c)) refl

own-fall : (who : Actor) → is_own who (event.Fall who) ≡ true
own-fall (actor.Node n) = eq-eqb (place (actor.Node n)) (place (actor.Node n)) refl
own-fall (actor.Client c) = eq-eqb (place (actor.Client c)) (place (actor.Client c)) refl

own-rise : (who : Actor) (p : Part) (found : List ℕ) (rise : Event) → IsRise who p found rise → is_own who rise ≡ true
own-rise who p found _ (rises_old kept) = own-place who Old
own-rise who p found _ (rises_new apart tried) = own-place who New

abbrev pub AreOwn : Actor → List Pair → Type 0
AreOwn who [] = Unit {0}
AreOwn who (q ∷ events) = (is_own who q.0 ≡ true) × AreOwn who events

restart-own : (who : Actor) (p : Part) (found : List ℕ) (events : List Pair) → Restarts who p found events → AreOwn who events
restart-own who p found _ (only_rises rise down is) = (own-rise who p found rise is, tt)
restart-own who p found _ (falls_first rise up is) = (own-fall who, (own-rise who p found rise is, tt))

pub line-own : (b : List Ballot) (who : Actor) (p : Part) (line : OwnLine) (events : List Pair) → TellsLine b who p line events → AreOwn who events
line-own b who p (own.Life whose found) events h = restart-own who p found events h.1
line-own b who p (own.Reads whose frame) events h = subst (AreOwn who) (sym h.1) (h.2, tt)
line-own b who p (own.Does e) events h = subst (AreOwn who) (sym h.1) (h.2, tt)

pub own-own : (who : Actor) (events : List Pair) → AreOwn who events → own_events who events ≡ events
own-own who [] h = refl
own-own who (q ∷ events) h = ap (λ t. cond t (q ∷ own_events who events) (own_events who events)) h.0 ∙ ap (λ xs. q ∷ xs) (own-own who events h.1)

others-none : (who other : Actor) (q : Pair) → (other ≡ who → ⊥) → is_own who q.0 ≡ true → is_own other q.0 ≡ false
others-none who other q apart mine = go (is_own other q.0) refl
  where
    go : (t : Bool) → is_own other q.0 ≡ t → is_own other q.0 ≡ false
    go true is = absurd (apart (sym (places-apart (actor_of q.0) other (eqb-true (place (actor_of q.0)) (place other) is)) ∙ places-apart (actor_of q.0) who (eqb-true (place (actor_of q.0)) (place who) mine)))
    go false is = is

pub own-none : (who other : Actor) (events : List Pair) → (other ≡ who → ⊥) → AreOwn who events → own_events other events ≡ []
own-none who other [] apart h = refl
own-none who other (q ∷ events) apart h = ap (λ t. cond t (q ∷ own_events other events) (own_events other events)) (others-none who other q apart h.0) ∙ own-none who other events apart h.1

restart-some : (who : Actor) (p : Part) (found : List ℕ) (events : List Pair) → Restarts who p found events → (q : Pair) × (more : List Pair) × (events ≡ q ∷ more)
restart-some who p found _ (only_rises rise down is) = ((rise, effect.Up), [], refl)
restart-some who p found _ (falls_first rise up is) = ((event.Fall who, effect.Down), (rise, effect.Up) ∷ [], refl)

pub line-some : (b : List Ballot) (who : Actor) (p : Part) (line : OwnLine) (events : List Pair) → TellsLine b who p line events → (q : Pair) × (more : List Pair) × (events ≡ q ∷ more)
line-some b who p (own.Life whose found) events h = restart-some who p found events h.1
line-some b who p (own.Reads whose frame) events h = (h.0, [], h.1)
line-some b who p (own.Does e) events h = ((e, h.0), [], h.1)
