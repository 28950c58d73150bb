-- A line of any kind.
use Rattle.std.proofs.Common.{◌≡◌, ◌==◌, ℕ, Bool, true, false, not, List, [], ◌∷◌, Option, Some, None, Result, Ok, Err, IfOk, refl, sym, ◌∙◌, ap, subst}
use Rattle.std.proofs.lemmas.Bool.{eqb-true, eq-eqb}
use Rattle.lock_messages.specs.declared.ids.Actor.{Actor}
use Rattle.world_model.specs.declared.exact.ExactWorld.{ExactWorld}
use Rattle.world_model.specs.ExactWorlds.{actor_of}
use Rattle.world_model.specs.Locality.{IsHistory, StepsChangeOnePart}
use Rattle.world_model.specs.Parts.{place, part, said_by}
use Rattle.world_model.proofs.LocalityFacts.{places-apart}
use Rattle.merge_model.proofs.OwnRunFacts.{Pair}
use Rattle.own_journals.specs.declared.lines.OwnLine.{OwnLine}
use Rattle.own_journals.specs.declared.lines.OwnLine.TheVariants as own
use Rattle.frame_numbers.specs.FrameNumbers.{Seen, IsIndexOf, IndexesGrow}
use Rattle.line_merger.specs.declared.offers.MergeFault.{MergeFault}
use Rattle.line_merger.specs.declared.offers.Offer.{Offer}
use Rattle.line_merger.specs.declared.offers.Offer.TheVariants as offer
use Rattle.line_merger.specs.declared.offers.Taken.TheVariants as taken
use Rattle.line_merger.specs.declared.offers.Refusal.{Refusal}
use Rattle.line_merger.specs.declared.offers.Refusal.TheVariants as refusal
use Rattle.line_merger.specs.Reasons.{IsReason}
use Rattle.line_merger.specs.Offers.{GoesOn, TakesLine, TriesLine, TryGoesOn, tried}
use Rattle.line_merger.proofs.OfferFacts.{nothing-tried}

-- an index stays one through a history

history-index : StepsChangeOnePart → IndexesGrow → (w v : ExactWorld) (s : Seen) (events : List Pair) → IsHistory w events v → IsIndexOf s w.sent → IsIndexOf s v.sent
history-index changes grow w v s [] h index = subst (λ (x : ExactWorld). IsIndexOf s x.sent) (sym h) index
history-index changes grow w v s (q ∷ events) h index =
    history-index changes grow h.0 v s events h.2 (subst (IsIndexOf s) (sym (changes w h.0 q.0 q.1 h.1).sent) (grow s w.sent (said_by w.ballots q.0 (part w (actor_of q.0))) index))

pub index-on : StepsChangeOnePart → IndexesGrow → (w v : ExactWorld) (who : Actor) (line : OwnLine) (r : Result Offer MergeFault) (s : Seen) → TakesLine w who line r v → IsIndexOf s w.sent → IfOk r (λ o. GoesOn o → IsIndexOf s v.sent)
index-on changes grow w v who line (Ok (offer.Took t)) s h index = λ on. history-index changes grow w v s h.0 h.2 index
index-on changes grow w v who line (Ok offer.Waits) s h index = λ on. subst (λ (x : ExactWorld). IsIndexOf s x.sent) (sym h.0) index
index-on changes grow w v who line (Ok (offer.Refused why)) s h index = λ on. absurd on
index-on changes grow w v who line (Err f) s h index = tt

-- a life of another actor, and of this one

pub other-refused : (w : ExactWorld) (who whose : Actor) (found : List ℕ) → (place whose == place who) ≡ false → TakesLine w who (own.Life whose found) (Ok (offer.Refused refusal.OtherActor)) w
other-refused w who whose found apart = (λ events t. others t.0, λ same. others same, nothing-tried w w who refl)
  where
    others : whose ≡ who → ⊥
    others same = let z : true ≡ false = sym (eq-eqb (place whose) (place who) (ap place same)) ∙ apart in cc

pub same-life : (w v : ExactWorld) (who whose : Actor) (found : List ℕ) (r : Result Offer MergeFault) → (place whose == place who) ≡ true → TakesLine w who (own.Life who found) r v → TakesLine w who (own.Life whose found) r v
same-life w v who whose found r same h = subst (λ a. TakesLine w who (own.Life a found) r v) (sym (places-apart whose who (eqb-true (place whose) (place who) same))) h

pub is-apart : (b : Bool) → not b ≡ true → b ≡ false
is-apart true h = absurd (let z : false ≡ true = h in cc)
is-apart false h = refl

-- a line that reads says nothing by the actor that it names

why-anyone : (w : ExactWorld) (who whose : Actor) (frame : List ℕ) (why : Refusal) → IsReason w.ballots who (part w who) (own.Reads who frame) why → IsReason w.ballots who (part w who) (own.Reads whose frame) why
why-anyone w who whose frame (refusal.Step f) h = h
why-anyone w who whose frame refusal.OtherActor h = h
why-anyone w who whose frame refusal.OtherRecord h = h

pub reads-anyone : (w v : ExactWorld) (who whose : Actor) (frame : List ℕ) (r : Result Offer MergeFault) → TakesLine w who (own.Reads who frame) r v → TakesLine w who (own.Reads whose frame) r v
reads-anyone w v who whose frame (Ok (offer.Took taken.Said)) h = h
reads-anyone w v who whose frame (Ok (offer.Took (taken.Read k))) h = h
reads-anyone w v who whose frame (Ok (offer.Took (taken.Rose true age))) h = h
reads-anyone w v who whose frame (Ok (offer.Took (taken.Rose false age))) h = h
reads-anyone w v who whose frame (Ok offer.Waits) h = h
reads-anyone w v who whose frame (Ok (offer.Refused why)) h = (h.0, why-anyone w who whose frame why h.1, h.2)
reads-anyone w v who whose frame (Err f) h = tt

pub reads-as : (w v : ExactWorld) (who whose : Actor) (line : OwnLine) (frame : List ℕ) (r : Result Offer MergeFault) → line ≡ own.Reads whose frame → TakesLine w who (own.Reads who frame) r v → TakesLine w who line r v
reads-as w v who whose line frame r is h = subst (λ l. TakesLine w who l r v) (sym is) (reads-anyone w v who whose frame r h)

pub index-still : (v : ExactWorld) (r : Result Offer MergeFault) (s : Seen) → IsIndexOf s v.sent → IfOk r (λ o. GoesOn o → IsIndexOf s v.sent)
index-still v (Ok o) s index = λ on. index
index-still v (Err f) s index = tt

-- a line that is only tried

pub tried-is : (w v : ExactWorld) (who : Actor) (line : OwnLine) (r : Result Offer MergeFault) → TakesLine w who line r v → TriesLine w who line (tried r) v
tried-is w v who line (Ok o) h = h
tried-is w v who line (Err f) h = tt

pub tried-index : (v : ExactWorld) (r : Result Offer MergeFault) (s : Seen) → IfOk r (λ o. GoesOn o → IsIndexOf s v.sent) → IfOk (tried r) (λ o. TryGoesOn o → IsIndexOf s v.sent)
tried-index v (Ok o) s h = h
tried-index v (Err f) s h = tt

pub tries-anyone : (w v : ExactWorld) (who whose : Actor) (line : OwnLine) (frame : List ℕ) (r : Result (Option Offer) MergeFault) → line ≡ own.Reads whose frame → TriesLine w who (own.Reads who frame) r v → TriesLine w who line r v
tries-anyone w v who whose line frame (Ok None) is h = h
tries-anyone w v who whose line frame (Ok (Some o)) is h = reads-as w v who whose line frame (Ok o) is h
tries-anyone w v who whose line frame (Err f) is h = tt

pub tried-still : (v : ExactWorld) (r : Result (Option Offer) MergeFault) (s : Seen) → IsIndexOf s v.sent → IfOk r (λ o. TryGoesOn o → IsIndexOf s v.sent)
tried-still v (Ok o) s index = λ on. index
tried-still v (Err f) s index = tt
