-- What a berth tells is what its recorder promises.
use Rattle.std.proofs.Common.{◌≡◌, Bool, true, false, cond, List, [], ◌∷◌, ◌++◌, Result, Ok, Err, Some, None, refl, sym, ap, subst, ◌∙◌, append-nil, ◌⊎◌, inl, inr}
use Rattle.std.specs.Prelude.{IfOk, IfErr}
use Rattle.world_model.specs.declared.events.Effect.{Effect}
use Rattle.world_model.specs.declared.events.Event.{Event}
use Rattle.world_model.specs.declared.events.StepFault.{StepFault}
use Rattle.world_model.specs.declared.events.StepFault.TheVariants as fault
use Rattle.world_model.specs.Locality.{own_events, EffectsAreOfTheirEvents, IsAsListed, IsLocalRefusal}
use Rattle.world_model.specs.Kinds.{Kind, Reading, Speaking, kind_of, is_reading}
use Rattle.world_model.specs.Parts.{is_own, part, own_refusal, IsListFault, IsFaultOfKind}
use Rattle.world_model.proofs.StayFacts.{local-append}
use Rattle.event_recorders.specs.OwnLogs.{OwnLog, part_now, adds, IsAdded, IsUnread, IsRecorderFault}
use Rattle.event_recorders.specs.declared.log_faults.LogFault.{LogFault}
use Rattle.event_recorders.specs.declared.log_faults.LogFault.TheVariants as book
use Rattle.history_book.specs.Books.{BookValue, BerthValue, own_of, own_part, IsLogged, IsRefused, IsOfEvent}
use Rattle.book_recorders.specs.Sharing.{after_seeing, HasLogged, HasRefused, MayRefuse, log_of}
use Rattle.book_recorders.proofs.Between.{own-append, logged_if, refused_if}

-- the own list after what others logged
own_stays : (k : BerthValue) (between : List (Event × Effect)) → own_events k.actor between ≡ [] → own_events k.actor (k.seen ++ between) ≡ own_of k
own_stays k between others = own-append k.actor k.seen between ∙ ap (λ l. own_of k ++ l) others ∙ append-nil (own_of k)

own_one : (k : BerthValue) (e : Event) (done : Effect) (b : Bool) → is_own k.actor e ≡ b → b ≡ true → own_events k.actor ((e, done) ∷ []) ≡ (e, done) ∷ []
own_one k e done b is own = ap (λ x. cond x ((e, done) ∷ []) []) (is ∙ own)

own_grows : (k : BerthValue) (between : List (Event × Effect)) (e : Event) (done : Effect) → own_events k.actor between ≡ [] → is_own k.actor e ≡ true → own_events k.actor ((k.seen ++ between) ++ (e, done) ∷ []) ≡ own_of k ++ (e, done) ∷ []
own_grows k between e done others own =
    own-append k.actor (k.seen ++ between) ((e, done) ∷ [])
    ∙ ap (λ l. l ++ own_events k.actor ((e, done) ∷ [])) (own_stays k between others)
    ∙ ap (λ l. own_of k ++ l) (own_one k e done true own refl)

-- the own log, with these events
abbrev with_events : BerthValue → List (Event × Effect) → OwnLog
with_events k l = record { actor = k.actor; ballots = k.opening.ballots; opening = part k.opening k.actor; events = l }

pub log_after : (k k' : BerthValue) (seen own : List (Event × Effect)) → k' ≡ after_seeing k seen → own_events k.actor seen ≡ own → log_of k' ≡ with_events k own
log_after k k' seen own is same = ap log_of is ∙ ap (with_events k) same

pub is_added : EffectsAreOfTheirEvents → (k : BerthValue) (e : Event) (done : Effect) (k' : BerthValue) → HasLogged k e done k' → IsAdded (log_of k) e done (log_of k')
is_added effects k e done k' h =
    let log : log_of k' ≡ adds (log_of k) e done = log_after k k' _ _ h.berth (own_grows k h.between e done h.others.others h.own) in
    record {
      kind = effects h.before h.after e done h.takes;
      log = log;
      part = ap part_now log ∙ local-append k.opening.ballots (part k.opening k.actor) (own_of k) ((e, done) ∷ []);
    }

seen_log : (f : StepFault) (k : BerthValue) (e : Event) (k' : BerthValue) → HasRefused f k e k' → log_of k' ≡ log_of k
seen_log f k e k' h = log_after k k' _ _ h.berth (own_stays k h.between h.others.others)

-- a refusal that the own list doesn't give is of a message that wasn't sent, or is for another
list_kind : (k : Kind) (f : StepFault) → IsOfEvent f → IsFaultOfKind k f → (is_reading k ≡ true) × ((f ≡ fault.NoSuchMessage) ⊎ (f ≡ fault.NotAddressed))
list_kind Reading f of is = (refl, is)
list_kind Speaking f of is = absurd (subst IsOfEvent is of)
list_kind _ f of is = absurd is

list_fault : (e : Event) (f : StepFault) → IsOfEvent f → IsListFault e f → IsUnread e f
list_fault e f of is = list_kind (kind_of e) f of is

unread : (e : Event) (f : StepFault) → IsOfEvent f → IsLocalRefusal e None (Some f) → IsUnread e f
unread e f of (inl h) = absurd (let z : Some f ≡ None = h in cc)
unread e f of (inr h) =
    let z : Some f ≡ Some h.0 = h.1 in
    let same : h.0 ≡ f = cc in
    list_fault e f of (subst (IsListFault e) same h.2)

pub is_refused : (f : LogFault) (k : BerthValue) (e : Event) (k' : BerthValue) → is_own k.actor e ≡ true → own_refusal k.opening.ballots e (own_part k) ≡ None → MayRefuse f k e k' → IsRecorderFault e f × (log_of k' ≡ log_of k)
is_refused book.OtherBook k e k' own allowed r = (tt, ap log_of r)
is_refused book.OtherActor k e k' own allowed r = absurd (let z : false ≡ true = sym r.0 ∙ own in cc)
is_refused book.Full k e k' own allowed r = (tt, ap log_of r.berth)
is_refused book.Memory k e k' own allowed r = (tt, ap log_of r.1)
is_refused (book.NotAStep f) k e k' own allowed r = (unread e f r.of_event (subst (λ o. IsLocalRefusal e o (Some f)) allowed r.local), seen_log f k e k' r)

-- the same of an answer

pub added_if : EffectsAreOfTheirEvents → (r : Result Effect LogFault) (k : BerthValue) (e : Event) (k' : BerthValue) → IfOk r (λ done. HasLogged k e done k') → IfOk r (λ done. IsAdded (log_of k) e done (log_of k'))
added_if effects (Ok done) k e k' logged = is_added effects k e done k' logged
added_if effects (Err f) k e k' logged = tt

pub recorder_if : (r : Result Effect LogFault) (k : BerthValue) (e : Event) (k' : BerthValue) → is_own k.actor e ≡ true → own_refusal k.opening.ballots e (own_part k) ≡ None → IfErr r (λ f. MayRefuse f k e k') → IfErr r (λ f. IsRecorderFault e f × (log_of k' ≡ log_of k))
recorder_if (Ok done) k e k' own allowed refused = tt
recorder_if (Err f) k e k' own allowed refused = is_refused f k e k' own allowed refused

-- the same of a book of one's own

pub added_alone : EffectsAreOfTheirEvents → (r : Result Effect LogFault) (b : BookValue) (k : BerthValue) (e : Event) (b' : BookValue) (k' : BerthValue) → IfOk r (λ done. IsLogged b k e done b' k') → IfOk r (λ done. IsAsListed b.world e done) → IfOk r (λ done. IsAdded (log_of k) e done (log_of k'))
added_alone effects r b k e b' k' logged listed = added_if effects r k e k' (logged_if r b k e b' k' logged listed)

pub refused_alone : (r : Result Effect LogFault) (b : BookValue) (k : BerthValue) (e : Event) (b' : BookValue) (k' : BerthValue) → is_own k.actor e ≡ true → own_refusal k.opening.ballots e (own_part k) ≡ None → IfErr r (λ f. IsRefused f b k e b' k') → IfErr r (λ f. IsRecorderFault e f × (log_of k' ≡ log_of k))
refused_alone r b k e b' k' own allowed refused = recorder_if r k e k' own allowed (refused_if r b k e b' k' refused)
