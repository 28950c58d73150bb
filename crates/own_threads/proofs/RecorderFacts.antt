-- A log goes on by a turn, and its beginning stays.
use Rattle.std.proofs.Common.{◌≡◌, ◌⊎◌, inl, inr, true, List, [], ◌∷◌, ◌++◌, Option, Result, Ok, Err, refl, sym, ap, subst, ◌∙◌}
use Rattle.lock_messages.specs.declared.ids.Actor.{Actor}
use Rattle.lock_messages.specs.declared.messages.Message.{Message}
use Rattle.lock_model.specs.Ballots.{Ballot}
use Rattle.world_model.specs.declared.events.Effect.{Effect}
use Rattle.world_model.specs.declared.events.Event.{Event}
use Rattle.world_model.specs.Locality.{local_part}
use Rattle.world_model.specs.Parts.{Part, is_own, after_own}
use Rattle.event_recorders.specs.declared.log_faults.LogFault.{LogFault}
use Rattle.event_recorders.specs.declared.log_faults.LogFault.TheVariants as fault
use Rattle.event_recorders.specs.OwnLogs.{OwnLog, IsAdded, adds}
use Rattle.merge_model.specs.OwnRuns.{IsTurn, IsOwnRun}
use Rattle.node_loop.specs.Standing.{as_opened}
use Rattle.own_recorders.specs.OwnTurns.{HasTurned}
use Rattle.own_recorders.specs.OwnJournals.{OwnKeeper, Logs}
use Rattle.own_threads.specs.Beginnings.{Beginning, begun, IsQuiet}

-- whatever a recorder with a journal did with an event, it began as before
pub begun_stays : (k k' : OwnKeeper) (e : Event) (read : Option Message) (r : Result Effect LogFault) → Logs k e read k' r → begun k' ≡ begun k
begun_stays k k' e read (Ok done) h = same k k' (ap as_opened h.added.log) h.before
  where
    same : (k k' : OwnKeeper) → as_opened k'.log ≡ as_opened k.log → k'.before ≡ k.before → begun k' ≡ begun k
    same k k' log before = ap (λ (l : OwnLog). record { log = l; before = k'.before }) log ∙ ap (λ b. record { log = as_opened k.log; before = b }) before
begun_stays k k' e read (Err fault.Memory) h = ap begun h.1
begun_stays k k' e read (Err fault.Full) (inl h) = ap begun h.1
begun_stays k k' e read (Err fault.Full) (inr h) =
    ap (λ (l : OwnLog). record { log = as_opened l; before = k'.before }) h.log ∙ ap (λ b. record { log = as_opened k.log; before = b }) h.before
begun_stays k k' e read (Err (fault.NotAStep f)) h = absurd h
begun_stays k k' e read (Err fault.OtherActor) h = absurd h
begun_stays k k' e read (Err fault.OtherBook) h = absurd h

-- one turn more, at the end of an own run
run_on : (b : List Ballot) (who : Actor) (p : Part) (events : List (Event × Effect)) (e : Event) (done : Effect) → IsOwnRun b who p events → is_own who e ≡ true → IsTurn b (local_part b p events) e done →
    IsOwnRun b who p (events ++ (e, done) ∷ [])
run_on b who p [] e done h own turn = (own, turn, tt)
run_on b who p (q ∷ events) e done h own turn = (h.0, h.1, run_on b who (after_own b q.0 q.1 p) events e done h.2 own turn)

after_last : (b : List Ballot) (q : Part) (events : List (Event × Effect)) (e : Event) (done : Effect) → local_part b q (events ++ (e, done) ∷ []) ≡ after_own b e done (local_part b q events)
after_last b q [] e done = refl
after_last b q (r ∷ events) e done = after_last b (after_own b r.0 r.1 q) events e done

-- the log of these parts
abbrev pub log_of : Actor → List Ballot → Part → List (Event × Effect) → OwnLog
log_of who b o events = record { actor = who; ballots = b; opening = o; events = events }

module _ (b : List Ballot) (o : Part) (events : List (Event × Effect)) (p p' : Part) (e : Event) (read : Option Message) (done : Effect) (turned : HasTurned b p e read done p') where
  added_there : (who : Actor) → IsAdded (log_of who b o events) e done (log_of who b o (events ++ (e, done) ∷ []))
  added_there who = record { kind = turned.kind; log = refl; part = after_last b o events e done }

  quiet_there : (who : Actor) → is_own who e ≡ true → IsQuiet (log_of who b o events) p → IsQuiet (log_of who b o (events ++ (e, done) ∷ [])) p'
  quiet_there who own is = record {
    down = is.down;
    part = after_last b o events e done ∙ ap (λ (q : Part). after_own b e done q) is.part ∙ sym turned.part;
    run = run_on b who o events e done is.run own (subst (λ (q : Part). IsTurn b q e done) (sym is.part) turned.turn);
  }

-- a recorder without a journal has logged a turn of its actor
pub quiet_on : (who who' : Actor) (b b' : List Ballot) (o : Part) (events events' : List (Event × Effect)) (p p' : Part) (e : Event) (read : Option Message) (done : Effect) → who' ≡ who → b' ≡ b → events' ≡ events ++ (e, done) ∷ [] →
    IsQuiet (log_of who b o events) p → is_own who e ≡ true → HasTurned b p e read done p' → IsQuiet (log_of who' b' o events') p'
quiet_on who who' b b' o events events' p p' e read done same ballots more is own turned =
    subst (λ (w : Actor). IsQuiet (log_of w b' o events') p') (sym same)
    (subst (λ (x : List Ballot). IsQuiet (log_of who x o events') p') (sym ballots)
    (subst (λ (es : List (Event × Effect)). IsQuiet (log_of who b o es) p') (sym more) (quiet_there b o events p p' e read done turned who own is)))

pub quiet_added : (who who' : Actor) (b b' : List Ballot) (o : Part) (events events' : List (Event × Effect)) (p p' : Part) (e : Event) (read : Option Message) (done : Effect) → who' ≡ who → b' ≡ b → events' ≡ events ++ (e, done) ∷ [] →
    HasTurned b p e read done p' → IsAdded (log_of who b o events) e done (log_of who' b' o events')
quiet_added who who' b b' o events events' p p' e read done same ballots more turned =
    subst (λ (w : Actor). IsAdded (log_of who b o events) e done (log_of w b' o events')) (sym same)
    (subst (λ (x : List Ballot). IsAdded (log_of who b o events) e done (log_of who x o events')) (sym ballots)
    (subst (λ (es : List (Event × Effect)). IsAdded (log_of who b o events) e done (log_of who b o es)) (sym more) (added_there b o events p p' e read done turned who)))

-- a log of the same opening
pub opened_same : (who who' : Actor) (b b' : List Ballot) (o : Part) (events events' : List (Event × Effect)) → who' ≡ who → b' ≡ b → as_opened (log_of who' b' o events') ≡ as_opened (log_of who b o events)
opened_same who who' b b' o events events' same ballots = ap (λ (w : Actor). log_of w b' o []) same ∙ ap (λ (x : List Ballot). log_of who x o []) ballots
