-- What one event more makes of a client's visits.
use Rattle.std.proofs.Common.{◌≡◌, List, [], ◌∷◌, ◌++◌, refl}
use Rattle.world_model.specs.declared.events.Effect.{Effect}
use Rattle.world_model.specs.declared.events.Event.{Event}
use Rattle.event_recorders.specs.OwnLogs.{OwnLog, IsAdded}
use Rattle.client_loop.specs.Visits.{Visits, visits_after, visits_from, visits_of}

visits-snoc : (v : Visits) (own : List (Event × Effect)) (e : Event) (done : Effect) →
    visits_from v (own ++ (e, done) ∷ []) ≡ visits_after (visits_from v own) e
visits-snoc v [] e done = refl
visits-snoc v (q ∷ own) e done = visits-snoc (visits_after v q.0) own e done

-- what the event makes of the visits
pub visits-adds : (l l' : OwnLog) (e : Event) (done : Effect) → IsAdded l e done l' → visits_of l' ≡ visits_after (visits_of l) e
visits-adds l l' e done h = rw h.log (visits-snoc _ l.events e done)
