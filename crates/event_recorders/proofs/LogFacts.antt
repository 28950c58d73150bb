-- What the events of an own log come to, as it grows.
use Rattle.std.proofs.Common.{◌≡◌, List, [], ◌∷◌, ◌++◌, sym, ap, ◌∙◌, append_assoc, append-nil}
use Rattle.lock_model.specs.Ballots.{Ballot}
use Rattle.world_model.specs.declared.events.Effect.{Effect}
use Rattle.world_model.specs.declared.events.Event.{Event}
use Rattle.world_model.specs.Locality.{local_part}
use Rattle.world_model.specs.Parts.{Part, after_own}
use Rattle.event_recorders.specs.OwnLogs.{OwnLog, part_now, all_of, in_log, IsAdded}

module _ {X : Type 0} (each : List Ballot → Event → Effect → Part → List X) where
  by_one_more : (b : List Ballot) (p : Part) (own : List (Event × Effect)) (e : Event) (done : Effect) →
      all_of each b p (own ++ (e, done) ∷ []) ≡ all_of each b p own ++ each b e done (local_part b p own)
  by_one_more b p [] e done = append-nil (each b e done p)
  by_one_more b p (q ∷ own) e done =
      ap (λ xs. each b q.0 q.1 p ++ xs) (by_one_more b (after_own b q.0 q.1 p) own e done)
      ∙ sym (append_assoc (each b q.0 q.1 p) (all_of each b (after_own b q.0 q.1 p) own) (each b e done (local_part b (after_own b q.0 q.1 p) own)))

  -- one event more adds what it comes to in the part before it
  pub log_more : (l l' : OwnLog) (e : Event) (done : Effect) → IsAdded l e done l' → in_log each l' ≡ in_log each l ++ each l.ballots e done (part_now l)
  log_more l l' e done added = ap (in_log each) added.log ∙ by_one_more l.ballots l.opening l.events e done

  pub nothing_more : (l l' : OwnLog) (e : Event) (done : Effect) → IsAdded l e done l' → each l.ballots e done (part_now l) ≡ [] → in_log each l' ≡ in_log each l
  nothing_more l l' e done added none = log_more l l' e done added ∙ ap (λ xs. in_log each l ++ xs) none ∙ append-nil (in_log each l)
