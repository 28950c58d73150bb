-- How the calls of a session end by a fault.
use Rattle.std.proofs.Common.{◌≡◌, ◌⊎◌, inl, inr, ℕ, Bool, true, false, List, Option, None, Some, Result, Ok, Err, refl, sym, ap, subst, ◌∙◌}
use Rattle.std.specs.Result.{OnOk}
use Rattle.client_core.specs.declared.phases.Phase.TheVariants as phase
use Rattle.client_core.specs.Clients.{Client, phase_of}
use Rattle.event_recorders.specs.declared.faults.RunFault.{RunFault}
use Rattle.event_recorders.specs.declared.faults.RunFault.TheVariants as fault
use Rattle.event_recorders.specs.OwnLogs.{OwnLog, part_now}
use Rattle.actor_steps.specs.Endings.{falls_of}
use Rattle.actor_steps.proofs.SendingFacts.{follows_on}
use Rattle.client_loop.specs.Endings.{ClientEndsFrom, EndsAsking, IsOutside, IsPostFault}
use Rattle.client_loop.specs.Standing.{Stands}
use Rattle.client_loop.specs.Visits.{Visits, BeginsMore}
use Rattle.client_loop.proofs.EndFacts.{asking_ends, is_outside}
use Rattle.client_loop.proofs.SentFacts.{unless_none, unless_on}
use Rattle.lock_session.specs.Sessions.{SessionValue, UnlessOver, EndsLeaving, EndsBy, GivesUpAtLast, EndsSettling, EndsGuard, EndsSoftening, FailsToSoften, GoesOn, GoesOut, Settles, Releases, HasNothingLeft, HasReleasedAt, IsResting, StandsAfter, over_by}
use Rattle.lock_session.specs.Outcomes.{Sends, SendsUnlessMemory, Saying, HasReleasedLast}

pub over_before : (over : Option RunFault) (f : RunFault) (Still Ended : Type 0) → over ≡ Some f → Still → UnlessOver over f Still Ended
over_before over f Still Ended is still = subst (λ (o : Option RunFault). UnlessOver o f Still Ended) (sym is) (refl, still)

pub not_over : (over : Option RunFault) (f : RunFault) (Still Ended : Type 0) → over ≡ None → Ended → UnlessOver over f Still Ended
not_over over f Still Ended on ended = subst (λ (o : Option RunFault). UnlessOver o f Still Ended) (sym on) ended

pub how_ended : (over : Option RunFault) (f : RunFault) (Still Ended : Type 0) → over ≡ None → UnlessOver over f Still Ended → Ended
how_ended over f Still Ended on ended = subst (λ (o : Option RunFault). UnlessOver o f Still Ended) on ended

weaker : (over : Option RunFault) (f : RunFault) (Still Still' Ended Ended' : Type 0) → (Still → Still') → (Ended → Ended') → UnlessOver over f Still Ended → UnlessOver over f Still' Ended'
weaker (Some g) f Still Still' Ended Ended' one other ends = (ends.0, one ends.1)
weaker None f Still Still' Ended Ended' one other ends = other ends

-- a core that has left is of a session that is over as before
over_still : (v v' : SessionValue) → GoesOut v v' → v'.over ≡ v.over
over_still v v' out = ap (λ (x : SessionValue). x.over) out.others

-- the record of a session that goes on isn't stuck
pub goes_free : (over : Option RunFault) (left : Bool) (l : OwnLog) (finds : List (List ℕ)) (stuck : Bool) (core : Client) → over ≡ None → GoesOn over left l finds stuck core → stuck ≡ false
goes_free (Some f) left l finds stuck core on h = absurd (let clash : Some f ≡ None = on in cc)
goes_free None true l finds stuck core on h = h.free
goes_free None false l finds stuck core on h = h.free

pub leaving_ends : (f : RunFault) (v v' : SessionValue) → v.over ≡ None → IsPostFault f → EndsAsking f v'.log → GivesUpAtLast f v' → v'.stuck ≡ false → EndsSettling f v v'
leaving_ends f v v' on is ends last free = not_over v.over f (v' ≡ v) (EndsLeaving f v') on (record { which = is; log = ends; last = last; free = free })

pub softening_ends : (f : RunFault) (v v' : SessionValue) → v.over ≡ None → FailsToSoften f v v' → EndsSoftening f v v'
softening_ends f v v' on fails = not_over v.over f (v' ≡ v) (FailsToSoften f v v') on fails

-- how entering ends, by what a log and a record have before and behind it
abbrev pub Entering : RunFault → ℕ → ℕ → SessionValue → Type 0
Entering f falls failures v' = GivesUpAtLast f v' × ClientEndsFrom f falls v'.log v'.stuck v'.spent failures v'.failures

pub entering_ends : (f : RunFault) (v v' : SessionValue) → v.over ≡ None → ClientEndsFrom f (falls_of v.log) v'.log v'.stuck v'.spent v.failures v'.failures → GivesUpAtLast f v' → EndsBy f v v'
entering_ends f v v' on ends last = not_over v.over f (v' ≡ v) (Entering f (falls_of v.log) v.failures v') on (last, ends)

settles_out : (f : RunFault) (v m v' : SessionValue) → v.over ≡ None → GoesOut v m → EndsSettling f m v' → EndsSettling f v v'
settles_out f v m v' on out ends = not_over v.over f (v' ≡ v) (EndsLeaving f v') on (how_ended m.over f (v' ≡ m) (EndsLeaving f v') (over_still v m out ∙ on) ends)

pub leaves_by : (f : RunFault) (v m v' : SessionValue) → GoesOut v m → EndsSettling f m v' → EndsGuard f v v'
leaves_by f v m v' out ends =
    subst (λ (o : Option RunFault). UnlessOver o f (GoesOut v v') (EndsLeaving f v')) (over_still v m out)
    (weaker m.over f (v' ≡ m) (GoesOut v v') (EndsLeaving f v') (EndsLeaving f v') (λ same. subst (λ (x : SessionValue). GoesOut v x) (sym same) out) (λ how. how) ends)

pub settling_ends : (f : RunFault) (v v' : SessionValue) → EndsSettling f v v' → EndsBy f v v'
settling_ends f v v' ends = weaker v.over f (v' ≡ v) (v' ≡ v) (EndsLeaving f v') (Entering f (falls_of v.log) v.failures v') (λ same. same) (λ how. (how.last, asking_ends f (falls_of v.log) v'.log v'.stuck v'.spent v.failures v'.failures how.log how.free)) ends

-- entering ended behind a settling that went well
pub ends_later : (f : RunFault) (v m v' : SessionValue) → v.over ≡ None → m.over ≡ None → falls_of m.log ≡ falls_of v.log → m.failures ≡ v.failures → EndsBy f m v' → EndsBy f v v'
ends_later f v m v' on still falls failures ends =
    not_over v.over f (v' ≡ v) (Entering f (falls_of v.log) v.failures v') on
    (subst (λ (n : ℕ). Entering f (falls_of v.log) n v') failures
    (subst (λ (n : ℕ). Entering f n m.failures v') falls
    (how_ended m.over f (v' ≡ m) (Entering f (falls_of m.log) m.failures v') still ends)))

-- a session with nothing left to say once its core has left had nothing left before
pub nothing_left : (v m : SessionValue) → GoesOut v m → m.left ≡ false → (v.left ≡ true) ⊎ (phase_of v.core ≡ phase.Inside) → ⊥
nothing_left v m out settled had = not_inside had
  where
    outside : phase_of v.core ≡ phase.Inside → ⊥
    outside inside = let yes = (out.left inside).1 in cc

    not_inside : (v.left ≡ true) ⊎ (phase_of v.core ≡ phase.Inside) → ⊥
    not_inside (inl was) = let same = ap (λ (x : SessionValue). x.left) (out.kept outside) in cc
    not_inside (inr inside) = outside inside

pub more_since : (a b c : Visits) → b ≡ a → BeginsMore b c → BeginsMore a c
more_since a b c same more = subst (λ (v : Visits). BeginsMore v c) same more

-- saying a release again ended by this fault, in a session that rested
pub releasing_ends : (f : RunFault) (v v' : SessionValue) (core : Client) → v.over ≡ None → IsPostFault f → Stands v'.log v'.finds core → phase_of core ≡ phase.Idle → GivesUpAtLast f v' → v'.stuck ≡ false → EndsSettling f v v'
releasing_ends f v v' core on is stands idle last free = leaving_ends f v v' on is (asks f is (is_outside _ _ _ stands idle)) last free
  where
    asks : (f : RunFault) → IsPostFault f → IsOutside (part_now v'.log) → EndsAsking f v'.log
    asks f (inl gave) outside = inr (inr gave, outside)
    asks f (inr book) outside = inl book

-- saying it ended so after a settling that went well
settling_then : (f : RunFault) (v m v' : SessionValue) → v.over ≡ None → m.over ≡ None → EndsSettling f m v' → EndsSettling f v v'
settling_then f v m v' on still ends = not_over v.over f (v' ≡ v) (EndsLeaving f v') on (how_ended m.over f (v' ≡ m) (EndsLeaving f v') still ends)

-- what a session released after it settled
pub releases_then : (v m v' : SessionValue) → Settles v m → Releases m v' → Releases v v'
releases_then v m v' first then = record {
  same = record { client = then.same.client ∙ first.same.client; ballots = then.same.ballots ∙ first.same.ballots; opening = then.same.opening ∙ first.same.opening };
  visits = then.visits ∙ first.visits;
  falls = then.falls ∙ first.falls;
  failures = then.failures ∙ first.failures;
}

-- what was asked behind a settling, of the attempt that the session had if it had nothing left to say
asked_at : (Quiet : Type 0) (nodes : List ℕ) (v m v' : SessionValue) → (HasNothingLeft v → Quiet × (m ≡ v)) → HasReleasedLast nodes m v' → IsResting v' → HasReleasedAt nodes v v'
asked_at Quiet nodes v m v' nothing last rests = record {
  attempt = m.core.attempt;
  asked = last.asked;
  same = λ quiet. ap (λ (x : SessionValue). x.core.attempt) (nothing quiet).1;
  released = last.released;
  rests = rests;
}

pub released_at : (r : Result (Unit {0}) RunFault) (Quiet : Type 0) (nodes : List ℕ) (v m v' : SessionValue) → (HasNothingLeft v → Quiet × (m ≡ v)) → OnOk r (HasReleasedLast nodes m v') → Saying r m v' → OnOk r (HasReleasedAt nodes v v')
released_at (Ok done) Quiet nodes v m v' nothing last says = asked_at Quiet nodes v m v' nothing last says.rests
released_at (Err f) Quiet nodes v m v' nothing last says = tt

-- what saying releases came to

-- the session was over before, by this fault
stands_over : (f : RunFault) (v : SessionValue) → v.over ≡ Some f → over_by f ≡ Some f → StandsAfter f v
stands_over fault.TooFewNodes v is ends = absurd (let clash : None ≡ Some fault.TooFewNodes = ends in cc)
stands_over fault.GaveUp v is ends = absurd (let clash : None ≡ Some fault.GaveUp = ends in cc)
stands_over fault.NotReopened v is ends = is
stands_over fault.Memory v is ends = is
stands_over fault.Book v is ends = is
stands_over fault.Spent v is ends = is

pub says_over : (f : RunFault) (v : SessionValue) → v.over ≡ Some f → GoesOn v.over v.left v.log v.finds v.stuck v.core → Saying (Err f) v v
says_over f v is goes = record {
  sent = tt;
  rests = tt;
  faulted = unless_none f v.log v.log v.given v.given refl refl;
  after = stands_over f v is (subst (λ (o : Option RunFault). GoesOn o v.left v.log v.finds v.stuck v.core) is goes);
  ended = over_before v.over f (v ≡ v) (EndsLeaving f v) is refl;
}

-- the core had left before
pub says_out : (r : Result (Unit {0}) RunFault) (v m v' : SessionValue) → v.over ≡ None → GoesOut v m → Saying r m v' → Saying r v v'
says_out (Ok done) v m v' on out says = record { sent = subst (λ (x : SessionValue). Sends x v') out.others says.sent; rests = says.rests; faulted = tt; after = tt; ended = tt }
says_out (Err f) v m v' on out says = record {
  sent = tt;
  rests = tt;
  faulted = subst (λ (x : SessionValue). SendsUnlessMemory f x v') out.others says.faulted;
  after = says.after;
  ended = settles_out f v m v' on out says.ended;
}

-- the session had settled before
pub says_then : (r : Result (Unit {0}) RunFault) (v m v' : SessionValue) → v.over ≡ None → m.over ≡ None → Sends v m → Saying r m v' → Saying r v v'
says_then (Ok done) v m v' on still sends says = record { sent = follows_on v.log m.log v'.log v.given m.given v'.given sends says.sent; rests = says.rests; faulted = tt; after = tt; ended = tt }
says_then (Err f) v m v' on still sends says = record {
  sent = tt;
  rests = tt;
  faulted = unless_on f v.log m.log v'.log v.given m.given v'.given sends says.faulted;
  after = says.after;
  ended = settling_then f v m v' on still says.ended;
}
