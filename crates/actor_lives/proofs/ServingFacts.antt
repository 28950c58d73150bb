-- What a client's session comes to, call by call.
use Rattle.std.proofs.Common.{◌≡◌, ◌⊎◌, inl, inr, ℕ, Bool, true, false, ◌||◌, ◌&&◌, not, List, [], Option, None, Some, Result, Ok, Err, refl, sym, ap, subst, ◌∙◌}
use Rattle.std.specs.Result.{OnOk, IfErr}
use Rattle.lock_model.specs.Ballots.{Ballot}
use Rattle.vote_weights.specs.Sets.{has_node}
use Rattle.client_core.specs.Clients.{phase_of}
use Rattle.client_core.specs.declared.phases.Phase.TheVariants as phase
use Rattle.event_recorders.specs.declared.faults.RunFault.{RunFault}
use Rattle.event_recorders.specs.declared.faults.RunFault.TheVariants as fault
use Rattle.actor_steps.specs.Sendings.{SentFollows}
use Rattle.actor_steps.proofs.SendingFacts.{follows_on, follows_none}
use Rattle.client_loop.specs.Endings.{EndsOneAttempt}
use Rattle.client_loop.specs.Nodes.{is_among}
use Rattle.client_loop.specs.Sendings.{SentUnlessMemory}
use Rattle.client_loop.specs.Visits.{Use}
use Rattle.client_loop.proofs.SentFacts.{unless_on, unless_none, none_left}
use Rattle.lock_session.specs.declared.faults.TryFault.{TryFault}
use Rattle.lock_session.specs.declared.faults.TryFault.TheVariants as trying
use Rattle.lock_session.specs.Sessions.{SessionValue, IsSameSession, IsResting, StandsAfter, Enters, TakesBack, EndsEntering, EndsTrying, Settles, Releases, HasReleasedAt, Softens, EndsSoftening, EndsGuard, FailsToSoften, GoesOut, UnlessOver, EndsLeaving, over_by}
use Rattle.actor_lives.specs.Serving.{GoesOn, RestsAgain, IsOverBy, EndsLife, AreOwing, OwesTo, HasAnswered}

-- one after the other

same_on : (a b c : SessionValue) → IsSameSession a b → IsSameSession b c → IsSameSession a c
same_on a b c first then = record { client = then.client ∙ first.client; ballots = then.ballots ∙ first.ballots; opening = then.opening ∙ first.opening }

same_none : (a b : SessionValue) → b ≡ a → IsSameSession a b
same_none a b same = record { client = ap (λ (v : SessionValue). v.client) same; ballots = ap (λ (v : SessionValue). v.ballots) same; opening = ap (λ (v : SessionValue). v.log.opening) same }

pub goes_none : (a : SessionValue) → GoesOn a a
goes_none a = record { same = same_none a a refl; sent = follows_none a.log a.log a.given refl }

pub goes_on : (a b c : SessionValue) → GoesOn a b → GoesOn b c → GoesOn a c
goes_on a b c first then = record { same = same_on a b c first.same then.same; sent = follows_on a.log b.log c.log a.given b.given c.given first.sent then.sent }

pub rests_none : (a : SessionValue) → IsResting a → RestsAgain a a
rests_none a rests = record { on = goes_none a; rests = rests }

pub rests_on : (a b c : SessionValue) → RestsAgain a b → RestsAgain b c → RestsAgain a c
rests_on a b c first then = record { on = goes_on a b c first.on then.on; rests = then.rests }

pub over_on : (f : RunFault) (a b c : SessionValue) → GoesOn a b → IsOverBy f b c → IsOverBy f a c
over_on f a b c first then = record { same = same_on a b c first.same then.same; sent = unless_on f a.log b.log c.log a.given b.given c.given first.sent then.sent; over = then.over }

pub over_again : (f : RunFault) (a b c : SessionValue) → RestsAgain a b → IsOverBy f b c → IsOverBy f a c
over_again f a b c first then = over_on f a b c first.on then

-- by how a call ends

pub rests_outside : (v : SessionValue) → IsResting v → phase_of v.core ≡ phase.Inside → ⊥
rests_outside v rests inside = let idle : phase_of v.core ≡ phase.Idle = rests.rests.idle in let clash : phase.Idle ≡ phase.Inside = sym idle ∙ inside in cc

is_over : (f : RunFault) (v : SessionValue) → over_by f ≡ Some f → StandsAfter f v → v.over ≡ Some f
is_over fault.TooFewNodes v ends stands = absurd (let clash : None ≡ Some fault.TooFewNodes = ends in cc)
is_over fault.GaveUp v ends stands = absurd (let clash : None ≡ Some fault.GaveUp = ends in cc)
is_over fault.NotReopened v ends stands = stands
is_over fault.Memory v ends stands = stands
is_over fault.Book v ends stands = stands
is_over fault.Spent v ends stands = stands

is_at_rest : (f : RunFault) (v : SessionValue) → EndsOneAttempt f → StandsAfter f v → IsResting v
is_at_rest f v (inl few) stands = subst (λ g. StandsAfter g v) few stands
is_at_rest f v (inr gave) stands = subst (λ g. StandsAfter g v) gave stands

no-memory : (f : RunFault) → EndsOneAttempt f → f ≡ fault.Memory → ⊥
no-memory f (inl few) memory = let clash : fault.TooFewNodes ≡ fault.Memory = sym few ∙ memory in cc
no-memory f (inr gave) memory = let clash : fault.GaveUp ≡ fault.Memory = sym gave ∙ memory in cc

-- a call that ends one attempt, and one that ends the session
ends_resting : (f : RunFault) (v v' : SessionValue) → EndsOneAttempt f → IsSameSession v v' → SentUnlessMemory f v.log v'.log v.given v'.given → StandsAfter f v' → RestsAgain v v'
ends_resting f v v' one same sent after = record {
  on = record { same = same; sent = none_left f v.log v'.log v.given v'.given (no-memory f one) sent };
  rests = is_at_rest f v' one after;
}

ends_over : (f : RunFault) (v v' : SessionValue) → over_by f ≡ Some f → IsSameSession v v' → SentUnlessMemory f v.log v'.log v.given v'.given → StandsAfter f v' → IsOverBy f v v'
ends_over f v v' over same sent after = record { same = same; sent = sent; over = is_over f v' over after }

pub enters_on : (u : Use) (nudges : ℕ) (v v' : SessionValue) → Enters u nudges v v' → GoesOn v v'
enters_on u nudges v v' h = record { same = h.attempts.same; sent = h.sent }

pub busy_rests : (u : Use) (nudges : ℕ) (v v' : SessionValue) → TakesBack u nudges v v' → RestsAgain v v'
busy_rests u nudges v v' h = record { on = record { same = h.attempts.same; sent = h.sent }; rests = h.rests }

pub entering_rests : {A : Type 0} (r : Result A RunFault) (u : Use) (nudges : ℕ) (f : RunFault) (v v' : SessionValue) → OnOk r (EndsOneAttempt f) → EndsEntering u nudges f v v' → OnOk r (RestsAgain v v')
entering_rests (Ok a) u nudges f v v' one h = ends_resting f v v' one h.attempts.same h.sent h.after
entering_rests (Err g) u nudges f v v' one h = one

pub entering_over : {A : Type 0} (r : Result A RunFault) (u : Use) (nudges : ℕ) (f : RunFault) (v v' : SessionValue) → IfErr r (λ g. (g ≡ f) × (over_by g ≡ Some g)) → EndsEntering u nudges f v v' → IfErr r (λ g. IsOverBy g v v')
entering_over (Ok a) u nudges f v v' over h = over
entering_over (Err g) u nudges f v v' over h =
    let at : EndsEntering u nudges g v v' = subst (λ (x : RunFault). EndsEntering u nudges x v v') (sym over.0) h in
    ends_over g v v' over.1 at.attempts.same at.sent at.after

-- releasing at nodes, all of which are expected again

pub expecting_rests : (v m : SessionValue) → m ≡ record v { gone = [] } → IsResting v → IsResting m
expecting_rests v m same rests = subst IsResting (sym same) (record { on = rests.on; settled = rests.settled; rests = rests.rests })

pub expecting_goes : (v m : SessionValue) → m ≡ record v { gone = [] } → GoesOn v m
expecting_goes v m same = subst (λ (x : SessionValue). GoesOn v x) (sym same) (record { same = record { client = refl; ballots = refl; opening = refl }; sent = follows_none v.log v.log v.given refl })

-- a release that was said ended by this fault, and what it came to
pub releasing_rests : {A : Type 0} (r : Result A RunFault) (f : RunFault) (v m v' : SessionValue) → m ≡ record v { gone = [] } → OnOk r (EndsOneAttempt f) → Releases m v' → SentUnlessMemory f m.log v'.log m.given v'.given → StandsAfter f v' → OnOk r (RestsAgain v v')
releasing_rests (Ok a) f v m v' same one h sent after = behind (ends_resting f m v' one h.same sent after)
  where
    behind : RestsAgain m v' → RestsAgain v v'
    behind then = record { on = goes_on v m v' (expecting_goes v m same) then.on; rests = then.rests }
releasing_rests (Err g) f v m v' same one h sent after = one

pub releasing_over : {A : Type 0} (r : Result A RunFault) (f : RunFault) (v m v' : SessionValue) → m ≡ record v { gone = [] } → IfErr r (λ g. (g ≡ f) × (over_by g ≡ Some g)) → Releases m v' → SentUnlessMemory f m.log v'.log m.given v'.given → StandsAfter f v' → IfErr r (λ g. IsOverBy g v v')
releasing_over (Ok a) f v m v' same over h sent after = over
releasing_over (Err g) f v m v' same over h sent after =
    over_on g v m v' (expecting_goes v m same)
    (ends_over g m v' over.1 h.same (subst (λ (x : RunFault). SentUnlessMemory x m.log v'.log m.given v'.given) (sym over.0) sent) (subst (λ (x : RunFault). StandsAfter x v') (sym over.0) after))

pub released_again : (nodes : List ℕ) (v m v' : SessionValue) → m ≡ record v { gone = [] } → Releases m v' → SentFollows m.log v'.log m.given v'.given → HasReleasedAt nodes m v' → RestsAgain v v'
released_again nodes v m v' same h sent at = record { on = goes_on v m v' (expecting_goes v m same) (record { same = h.same; sent = sent }); rests = at.rests }

-- softening

pub softens_on : (v v' : SessionValue) → Softens v v' → GoesOn v v'
softens_on v v' h = record { same = h.same; sent = h.sent }

pub softening_over : (f : RunFault) (v v' : SessionValue) → EndsSoftening f v v' → IsOverBy f v v'
softening_over f v v' ends = by v.over refl ends
  where
    by : (over : Option RunFault) → v.over ≡ over → UnlessOver over f (v' ≡ v) (FailsToSoften f v v') → IsOverBy f v v'
    by (Some g) is (same, still) = record {
      same = same_none v v' still;
      sent = unless_none f v.log v'.log v.given v'.given (ap (λ (x : SessionValue). Rattle.actor_steps.specs.Sendings.sent_of x.log) still) (ap (λ (x : SessionValue). x.given) still);
      over = ap (λ (x : SessionValue). x.over) still ∙ is ∙ ap Some (sym same);
    }
    by None is h = record { same = h.same; sent = h.sent; over = h.over }

pub softening_ended : (f : RunFault) (v m v' : SessionValue) → GoesOn v m → EndsSoftening f m v' → IsOverBy f v v'
softening_ended f v m v' on ends = over_on f v m v' on (softening_over f m v' ends)

pub softened_on : (v m v' : SessionValue) → GoesOn v m → Softens m v' → GoesOn v v'
softened_on v m v' on h = goes_on v m v' on (softens_on m v' h)

-- Leaving, behind what came of the client while it was inside.

-- the session went on, or is over
abbrev pub Stayed : Result Bool RunFault → SessionValue → SessionValue → Type 0
Stayed (Ok left) v m = GoesOn v m
Stayed (Err f) v m = IsOverBy f v m

pub has_stayed : (s : Result Bool RunFault) (v m : SessionValue) → OnOk s (GoesOn v m) → IfErr s (λ f. IsOverBy f v m) → Stayed s v m
has_stayed (Ok left) v m on over = on
has_stayed (Err f) v m on over = over

some-none : (f : RunFault) → Some f ≡ None → ⊥
some-none f clash = cc

pub left_well : (s : Result Bool RunFault) (v m v' : SessionValue) → Stayed s v m → m.over ≡ None → Settles m v' → SentFollows m.log v'.log m.given v'.given → IsResting v' → RestsAgain v v'
left_well (Ok left) v m v' on free h sent rests = record { on = goes_on v m v' on (record { same = h.same; sent = sent }); rests = rests }
left_well (Err f) v m v' over free h sent rests = absurd (some-none f (sym over.over ∙ free))

-- leaving a session that was over before does nothing
over_stays : (f g : RunFault) (v m v' : SessionValue) → IsOverBy g v m → EndsGuard f m v' → (f ≡ g) × GoesOut m v'
over_stays f g v m v' was ends = subst (λ (o : Option RunFault). UnlessOver o f (GoesOut m v') (EndsLeaving f v')) was.over ends

pub left_late : (f : RunFault) (s : Result Bool RunFault) (v m v' : SessionValue) → EndsOneAttempt f → Stayed s v m → Settles m v' → SentUnlessMemory f m.log v'.log m.given v'.given → StandsAfter f v' → EndsGuard f m v' → RestsAgain v v'
left_late f (Ok left) v m v' one on h sent after ends = rests_behind (ends_resting f m v' one h.same sent after)
  where
    rests_behind : RestsAgain m v' → RestsAgain v v'
    rests_behind then = record { on = goes_on v m v' on then.on; rests = then.rests }
left_late f (Err g) v m v' one was h sent after ends =
    let out = (over_stays f g v m v' was ends).1 in
    let over : v'.over ≡ Some g = ap (λ (x : SessionValue). x.over) out.others ∙ was.over in
    absurd (some-none g (sym over ∙ (is_at_rest f v' one after).on))

pub left_over : (f k : RunFault) (s : Result Bool RunFault) (v m v' : SessionValue) → (k ≡ f) × (over_by k ≡ Some k) → Stayed s v m → Settles m v' → SentUnlessMemory f m.log v'.log m.given v'.given → StandsAfter f v' → EndsGuard f m v' → IsOverBy k v v'
left_over f k (Ok left) v m v' over on h sent after ends =
    over_on k v m v' on (ends_over k m v' over.1 h.same (subst (λ (x : RunFault). SentUnlessMemory x m.log v'.log m.given v'.given) (sym over.0) sent) (subst (λ (x : RunFault). StandsAfter x v') (sym over.0) after))
left_over f k (Err g) v m v' over was h sent after ends =
    let both = over_stays f g v m v' was ends in
    let same : v'.log ≡ m.log = ap (λ (x : SessionValue). x.log) both.1.others in
    let given : v'.given ≡ m.given = ap (λ (x : SessionValue). x.given) both.1.others in
    let is : g ≡ k = sym both.0 ∙ sym over.0 in
    record {
      same = same_on v m v' was.same h.same;
      sent = subst (λ (x : RunFault). SentUnlessMemory x v.log v'.log v.given v'.given) is (subst (λ y. SentUnlessMemory g v.log v'.log v.given y) (sym given) (subst (λ y. SentUnlessMemory g v.log y v.given m.given) (sym same) was.sent));
      over = ap (λ (x : SessionValue). x.over) both.1.others ∙ was.over ∙ ap Some is;
    }

-- An attempt that entered, stayed and left, by its own result.
pub inside_rests : {A B : Type 0} (s : Result Bool RunFault) (left : Result A RunFault) (r : Result B RunFault) (u : Use) (nudges : ℕ) (o v m v' : SessionValue) → Enters u nudges o v → OnOk s (GoesOn v m) → IfErr s (λ f. IsOverBy f v m) → Settles m v' →
    OnOk left (SentFollows m.log v'.log m.given v'.given) → IfErr left (λ f. SentUnlessMemory f m.log v'.log m.given v'.given) → OnOk left (IsResting v') → IfErr left (λ f. StandsAfter f v') → OnOk left (m.over ≡ None) → IfErr left (λ f. EndsGuard f m v') →
    OnOk r (IfErr left EndsOneAttempt) → OnOk r (RestsAgain o v')
inside_rests s left (Err g) u nudges o v m v' enters on over h sent unless rests after free ends one = one
inside_rests s (Ok a) (Ok b) u nudges o v m v' enters on over h sent unless rests after free ends one = behind (left_well s v m v' (has_stayed s v m on over) free h sent rests)
  where
    behind : RestsAgain v v' → RestsAgain o v'
    behind then = record { on = goes_on o v v' (enters_on u nudges o v enters) then.on; rests = then.rests }
inside_rests s (Err f) (Ok b) u nudges o v m v' enters on over h sent unless rests after free ends one = behind (left_late f s v m v' one (has_stayed s v m on over) h unless after ends)
  where
    behind : RestsAgain v v' → RestsAgain o v'
    behind then = record { on = goes_on o v v' (enters_on u nudges o v enters) then.on; rests = then.rests }

pub inside_over : {A B : Type 0} (s : Result Bool RunFault) (left : Result A RunFault) (r : Result B RunFault) (u : Use) (nudges : ℕ) (o v m v' : SessionValue) → Enters u nudges o v → OnOk s (GoesOn v m) → IfErr s (λ f. IsOverBy f v m) → Settles m v' →
    IfErr left (λ f. SentUnlessMemory f m.log v'.log m.given v'.given) → IfErr left (λ f. StandsAfter f v') → IfErr left (λ f. EndsGuard f m v') →
    IfErr r (λ g. EndsLife left g) → IfErr r (λ g. IsOverBy g o v')
inside_over s left (Ok b) u nudges o v m v' enters on over h unless after ends life = life
inside_over s (Ok a) (Err g) u nudges o v m v' enters on over h unless after ends life = absurd life
inside_over s (Err f) (Err g) u nudges o v m v' enters on over h unless after ends life = over_on g o v v' (enters_on u nudges o v enters) (left_over f g s v m v' life (has_stayed s v m on over) h unless after ends)

-- The nodes that have to answer.

pub owing_to : (v : SessionValue) (before owing : List ℕ) → AreOwing v.ballots before v.asked v.released owing → OwesTo v owing
owing_to v before owing are = record { each = λ n among asked silent. are.each n among ∙ owes (has_node before n) (has_node v.asked n) (has_node v.released n) asked silent }
  where
    owes : (was is has : Bool) → is ≡ true → has ≡ false → ((was || is) && not has) ≡ true
    owes true is true asked silent = cc
    owes true is false asked silent = refl
    owes false true true asked silent = cc
    owes false true false asked silent = refl
    owes false false has asked silent = cc

pub all_owe : (v : SessionValue) (b : List Ballot) (all : List ℕ) → b ≡ v.ballots → ((n : ℕ) → is_among b n ≡ true → has_node all n ≡ true) → OwesTo v all
all_owe v b all same has = record { each = λ n among asked silent. has n (subst (λ (x : List Ballot). is_among x n ≡ true) (sym same) among) }

pub none_owe : (v : SessionValue) (b : List Ballot) (owing : List ℕ) → b ≡ v.ballots → ((n : ℕ) → is_among b n ≡ true → has_node owing n ≡ false) → OwesTo v owing → HasAnswered v
none_owe v b owing same none owe = record {
  each = λ n among asked silent. absurd (let clash : true ≡ false = sym (owe.each n among asked silent) ∙ none n (subst (λ (x : List Ballot). is_among x n ≡ true) (sym same) among) in cc);
}
