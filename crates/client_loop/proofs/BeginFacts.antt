-- What a client's log has begun.
use Rattle.std.proofs.Common.{◌≡◌, inl, inr, ℕ, zero, suc, ◌<◌, ◌+◌, get_or, List, [], ◌∷◌, ◌++◌, length, map, replicate, refl, sym, ap, subst, ◌∙◌, arith, append_assoc, append-nil}
use Rattle.std.proofs.lemmas.List.{length-append}
use Rattle.std.proofs.lemmas.List.Elements.{All-nil, All-same, All-append, All-replicate}
use Rattle.lock_messages.specs.declared.ids.Actor.{Actor}
use Rattle.lock_model.specs.Ballots.{Ballot, HasPlace}
use Rattle.lock_model.specs.Decisions.{Among}
use Rattle.client_core.specs.Clients.{Client}
use Rattle.world_model.specs.declared.events.Effect.{Effect}
use Rattle.world_model.specs.declared.events.Event.{Event}
use Rattle.world_model.specs.declared.events.Event.TheVariants as event
use Rattle.event_lines.specs.declared.wishes.Wish.{Wish}
use Rattle.event_recorders.specs.OwnLogs.{OwnLog}
use Rattle.client_loop.specs.Standing.{Stands, IsSameClient}
use Rattle.client_loop.specs.Visits.{Use, Visits, AreWished, BeginsOnly, BeginsNothing, BeginsMore, HasBegun, ArePlaced, use_of, visits_after, visits_from, visits_of, visits_entering, visits_softening, visits_beginning}

pub begins_none : (u : Use) (a b : Visits) → b ≡ a → BeginsOnly u a b
begins_none u a b same = rw same (record { whose = refl; ballots = refl; opening = refl; times = 0; only = sym (append-nil a.begins) })

pub begins_one : (u : Use) (a b : Visits) → b ≡ visits_beginning u a → BeginsOnly u a b
begins_one u a b more = rw more (record { whose = refl; ballots = refl; opening = refl; times = 1; only = refl })

pub more_one : (u : Use) (a b : Visits) → b ≡ visits_beginning u a → BeginsMore a b
more_one u a b more =
    let longer : length b.begins ≡ length a.begins + 1 = ap (λ (v : Visits). length v.begins) more ∙ length-append a.begins (u ∷ []) in
    record { more = omega (arith, longer) }

-- this use alone, then more, and then the same
pub more_between : (u : Use) (a b c d : Visits) → BeginsOnly u a b → BeginsMore b c → d ≡ c → BeginsMore a d
more_between u a b c d before h same =
    let longer : length b.begins ≡ length a.begins + length (replicate before.times u) = ap (λ (us : List Use). length us) before.only ∙ length-append a.begins (replicate before.times u) in
    let still : length d.begins ≡ length c.begins = ap (λ (v : Visits). length v.begins) same in
    let more = h.more in
    record { more = omega (arith, longer, more, still) }

pub more_then_none : (a b c : Visits) → BeginsMore a b → BeginsNothing b c → BeginsMore a c
more_then_none a b c h then =
    let still : length c.begins ≡ length b.begins = ap (λ (us : List Use). length us) then.none in
    let more = h.more in
    record { more = omega (arith, more, still) }

times_both : (m n : ℕ) (u : Use) → replicate m u ++ replicate n u ≡ replicate (m + n) u
times_both zero n u = let sum : n ≡ zero + n = omega arith in ap (λ (k : ℕ). replicate k u) sum
times_both (suc m) n u = let sum : suc (m + n) ≡ suc m + n = omega arith in ap (λ (us : List Use). u ∷ us) (times_both m n u) ∙ ap (λ (k : ℕ). replicate k u) sum

pub begins_on : (u : Use) (a b c : Visits) → BeginsOnly u a b → BeginsOnly u b c → BeginsOnly u a c
begins_on u a b c first second = record {
  whose = second.whose ∙ first.whose;
  ballots = second.ballots ∙ first.ballots;
  opening = second.opening ∙ first.opening;
  times = first.times + second.times;
  only =
      second.only ∙ ap (λ (us : List Use). us ++ replicate second.times u) first.only ∙ append_assoc a.begins (replicate first.times u) (replicate second.times u)
      ∙ ap (λ (us : List Use). a.begins ++ us) (times_both first.times second.times u);
}

-- one use, and then nothing
pub begins_still : (u : Use) (a b c : Visits) → BeginsOnly u a b → c ≡ b → BeginsOnly u a c
begins_still u a b c first same = begins_on u a b c first (begins_none u b c same)

pub begins_no_more : (u : Use) (a b c : Visits) → BeginsOnly u a b → BeginsNothing b c → BeginsOnly u a c
begins_no_more u a b c first then = record { whose = then.whose ∙ first.whose; ballots = then.ballots ∙ first.ballots; opening = then.opening ∙ first.opening; times = first.times; only = then.none ∙ first.only }

pub nothing_begun : (a b : Visits) → b ≡ a → BeginsNothing a b
nothing_begun a b same = rw same (record { whose = refl; ballots = refl; opening = refl; none = refl })

pub entering_begins : (a b : Visits) → b ≡ visits_entering a → BeginsNothing a b
entering_begins a b more = rw more (record { whose = refl; ballots = refl; opening = refl; none = refl })

-- Whose the visits of a log are, its ballots, and the part in which it was opened, stay.
abbrev origin : Visits → OwnLog
origin v = record { actor = v.whose; ballots = v.ballots; opening = v.opening; events = [] }

origin_after : (v : Visits) (e : Event) → origin (visits_after v e) ≡ origin v
origin_after v (event.Begin c m x place) = refl
origin_after v (event.Enter c) = refl
origin_after v (event.Try who) = refl
origin_after v (event.Kept who) = refl
origin_after v (event.SayTo c n) = refl
origin_after v (event.Say n) = refl
origin_after v (event.Take n k) = refl
origin_after v (event.Hear c k) = refl
origin_after v (event.Leave c) = refl
origin_after v (event.Soften c) = refl
origin_after v (event.Fall who) = refl
origin_after v (event.Rise who age) = refl
origin_after v (event.Switch n p) = refl

origin_from : (v : Visits) (events : List (Event × Effect)) → origin (visits_from v events) ≡ origin v
origin_from v [] = refl
origin_from v (p ∷ events) = origin_from (visits_after v p.0) events ∙ origin_after v p.0

origin_of : (l : OwnLog) → origin (visits_of l) ≡ record l { events = [] }
origin_of l = origin_from _ l.events

whose_of : (l : OwnLog) → (visits_of l).whose ≡ l.actor
whose_of l = ap (λ (x : OwnLog). x.actor) (origin_of l)

pub ballots_of : (l : OwnLog) → (visits_of l).ballots ≡ l.ballots
ballots_of l = ap (λ (x : OwnLog). x.ballots) (origin_of l)

opening_of : (l : OwnLog) → (visits_of l).opening ≡ l.opening
opening_of l = ap (λ (x : OwnLog). x.opening) (origin_of l)

pub same_ballots : (l l' : OwnLog) → (visits_of l').ballots ≡ (visits_of l).ballots → l'.ballots ≡ l.ballots
same_ballots l l' same = sym (ballots_of l') ∙ same ∙ ballots_of l

-- so a place that they had is there still
pub placed_on : (u : Use) (place : ℕ) (l l' : OwnLog) → BeginsOnly u (visits_of l) (visits_of l') → HasPlace l.ballots place → HasPlace l'.ballots place
placed_on u place l l' only placed = subst (λ (b : List Ballot). HasPlace b place) (sym (same_ballots l l' only.ballots)) placed

-- and the client's core has it
pub placed_in : (place : ℕ) (l l' : OwnLog) (finds : List (List ℕ)) (core : Client) → visits_of l' ≡ visits_of l → Stands l' finds core → HasPlace l.ballots place → HasPlace core.ballots place
placed_in place l l' finds core same stands placed =
    subst (λ (b : List Ballot). HasPlace b place) (sym (same_ballots l l' (ap (λ (v : Visits). v.ballots) same)) ∙ stands.ballots) placed

pub placed_since : (ballots : List Ballot) (l l' : OwnLog) (wishes : List Wish) → (visits_of l').ballots ≡ l.ballots → l.ballots ≡ ballots → ArePlaced ballots wishes → ArePlaced l'.ballots wishes
placed_since ballots l l' wishes same is placed = subst (λ (b : List Ballot). ArePlaced b wishes) (sym (sym (ballots_of l') ∙ same ∙ is)) placed

pub wish_placed : (ballots now : List Ballot) (wishes : List Wish) (i : ℕ) (w other : Wish) → i < length wishes → w ≡ get_or wishes i other → ArePlaced ballots wishes → now ≡ ballots → HasPlace now w.place
wish_placed ballots now wishes i w other few at placed same =
    subst (λ (b : List Ballot). HasPlace b w.place) (sym same) (subst (λ (v : Wish). HasPlace ballots v.place) (sym at) (placed i other few))

-- nothing was begun yet
pub none_begun : (who : Actor) (wishes : List Wish) (l : OwnLog) → (visits_of l).whose ≡ who → (visits_of l).begins ≡ [] → HasBegun who wishes l
none_begun who wishes l is none = record {
  whose = sym (whose_of l) ∙ is;
  each = subst (λ (us : List Use). AreWished (map (λ w. use_of w) wishes) us) (sym none) (All-nil (λ (x : Use). Among x (map (λ w. use_of w) wishes)));
}

-- what a wish of the list wishes is wished
is_wished : (wishes : List Wish) (i : ℕ) (w other : Wish) → i < length wishes → w ≡ get_or wishes i other → Among (use_of w) (map (λ (x : Wish). use_of x) wishes)
is_wished [] i w other few at = absurd (omega (arith, few))
is_wished (x ∷ xs) zero w other few at = inl (ap (λ (v : Wish). use_of v) at)
is_wished (x ∷ xs) (suc i) w other few at = inr (is_wished xs i w other (omega (arith, few)) at)

-- the same of a log that goes on from one of the same actor
pub begun_since : (who : Actor) (wishes : List Wish) (l l' : OwnLog) → (visits_of l).whose ≡ who → HasBegun l.actor wishes l' → HasBegun who wishes l'
begun_since who wishes l l' is begun = record { whose = begun.whose ∙ sym (whose_of l) ∙ is; each = begun.each }

pub wish_begun : (who : Actor) (wishes : List Wish) (i : ℕ) (w other : Wish) (l l' : OwnLog) → i < length wishes → w ≡ get_or wishes i other → BeginsOnly (use_of w) (visits_of l) (visits_of l') → HasBegun who wishes l → HasBegun who wishes l'
wish_begun who wishes i w other l l' few at only before = record {
  whose = sym (whose_of l') ∙ only.whose ∙ whose_of l ∙ before.whose;
  each =
      let P : Use → Type 0 = λ (u : Use). Among u (map (λ (x : Wish). use_of x) wishes) in
      All-same P _ _ only.only (All-append P (visits_of l).begins (replicate only.times (use_of w)) before.each (All-replicate P only.times (use_of w) (is_wished wishes i w other few at)));
}

-- nothing, and then an Enter
pub nothing_after : (a b c : Visits) → BeginsNothing b c → b ≡ a → BeginsNothing a c
nothing_after a b c then same = rw same at then

-- so the client is the same
same_client : (l l' : OwnLog) → (visits_of l').whose ≡ (visits_of l).whose → (visits_of l').ballots ≡ (visits_of l).ballots → (visits_of l').opening ≡ (visits_of l).opening → IsSameClient l l'
same_client l l' whose ballots opening = record {
  actor = sym (whose_of l') ∙ whose ∙ whose_of l;
  ballots = same_ballots l l' ballots;
  opening = sym (opening_of l') ∙ opening ∙ opening_of l;
}

pub beginning_client : (u : Use) (l l' : OwnLog) → BeginsOnly u (visits_of l) (visits_of l') → IsSameClient l l'
beginning_client u l l' only = same_client l l' only.whose only.ballots only.opening

pub still_client : (l l' : OwnLog) → visits_of l' ≡ visits_of l → IsSameClient l l'
still_client l l' same = same_client l l' (ap (λ (v : Visits). v.whose) same) (ap (λ (v : Visits). v.ballots) same) (ap (λ (v : Visits). v.opening) same)

pub softening_client : (l l' : OwnLog) → visits_of l' ≡ visits_softening (visits_of l) → IsSameClient l l'
softening_client l l' more = same_client l l' (ap (λ (v : Visits). v.whose) more) (ap (λ (v : Visits). v.ballots) more) (ap (λ (v : Visits). v.opening) more)

pub risen_client : (l l' : OwnLog) → (visits_of l').whose ≡ l.actor → (visits_of l').ballots ≡ l.ballots → (visits_of l').opening ≡ l.opening → IsSameClient l l'
risen_client l l' whose ballots opening = record { actor = sym (whose_of l') ∙ whose; ballots = sym (ballots_of l') ∙ ballots; opening = sym (opening_of l') ∙ opening }
