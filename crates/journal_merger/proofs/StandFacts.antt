-- Journals that are being merged: where the merge stands.
use Rattle.std.proofs.Common.{◌≡◌, ◌==◌, ℕ, zero, suc, ◌+◌, ◌<◌, arith, Bool, true, false, cond, List, [], ◌∷◌, ◌++◌, length, map, Option, Some, None, refl, sym, ◌∙◌, ap, subst, inl, inr}
use Rattle.std.specs.Prelude.{slice_get}
use Rattle.std.proofs.lemmas.List.{append-nil}
use Rattle.std.proofs.lemmas.Bool.{eqb-true, eq-eqb}
use Rattle.std.proofs.lemmas.Option.{slice_get_within}
use Rattle.lock_messages.specs.declared.ids.Actor.{Actor}
use Rattle.world_model.specs.declared.exact.ExactWorld.{ExactWorld}
use Rattle.world_model.specs.Locality.{IsHistory, own_events}
use Rattle.world_model.specs.Parts.{place, part}
use Rattle.world_model.proofs.LocalityFacts.{places-apart}
use Rattle.merge_model.proofs.OwnRunFacts.{Pair}
use Rattle.own_journals.specs.declared.lines.OwnLine.{OwnLine}
use Rattle.journal_merge.specs.LineMerges.{TellsLine, TellsLines, Journals, HasMerge, IsCut, IsRefused, IsWaiting}
use Rattle.journal_merge.specs.Laws.{MergedHaveMerge, RefusedHaveNoMerge, WaitingHaveNoMerge}
use Rattle.journal_merge.proofs.MergingFacts.{history-joined, cut-more, cut-same}
use Rattle.journal_merger.specs.Pendings.{Pending, IsLeft, AreLeft, AreApart, IsRead, lines_of, said_next, told_by, told_of}
use Rattle.std.specs.Io.KnownBytes.{Appends}
use Rattle.journal_text.specs.Journals.{history_text}
use Rattle.line_merger.specs.declared.offers.Refusal.{Refusal}
use Rattle.line_merger.specs.declared.offers.Taken.{Taken}
use Rattle.line_merger.specs.declared.offers.Taken.TheVariants as taken
use Rattle.line_merger.specs.Offers.{events_of}
use Rattle.journal_merger.specs.declared.finding.Found.{Found}
use Rattle.journal_merger.specs.declared.finding.Found.TheVariants as found
use Rattle.journal_merger.specs.Merges.{IsMerged, IsBegun, IsTaken, IsIdle, AreIdle, OneWaits, IsFound}
use Rattle.journal_merger.proofs.PendingFacts.{by-place, left-on, left-back, left-moves, apart-stays}

-- the cuts of all journals

abbrev pub AreCut : ExactWorld → Journals → Journals → List Pair → Type 0
AreCut w journals left told = (who : Actor) → IsCut w who (journals who) (left who) (own_events who told)

by-actor : {P : Type 0} (a b : Actor) → (a ≡ b → P) → ((a ≡ b → ⊥) → P) → P
by-actor {P} a b same apart = go (place a == place b) refl
  where
    go : (t : Bool) → (place a == place b) ≡ t → P
    go true e = same (places-apart a b (eqb-true (place a) (place b) e))
    go false e = apart (λ q. let z : true ≡ false = sym (eq-eqb (place a) (place b) (ap place q)) ∙ e in cc)

cuts-go-on : (w u : ExactWorld) (journals left after : Journals) (who : Actor) (line : OwnLine) (told events : List Pair) → IsHistory w told u → AreCut w journals left told → left who ≡ line ∷ after who → ((other : Actor) → (other ≡ who → ⊥) → after other ≡ left other) →
    TellsLine u.ballots who (part u who) line events → AreCut w journals after (told ++ events)
cuts-go-on w u journals left after who line told events h cuts next others tells other = by-actor other who
    (λ same. subst (λ x. IsCut w x (journals x) (after x) (own_events x (told ++ events))) (sym same) (cut-more w u who (journals who) (left who) (after who) line told events h (cuts who) next tells))
    (λ apart. cut-same w u who other (journals other) (left other) (after other) line told events apart (cuts other) (others other apart) tells)

-- how many lines journals have

abbrev pub with-lines : Journals → Actor → List OwnLine → Journals
with-lines left who lines other = cond (place other == place who) lines (left other)

pub with-here : (left : Journals) (who : Actor) (lines : List OwnLine) → with-lines left who lines who ≡ lines
with-here left who lines = ap (λ t. cond t lines (left who)) (eq-eqb (place who) (place who) refl)

pub with-there : (left : Journals) (who other : Actor) (lines : List OwnLine) → (other ≡ who → ⊥) → with-lines left who lines other ≡ left other
with-there left who other lines apart = go (place other == place who) refl
  where
    go : (t : Bool) → (place other == place who) ≡ t → cond (place other == place who) lines (left other) ≡ left other
    go true e = absurd (apart (places-apart other who (eqb-true (place other) (place who) e)))
    go false e = ap (λ t. cond t lines (left other)) e

abbrev who-at : List Pending → ℕ → Option Actor
who-at [] i = None
who-at (p ∷ ps) zero = Some p.who
who-at (p ∷ ps) (suc i) = who-at ps i

who-there : (ps : List Pending) (i : ℕ) (p : Pending) → slice_get ps i ≡ Some p → who-at ps i ≡ Some p.who
who-there [] i p h = absurd (let z : None ≡ Some p = h in cc)
who-there (q ∷ ps) zero p h = let z : Some q ≡ Some p = h in let same : q ≡ p = cc in ap (λ (x : Pending). Some x.who) same
who-there (q ∷ ps) (suc i) p h = who-there ps i p h

who-of-get : (ps qs : List Pending) (i : ℕ) → slice_get ps i ≡ slice_get qs i → who-at ps i ≡ who-at qs i
who-of-get [] [] i h = refl
who-of-get [] (q ∷ qs) zero h = absurd (let z : None ≡ Some q = h in cc)
who-of-get [] (q ∷ qs) (suc i) h = who-of-get [] qs i h
who-of-get (p ∷ ps) [] zero h = absurd (let z : Some p ≡ None = h in cc)
who-of-get (p ∷ ps) [] (suc i) h = who-of-get ps [] i h
who-of-get (p ∷ ps) (q ∷ qs) zero h = let z : Some p ≡ Some q = h in let same : p ≡ q = cc in ap (λ (x : Pending). Some x.who) same
who-of-get (p ∷ ps) (q ∷ qs) (suc i) h = who-of-get ps qs i h

same-lines : (ps qs : List Pending) (left : Journals) → ((i : ℕ) → who-at ps i ≡ who-at qs i) → lines_of ps left ≡ lines_of qs left
same-lines [] [] left h = refl
same-lines [] (q ∷ qs) left h = absurd (let z : None ≡ Some q.who = h zero in cc)
same-lines (p ∷ ps) [] left h = absurd (let z : Some p.who ≡ None = h zero in cc)
same-lines (p ∷ ps) (q ∷ qs) left h =
    let z : Some p.who ≡ Some q.who = h zero in
    let same : p.who ≡ q.who = cc in
    ap (λ a. length (left a) + lines_of ps left) same ∙ ap (λ n. length (left q.who) + n) (same-lines ps qs left (λ i. h (suc i)))

pub lines-read : (i : ℕ) (old new : List Pending) (left : Journals) → IsRead i old new → lines_of new left ≡ lines_of old left
lines-read i old new left r = same-lines new old left (λ j. by-place j i
    (λ e. ap (who-at new) e ∙ who-there new i r.after r.now ∙ ap Some r.who ∙ sym (who-there old i r.before r.was) ∙ sym (ap (who-at old) e))
    (λ e. who-of-get new old j (r.others j e)))

lines-elsewhere : (ps : List Pending) (left : Journals) (who : Actor) (lines : List OwnLine) → ((i : ℕ) (p : Pending) → slice_get ps i ≡ Some p → p.who ≡ who → ⊥) → lines_of ps (with-lines left who lines) ≡ lines_of ps left
lines-elsewhere [] left who lines none = refl
lines-elsewhere (p ∷ ps) left who lines none =
    ap (λ xs. length xs + lines_of ps (with-lines left who lines)) (with-there left who p.who lines (none zero p refl))
    ∙ ap (λ n. length (left p.who) + n) (lines-elsewhere ps left who lines (λ i q at. none (suc i) q at))

suc-apart : (i j : ℕ) → suc i ≡ suc j → i ≡ j
suc-apart i j h = omega (arith, h)

pub lines-more : (ps : List Pending) (left : Journals) (i : ℕ) (p : Pending) (line : OwnLine) → AreApart ps → slice_get ps i ≡ Some p → lines_of ps (with-lines left p.who (line ∷ left p.who)) ≡ lines_of ps left + 1
lines-more [] left i p line apart at = absurd (let z : None ≡ Some p = at in cc)
lines-more (q ∷ ps) left zero p line apart at =
    let z : Some q ≡ Some p = at in
    let same : q ≡ p = cc in
    let here : length (with-lines left p.who (line ∷ left p.who) q.who) ≡ length (left q.who) + 1 =
    ap (λ (x : Pending). length (with-lines left p.who (line ∷ left p.who) x.who)) same ∙ ap length (with-here left p.who (line ∷ left p.who)) ∙ (let n : length (line ∷ left p.who) ≡ length (left p.who) + 1 = omega arith in n) ∙ ap (λ (x : Pending). length (left x.who) + 1) (sym same) in
    let there : lines_of ps (with-lines left p.who (line ∷ left p.who)) ≡ lines_of ps left =
    lines-elsewhere ps left p.who (line ∷ left p.who) (λ j x get who. let none : zero ≡ suc j = apart zero (suc j) q x refl get (ap (λ (y : Pending). y.who) same ∙ sym who) in omega (arith, none)) in
    omega (arith, here, there)
lines-more (q ∷ ps) left (suc i) p line apart at =
    let here : length (with-lines left p.who (line ∷ left p.who) q.who) ≡ length (left q.who) =
    ap length (with-there left p.who q.who (line ∷ left p.who) (λ e. let none : zero ≡ suc i = apart zero (suc i) q p refl at e in omega (arith, none))) in
    let there : lines_of ps (with-lines left p.who (line ∷ left p.who)) ≡ lines_of ps left + 1 =
    lines-more ps left i p line (λ j k x y a b e. suc-apart j k (apart (suc j) (suc k) x y a b e)) at in
    omega (arith, here, there)

pub none-of : (ps : List Pending) → lines_of ps (λ who. []) ≡ 0
none-of [] = refl
none-of (p ∷ ps) = let n : lines_of ps (λ who. []) ≡ 0 = none-of ps in omega (arith, n)

-- where the merge stands: what the texts may still have is what they had but for the lines that were taken

pub record Stands (w : ExactWorld) (first pending : List Pending) (u : ExactWorld) (told : List Pair) : Type 0 where
  pub history : IsHistory w told u
  pub on : (journals : Journals) → AreLeft ⊥ first journals → (left : Journals) × AreLeft ⊥ pending left × AreCut w journals left told
  pub count : ℕ
  pub back : (left : Journals) → AreLeft (Unit {0}) pending left → (journals : Journals) × AreLeft (Unit {0}) first journals × AreCut w journals left told × (lines_of first journals ≡ lines_of pending left + count)

pub stands-first : (w : ExactWorld) (first : List Pending) → Stands w first first w []
stands-first w first = record {
  history = refl;
  on = λ journals left. (journals, left, λ who. record { taken = []; cut = refl; told = refl });
  count = 0;
  back = λ journals left. (journals, left, (λ who. record { taken = []; cut = refl; told = refl }), omega arith);
}

pub counts-first : (w : ExactWorld) (first : List Pending) → 0 ≡ (stands-first w first).count
unfolding stands-first
counts-first w first = refl

pub stands-on : (w u v : ExactWorld) (first old new : List Pending) (i : ℕ) (told events : List Pair) (line : OwnLine) → Stands w first old u told → AreApart old → (r : IsRead i old new) → r.before.next ≡ Some line → TellsLine u.ballots r.before.who (part u r.before.who) line events → IsHistory u events v →
    Stands w first new v (told ++ events)
stands-on w u v first old new i told events line s apart r is tells h = record {
  history = history-joined w u v told events s.history h;
  on = on;
  count = s.count + 1;
  back = back;
}
  where
    apart-new : AreApart new
    apart-new = apart-stays i old new r apart

    on : (journals : Journals) → AreLeft ⊥ first journals → (left : Journals) × AreLeft ⊥ new left × AreCut w journals left (told ++ events)
    on journals all =
        let who : Actor = r.before.who in
        let o = s.on journals all in
        let here : IsLeft ⊥ (Some line) r.before.rest (o.0 who) = subst (λ n. IsLeft ⊥ n r.before.rest (o.0 who)) is (o.1.here i r.before r.was) in
        let after : Journals = with-lines o.0 who here.0 in
        let now : IsLeft ⊥ r.after.next r.after.rest (after r.after.who) =
        subst (λ lines. IsLeft ⊥ r.after.next r.after.rest lines) (sym (ap after r.who ∙ with-here o.0 who here.0)) (left-on r.before.rest r.after.next r.after.rest here.0 r.reads here.2) in (
          after,
          left-moves ⊥ i old new r.before r.after o.0 after r.was r.now r.others r.who apart-new o.1 (λ other e. with-there o.0 who other here.0 e) now,
          cuts-go-on w u journals o.0 after who line told events s.history o.2 (here.1 ∙ ap (λ xs. line ∷ xs) (sym (with-here o.0 who here.0))) (λ other e. with-there o.0 who other here.0 e) tells,
        )

    back : (left : Journals) → AreLeft (Unit {0}) new left → (journals : Journals) × AreLeft (Unit {0}) first journals × AreCut w journals left (told ++ events) × (lines_of first journals ≡ lines_of new left + (s.count + 1))
    back left all =
        let who : Actor = r.before.who in
        let before : Journals = with-lines left who (line ∷ left who) in
        let here : IsLeft (Unit {0}) r.after.next r.after.rest (left who) = subst (λ a. IsLeft (Unit {0}) r.after.next r.after.rest (left a)) r.who (all.here i r.after r.now) in
        let was : IsLeft (Unit {0}) r.before.next r.before.rest (before who) =
        subst (λ n. IsLeft (Unit {0}) n r.before.rest (before who)) (sym is) (left who, with-here left who (line ∷ left who), left-back r.before.rest r.after.next r.after.rest (left who) r.reads here) in
        let b = s.back before (left-moves (Unit {0}) i new old r.after r.before left before r.now r.was (λ j e. sym (r.others j e)) (sym r.who) apart all (λ other e. with-there left who other (line ∷ left who) (λ q. e (q ∙ sym r.who))) was) in (
          b.0,
          b.1,
          cuts-go-on w u b.0 before left who line told events s.history b.2 (with-here left who (line ∷ left who)) (λ other e. sym (with-there left who other (line ∷ left who) e)) tells,
          (let more : lines_of old before ≡ lines_of old left + 1 = lines-more old left i r.before line apart r.was in
              let same : lines_of new left ≡ lines_of old left = lines-read i old new left r in
              let all : lines_of first b.0 ≡ lines_of old before + s.count = b.3 in
              omega (arith, more, same, all)),
        )

-- how it ends

pub none-left : (unknown : Type 0) (pending : List Pending) → ((i : ℕ) (p : Pending) → slice_get pending i ≡ Some p → p.next ≡ None) → AreLeft unknown pending (λ who. [])
none-left unknown pending ended = record {
  here = λ i p at. subst (λ n. IsLeft unknown n p.rest []) (sym (ended i p at)) refl;
  only = λ who no. refl;
}

pub stands-merged : MergedHaveMerge → (w u : ExactWorld) (first pending : List Pending) (told : List Pair) (s : Stands w first pending u told) → OneWaits u pending (length pending) false →
    (journals : Journals) × AreLeft (Unit {0}) first journals × IsMerged w journals told × HasMerge w journals × (lines_of first journals ≡ s.count)
stands-merged law w u first pending told s ended =
    let b = s.back (λ who. []) (none-left (Unit {0}) pending (λ i p at. ended i p (slice_get_within pending i p at) at)) in (
      b.0,
      b.1,
      record {
        world = u;
        history = s.history;
        own = λ who. subst (λ lines. TellsLines w.ballots who (part w who) lines (own_events who told)) (sym ((b.2 who).cut ∙ append-nil (b.2 who).taken)) (b.2 who).told;
      },
      law w u b.0 (λ who. []) (record { told = told; history = s.history; cut = b.2 }) (λ who. refl),
      (let none : lines_of pending (λ who. []) ≡ 0 = none-of pending in
          let all : lines_of first b.0 ≡ lines_of pending (λ who. []) + s.count = b.3 in
          omega (arith, none, all)),
    )

pub stands-refused : RefusedHaveNoMerge → (w u : ExactWorld) (first pending : List Pending) (told : List Pair) (i : ℕ) (p : Pending) (line : OwnLine) → Stands w first pending u told → slice_get pending i ≡ Some p → p.next ≡ Some line → IsRefused u p.who line →
    (journals : Journals) → AreLeft ⊥ first journals → HasMerge w journals → ⊥
stands-refused law w u first pending told i p line s at is refused journals all has =
    let o = s.on journals all in
    let here : IsLeft ⊥ (Some line) p.rest (o.0 p.who) = subst (λ n. IsLeft ⊥ n p.rest (o.0 p.who)) is (o.1.here i p at) in
    law w u journals o.0 p.who line here.0 (record { told = told; history = s.history; cut = o.2 }) here.1 refused has

idle-waits : (u : ExactWorld) (left : Journals) (who : Actor) (next : OwnLine) (more : List OwnLine) (p : Pending) → left who ≡ next ∷ more → IsLeft ⊥ p.next p.rest (left p.who) → p.who ≡ who → IsIdle u p → IsWaiting u who next
idle-waits u left who next more p is here e (inl none) =
    absurd (let z : [] ≡ next ∷ more = sym (subst (λ n. IsLeft ⊥ n p.rest (left p.who)) none here) ∙ ap left e ∙ is in cc)
idle-waits u left who next more p is here e (inr w) =
    let l : IsLeft ⊥ (Some w.0) p.rest (left p.who) = subst (λ n. IsLeft ⊥ n p.rest (left p.who)) w.1 here in
    let z : w.0 ∷ l.0 ≡ next ∷ more = sym l.1 ∙ ap left e ∙ is in
    let same : w.0 ≡ next = cc in
    subst (λ a. IsWaiting u a next) e (subst (IsWaiting u p.who) same w.2)

pub all-wait : (u : ExactWorld) (pending : List Pending) (left : Journals) → AreIdle u pending (length pending) → AreLeft ⊥ pending left → (who : Actor) (next : OwnLine) (more : List OwnLine) → left who ≡ next ∷ more → IsWaiting u who next
all-wait u pending left idle are who next more is q rest tells source =
    let none : left who ≡ [] = are.only who (λ i p at e. idle-waits u left who next more p is (are.here i p at) e (idle i p (slice_get_within pending i p at) at) q rest tells source) in
    let z : [] ≡ next ∷ more = sym none ∙ is in
    cc

pub stands-stuck : WaitingHaveNoMerge → (w u : ExactWorld) (first pending : List Pending) (told : List Pair) → Stands w first pending u told → AreIdle u pending (length pending) → OneWaits u pending (length pending) true →
    (journals : Journals) → AreLeft ⊥ first journals → HasMerge w journals → ⊥
stands-stuck law w u first pending told s idle one journals all has =
    let o = s.on journals all in
    let (i, p, at, wait) = one in
    let here : IsLeft ⊥ (Some wait.0) p.rest (o.0 p.who) = subst (λ n. IsLeft ⊥ n p.rest (o.0 p.who)) wait.1 (o.1.here i p at) in
    law w u journals o.0 p.who wait.0 here.0 (record { told = told; history = s.history; cut = o.2 }) here.1 (all-wait u pending o.0 idle o.1) has

-- what is found in a round

told-is : (p : Pending) (line : OwnLine) (t : Taken) → p.next ≡ Some line → events_of p.who line t ≡ told_by p t
told-is p line taken.Said is = ap said_next (sym is)
told-is p line (taken.Read k) is = refl
told-is p line (taken.Rose true age) is = refl
told-is p line (taken.Rose false age) is = refl

pub took-on : (w u v : ExactWorld) (first old new : List Pending) (i : ℕ) (told : List Pair) (t : Taken) (f : Found) (s : Stands w first old u told) → AreApart old → f ≡ found.Took i t → IsFound u old f v → (r : IsRead i old new) →
    (events : List Pair) × (n : Stands w first new v (told ++ events)) × (map (λ (q : Pair). q.0) events ≡ told_of (slice_get old i) t) × (n.count ≡ s.count + 1)
unfolding stands-on
took-on w u v first old new i told t f s apart is h r =
    let (p, at, taken) = subst (λ x. IsFound u old x v) is h in
    let z : Some p ≡ Some r.before = sym at ∙ r.was in
    let same : p ≡ r.before = cc in
    let k : IsTaken u r.before.who r.before.next t v = subst (λ (x : Pending). IsTaken u x.who x.next t v) same taken in
    (k.events, stands-on w u v first old new i told k.events k.line s apart r k.next_is k.tells k.history, k.are ∙ told-is r.before k.line t k.next_is ∙ sym (ap (λ o. told_of o t) r.was), refl)

-- the lines that were taken begin a merge

pub stands-begun : (w u : ExactWorld) (first pending : List Pending) (told : List Pair) → Stands w first pending u told → IsBegun w first told
stands-begun w u first pending told s = record {
  world = u;
  history = s.history;
  own = λ journals all who. let o = s.on journals all in (o.0 who, o.2 who);
}

-- and with a line more that was taken, whatever is read then
pub took-begun : (w u v : ExactWorld) (first old : List Pending) (i : ℕ) (told : List Pair) (t : Taken) (f : Found) → Stands w first old u told → f ≡ found.Took i t → IsFound u old f v →
    (events : List Pair) × IsBegun w first (told ++ events) × (map (λ (q : Pair). q.0) events ≡ told_of (slice_get old i) t)
took-begun w u v first old i told t f s is h =
    let (p, at, k) = subst (λ x. IsFound u old x v) is h in (
      k.events,
      record {
        world = v;
        history = history-joined w u v told k.events s.history k.history;
        own = λ journals all who.
            let o = s.on journals all in
            let here : IsLeft ⊥ (Some k.line) p.rest (o.0 p.who) = subst (λ n. IsLeft ⊥ n p.rest (o.0 p.who)) k.next_is (o.1.here i p at) in
            let after : Journals = with-lines (o.0) p.who here.0 in
            let next : o.0 p.who ≡ k.line ∷ after p.who = here.1 ∙ ap (λ xs. k.line ∷ xs) (sym (with-here (o.0) p.who here.0)) in
            (after who, cuts-go-on w u journals (o.0) after p.who k.line told k.events s.history o.2 next (λ other e. with-there (o.0) p.who other here.0 e) k.tells who);
      },
      k.are ∙ told-is p k.line t k.next_is ∙ sym (ap (λ o. told_of o t) at),
    )

pub index-within : (u v : ExactWorld) (old : List Pending) (i : ℕ) (t : Taken) (f : Found) → f ≡ found.Took i t → IsFound u old f v → i < length old
index-within u v old i t f is h =
    let (p, at, taken) = subst (λ x. IsFound u old x v) is h in
    slice_get_within old i p at

pub found-refused : RefusedHaveNoMerge → (w u v : ExactWorld) (first pending : List Pending) (told : List Pair) (i : ℕ) (why : Refusal) (f : Found) → Stands w first pending u told → f ≡ found.Refused i why → IsFound u pending f v →
    (journals : Journals) → AreLeft ⊥ first journals → HasMerge w journals → ⊥
found-refused law w u v first pending told i why f s is h =
    let (p, at, so) = subst (λ x. IsFound u pending x v) is h in
    stands-refused law w u first pending told i p so.refuses.0 s at so.refuses.1 so.refuses.2

pub found-stuck : WaitingHaveNoMerge → (w u v : ExactWorld) (first pending : List Pending) (told : List Pair) (f : Found) → Stands w first pending u told → f ≡ found.Stuck → IsFound u pending f v →
    (journals : Journals) → AreLeft ⊥ first journals → HasMerge w journals → ⊥
found-stuck law w u v first pending told f s is h =
    let k : IsFound u pending found.Stuck v = subst (λ x. IsFound u pending x v) is h in
    stands-stuck law w u first pending told s k.0 k.1

pub found-merged : MergedHaveMerge → (w u v : ExactWorld) (first pending : List Pending) (told : List Pair) (f : Found) (old new : Option (List ℕ)) (lines : ℕ) (s : Stands w first pending u told) → lines ≡ s.count → f ≡ found.Merged → IsFound u pending f v → Appends old new (history_text told) →
    (journals : Journals) × (told : List Pair) × AreLeft (Unit {0}) first journals × IsMerged w journals told × HasMerge w journals × (lines ≡ lines_of first journals) × Appends old new (history_text told)
found-merged law w u v first pending told f old new lines s count is h text =
    let k : IsFound u pending found.Merged v = subst (λ x. IsFound u pending x v) is h in
    let m = stands-merged law w u first pending told s k.1 in
    (m.0, told, m.1, m.2, m.3, count ∙ sym m.4, text)
