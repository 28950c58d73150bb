-- Journals that are being judged.
use Rattle.std.proofs.Common.{◌≡◌, ℕ, ◌+◌, ◌<◌, ◌≤◌, Bool, true, false, List, [], ◌∷◌, length, Option, Some, refl, sym, ◌∙◌, ap, subst, inl, inr, arith}
use Rattle.std.specs.Prelude.{slice_get}
use Rattle.std.proofs.lemmas.Option.{slice_get_within}
use Rattle.lock_messages.specs.declared.ids.Actor.{Actor}
use Rattle.world_model.specs.declared.exact.ExactWorld.{ExactWorld}
use Rattle.world_model.specs.Parts.{part}
use Rattle.merge_model.specs.LongHistories.{IsLongHistory}
use Rattle.merge_model.proofs.OwnRunFacts.{Pair}
use Rattle.own_journals.specs.declared.lines.OwnLine.{OwnLine}
use Rattle.journal_merge.specs.LineMerges.{TellsLine, Journals, HasMerge, IsJudging}
use Rattle.journal_merge.specs.Laws.{JudgingGoesOn, JudgedHaveMerge, RefusedAreJudged, WaitingAreJudged}
use Rattle.line_merger.specs.declared.offers.Refusal.{Refusal}
use Rattle.line_merger.specs.declared.offers.Taken.{Taken}
use Rattle.line_merger.specs.Judging.{Judged, IsOf}
use Rattle.journal_merger.specs.declared.finding.Found.{Found}
use Rattle.journal_merger.specs.declared.finding.Found.TheVariants as found
use Rattle.journal_merger.specs.declared.finding.Turn.{Turn}
use Rattle.journal_merger.specs.declared.finding.Turn.TheVariants as turn
use Rattle.journal_merger.specs.Pendings.{Pending, IsLeft, AreLeft, AreApart, IsRead, lines_of}
use Rattle.journal_merger.specs.Merges.{AreIdle, OneWaits, IsGoing, Goes}
use Rattle.journal_merger.specs.Judging.{IsTaken, IsTurn, IsFound}
use Rattle.journal_merger.proofs.PendingFacts.{left-on, left-back, left-moves, apart-stays}
use Rattle.journal_merger.proofs.RoundFacts.{idle-more, ended-more}
use Rattle.journal_merger.proofs.StandFacts.{with-lines, with-here, with-there, lines-more, lines-read, none-of, none-left, all-wait}

-- what comes of a line

abbrev pub Turned : ExactWorld → Actor → Option OwnLine → Turn → Judged → Type 0
Turned w who next t j = (v : ExactWorld) × IsTurn w who next t v × (IsGoing t → IsOf j v)

-- the round so far: the judge is as it was, and the first journals are idle

pub record SoFar (w : ExactWorld) (pending : List Pending) (n : ℕ) (some : Bool) (j : Judged) : Type 0 where
  pub of : IsOf j w
  pub idle : AreIdle w pending n
  pub waits : OneWaits w pending n some

pub first-round : (w : ExactWorld) (pending : List Pending) (j : Judged) → IsOf j w → SoFar w pending 0 false j
first-round w pending j of = record { of = of; idle = λ i p less at. absurd (omega (arith, less)); waits = λ i p less at. absurd (omega (arith, less)) }

as-turn : (w : ExactWorld) (who : Actor) (next : Option OwnLine) (q r : Turn) (j : Judged) → q ≡ r → Turned w who next q j → Turned w who next r j
as-turn w who next q r j is h = subst (λ x. Turned w who next x j) is h

pub more-waits : (w : ExactWorld) (pending : List Pending) (n : ℕ) (p : Pending) (q : Turn) (some : Bool) (i j : Judged) → SoFar w pending n some i → slice_get pending n ≡ Some p → q ≡ turn.Waits → Turned w p.who p.next q j → SoFar w pending (n + 1) true j
more-waits w pending n p q some i j so at is h =
    let (v, (same, waits), of) = as-turn w p.who p.next q turn.Waits j is h in
    record { of = subst (IsOf j) same (of tt); idle = idle-more w pending n p at (inr waits) so.idle; waits = (n, p, at, waits) }

pub more-ended : (w : ExactWorld) (pending : List Pending) (n : ℕ) (p : Pending) (q : Turn) (some : Bool) (i j : Judged) → SoFar w pending n some i → slice_get pending n ≡ Some p → q ≡ turn.Ended → Turned w p.who p.next q j → SoFar w pending (n + 1) some j
more-ended w pending n p q some i j so at is h =
    let (v, (same, last), of) = as-turn w p.who p.next q turn.Ended j is h in
    record { of = subst (IsOf j) same (of tt); idle = idle-more w pending n p at (inl last) so.idle; waits = ended-more w pending n p some at last so.waits }

abbrev pub Finds : ExactWorld → List Pending → Found → Judged → Type 0
Finds w pending f j = (v : ExactWorld) × IsFound w pending f v × (Goes f → IsOf j v)

pub one-took : (w : ExactWorld) (pending : List Pending) (n : ℕ) (p : Pending) (q : Turn) (taken : Taken) (j : Judged) → slice_get pending n ≡ Some p → q ≡ turn.Took taken → Turned w p.who p.next q j → Finds w pending (found.Took n taken) j
one-took w pending n p q taken j at is h =
    let (v, took, of) = as-turn w p.who p.next q (turn.Took taken) j is h in
    (v, (p, at, took), of)

pub one-refused : (w : ExactWorld) (pending : List Pending) (n : ℕ) (p : Pending) (q : Turn) (why : Refusal) (j : Judged) → slice_get pending n ≡ Some p → q ≡ turn.Refused why → Turned w p.who p.next q j → Finds w pending (found.Refused n why) j
one-refused w pending n p q why j at is h =
    let (v, refuses, of) = as-turn w p.who p.next q (turn.Refused why) j is h in
    (v, (p, at, refuses), λ on. absurd on)

pub all-idle : (w : ExactWorld) (pending : List Pending) (n : ℕ) (some : Bool) (i j : Judged) → SoFar w pending n some i → length pending ≤ n → some ≡ true → Finds w pending found.Stuck j
all-idle w pending n some i j so long is =
    let one : OneWaits w pending n true = subst (OneWaits w pending n) is so.waits in
    (w, ((λ k p less at. so.idle k p (omega (arith, long, less)) at), one), λ on. absurd on)

pub all-ended : (w : ExactWorld) (pending : List Pending) (n : ℕ) (some : Bool) (i j : Judged) → SoFar w pending n some i → length pending ≤ n → some ≡ false → Finds w pending found.Merged j
all-ended w pending n some i j so long is =
    let none : OneWaits w pending n false = subst (OneWaits w pending n) is so.waits in
    (w, (refl, λ k p less at. none k p (omega (arith, long, less)) at), λ on. absurd on)

-- where the judging stands: what the texts may still have is what they had but for the lines that were taken

pub record Stands (w : ExactWorld) (first pending : List Pending) (u : ExactWorld) (n : ℕ) : Type 0 where
  pub on : (journals : Journals) → AreLeft ⊥ first journals → (left : Journals) × AreLeft ⊥ pending left × IsJudging w journals left u
  pub back : (left : Journals) → AreLeft (Unit {0}) pending left → (journals : Journals) × AreLeft (Unit {0}) first journals × IsJudging w journals left u × (lines_of first journals ≡ lines_of pending left + n)

judging-first : (w : ExactWorld) (journals : Journals) → IsJudging w journals journals w
judging-first w journals = record { told = []; history = refl; cut = λ who. record { taken = []; cut = refl; told = refl } }

pub stands-first : (w : ExactWorld) (first : List Pending) → Stands w first first w 0
stands-first w first = record {
  on = λ journals left. (journals, left, judging-first w journals);
  back = λ journals left. (journals, left, judging-first w journals, omega arith);
}

stands-on : JudgingGoesOn → (w u v : ExactWorld) (first old new : List Pending) (i n : ℕ) (events : List Pair) (line : OwnLine) → Stands w first old u n → AreApart old → (r : IsRead i old new) → r.before.next ≡ Some line → TellsLine u.ballots r.before.who (part u r.before.who) line events → IsLongHistory u events v →
    Stands w first new v (n + 1)
stands-on law w u v first old new i n events line s apart r is tells h = record { on = on; back = back }
  where
    on : (journals : Journals) → AreLeft ⊥ first journals → (left : Journals) × AreLeft ⊥ new left × IsJudging w journals left v
    on journals all =
        let who : Actor = r.before.who in
        let o = s.on journals all in
        let here : IsLeft ⊥ (Some line) r.before.rest (o.0 who) = subst (λ n. IsLeft ⊥ n r.before.rest (o.0 who)) is (o.1.here i r.before r.was) in
        let after : Journals = with-lines o.0 who here.0 in
        let now : IsLeft ⊥ r.after.next r.after.rest (after r.after.who) =
        subst (λ lines. IsLeft ⊥ r.after.next r.after.rest lines) (sym (ap after r.who ∙ with-here o.0 who here.0)) (left-on r.before.rest r.after.next r.after.rest here.0 r.reads here.2) in (
          after,
          left-moves ⊥ i old new r.before r.after o.0 after r.was r.now r.others r.who (apart-stays i old new r apart) o.1 (λ other e. with-there o.0 who other here.0 e) now,
          law w u v journals o.0 after who line events o.2 (here.1 ∙ ap (λ xs. line ∷ xs) (sym (with-here o.0 who here.0))) (λ other e. with-there o.0 who other here.0 e) tells h,
        )

    back : (left : Journals) → AreLeft (Unit {0}) new left → (journals : Journals) × AreLeft (Unit {0}) first journals × IsJudging w journals left v × (lines_of first journals ≡ lines_of new left + (n + 1))
    back left all =
        let who : Actor = r.before.who in
        let before : Journals = with-lines left who (line ∷ left who) in
        let here : IsLeft (Unit {0}) r.after.next r.after.rest (left who) = subst (λ a. IsLeft (Unit {0}) r.after.next r.after.rest (left a)) r.who (all.here i r.after r.now) in
        let was : IsLeft (Unit {0}) r.before.next r.before.rest (before who) =
        subst (λ n. IsLeft (Unit {0}) n r.before.rest (before who)) (sym is) (left who, with-here left who (line ∷ left who), left-back r.before.rest r.after.next r.after.rest (left who) r.reads here) in
        let b = s.back before (left-moves (Unit {0}) i new old r.after r.before left before r.now r.was (λ j e. sym (r.others j e)) (sym r.who) apart all (λ other e. with-there left who other (line ∷ left who) (λ q. e (q ∙ sym r.who))) was) in (
          b.0,
          b.1,
          law w u v b.0 before left who line events b.2 (with-here left who (line ∷ left who)) (λ other e. sym (with-there left who other (line ∷ left who) e)) tells h,
          (let more : lines_of old before ≡ lines_of old left + 1 = lines-more old left i r.before line apart r.was in
              let same : lines_of new left ≡ lines_of old left = lines-read i old new left r in
              let all : lines_of first b.0 ≡ lines_of old before + n = b.3 in
              omega (arith, more, same, all)),
        )

-- what is found in a round

pub took-on : JudgingGoesOn → (w u v : ExactWorld) (first old new : List Pending) (i n : ℕ) (t : Taken) (f : Found) → Stands w first old u n → AreApart old → f ≡ found.Took i t → IsFound u old f v → IsRead i old new → Stands w first new v (n + 1)
took-on law w u v first old new i n t f s apart is h r =
    let (p, at, taken) = subst (λ x. IsFound u old x v) is h in
    let z : Some p ≡ Some r.before = sym at ∙ r.was in
    let same : p ≡ r.before = cc in
    let k : IsTaken u r.before.who r.before.next t v = subst (λ (x : Pending). IsTaken u x.who x.next t v) same taken in
    stands-on law w u v first old new i n k.events k.line s apart r k.next_is k.tells k.history

pub index-within : (u v : ExactWorld) (old : List Pending) (i : ℕ) (t : Taken) (f : Found) → f ≡ found.Took i t → IsFound u old f v → i < length old
index-within u v old i t f is h =
    let (p, at, taken) = subst (λ x. IsFound u old x v) is h in
    slice_get_within old i p at

pub found-refused : RefusedAreJudged → (w u v : ExactWorld) (first pending : List Pending) (i n : ℕ) (why : Refusal) (f : Found) → Stands w first pending u n → f ≡ found.Refused i why → IsFound u pending f v →
    (journals : Journals) → AreLeft ⊥ first journals → HasMerge w journals → ⊥
found-refused law w u v first pending i n why f s is h journals all has =
    let (p, at, refuses) = subst (λ x. IsFound u pending x v) is h in
    let o = s.on journals all in
    let here : IsLeft ⊥ (Some refuses.0) p.rest (o.0 p.who) = subst (λ n. IsLeft ⊥ n p.rest (o.0 p.who)) refuses.1 (o.1.here i p at) in
    law w u journals o.0 p.who refuses.0 here.0 o.2 here.1 refuses.2 has

pub found-stuck : WaitingAreJudged → (w u v : ExactWorld) (first pending : List Pending) (n : ℕ) (f : Found) → Stands w first pending u n → f ≡ found.Stuck → IsFound u pending f v →
    (journals : Journals) → AreLeft ⊥ first journals → HasMerge w journals → ⊥
found-stuck law w u v first pending n f s is h journals all has =
    let k : IsFound u pending found.Stuck v = subst (λ x. IsFound u pending x v) is h in
    let (i, p, at, wait) = k.1 in
    let o = s.on journals all in
    let here : IsLeft ⊥ (Some wait.0) p.rest (o.0 p.who) = subst (λ n. IsLeft ⊥ n p.rest (o.0 p.who)) wait.1 (o.1.here i p at) in
    law w u journals o.0 p.who wait.0 here.0 o.2 here.1 (all-wait u pending o.0 k.0 o.1) has

pub found-merged : JudgedHaveMerge → (w u v : ExactWorld) (first pending : List Pending) (n : ℕ) (f : Found) → Stands w first pending u n → f ≡ found.Merged → IsFound u pending f v →
    (journals : Journals) × AreLeft (Unit {0}) first journals × HasMerge w journals × (n ≡ lines_of first journals)
found-merged law w u v first pending n f s is h =
    let k : IsFound u pending found.Merged v = subst (λ x. IsFound u pending x v) is h in
    let b = s.back (λ who. []) (none-left (Unit {0}) pending (λ i p at. k.1 i p (slice_get_within pending i p at) at)) in (
      b.0,
      b.1,
      law w u b.0 (λ who. []) b.2 (λ who. refl),
      (let none : lines_of pending (λ who. []) ≡ 0 = none-of pending in
          let all : lines_of first b.0 ≡ lines_of pending (λ who. []) + n = b.3 in
          omega (arith, none, all)),
    )
