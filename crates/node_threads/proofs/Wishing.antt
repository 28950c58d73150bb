-- What each client's berth tells of the history, once its thread has ended.
use Rattle.std.proofs.Common.{◌≡◌, inl, inr, ℕ, ◌+◌, ◌<◌, ◌≤◌, Bool, true, false, nat_eq, List, [], ◌∷◌, ◌++◌, length, map, Option, Some, None, zero, suc, refl, sym, ◌∙◌, ap, subst, arith}
use Rattle.std.specs.List.{All, filter_map, range_with_len}
use Rattle.std.specs.Prelude.{IfNone}
use Rattle.std.proofs.lemmas.Bool.Decides.{nat_tests}
use Rattle.std.proofs.lemmas.List.Elements.{All-nil, All-cons, All-head, All-tail, All-weaker}
use Rattle.berth_seats.specs.Views.{TableId}
use Rattle.lock_messages.specs.declared.ids.Actor.{Actor}
use Rattle.lock_messages.specs.declared.ids.Actor.TheVariants as actor
use Rattle.lock_model.specs.Decisions.{Among}
use Rattle.lock_model.proofs.GrantFacts.{among-right}
use Rattle.world_model.specs.declared.events.Effect.{Effect}
use Rattle.world_model.specs.declared.events.Event.{Event}
use Rattle.world_model.specs.declared.exact.ExactWorld.{ExactWorld}
use Rattle.world_model.specs.Locality.{own_events}
use Rattle.world_model.specs.Parts.{part}
use Rattle.event_lines.specs.declared.wishes.Wish.{Wish}
use Rattle.history_book.specs.Books.{BookValue, BerthValue, Known, own_of}
use Rattle.event_recorders.specs.declared.faults.RunFault.{RunFault}
use Rattle.event_recorders.specs.OwnLogs.{OwnLog, part_now}
use Rattle.book_recorders.specs.Sharing.{log_of}
use Rattle.client_loop.specs.Endings.{IsOutside}
use Rattle.client_loop.specs.Visits.{HasBegun, HasEntered, HasSoftened}
use Rattle.node_threads.specs.declared.ends.ClientEnd.{ClientEnd}
use Rattle.node_threads.specs.Ends.{IsClientEnd, AreClientEnds, with_wishes, client_in, client_fault}
use Rattle.node_threads.specs.Tasks.{own_wishes}
use Rattle.node_threads.specs.Wishes.{log_in, DidAsWished, AllDidAsWished}
use Rattle.node_threads.proofs.Amongst.{all_among}
use Rattle.node_threads.proofs.Telling.{same_parts, told_among}

-- what holds of the ones holds of the others, by what they have in common
pub carried : {X Y A : Type 0} (f : X → A) (h : Y → A) (P : A → Type 0) (xs : List X) (ys : List Y) → map f xs ≡ map h ys → All (λ y. P (h y)) ys → All (λ x. P (f x)) xs
carried f h P [] ys at each = All-nil (λ x. P (f x))
carried f h P (x ∷ xs) [] at each = absurd (let z : f x ∷ map f xs ≡ [] = at in cc)
carried f h P (x ∷ xs) (y ∷ ys) at each =
    let z : f x ∷ map f xs ≡ h y ∷ map h ys = at in
    let here : f x ≡ h y = cc in
    let rest : map f xs ≡ map h ys = cc in
    All-cons (λ u. P (f u)) x xs (subst P (sym here) (All-head (λ u. P (h u)) y ys each)) (carried f h P xs ys rest (All-tail (λ u. P (h u)) y ys each))

-- the one of this number, where they are numbered on
abbrev NumberedSo : {X : Type 0} → (X → ℕ) → List X → ℕ → Type 0
NumberedSo {X = X} num xs c = (x : X) × Among x xs × (num x ≡ c)

first_or_behind : {X : Type 0} (num : X → ℕ) (x : X) (xs : List X) (low count c : ℕ) → num x ≡ low → low ≤ c → c < low + suc count → (b : Bool) → nat_eq low c ≡ b → (low + 1 ≤ c → c < low + 1 + count → NumberedSo num xs c) → NumberedSo num (x ∷ xs) c
first_or_behind num x xs low count c here from to true is rest = let same : low ≡ c = grind (arith, nat_tests) in (x, inl refl, here ∙ same)
first_or_behind num x xs low count c here from to false is rest =
    let above : low + 1 ≤ c = grind (arith, nat_tests) in
    let below : c < low + 1 + count = omega (arith, to) in
    let (y, there, num_is) = rest above below in
    (y, inr there, num_is)

numbered_so : {X : Type 0} (num : X → ℕ) (xs : List X) (low count c : ℕ) → map num xs ≡ range_with_len low count → low ≤ c → c < low + count → NumberedSo num xs c
numbered_so num [] low zero c at from to = absurd (omega (arith, from, to))
numbered_so num [] low (suc count) c at from to = absurd (let z : [] ≡ low ∷ range_with_len (low + 1) count = at in cc)
numbered_so num (x ∷ xs) low zero c at from to = absurd (omega (arith, from, to))
numbered_so num (x ∷ xs) low (suc count) c at from to =
    let z : num x ∷ map num xs ≡ low ∷ range_with_len (low + 1) count = at in
    let here : num x ≡ low = cc in
    let behind : map num xs ≡ range_with_len (low + 1) count = cc in
    first_or_behind num x xs low count c here from to (nat_eq low c) refl (λ above below. numbered_so num xs (low + 1) count c behind above below)

-- the berth's log is the actor's own of the history
same_log : (k : BerthValue) (w : ExactWorld) (history : List (Event × Effect)) (who : Actor) → k.actor ≡ who → k.opening ≡ w → own_events k.actor history ≡ own_of k → log_of k ≡ log_in w history who
same_log k w history who is opening own =
    ap (λ (es : List (Event × Effect)). record { actor = k.actor; ballots = k.opening.ballots; opening = part k.opening k.actor; events = es }) (sym own)
    ∙ ap (λ (o : ExactWorld). record { actor = k.actor; ballots = o.ballots; opening = part o k.actor; events = own_events k.actor history }) opening
    ∙ ap (λ (a : Actor). record { actor = a; ballots = w.ballots; opening = part w a; events = own_events a history }) is

-- the wishes of an end are the client's own
abbrev HasOwn : List Wish → ℕ × List Wish × TableId → Type 0
HasOwn wishes p = p.1 ≡ own_wishes p.0 wishes

did : (w : ExactWorld) (b : BookValue) (wishes : List Wish) (faults : List (Actor × RunFault)) (clients : List ClientEnd) (before : List (Actor × RunFault)) (e : ClientEnd) (c : ℕ)
    → b.opening ≡ w → faults ≡ before ++ filter_map client_fault clients → Among e clients → e.client ≡ c → IsClientEnd e → Known b e.berth → e.wishes.items ≡ own_wishes e.client wishes → DidAsWished w b.history wishes faults c
did w b wishes faults clients before e c opening told there num ends known own =
    let who : e.berth.actor ≡ actor.Client c = ends.begun.whose ∙ ap actor.Client num in
    let log : log_of e.berth ≡ log_in w b.history (actor.Client c) = same_log e.berth w b.history (actor.Client c) who (known.opening ∙ opening) known.own in
    let mine : e.wishes.items ≡ own_wishes c wishes = own ∙ ap (λ n. own_wishes n wishes) num in
    record {
      entered = e.entered;
      begun = subst (λ (ws : List Wish). HasBegun (actor.Client c) ws (log_in w b.history (actor.Client c))) mine
          (subst (λ (l : OwnLog). HasBegun (actor.Client c) e.wishes.items l) log (subst (λ n. HasBegun (actor.Client n) e.wishes.items (log_of e.berth)) num ends.begun));
      entries = subst (λ (ws : List Wish). HasEntered ws e.entered (log_in w b.history (actor.Client c))) mine (subst (λ (l : OwnLog). HasEntered e.wishes.items e.entered l) log ends.entries);
      all = λ none. so none (e.entered ≡ length e.wishes.items) ends.all e.fault refl ∙ ap length mine;
      softened = λ none. subst (λ (ws : List Wish). HasSoftened ws e.entered (log_in w b.history (actor.Client c))) mine
          (subst (λ (l : OwnLog). HasSoftened e.wishes.items e.entered l) log (so none (HasSoftened e.wishes.items e.entered (log_of e.berth)) ends.softened e.fault refl));
      outside = λ none. subst (λ (l : OwnLog). IsOutside (part_now l)) log (so none (IsOutside (part_now (log_of e.berth))) ends.outside e.fault refl);
    }
  where
    -- who isn't told ended without a fault
    so : ((f : RunFault) → Among (actor.Client c, f) faults → ⊥) → (P : Type 0) → IfNone e.fault P → (o : Option RunFault) → e.fault ≡ o → P
    so none P well None is = subst (λ (o : Option RunFault). IfNone o P) is well
    so none P well (Some f) is =
        let among : Among (actor.Client e.client, f) faults = subst (λ (ps : List (Actor × RunFault)). Among (actor.Client e.client, f) ps) (sym told) (among-right (actor.Client e.client, f) before (filter_map client_fault clients) (told_among (λ (x : ClientEnd). x.client) (λ x. x.fault) e f clients there is)) in
        absurd (none f (subst (λ n. Among (actor.Client n, f) faults) num among))

-- the ends of all clients' tasks
pub all_did : {Y : Type 0} (client : Y → ℕ) (given : Y → List Wish) (table : Y → TableId) (w opened : ExactWorld) (b : BookValue) (wishes : List Wish) (others : List Y) (clients : List ClientEnd) (faults before : List (Actor × RunFault))
    → b.opening ≡ w → opened ≡ w → map client others ≡ range_with_len 1 (length opened.clients) → AreClientEnds (map (λ t. with_wishes (client t) (given t) (table t)) others) clients → All (λ t. given t ≡ own_wishes (client t) wishes) others
    → All (λ e. Known b e.berth) clients → faults ≡ before ++ filter_map client_fault clients → AllDidAsWished w b.history wishes faults
all_did client given table w opened b wishes others clients faults before opening same all_clients of_clients own known told c from to =
    let named : map (λ (e : ClientEnd). e.client) clients ≡ range_with_len 1 (length w.clients) =
    same_parts client_in (λ t. with_wishes (client t) (given t) (table t)) (λ (p : ℕ × List Wish × TableId). p.0) clients others of_clients.named ∙ all_clients ∙ ap (λ (v : ExactWorld). range_with_len 1 (length v.clients)) same in
    let (e, there, num) = numbered_so (λ (x : ClientEnd). x.client) clients 1 (length w.clients) c named from (omega (arith, to)) in
    let mine = carried client_in (λ t. with_wishes (client t) (given t) (table t)) (HasOwn wishes) clients others of_clients.named own in
    did w b wishes faults clients before e c opening told there num (all_among IsClientEnd e clients there of_clients.each) (all_among (λ (x : ClientEnd). Known b x.berth) e clients there known)
    (all_among (λ (x : ClientEnd). HasOwn wishes (client_in x)) e clients there mine)

-- the berths of tasks are of this book
pub tasks_of_book : {Y : Type 0} (table : Y → TableId) (book now : TableId) (Is : TableId → Y → Type 0) (others : List Y) → ((t : Y) → Is book t → table t ≡ book) → now ≡ book → All (Is book) others → All (λ t. table t ≡ now) others
tasks_of_book table book now Is others of_task same each = All-weaker (Is book) (λ t. table t ≡ now) (λ t is. of_task t is ∙ sym same) others each

-- the berths of ends are of the book of their tasks
pub tables_are : {Y : Type 0} (client : Y → ℕ) (given : Y → List Wish) (table : Y → TableId) (book : TableId) (others : List Y) (clients : List ClientEnd)
    → AreClientEnds (map (λ t. with_wishes (client t) (given t) (table t)) others) clients → All (λ t. table t ≡ book) others → All (λ e. e.berth.table ≡ book) clients
tables_are client given table book others clients of_clients each =
    carried client_in (λ t. with_wishes (client t) (given t) (table t)) (λ (p : ℕ × List Wish × TableId). p.2 ≡ book) clients others of_clients.named each
