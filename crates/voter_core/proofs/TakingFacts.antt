-- A new ticket is taken up: who sends it has no live ticket by then, and what is said and left.
use Rattle.std.proofs.Common.{◌≡◌, ◌⊎◌, inl, inr, ℕ, ◌+◌, ◌-◌, ◌<◌, ◌≤◌, ◌==◌, Bool, true, false, cond, nat_le, nat_lt, List, [], ◌∷◌, ◌++◌, Option, Some, None, IfSome, slice_set, refl, sym, ap, ◌∙◌, subst, arith}
use Rattle.std.specs.List.{AllByRecursion}
use Rattle.std.specs.Option.{option_map, option_map_or}
use Rattle.std.specs.Str.{bytes_eq}
use Rattle.std.proofs.lemmas.Bool.{eq-eqb, cases_Bool, ltb-false, leb-false}
use Rattle.std.proofs.lemmas.Bool.Decides.{Decides-ltb}
use Rattle.lock_messages.specs.declared.messages.Message.{Message}
use Rattle.lock_messages.specs.declared.messages.Message.TheVariants.{Grant, Busy, Over}
use Rattle.lock_messages.specs.declared.tickets.Ticket.{Ticket}
use Rattle.lock_model.specs.declared.entries.Entry.{Entry}
use Rattle.lock_model.specs.declared.entries.Live.{Live}
use Rattle.lock_model.specs.declared.problems.Problem.{Problem}
use Rattle.lock_model.specs.ExactStations.{is_of, entry_of, EachOnce, IsAboveFloor, admits, settled_live, settled_entry, settle, settled}
use Rattle.lock_model.specs.ExactDecisions.{ended, moved_last, grants, live_reply, reply_of_live, reply_to_known, new_entry, takes_up}
use Rattle.stable_record.specs.EntryLists.{replaced}
use Rattle.stable_record.specs.Laws.{StrangersLeaveTheIndex}
use Rattle.stable_record.specs.Lines.{Tickets, waits_for, one_if}
use Rattle.stable_record.specs.Indexing.{IndexesWith, with_announced, announced_entry}
use Rattle.stable_record.proofs.IndexFacts.{nowhere}
use Rattle.stable_record.proofs.LineFacts.{count-snoc}
use Rattle.voter_core.specs.Freed.{waiting_for}
use Rattle.voter_core.proofs.FreedFacts.{all-at}
use Rattle.voter_core.proofs.EndFacts.{fresh, ended-unknown, find-last, stays-ended, replaced-ends}
use Rattle.voter_core.proofs.QueueFacts.{place-of}

-- ---- who is announced counts where it is announced

pub waiting-announced : (o : Option (List ℕ)) (c : ℕ) (x : List ℕ) (es : List Entry) → waiting_for o (with_announced (Some (c, x)) es) ≡ waiting_for o es + one_if (option_map_or (λ y. bytes_eq x y) o false)
waiting-announced None c x es = refl
waiting-announced (Some y) c x es = count-snoc (waits_for y) es (announced_entry (c, x))

-- ---- a stranger's entry

pub pushed-indexed : (a : Option (ℕ × List ℕ)) (lines : List (List ℕ × Tickets)) (es new : List Entry) (e : Entry) (b : Bool) → StrangersLeaveTheIndex → e.live ≡ None → new ≡ cond b (es ++ e ∷ []) es → IndexesWith a lines es → IndexesWith a lines new
pushed-indexed a lines es new e true law none made h = subst (IndexesWith a lines) (sym made) (law a lines es e none h)
pushed-indexed a lines es new e false law none made h = subst (IndexesWith a lines) (sym made) h

-- ---- once the attempts before a new ticket have ended its client has no live one

abbrev NoLive : Option Entry → Type 0
NoLive o = IfSome o (λ e. e.live ≡ None)

all-found : (P : Entry → Type 0) (c : ℕ) (es : List Entry) (e : Entry) → AllByRecursion P es → entry_of es c ≡ Some e → P e
all-found P c es e h found = let place = place-of c es e found in all-at P es place.0 e h place.1

found-replaced : (c : ℕ) (es : List Entry) (e f : Entry) → entry_of es c ≡ Some e → f.client ≡ c → entry_of (replaced f es) c ≡ Some f
found-replaced c [] e f h same = cc
found-replaced c (d ∷ es) e f h same = go (λ k. found-replaced c es e f k same) (is_of c d) refl
  where
    turned : is_of f.client d ≡ is_of c d
    turned = ap (λ k. d.client == k) same

    go : (entry_of es c ≡ Some e → entry_of (replaced f es) c ≡ Some f) → (b : Bool) → is_of c d ≡ b → entry_of (replaced f (d ∷ es)) c ≡ Some f
    go more true is =
        ap (λ b. entry_of (cond b f d ∷ replaced f es) c) (turned ∙ is) ∙ ap (λ b. cond b (Some f) (entry_of (replaced f es) c)) (eq-eqb f.client c same)
    go more false is =
        ap (λ b. entry_of (cond b f d ∷ replaced f es) c) (turned ∙ is) ∙ ap (λ b. cond b (Some d) (entry_of (replaced f es) c)) is
        ∙ more (sym (ap (λ b. cond b (Some d) (entry_of es c)) is) ∙ h)

no-some : (m : Message) → Some m ≡ None → ⊥
no-some m h = cc

-- a ticket that isn't met is later than the floor, and no live ticket has its attempt
later : (n : ℕ) (t : Ticket) (e : Entry) → reply_to_known n t (Some e) ≡ None → (e.floor < t.attempt) × (reply_of_live n t e.live ≡ None)
later n t e new = go (nat_le t.attempt e.floor) refl
  where
    over : Message
    over = Over n t.client t.attempt

    go : (b : Bool) → nat_le t.attempt e.floor ≡ b → (e.floor < t.attempt) × (reply_of_live n t e.live ≡ None)
    go true is = absurd (no-some over (sym (ap (λ b. cond b (Some over) (reply_of_live n t e.live)) is) ∙ new))
    go false is = (leb-false t.attempt e.floor is, sym (ap (λ b. cond b (Some over) (reply_of_live n t e.live)) is) ∙ new)

not-live : (n : ℕ) (t : Ticket) (live : Option Live) (floor : ℕ) → reply_of_live n t live ≡ None → IfSome live (λ l. l.attempt ≡ floor + 1) → t.attempt ≡ floor + 1 → live ≡ None
not-live n t None floor new above same = refl
not-live n t (Some l) floor new above same =
    let is : l.attempt ≡ t.attempt = above ∙ sym same in
    absurd (no-some (live_reply n t l) (sym (ap (λ b. cond b (Some (live_reply n t l)) None) (eq-eqb l.attempt t.attempt is)) ∙ new))

-- once the attempts before a new ticket have ended its client has no live one
pub ended-none : (n : ℕ) (t : Ticket) (es : List Entry) → EachOnce es → AllByRecursion IsAboveFloor es → reply_to_known n t (entry_of es t.client) ≡ None → NoLive (entry_of (ended t.client (t.attempt - 1) es) t.client)
ended-none n t es once above new = go (entry_of es t.client) refl new
  where
    go : (o : Option Entry) → entry_of es t.client ≡ o → reply_to_known n t o ≡ None → NoLive (entry_of (ended t.client (t.attempt - 1) es) t.client)
    go None is met =
        let none = nowhere t.client es is in
        subst NoLive (sym (ap (λ l. entry_of l t.client) (ended-unknown t.client (t.attempt - 1) es none) ∙ find-last t.client es (fresh t.client (t.attempt - 1)) none refl)) refl
    go (Some e) is met = by (cases_Bool (nat_lt e.floor (t.attempt - 1)))
      where
        by : (nat_lt e.floor (t.attempt - 1) ≡ true) ⊎ (nat_lt e.floor (t.attempt - 1) ≡ false) → NoLive (entry_of (ended t.client (t.attempt - 1) es) t.client)
        by (inl low) =
            subst NoLive (sym (ap (λ l. entry_of l t.client) (sym (replaced-ends t.client (t.attempt - 1) es e once (sym is) ((Decides-ltb e.floor (t.attempt - 1)).0 low)))
            ∙ found-replaced t.client es e (fresh t.client (t.attempt - 1)) is refl)) refl
        by (inr high) =
            let met_parts = later n t e met in
            let top : t.attempt - 1 ≤ e.floor = ltb-false e.floor (t.attempt - 1) high in
            let same : t.attempt ≡ e.floor + 1 = omega (arith, top, met_parts.0) in
            subst NoLive (sym (ap (λ l. entry_of l t.client) (sym (stays-ended t.client (t.attempt - 1) es e once (sym is) top)) ∙ is))
            (not-live n t e.live e.floor met_parts.1 (all-found IsAboveFloor t.client es e above is) same)

none-settle : (p : Problem) (c : ℕ) (front es : List Entry) → NoLive (entry_of es c) → NoLive (entry_of (settle p front es) c)
none-settle p c front [] h = tt
none-settle p c front (e ∷ es) h = go (is_of c e) (none-settle p c (front ++ settled_entry p (front ++ e ∷ es) e ∷ []) es) h
  where
    rest : List Entry
    rest = settle p (front ++ settled_entry p (front ++ e ∷ es) e ∷ []) es

    go : (b : Bool) → (NoLive (entry_of es c) → NoLive (entry_of rest c)) → NoLive (cond b (Some e) (entry_of es c)) → NoLive (cond b (Some (settled_entry p (front ++ e ∷ es) e)) (entry_of rest c))
    go true more k = ap (option_map (settled_live p (front ++ e ∷ es))) k
    go false more k = more k

-- nor has it once the others have settled
pub taken-none : (p : Problem) (n : ℕ) (t : Ticket) (es before after : List Entry) → EachOnce es → AllByRecursion IsAboveFloor es → reply_to_known n t (entry_of es t.client) ≡ None →
    before ≡ ended t.client (t.attempt - 1) es → after ≡ settled p before → NoLive (entry_of after t.client)
taken-none p n t es before after once above new made settled_so =
    subst (λ l. NoLive (entry_of l t.client)) (sym (settled_so ∙ ap (settled p) made)) (none-settle p t.client [] (ended t.client (t.attempt - 1) es) (ended-none n t es once above new))

-- ---- what is left, and what is said

pub taken-entries : (n : ℕ) (p : Problem) (es : List Entry) (t : Ticket) (entry : Entry) (before after last : List Entry) (admitted : Bool) → last ≡ moved_last entry after → entry ≡ new_entry t admitted →
    after ≡ settled p before → before ≡ ended t.client (t.attempt - 1) es → admitted ≡ admits p t.mode t.resource after → last ≡ (takes_up n p es t).entries
taken-entries n p es t entry before after last admitted a b d e f =
    a ∙ ap (λ x. moved_last x after) b ∙ ap (λ x. moved_last (new_entry t x) after) f ∙ ap (λ l. moved_last (new_entry t (admits p t.mode t.resource l)) l) (d ∙ ap (settled p) e)

first-said : (b : Bool) (grant busy : Message) (gs : List Message) → cond b (slice_set (busy ∷ gs) 0 grant) (busy ∷ gs) ≡ cond b grant busy ∷ gs
first-said true grant busy gs = refl
first-said false grant busy gs = refl

pub taken-replies : (n : ℕ) (p : Problem) (es : List Entry) (t : Ticket) (first pushed said last : List Message) (before after : List Entry) (admitted : Bool) → first ≡ [] → pushed ≡ first ++ Busy n t ∷ [] →
    said ≡ pushed ++ grants n before after → last ≡ cond admitted (slice_set said 0 (Grant n t)) said → before ≡ ended t.client (t.attempt - 1) es → after ≡ settled p before →
    admitted ≡ admits p t.mode t.resource after → last ≡ (takes_up n p es t).replies
taken-replies n p es t first pushed said last before after admitted none busy told set_so made settled_so asked =
    let whole : said ≡ Busy n t ∷ grants n before after = told ∙ ap (λ ms. ms ++ grants n before after) (busy ∙ ap (λ ms. ms ++ Busy n t ∷ []) none) in
    set_so ∙ ap (λ ms. cond admitted (slice_set ms 0 (Grant n t)) ms) whole ∙ first-said admitted (Grant n t) (Busy n t) (grants n before after)
    ∙ ap (λ b. cond b (Grant n t) (Busy n t) ∷ grants n before after) asked
    ∙ ap (λ l. cond (admits p t.mode t.resource l) (Grant n t) (Busy n t) ∷ grants n before l) settled_so
    ∙ ap (λ l. cond (admits p t.mode t.resource (settled p l)) (Grant n t) (Busy n t) ∷ grants n l (settled p l)) made
