-- What an index tells of entries, also while a client is announced.
use Rattle.std.proofs.Common.{◌≡◌, ℕ, zero, suc, ◌<◌, Bool, nat_lt, cond, List, [], ◌∷◌, ◌++◌, length, filter, Option, Some, None, refl, ap, ◌∙◌, slice_get, arith}
use Rattle.std.proofs.lemmas.List.{length-map}
use Rattle.lock_model.specs.declared.entries.Entry.{Entry}
use Rattle.lock_model.specs.declared.entries.Live.{Live}
use Rattle.lock_model.specs.ExactStations.{if_live, any_live, holds, writer_holds, writer_waits}
use Rattle.stable_record.specs.Lines.{Tickets, waits_for, count_live, clients_of, line_in, Indexes, or_none}
use Rattle.stable_record.specs.Indexing.{announced_entry, with_announced, IndexesWith}
use Rattle.stable_record.proofs.LineFacts.{clients-snoc}
use Rattle.stable_record.proofs.JudgingFacts.{read-line, count-any}
use Rattle.stable_record.proofs.IndexFacts.{announced-any}

pub asked-holder : (a : Option (ℕ × List ℕ)) (lines : List (List ℕ × Tickets)) (es : List Entry) → IndexesWith a lines es → (x : List ℕ) → nat_lt 0 (or_none (line_in lines x)).holders ≡ any_live (holds x) es
asked-holder a lines es h x =
    ap (λ (t : Tickets). nat_lt 0 t.holders) (read-line lines (with_announced a es) h x) ∙ count-any (holds x) (with_announced a es) ∙ announced-any a (holds x) es (λ y. refl)

pub asked-writing : (a : Option (ℕ × List ℕ)) (lines : List (List ℕ × Tickets)) (es : List Entry) → IndexesWith a lines es → (x : List ℕ) → nat_lt 0 (or_none (line_in lines x)).writing_holders ≡ any_live (writer_holds x) es
asked-writing a lines es h x =
    ap (λ (t : Tickets). nat_lt 0 t.writing_holders) (read-line lines (with_announced a es) h x) ∙ count-any (writer_holds x) (with_announced a es) ∙ announced-any a (writer_holds x) es (λ y. refl)

pub asked-waiting : (a : Option (ℕ × List ℕ)) (lines : List (List ℕ × Tickets)) (es : List Entry) → IndexesWith a lines es → (x : List ℕ) → nat_lt 0 (or_none (line_in lines x)).waiting_writers ≡ any_live (writer_waits x) es
asked-waiting a lines es h x =
    ap (λ (t : Tickets). nat_lt 0 t.waiting_writers) (read-line lines (with_announced a es) h x) ∙ count-any (writer_waits x) (with_announced a es) ∙ announced-any a (writer_waits x) es (λ y. refl)

pub clients-count : (test : Live → Bool) (es : List Entry) → length (clients_of test es) ≡ count_live test es
clients-count test es = length-map (filter (λ (e : Entry). if_live test e.live) es) (λ (e : Entry). e.client)

pub asked-count : (lines : List (List ℕ × Tickets)) (es : List Entry) → Indexes lines es → (x : List ℕ) → length (or_none (line_in lines x)).waiting ≡ count_live (waits_for x) es
asked-count lines es h x = ap (λ (t : Tickets). length t.waiting) (read-line lines es h x) ∙ clients-count (waits_for x) es

in-front : (xs ys : List ℕ) (i : ℕ) → i < length xs → slice_get (xs ++ ys) i ≡ slice_get xs i
in-front [] ys i h = absurd (omega arith)
in-front (x ∷ xs) ys zero h = refl
in-front (x ∷ xs) ys (suc i) h = in-front xs ys i (omega (arith, h))

pub asked-at : (a : Option (ℕ × List ℕ)) (lines : List (List ℕ × Tickets)) (es : List Entry) → IndexesWith a lines es → (x : List ℕ) (i : ℕ) →
    slice_get (or_none (line_in lines x)).waiting i ≡ slice_get (clients_of (waits_for x) (with_announced a es)) i
asked-at a lines es h x i = ap (λ (t : Tickets). slice_get t.waiting i) (read-line lines (with_announced a es) h x)

-- before the client that is announced stand those of the entries
pub before-announced : (a : Option (ℕ × List ℕ)) (es : List Entry) (x : List ℕ) (i : ℕ) → i < count_live (waits_for x) es →
    slice_get (clients_of (waits_for x) (with_announced a es)) i ≡ slice_get (clients_of (waits_for x) es) i
before-announced None es x i lt = refl
before-announced (Some a) es x i lt =
    let last = cond (if_live (waits_for x) (announced_entry a).live) (a.0 ∷ []) [] in
    ap (λ (l : List ℕ). slice_get l i) (clients-snoc (waits_for x) es (announced_entry a))
    ∙ in-front (clients_of (waits_for x) es) last i (omega (arith, lt, clients-count (waits_for x) es))
