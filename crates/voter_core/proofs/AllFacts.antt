-- Settling by going over all entries.
use Rattle.std.proofs.Common.{◌≡◌, ℕ, zero, suc, ◌+◌, Bool, true, false, cond, List, [], ◌∷◌, ◌++◌, length, map, drop, Option, Some, None, slice_get, refl, sym, ap, ◌∙◌, subst, arith}
use Rattle.std.specs.Option.{option_map}
use Rattle.std.proofs.lemmas.Bool.{eqb-true}
use Rattle.std.proofs.lemmas.List.{append_assoc}
use Rattle.lock_messages.specs.declared.messages.Message.{Message}
use Rattle.lock_model.specs.declared.entries.Entry.{Entry}
use Rattle.lock_model.specs.declared.problems.Problem.{Problem}
use Rattle.lock_model.specs.ExactStations.{is_of, entry_of, EachOnce, settled_entry, settle, settled}
use Rattle.lock_model.specs.ExactDecisions.{told, grants}
use Rattle.stable_record.specs.EntryLists.{replaced}
use Rattle.stable_record.proofs.JudgingFacts.{seam}
use Rattle.voter_core.specs.Queues.{settle_by, told_by, settle_one, settle_each, told_one, told_each}
use Rattle.voter_core.proofs.QueueFacts.{set-seam, one-at, found-at, once-one, Walks, drop-next, names-length}

-- the clients of the entries, in their order
abbrev pub names : List Entry → List ℕ
names es = map (λ (e : Entry). e.client) es

-- a client's turn moves no client
names-replaced : (f : Entry) (es : List Entry) → names (replaced f es) ≡ names es
names-replaced f [] = refl
names-replaced f (d ∷ es) = go (names-replaced f es) (is_of f.client d) refl
  where
    go : names (replaced f es) ≡ names es → (b : Bool) → is_of f.client d ≡ b → names (cond b f d ∷ replaced f es) ≡ d.client ∷ names es
    go rest true is = ap (λ k. k ∷ names (replaced f es)) (sym (eqb-true d.client f.client is)) ∙ ap (λ (l : List ℕ). d.client ∷ l) rest
    go rest false is = ap (λ (l : List ℕ). d.client ∷ l) rest

names-one : (p : Problem) (c : ℕ) (es : List Entry) → names (settle_one p c es) ≡ names es
names-one p c es = go (entry_of es c)
  where
    go : (o : Option Entry) → names (settle_by p es o) ≡ names es
    go None = refl
    go (Some e) = names-replaced (settled_entry p es e) es

walk-all : (p : Problem) (n : ℕ) (front rest : List Entry) → EachOnce (front ++ rest) → Walks p n (names rest) front rest
walk-all p n front [] once = (refl, refl)
walk-all p n front (e ∷ rest) once =
    let f : Entry = settled_entry p (front ++ e ∷ rest) e in
    let made : settle_one p e.client (front ++ e ∷ rest) ≡ (front ++ settled_entry p (front ++ e ∷ rest) e ∷ []) ++ rest =
    one-at p (front ++ e ∷ rest) (length front) e once (seam front rest e) ∙ set-seam front rest e (settled_entry p (front ++ e ∷ rest) e) ∙ sym (append_assoc front (settled_entry p (front ++ e ∷ rest) e ∷ []) rest) in
    let heard : told_one p n e.client (front ++ e ∷ rest) ≡ told n e (settled_entry p (front ++ e ∷ rest) e) =
    ap (told_by p n (front ++ e ∷ rest)) (found-at (front ++ e ∷ rest) (length front) e once (seam front rest e)) in
    let rec = walk-all p n (front ++ f ∷ []) rest (subst EachOnce made (once-one p e.client (front ++ e ∷ rest) once)) in (
      ap (settle_each p (names rest)) made ∙ rec.0 ∙ append_assoc front (f ∷ []) (settle p (front ++ f ∷ []) rest),
      ap (λ ms. ms ++ told_each p n (names rest) (settle_one p e.client (front ++ e ∷ rest))) heard ∙ ap (λ ms. told n e f ++ ms) (ap (told_each p n (names rest)) made ∙ rec.1),
    )

-- those before this place have settled, and what is left is to settle the others
pub record AllSettled (p : Problem) (n : ℕ) (old : List Entry) (first : List Message) (place : ℕ) (now : List Entry) (replies : List Message) : Type 0 where
  pub goes_on : settle_each p (drop place (names old)) now ≡ settled p old
  pub told_so : replies ++ told_each p n (drop place (names old)) now ≡ first ++ grants n old (settled p old)
  pub same : names now ≡ names old
  pub once : EachOnce now

pub all-first : (p : Problem) (n : ℕ) (old : List Entry) (first : List Message) → EachOnce old → AllSettled p n old first 0 old first
all-first p n old first once =
    let w = walk-all p n [] old once in
    record { goes_on = w.0; told_so = ap (λ ms. first ++ ms) w.1; same = refl; once = once }

name-there : (es : List Entry) (place : ℕ) (e : Entry) → slice_get es place ≡ Some e → slice_get (names es) place ≡ Some e.client
name-there [] place e at = cc
name-there (d ∷ es) zero e at = let same : d ≡ e = cc in ap (λ (x : Entry). Some x.client) same
name-there (d ∷ es) (suc k) e at = name-there es k e at

pub all-next : (p : Problem) (n : ℕ) (old : List Entry) (first : List Message) (place : ℕ) (now : List Entry) (replies : List Message) → AllSettled p n old first place now replies →
    (e : Entry) → slice_get now place ≡ Some e → (new : List Entry) (more : List Message) → new ≡ settle_one p e.client now → more ≡ replies ++ told_one p n e.client now →
    AllSettled p n old first (place + 1) new more
all-next p n old first place now replies q e at new more made said =
    let c = e.client in
    let cs = drop (suc place) (names old) in
    let front : drop place (names old) ≡ c ∷ cs = drop-next (names old) place c (ap (λ l. slice_get l place) (sym q.same) ∙ name-there now place e at) in
    let next : place + 1 ≡ suc place = omega arith in
    subst (λ k. AllSettled p n old first k new more) (sym next) (record {
      goes_on = ap (settle_each p cs) made ∙ ap (λ l. settle_each p l now) (sym front) ∙ q.goes_on;
      told_so = ap (λ es. more ++ told_each p n cs es) made ∙ ap (λ ms. ms ++ told_each p n cs (settle_one p c now)) said
          ∙ append_assoc replies (told_one p n c now) (told_each p n cs (settle_one p c now)) ∙ ap (λ l. replies ++ told_each p n l now) (sym front) ∙ q.told_so;
      same = ap names made ∙ names-one p c now ∙ q.same;
      once = subst EachOnce (sym made) (once-one p c now q.once);
    })

-- as many entries are left as there were
pub all-many : (p : Problem) (n : ℕ) (old : List Entry) (first : List Message) (place : ℕ) (now : List Entry) (replies : List Message) → AllSettled p n old first place now replies → length now ≡ length old
all-many p n old first place now replies q = sym (names-length now) ∙ ap length q.same ∙ names-length old

pub named-at : (es : List Entry) (place c : ℕ) → option_map (λ (e : Entry). e.client) (slice_get es place) ≡ Some c → (e : Entry) × (slice_get es place ≡ Some e) × (e.client ≡ c)
named-at es place c h = go (slice_get es place) refl h
  where
    go : (o : Option Entry) → slice_get es place ≡ o → option_map (λ (e : Entry). e.client) o ≡ Some c → (e : Entry) × (slice_get es place ≡ Some e) × (e.client ≡ c)
    go None is h = cc
    go (Some e) is h = (e, is, let z : Some e.client ≡ Some c = h in cc)
