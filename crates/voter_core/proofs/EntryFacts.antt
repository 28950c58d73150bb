-- Entries of clients that have one each, looked up and replaced.
use Rattle.std.proofs.Common.{◌≡◌, ◌⊎◌, inl, inr, ℕ, zero, suc, ◌<◌, Bool, true, false, ◌&&◌, cond, List, [], ◌∷◌, length, Option, Some, None, set, slice_get, refl, sym, ap, ◌∙◌, arith}
use Rattle.std.proofs.lemmas.Bool.{eqb-true, eq-eqb, cases_Bool}
use Rattle.lock_model.specs.declared.entries.Entry.{Entry}
use Rattle.lock_model.specs.declared.entries.Live.{Live}
use Rattle.lock_model.specs.declared.problems.Problem.{Problem}
use Rattle.lock_model.specs.ExactStations.{is_of, knows, EachOnce, is_waiting, admits, promoted, settled_live, settled_entry}
use Rattle.stable_record.specs.EntryLists.{replaced}
use Rattle.stable_record.proofs.JudgingFacts.{knows-at}
use Rattle.stable_record.proofs.ListFacts.{replaced-unknown}
use Rattle.voter_core.specs.Voters.{admitted_now}

-- the entry of a client, replaced, is the one at its place
pub replaced-at : (es : List Entry) (i : ℕ) (e f : Entry) → EachOnce es → slice_get es i ≡ Some e → f.client ≡ e.client → replaced f es ≡ set es i f
replaced-at [] i e f once h same = refl
replaced-at (d ∷ es) zero e f once h same =
    let is : d ≡ e = cc in
    let client : d.client ≡ f.client = ap (λ (x : Entry). x.client) is ∙ sym same in
    ap (λ b. cond b f d ∷ replaced f es) (eq-eqb d.client f.client client)
    ∙ ap (λ (l : List Entry). f ∷ l) (replaced-unknown f es (ap (λ k. knows k es) (sym client) ∙ once.0))
replaced-at (d ∷ es) (suc i) e f once h same = go (replaced-at es i e f once.1 h same) (cases_Bool (is_of f.client d))
  where
    known : knows f.client es ≡ true
    known = ap (λ k. knows k es) same ∙ knows-at es i e h

    go : replaced f es ≡ set es i f → (is_of f.client d ≡ true) ⊎ (is_of f.client d ≡ false) → replaced f (d ∷ es) ≡ set (d ∷ es) (suc i) f
    go rest (inl p) =
        let clash : true ≡ false = sym known ∙ ap (λ k. knows k es) (sym (eqb-true d.client f.client p)) ∙ once.0 in
        cc
    go rest (inr p) = ap (λ b. cond b f d ∷ replaced f es) p ∙ ap (λ (l : List Entry). d ∷ l) rest

pub set-same : (es : List Entry) (i : ℕ) (e : Entry) → slice_get es i ≡ Some e → set es i e ≡ es
set-same [] i e h = refl
set-same (d ∷ es) zero e h = let is : d ≡ e = cc in ap (λ (x : Entry). x ∷ es) (sym is)
set-same (d ∷ es) (suc i) e h = ap (λ (l : List Entry). d ∷ l) (set-same es i e h)

-- whose turn it isn't, stays
stays : (p : Problem) (es : List Entry) (l : Live) (b : Bool) → (is_waiting l.status && admits p l.mode l.resource es) ≡ b → admitted_now p es (Some l) ≡ None → settled_live p es l ≡ l
stays p es l true is h = let z : Some (promoted l) ≡ None = sym (ap (λ b. cond b (Some (promoted l)) None) is) ∙ h in cc
stays p es l false is h = ap (λ b. cond b (promoted l) l) is

pub settled-same : (p : Problem) (es : List Entry) (client floor : ℕ) (live : Option Live) → admitted_now p es live ≡ None →
    settled_entry p es (record { client = client; floor = floor; live = live }) ≡ record { client = client; floor = floor; live = live }
settled-same p es client floor None h = refl
settled-same p es client floor (Some l) h = ap (λ k. record { client = client; floor = floor; live = Some k }) (stays p es l (is_waiting l.status && admits p l.mode l.resource es) refl h)

pub none-of : (o : Option Live) → ((x : Live) → o ≡ Some x → ⊥) → o ≡ None
none-of None h = refl
none-of (Some x) h = absurd (h x refl)

pub some-at : (es : List Entry) (i : ℕ) → i < length es → (e : Entry) × (slice_get es i ≡ Some e)
some-at [] i h = absurd (omega arith)
some-at (e ∷ es) zero h = (e, refl)
some-at (e ∷ es) (suc i) h = some-at es i (omega arith)
