-- Lines that end with one by which a life begins.
use Rattle.std.proofs.Common.{◌≡◌, ◌⊎◌, ℕ, Bool, true, false, cond, List, [], ◌∷◌, ◌++◌, length, take, ◌-◌, Option, Some, None, Result, Ok, Err, refl, sym, ◌∙◌, ap, inl, inr}
use Rattle.std.specs.Prelude.{codes, IfOk}
use Rattle.std.proofs.lemmas.Slice.Eq.{ends_is}
use Rattle.std.proofs.lemmas.Bool.Decides.{Decides-eqb}
use Rattle.hex.specs.Hex.{decode_of}
use Rattle.lock_messages.specs.declared.ids.Actor.{Actor}
use Rattle.lock_messages.specs.Texts.{actor_text}
use Rattle.event_lines.specs.Lines.{words}
use Rattle.own_journals.specs.declared.faults.OwnLineFault.{OwnLineFault}
use Rattle.own_journals.specs.declared.faults.OwnLineFault.TheVariants as fault
use Rattle.own_journals.specs.declared.lines.OwnLine.{OwnLine}
use Rattle.own_journals.specs.declared.lines.OwnLine.TheVariants as own
use Rattle.own_journals.specs.OwnLines.{IsWholeOfNone, EndsInLife, EndsAsLife, IsText, Frames, last_from, last_three, ends_in_life, life_in, ReadsFrame, ReadsWhole, ReadsLife, ReadsLine}
use Rattle.own_journals.proofs.OwnLineFacts.{Three, life-is-no-reading}

-- a word that ends with `life`

life-end : (word : List ℕ) → ends_in_life word ≡ true → (cut : List ℕ) × (word ≡ cut ++ codes "life")
life-end word h = (take (length word - 4) word, (ends_is Decides-eqb word (codes "life") (ends_in_life word) refl).0 h)

end-of-life : (cut : List ℕ) → ends_in_life (cut ++ codes "life") ≡ true
end-of-life cut = (ends_is Decides-eqb (cut ++ codes "life") (codes "life") (ends_in_life (cut ++ codes "life")) refl).1 cut refl

-- the last three words

last-of-more : (a b c : List ℕ) (before : List (List ℕ)) (x y z : List ℕ) → last_from a b c (before ++ x ∷ y ∷ z ∷ []) ≡ (x, y, z)
last-of-more a b c [] x y z = refl
last-of-more a b c (d ∷ before) x y z = last-of-more b c d before x y z

last-of : (before : List (List ℕ)) (x y z : List ℕ) → last_three (before ++ x ∷ y ∷ z ∷ []) ≡ Some (x, y, z)
last-of [] x y z = refl
last-of (a ∷ []) x y z = refl
last-of (a ∷ b ∷ []) x y z = refl
last-of (a ∷ b ∷ c ∷ before) x y z = ap Some (last-of-more a b c before x y z)

last-from-are : (a b c : List ℕ) (ws : List (List ℕ)) → (before : List (List ℕ)) × (a ∷ b ∷ c ∷ ws ≡ before ++ (last_from a b c ws).0 ∷ (last_from a b c ws).1 ∷ (last_from a b c ws).2 ∷ [])
last-from-are a b c [] = ([], refl)
last-from-are a b c (d ∷ ws) = let (before, is) = last-from-are b c d ws in (a ∷ before, ap (λ xs. a ∷ xs) is)

last-are : (ws : List (List ℕ)) (t : Three) → last_three ws ≡ Some t → (before : List (List ℕ)) × (ws ≡ before ++ t.0 ∷ t.1 ∷ t.2 ∷ [])
last-are [] t h = absurd (let z : None ≡ Some t = h in cc)
last-are (a ∷ []) t h = absurd (let z : None ≡ Some t = h in cc)
last-are (a ∷ b ∷ []) t h = absurd (let z : None ≡ Some t = h in cc)
last-are (a ∷ b ∷ c ∷ ws) t h =
    let z : Some (last_from a b c ws) ≡ Some t = h in
    let same : last_from a b c ws ≡ t = cc in
    let (before, is) = last-from-are a b c ws in
    (before, is ∙ ap (λ (x : Three). before ++ x.0 ∷ x.1 ∷ x.2 ∷ []) same)

life-at : (o : Option Three) (n d : List ℕ) → life_in o ≡ Some (n, d) → (w : List ℕ) × (o ≡ Some (w, n, d)) × (ends_in_life w ≡ true)
life-at None n d h = absurd (let z : ◌≡◌ {A = Option (List ℕ × List ℕ)} None (Some (n, d)) = h in cc)
life-at (Some t) n d h = go (ends_in_life t.0) refl h
  where
    two : Option (List ℕ × List ℕ)
    two = Some (t.1, t.2)

    go : (b : Bool) → ends_in_life t.0 ≡ b → cond b two None ≡ Some (n, d) → (w : List ℕ) × (Some t ≡ Some (w, n, d)) × (ends_in_life w ≡ true)
    go true is z = let pair : ◌≡◌ {A = List ℕ × List ℕ} (t.1, t.2) (n, d) = cc in let first : t.1 ≡ n = ap (λ (p : List ℕ × List ℕ). p.0) pair in let second : t.2 ≡ d = ap (λ (p : List ℕ × List ℕ). p.1) pair in (t.0, ap (λ x. Some (t.0, x, t.2)) first ∙ ap (λ x. Some (t.0, n, x)) second, is)
    go false is z = absurd (let p : ◌≡◌ {A = Option (List ℕ × List ℕ)} None (Some (n, d)) = z in cc)

-- a line that ends so

life-of : (line : List ℕ) (who : Actor) (found : List ℕ) (e : EndsInLife line who found) → life_in (last_three (words line)) ≡ Some (actor_text who, e.digits)
life-of line who found e =
    ap (λ ws. life_in (last_three ws)) e.words
    ∙ ap life_in (last-of e.before (e.cut ++ codes "life") (actor_text who) e.digits)
    ∙ ap (λ b. two b) (end-of-life e.cut)
  where
    two : Bool → Option (List ℕ × List ℕ)
    two b = cond b (Some (actor_text who, e.digits)) None

life-frames : (line n d : List ℕ) (l : OwnLine) → life_in (last_three (words line)) ≡ Some (n, d) → EndsAsLife line l → Frames (codes "life") n d l
life-frames line n d (own.Life who found) is e =
    let z : ◌≡◌ {A = Option (List ℕ × List ℕ)} (Some (n, d)) (Some (actor_text who, e.digits)) = sym is ∙ life-of line who found e in
    let pair : ◌≡◌ {A = List ℕ × List ℕ} (n, d) (actor_text who, e.digits) = cc in
    let name : n ≡ actor_text who = ap (λ (p : List ℕ × List ℕ). p.0) pair in
    let digits : d ≡ e.digits = ap (λ (p : List ℕ × List ℕ). p.1) pair in
    (refl, name, e.actor, ap decode_of digits ∙ e.spell)
life-frames line n d (own.Reads who frame) is e = absurd e
life-frames line n d (own.Does event) is e = absurd e

frames-life : (line n d : List ℕ) (l : OwnLine) → life_in (last_three (words line)) ≡ Some (n, d) → Frames (codes "life") n d l → EndsAsLife line l
frames-life line n d (own.Life who found) is h =
    let (w, three, ends) = life-at (last_three (words line)) n d is in
    let (before, all) = last-are (words line) (w, n, d) three in
    let (cut, word) = life-end w ends in
    record {
      before = before;
      cut = cut;
      digits = d;
      words = all ∙ ap (λ x. before ++ x ∷ n ∷ d ∷ []) word ∙ ap (λ x. before ++ (cut ++ codes "life") ∷ x ∷ d ∷ []) h.1;
      spell = h.3;
      actor = h.2;
    }
frames-life line n d (own.Reads who frame) is h = absurd (life-is-no-reading who h.0)
frames-life line n d (own.Does event) is h = absurd h

pub life-reads : (line n d : List ℕ) (r : Result OwnLine OwnLineFault) → life_in (last_three (words line)) ≡ Some (n, d) → ReadsFrame (codes "life") n d r → ReadsLife line r
life-reads line n d r is h = record { found = found r h.found; only = λ l ends. h.only l (life-frames line n d l is ends) }
  where
    found : (r : Result OwnLine OwnLineFault) → IfOk r (λ l. Frames (codes "life") n d l) → IfOk r (EndsAsLife line)
    found (Ok l) h = frames-life line n d l is h
    found (Err f) h = tt

pub no-life : (line : List ℕ) → life_in (last_three (words line)) ≡ None → ReadsLife line (Err fault.NoLine)
no-life line none = record { found = tt; only = λ l ends. absurd (go l ends) }
  where
    go : (l : OwnLine) → EndsAsLife line l → ⊥
    go (own.Life who found) e = let z : ◌≡◌ {A = Option (List ℕ × List ℕ)} None (Some (actor_text who, e.digits)) = sym none ∙ life-of line who found e in cc
    go (own.Reads who frame) e = e
    go (own.Does event) e = e

-- a line that was read

pub whole-read : (line : List ℕ) (l : OwnLine) → ReadsWhole line (Ok l) → ReadsLine line (Ok l)
whole-read line l h = record { found = inl h.found; only = only }
  where
    only : (other : OwnLine) → IsText line other → ◌≡◌ {A = Result OwnLine OwnLineFault} (Ok l) (Ok other) ⊎ ◌≡◌ {A = Result OwnLine OwnLineFault} (Ok l) (Err fault.Memory)
    only other (inl whole) = h.only other whole
    only other (inr cut) = absurd (cut.0 l h.found)

no-whole : (line : List ℕ) → ReadsWhole line (Err fault.NoLine) → IsWholeOfNone line
no-whole line h l whole = go (h.only l whole)
  where
    go : ◌≡◌ {A = Result OwnLine OwnLineFault} (Err fault.NoLine) (Ok l) ⊎ ◌≡◌ {A = Result OwnLine OwnLineFault} (Err fault.NoLine) (Err fault.Memory) → ⊥
    go (inl e) = cc
    go (inr e) = cc

pub life-read : (line : List ℕ) (r : Result OwnLine OwnLineFault) → ReadsWhole line (Err fault.NoLine) → ReadsLife line r → ReadsLine line r
life-read line r whole h = record { found = found r h.found; only = only }
  where
    found : (r : Result OwnLine OwnLineFault) → IfOk r (EndsAsLife line) → IfOk r (IsText line)
    found (Ok l) ends = inr (no-whole line whole, ends)
    found (Err f) ends = tt

    only : (l : OwnLine) → IsText line l → (r ≡ Ok l) ⊎ (r ≡ Err fault.Memory)
    only l (inl text) = absurd (no-whole line whole l text)
    only l (inr cut) = h.only l cut.1

pub unread : (line : List ℕ) → ReadsLine line (Err fault.Memory)
unread line = record { found = tt; only = λ l text. inr refl }
