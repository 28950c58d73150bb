-- What is written and gathered, a line at a time.
use Rattle.std.proofs.Common.{◌≡◌, ℕ, ◌+◌, ◌<◌, slice_index_or, List, [], ◌∷◌, ◌++◌, length, take, drop, Option, Some, None, refl, sym, ap, subst, ◌∙◌, arith, append_assoc, length-append}
use Rattle.std.specs.Io.KnownBytes.{Appends}
use Rattle.std.proofs.lemmas.List.{append-nil, append_cancel_left, take_more, take-append-drop}
use Rattle.std.proofs.lemmas.List.Concat.{flat_map-append}
use Rattle.std.proofs.KnownBytes.{Appends-nil, Appends-trans}
use Rattle.world_model.specs.declared.events.Effect.{Effect}
use Rattle.world_model.specs.declared.events.Event.{Event}
use Rattle.line_streams.specs.Streams.{AppendsPart, Grows, LetsOut, with_gathered}
use Rattle.event_lines.specs.Events.{event_text}
use Rattle.journal_text.specs.Journals.{event_line, history_text, IsWellNamed, AreWellNamed}

-- a part of a part is one of the whole
pub part_later : (old mid new : Option (List ℕ)) (before part behind : List ℕ) → Appends old mid before → AppendsPart mid new part → AppendsPart old new (before ++ (part ++ behind))
part_later old mid new before part behind p q =
    let (front, back, e, some, r) = q in
    let all : before ++ (part ++ behind) ≡ (before ++ front) ++ (back ++ behind) =
    ap (λ (l : List ℕ). before ++ (l ++ behind)) e ∙ ap (λ (l : List ℕ). before ++ l) (append_assoc front back behind) ∙ sym (append_assoc before front (back ++ behind)) in
    let more : length (back ++ behind) ≡ length back + length behind = length-append back behind in
    (before ++ front, back ++ behind, all, omega (arith, more, some), Appends-trans old mid new before front p r)

-- Of a text a front was written or gathered. What was written of it is a part of the text, where something is
-- still gathered or wasn't in that front.
pub part_out : (old new : Option (List ℕ)) (gathered front back all : List ℕ) → all ≡ front ++ back → 0 < length all → 0 < length gathered + length back → Appends old (with_gathered new gathered) front → Grows old new → AppendsPart old new all
part_out None new gathered front back all e some left h g = ([], all, refl, some, tt)
part_out (Some xs) None gathered front back all e some left h g = absurd g.1
part_out (Some xs) (Some ys) gathered front back all e some left h g =
    let (more, s) = g in
    let same : more ++ gathered ≡ front = append_cancel_left xs (more ++ gathered) front (sym (append_assoc xs more gathered) ∙ ap (λ (l : List ℕ). l ++ gathered) (sym s) ∙ h) in
    let long : length (gathered ++ back) ≡ length gathered + length back = length-append gathered back in
    (more, gathered ++ back, e ∙ ap (λ (l : List ℕ). l ++ back) (sym same) ∙ append_assoc more gathered back, omega (arith, long, left), s)

pub part_since : (old new : Option (List ℕ)) (gathered all : List ℕ) → AppendsPart old (with_gathered new gathered) all → Grows old new → AppendsPart old new all
part_since old new gathered all h g =
    let (front, back, e, some, r) = h in
    let long : length all ≡ length front + length back = ap length e ∙ length-append front back in
    part_out old new gathered front back all e (omega (arith, long, some)) (omega (arith, some)) r g

-- all of it was written or gathered, and something is still gathered
pub all_but_gathered : (old new : Option (List ℕ)) (gathered all : List ℕ) → 0 < length all → 0 < length gathered → Appends old (with_gathered new gathered) all → Grows old new → AppendsPart old new all
all_but_gathered old new gathered all some left h g = part_out old new gathered all [] all (sym (append-nil all)) some (omega (arith, left)) h g

-- nothing was gathered before
pub from_nothing : (old new : Option (List ℕ)) (gathered text : List ℕ) → gathered ≡ [] → Appends (with_gathered old gathered) new text → Appends old new text
from_nothing None new gathered text e p = tt
from_nothing (Some xs) None gathered text e p = absurd p
from_nothing (Some xs) (Some ys) gathered text e p = p ∙ ap (λ (l : List ℕ). l ++ text) (ap (λ (l : List ℕ). xs ++ l) e ∙ append-nil xs)

pub part_from_nothing : (old new : Option (List ℕ)) (gathered text : List ℕ) → gathered ≡ [] → AppendsPart (with_gathered old gathered) new text → AppendsPart old new text
part_from_nothing old new gathered text e p = let (front, back, cut, some, r) = p in (front, back, cut, some, from_nothing old new gathered front e r)

-- all that was gathered is written
pub all_out : (old mid new : Option (List ℕ)) (gathered rest text : List ℕ) → Appends old (with_gathered mid gathered) text → LetsOut mid new gathered rest → Appends old (with_gathered new rest) text
all_out None mid new gathered rest text p h = tt
all_out (Some xs) None new gathered rest text p h = absurd p
all_out (Some xs) (Some ys) None gathered rest text p h = absurd h.2
all_out (Some xs) (Some ys) (Some zs) gathered rest text p h =
    ap (λ (l : List ℕ). l ++ rest) h.2 ∙ append_assoc ys h.0 rest ∙ ap (λ (l : List ℕ). ys ++ l) (sym h.1) ∙ p

pub nothing_left : (old new : Option (List ℕ)) (rest text : List ℕ) → rest ≡ [] → Appends old (with_gathered new rest) text → Appends old new text
nothing_left None new rest text e p = tt
nothing_left (Some xs) None rest text e p = absurd p
nothing_left (Some xs) (Some ys) rest text e p = sym (ap (λ (l : List ℕ). ys ++ l) e ∙ append-nil ys) ∙ p

-- one line more

pub line_more : (h : List (Event × Effect)) (i : ℕ) (p : Event × Effect) → p ≡ slice_index_or h i p → i < length h → history_text (take (i + 1) h) ≡ history_text (take i h) ++ event_line p.0
line_more h i p e l =
    ap history_text (take_more h i p l) ∙ flat_map-append (λ (q : Event × Effect). event_line q.0) (take i h) (slice_index_or h i p ∷ [])
    ∙ ap (λ (t : List ℕ). history_text (take i h) ++ t) (append-nil (event_line (slice_index_or h i p).0) ∙ ap (λ (q : Event × Effect). event_line q.0) (sym e))

-- the text, cut at a line
pub line_within : (h : List (Event × Effect)) (i : ℕ) (p : Event × Effect) → p ≡ slice_index_or h i p → i < length h → history_text h ≡ history_text (take i h) ++ (event_line p.0 ++ history_text (drop (i + 1) h))
line_within h i p e l =
    ap history_text (sym (take-append-drop (i + 1) h)) ∙ flat_map-append (λ (q : Event × Effect). event_line q.0) (take (i + 1) h) (drop (i + 1) h)
    ∙ ap (λ (t : List ℕ). t ++ history_text (drop (i + 1) h)) (line_more h i p e l)
    ∙ append_assoc (history_text (take i h)) (event_line p.0) (history_text (drop (i + 1) h))

one_more : (h : List (Event × Effect)) (p : Event × Effect) → AreWellNamed h → IsWellNamed p.0 → AreWellNamed (h ++ p ∷ [])
one_more [] p a b = (b, tt)
one_more (q ∷ h) p a b = (a.0, one_more h p a.1 b)

pub named_more : (h : List (Event × Effect)) (i : ℕ) (p : Event × Effect) → p ≡ slice_index_or h i p → i < length h → AreWellNamed (take i h) → IsWellNamed p.0 → AreWellNamed (take (i + 1) h)
named_more h i p e l a b =
    subst (λ (t : List (Event × Effect)). AreWellNamed t) (sym (take_more h i p l)) (one_more (take i h) (slice_index_or h i p) a (subst (λ (q : Event × Effect). IsWellNamed q.0) e b))

-- a line has its line feed, and so isn't empty

some_line : (e : Event) → 0 < length (event_line e)
some_line e = let long : length (event_line e) ≡ length (event_text e) + 1 = length-append (event_text e) (10 ∷ []) in omega (arith, long)

pub none_of_a_line : (o : Option (List ℕ)) (e : Event) → AppendsPart o o (event_line e)
none_of_a_line o e = ([], event_line e, refl, some_line e, Appends-nil o)

pub some_text : (h : List (Event × Effect)) → (h ≡ [] → ⊥) → 0 < length (history_text h)
some_text [] some = absurd (some refl)
some_text (p ∷ h) some =
    let long : length (history_text (p ∷ h)) ≡ length (event_line p.0) + length (history_text h) = length-append (event_line p.0) (history_text h) in
    omega (arith, long, some_line p.0)
