-- The text that is written.
use Rattle.std.proofs.Common.{◌≡◌, ℕ, List, [], ◌∷◌, ◌++◌, map, Option, Some, None, refl, sym, ◌∙◌, ap, subst, append_assoc}
use Rattle.std.specs.Prelude.{Result, Ok, Err, slice_get}
use Rattle.std.specs.Io.KnownBytes.{Appends}
use Rattle.std.specs.List.{flat_map}
use Rattle.std.proofs.lemmas.List.{append-nil, append_cancel_left}
use Rattle.std.proofs.lemmas.List.Concat.{flat_map-append}
use Rattle.std.proofs.KnownBytes.{Appends-nil, Appends-trans}
use Rattle.world_model.specs.declared.events.Event.{Event}
use Rattle.world_model.specs.declared.exact.ExactWorld.{ExactWorld}
use Rattle.merge_model.proofs.OwnRunFacts.{Pair}
use Rattle.line_streams.specs.Streams.{AppendsBeginning, AppendsPart, Grows, LetsOut, with_gathered}
use Rattle.journal_text.specs.Journals.{event_line, history_text}
use Rattle.journal_text.proofs.TextFacts.{all_out, nothing_left}
use Rattle.line_merger.specs.declared.offers.Taken.{Taken}
use Rattle.journal_merger.specs.Pendings.{Pending, told_by, told_of}
use Rattle.journal_merger.specs.Merges.{IsFound, WritesBeginning, Begins, Gathers}
use Rattle.journal_merger.specs.declared.faults.JournalsFault.{JournalsFault}
use Rattle.journal_merger.specs.declared.finding.Found.{Found}
use Rattle.journal_merger.specs.declared.finding.Found.TheVariants as found
use Rattle.journal_merger.proofs.StandFacts.{Stands, stands-begun, took-begun}

-- a beginning of a text

pub whole-begins : (old new : Option (List ℕ)) (text : List ℕ) → Appends old new text → AppendsBeginning old new text
whole-begins old new text h = (text, [], sym (append-nil text), h)

none-begins : (o : Option (List ℕ)) (text : List ℕ) → AppendsBeginning o o text
none-begins o text = ([], text, refl, Appends-nil o)

begins-before : (old new : Option (List ℕ)) (text rest : List ℕ) → AppendsBeginning old new text → AppendsBeginning old new (text ++ rest)
begins-before old new text rest h = let (front, back, e, r) = h in (front, back ++ rest, ap (λ xs. xs ++ rest) e ∙ append_assoc front back rest, r)

pub begins-after : (old mid new : Option (List ℕ)) (before text : List ℕ) → Appends old mid before → AppendsBeginning mid new text → AppendsBeginning old new (before ++ text)
begins-after old mid new before text h i =
    let (front, back, e, r) = i in
    (before ++ front, back, ap (λ xs. before ++ xs) e ∙ sym (append_assoc before front back), Appends-trans old mid new before front h r)

pub grows-none : (o : Option (List ℕ)) → Grows o o
grows-none o = ([], Appends-nil o)

pub grows-more : (a b c : Option (List ℕ)) → Grows a b → Grows b c → Grows a c
grows-more a b c g h = (g.0 ++ h.0, Appends-trans a b c g.0 h.0 g.1 h.1)

-- what was written of a beginning that was written or gathered
pub begun-out : (old new : Option (List ℕ)) (gathered text : List ℕ) → AppendsBeginning old (with_gathered new gathered) text → Grows old new → AppendsBeginning old new text
begun-out None new gathered text h g = ([], text, refl, tt)
begun-out (Some xs) None gathered text h g = absurd g.1
begun-out (Some xs) (Some ys) gathered text h g =
    let (front, back, e, r) = h in
    let (more, s) = g in
    let same : more ++ gathered ≡ front = append_cancel_left xs (more ++ gathered) front (sym (append_assoc xs more gathered) ∙ ap (λ (l : List ℕ). l ++ gathered) (sym s) ∙ r) in
    (more, gathered ++ back, e ∙ ap (λ (l : List ℕ). l ++ back) (sym same) ∙ append_assoc more gathered back, s)

-- a text that was gathered

abbrev Came : Type 0
Came = Result (Unit {0}) JournalsFault

pub gathers-none : (o : Option (List ℕ)) (g text : List ℕ) (f : JournalsFault) → Gathers {U = Unit {0}} o o g g text (Err f)
gathers-none o g text f = record { begins = none-begins (with_gathered o g) text; grows = grows-none o }

pub gathers-part : (old new : Option (List ℕ)) (had has text : List ℕ) (f : JournalsFault) → AppendsPart (with_gathered old had) (with_gathered new has) text → Grows old new → Gathers {U = Unit {0}} old new had has text (Err f)
gathers-part old new had has text f h g = let (front, back, e, some, r) = h in record { begins = (front, back, e, r); grows = g }

pub gathers-first : (old new : Option (List ℕ)) (had has text rest : List ℕ) (r : Came) (f : JournalsFault) → r ≡ Err f → Gathers old new had has text r → Gathers {U = Unit {0}} old new had has (text ++ rest) (Err f)
gathers-first old new had has text rest r f is h =
    let b : AppendsBeginning (with_gathered old had) (with_gathered new has) text = subst (Begins (with_gathered old had) (with_gathered new has) text) is h.begins in
    record { begins = begins-before (with_gathered old had) (with_gathered new has) text rest b; grows = h.grows }

pub gathers-both : (old mid new : Option (List ℕ)) (had then has text more : List ℕ) (q r : Came) (u : Unit {0}) → q ≡ Ok u → Gathers old mid had then text q → Gathers mid new then has more r → Gathers old new had has (text ++ more) r
gathers-both old mid new had then has text more q r u is h i = record { begins = go r i.begins; grows = grows-more old mid new h.grows i.grows }
  where
    all : Appends (with_gathered old had) (with_gathered mid then) text
    all = subst (Begins (with_gathered old had) (with_gathered mid then) text) is h.begins

    go : (r : Came) → Begins (with_gathered mid then) (with_gathered new has) more r → Begins (with_gathered old had) (with_gathered new has) (text ++ more) r
    go (Ok v) b = Appends-trans (with_gathered old had) (with_gathered mid then) (with_gathered new has) text more all b
    go (Err f) b = begins-after (with_gathered old had) (with_gathered mid then) (with_gathered new has) text more all b

pub gathers-nothing : (o : Option (List ℕ)) (g : List ℕ) (u : Unit {0}) → Gathers {E = JournalsFault} o o g g [] (Ok u)
gathers-nothing o g u = record { begins = Appends-nil (with_gathered o g); grows = grows-none o }

pub gathers-one : (old new : Option (List ℕ)) (had has : List ℕ) (e : Event) (r : Came) → Gathers old new had has (event_line e) r → Gathers old new had has (flat_map event_line (e ∷ [])) r
gathers-one old new had has e r h = subst (λ (t : List ℕ). Gathers old new had has t r) (sym (append-nil (event_line e))) h

pub gathers-two : (old new : Option (List ℕ)) (had has : List ℕ) (e f : Event) (r : Came) → Gathers old new had has (event_line e ++ event_line f) r → Gathers old new had has (flat_map event_line (e ∷ f ∷ [])) r
gathers-two old new had has e f r h = subst (λ (t : List ℕ). Gathers old new had has (event_line e ++ t) r) (sym (append-nil (event_line f))) h

-- the text of the journal at an index
pub gathers-at : (old new : Option (List ℕ)) (had has : List ℕ) (items pending : List Pending) (i : ℕ) (p : Pending) (t : Taken) (r : Came) → items ≡ pending → slice_get items i ≡ Some p → Gathers old new had has (flat_map event_line (told_by p t)) r →
    Gathers old new had has (flat_map event_line (told_of (slice_get pending i) t)) r
gathers-at old new had has items pending i p t r same at h =
    subst (λ (es : List Event). Gathers old new had has (flat_map event_line es) r) (sym (ap (λ o. told_of o t) (ap (λ (ps : List Pending). slice_get ps i) (sym same) ∙ at))) h

-- the text was gathered, and then there was a fault
gathers-then : (old new : Option (List ℕ)) (had has text : List ℕ) (q : Came) (u : Unit {0}) (f : JournalsFault) → q ≡ Ok u → Gathers old new had has text q → Gathers {U = Unit {0}} old new had has text (Err f)
gathers-then old new had has text q u f is h =
    let all : Appends (with_gathered old had) (with_gathered new has) text = subst (Begins (with_gathered old had) (with_gathered new has) text) is h.begins in
    record { begins = whole-begins (with_gathered old had) (with_gathered new has) text all; grows = h.grows }

pub gathers-all : (old new : Option (List ℕ)) (had has text : List ℕ) (q : Came) (u : Unit {0}) (r : Came) → q ≡ Ok u → Gathers old new had has text q → Gathers old new had has text r
gathers-all old new had has text q u (Ok v) is h = record { begins = subst (Begins (with_gathered old had) (with_gathered new has) text) is h.begins; grows = h.grows }
gathers-all old new had has text q u (Err f) is h = gathers-then old new had has text q u f is h

events-text : (events : List Pair) → flat_map event_line (map (λ (q : Pair). q.0) events) ≡ history_text events
events-text [] = refl
events-text (q ∷ events) = ap (λ t. event_line q.0 ++ t) (events-text events)

-- the text of what happened, and of what happens then

pub text-on : (a b c : Option (List ℕ)) (told events : List Pair) (es : List Event) → map (λ (q : Pair). q.0) events ≡ es → Appends a b (history_text told) → Appends b c (flat_map event_line es) → Appends a c (history_text (told ++ events))
text-on a b c told events es are h i =
    subst (Appends a c) (ap (λ x. history_text told ++ x) (ap (flat_map event_line) (sym are) ∙ events-text events) ∙ sym (flat_map-append (λ (q : Pair). event_line q.0) told events))
    (Appends-trans a b c (history_text told) (flat_map event_line es) h i)

pub begin-on : (a b c : Option (List ℕ)) (told events : List Pair) (es : List Event) → map (λ (q : Pair). q.0) events ≡ es → Appends a b (history_text told) → AppendsBeginning b c (flat_map event_line es) → AppendsBeginning a c (history_text (told ++ events))
begin-on a b c told events es are h i =
    subst (AppendsBeginning a c) (ap (λ x. history_text told ++ x) (ap (flat_map event_line) (sym are) ∙ events-text events) ∙ sym (flat_map-append (λ (q : Pair). event_line q.0) told events))
    (begins-after a b c (history_text told) (flat_map event_line es) h i)

-- what was written so far, and is gathered

pub record Written (old new : Option (List ℕ)) (gathered : List ℕ) (told : List Pair) : Type 0 where
  pub text : Appends old (with_gathered new gathered) (history_text told)
  pub grows : Grows old new

pub written-none : (o : Option (List ℕ)) (gathered : List ℕ) → gathered ≡ [] → Written o o gathered []
written-none o gathered empty = record { text = go o; grows = grows-none o }
  where
    go : (o : Option (List ℕ)) → Appends o (with_gathered o gathered) []
    go None = tt
    go (Some xs) = ap (λ (l : List ℕ). xs ++ l) empty

pub written-on : (old mid new : Option (List ℕ)) (had has : List ℕ) (told events : List Pair) (es : List Event) (r : Came) (u : Unit {0}) → map (λ (q : Pair). q.0) events ≡ es → r ≡ Ok u → Written old mid had told → Gathers mid new had has (flat_map event_line es) r → Written old new has (told ++ events)
written-on old mid new had has told events es r u are is w g = record {
  text = text-on old (with_gathered mid had) (with_gathered new has) told events es are w.text (subst (Begins (with_gathered mid had) (with_gathered new has) (flat_map event_line es)) is g.begins);
  grows = grows-more old mid new w.grows g.grows;
}

pub written-out : (old mid new : Option (List ℕ)) (gathered rest : List ℕ) (told : List Pair) → Written old mid gathered told → LetsOut mid new gathered rest → Written old new rest told
written-out old mid new gathered rest told w out = record {
  text = all_out old mid new gathered rest (history_text told) w.text out;
  grows = grows-more old mid new w.grows (out.0, out.2);
}

pub written-all : (old new : Option (List ℕ)) (gathered : List ℕ) (told : List Pair) → gathered ≡ [] → Written old new gathered told → Appends old new (history_text told)
written-all old new gathered told empty w = nothing_left old new gathered (history_text told) empty w.text

pub written-begins : (w : ExactWorld) (first pending : List Pending) (u : ExactWorld) (old new : Option (List ℕ)) (gathered : List ℕ) (told : List Pair) → Stands w first pending u told → Written old new gathered told → WritesBeginning w first old new
written-begins w first pending u old new gathered told s k = (told, stands-begun w u first pending told s, begun-out old new gathered (history_text told) (whole-begins old (with_gathered new gathered) (history_text told) k.text) k.grows)

-- a line was taken, and not all of its events were written
pub written-part : (w u v : ExactWorld) (first pending : List Pending) (i : ℕ) (old mid new : Option (List ℕ)) (had has : List ℕ) (told : List Pair) (t : Taken) (f : Found) (r : Came) (e : JournalsFault) → Stands w first pending u told → f ≡ found.Took i t → IsFound u pending f v →
    Written old mid had told → r ≡ Err e → Gathers mid new had has (flat_map event_line (told_of (slice_get pending i) t)) r → WritesBeginning w first old new
written-part w u v first pending i old mid new had has told t f r e s is h k failed g =
    let (events, begun, are) = took-begun w u v first pending i told t f s is h in
    let part : AppendsBeginning (with_gathered mid had) (with_gathered new has) (flat_map event_line (told_of (slice_get pending i) t)) = subst (Begins (with_gathered mid had) (with_gathered new has) (flat_map event_line (told_of (slice_get pending i) t))) failed g.begins in
    let all : AppendsBeginning old (with_gathered new has) (history_text (told ++ events)) = begin-on old (with_gathered mid had) (with_gathered new has) told events (told_of (slice_get pending i) t) are k.text part in
    (told ++ events, begun, begun-out old new has (history_text (told ++ events)) all (grows-more old mid new k.grows g.grows))
