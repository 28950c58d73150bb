-- Which bytes spell which line.
use Rattle.std.proofs.Common.{◌≡◌, ◌⊎◌, ◌||◌, ℕ, Bool, true, false, cond, List, [], ◌∷◌, ◌++◌, Option, Some, None, Result, Ok, Err, refl, sym, ◌∙◌, ap, subst, inl, inr, arith}
use Rattle.std.specs.Prelude.{codes, IfOk}
use Rattle.std.specs.Option.{ok_or}
use Rattle.std.specs.List.{join_with_byte}
use Rattle.std.specs.Str.{bytes_eq}
use Rattle.std.proofs.lemmas.Slice.Eq.{bytes_eq-Decides}
use Rattle.std.proofs.lemmas.List.Splits.{join_with_byte-slice_split}
use Rattle.hex.specs.Hex.{decode_of}
use Rattle.lock_messages.specs.declared.ids.Actor.{Actor}
use Rattle.lock_messages.specs.declared.ids.Actor.TheVariants as actor
use Rattle.lock_messages.specs.Texts.{actor_text}
use Rattle.world_model.specs.declared.events.Event.{Event}
use Rattle.world_model.specs.declared.events.Event.TheVariants as event
use Rattle.world_model.specs.Kinds.{kind_of, is_reading}
use Rattle.event_lines.specs.declared.faults.LineFault.{LineFault}
use Rattle.event_lines.specs.Lines.{is_space, words, IsActor}
use Rattle.event_lines.specs.Events.{event_of, event_text}
use Rattle.event_lines.specs.Laws.{EventsAreSpelledOnce}
use Rattle.event_lines.proofs.SplitFacts.{some_part}
use Rattle.own_journals.specs.declared.faults.OwnLineFault.{OwnLineFault}
use Rattle.own_journals.specs.declared.faults.OwnLineFault.TheVariants as fault
use Rattle.own_journals.specs.declared.lines.OwnLine.{OwnLine}
use Rattle.own_journals.specs.declared.lines.OwnLine.TheVariants as own
use Rattle.own_journals.specs.OwnLines.{IsPlain, IsFramed, IsWhole, reading_word, three_of, trying_in, named_in, NamesActor, SpellsBytes, Frames, is_frame_word, line_with, ReadsFrame, plain_in, framed_in, ReadsWhole}

-- words

pub four_words : (a b c rest : List ℕ) → three_of (a ∷ b ∷ c ∷ words rest) ≡ None
four_words a b c rest = let s = some_part is_space rest in ap (λ ws. three_of (a ∷ b ∷ c ∷ ws)) s.2

pub no_frame_word : (a : List ℕ) (ws : List (List ℕ)) → is_frame_word a ≡ false → framed_in (three_of (a ∷ ws)) ≡ None
no_frame_word a [] h = refl
no_frame_word a (b ∷ []) h = refl
no_frame_word a (b ∷ c ∷ []) h = ap (λ t. cond t (Some (a, b, c)) None) h
no_frame_word a (b ∷ c ∷ d ∷ ws) h = refl

pub three_framed : (a b c : List ℕ) → is_frame_word a ≡ true → framed_in (three_of (a ∷ b ∷ c ∷ [])) ≡ Some (a, b, c)
three_framed a b c h = ap (λ t. cond t (Some (a, b, c)) None) h

-- actors

names-try : EventsAreSpelledOnce → (word : List ℕ) (who : Actor) → event_of (codes "try " ++ word) ≡ Ok (event.Try who) → (word ≡ actor_text who) × IsActor who
names-try once word who h =
    let s = (once (codes "try " ++ word) (event.Try who)).0 h in
    let z : 116 ∷ 114 ∷ 121 ∷ 32 ∷ word ≡ 116 ∷ 114 ∷ 121 ∷ 32 ∷ actor_text who = s.0 in
    let same : word ≡ actor_text who = cc in
    (same, s.1.0)

try-names : EventsAreSpelledOnce → (word : List ℕ) (who : Actor) → word ≡ actor_text who → IsActor who → event_of (codes "try " ++ word) ≡ Ok (event.Try who)
try-names once word who same is = (once (codes "try " ++ word) (event.Try who)).1 (ap (λ w. codes "try " ++ w) same, (is, tt))

trying-is : (e : Event) (who : Actor) → trying_in e ≡ Some who → e ≡ event.Try who
trying-is (event.Try who) other h = let z : Some who ≡ Some other = h in let same : who ≡ other = cc in ap event.Try same
trying-is (event.Take n k) who h = absurd (let z : None ≡ Some who = h in cc)
trying-is (event.Hear c k) who h = absurd (let z : None ≡ Some who = h in cc)
trying-is (event.Begin c m x place) who h = absurd (let z : None ≡ Some who = h in cc)
trying-is (event.Fall it) who h = absurd (let z : None ≡ Some who = h in cc)
trying-is (event.Kept it) who h = absurd (let z : None ≡ Some who = h in cc)
trying-is (event.SayTo c n) who h = absurd (let z : None ≡ Some who = h in cc)
trying-is (event.Say n) who h = absurd (let z : None ≡ Some who = h in cc)
trying-is (event.Enter c) who h = absurd (let z : None ≡ Some who = h in cc)
trying-is (event.Leave c) who h = absurd (let z : None ≡ Some who = h in cc)
trying-is (event.Soften c) who h = absurd (let z : None ≡ Some who = h in cc)
trying-is (event.Rise it age) who h = absurd (let z : None ≡ Some who = h in cc)
trying-is (event.Switch n p) who h = absurd (let z : None ≡ Some who = h in cc)

pub names-actor : EventsAreSpelledOnce → (word : List ℕ) → NamesActor word (named_in (event_of (codes "try " ++ word)))
names-actor once word = go (event_of (codes "try " ++ word)) refl
  where
    only : (r : Result Event LineFault) → event_of (codes "try " ++ word) ≡ r → (who : Actor) → word ≡ actor_text who → IsActor who → (named_in r ≡ Ok who) ⊎ (named_in r ≡ Err fault.Memory)
    only r is who same known = inl (ap named_in (sym is ∙ try-names once word who same known))

    found : (e : Event) (o : Option Actor) → event_of (codes "try " ++ word) ≡ Ok e → trying_in e ≡ o → NamesActor word (named_in (Ok e))
    found e None is none = record { is = subst (λ o. IfOk (ok_or o fault.NoLine) (λ who. (word ≡ actor_text who) × IsActor who)) (sym none) tt; only = only (Ok e) is }
    found e (Some who) is some = record {
      is = subst (λ o. IfOk (ok_or o fault.NoLine) (λ x. (word ≡ actor_text x) × IsActor x)) (sym some) (names-try once word who (is ∙ ap Ok (trying-is e who some)));
      only = only (Ok e) is;
    }

    go : (r : Result Event LineFault) → event_of (codes "try " ++ word) ≡ r → NamesActor word (named_in r)
    go (Ok e) is = found e (trying_in e) is refl
    go (Err f) is = record { is = tt; only = only (Err f) is }

-- three words

abbrev pub Three : Type 0
Three = List ℕ × List ℕ × List ℕ

three-are : (ws : List (List ℕ)) (t : Three) → three_of ws ≡ Some t → ws ≡ t.0 ∷ t.1 ∷ t.2 ∷ []
three-are [] t h = absurd (let z : None ≡ Some t = h in cc)
three-are (a ∷ []) t h = absurd (let z : None ≡ Some t = h in cc)
three-are (a ∷ b ∷ []) t h = absurd (let z : None ≡ Some t = h in cc)
three-are (a ∷ b ∷ c ∷ []) t h = let z : Some (a, b, c) ≡ Some t = h in let same : (a, b, c) ≡ t = cc in ap (λ (x : Three). x.0 ∷ x.1 ∷ x.2 ∷ []) same
three-are (a ∷ b ∷ c ∷ d ∷ ws) t h = absurd (let z : None ≡ Some t = h in cc)

framed-at : (o : Option Three) (t : Three) → framed_in o ≡ Some t → (o ≡ Some t) × (is_frame_word t.0 ≡ true)
framed-at None t h = absurd (let z : None ≡ Some t = h in cc)
framed-at (Some u) t h = go (is_frame_word u.0) refl h
  where
    go : (b : Bool) → is_frame_word u.0 ≡ b → cond b (Some u) None ≡ Some t → (Some u ≡ Some t) × (is_frame_word t.0 ≡ true)
    go true is z = (z, let same : u ≡ t = cc in subst (λ (x : Three). is_frame_word x.0 ≡ true) same is)
    go false is z = absurd (let p : None ≡ Some t = z in cc)

-- a line of three words with a frame is that of no other event

differs : (x y : ℕ) (xs ys : List ℕ) → x ∷ xs ≡ y ∷ ys → x ≡ y
differs x y xs ys h = cc

later : (x y : ℕ) (xs ys : List ℕ) → x ∷ xs ≡ y ∷ ys → xs ≡ ys
later x y xs ys h = cc

life-is-none : (e : Event) (rest : List ℕ) → is_reading (kind_of e) ≡ false → event_text e ≡ 108 ∷ 105 ∷ rest → ⊥
life-is-none (event.Begin c m x place) rest n h = let z : 98 ≡ 108 = differs 98 108 _ _ h in omega (arith, z)
life-is-none (event.Try who) rest n h = let z : 116 ≡ 108 = differs 116 108 _ _ h in omega (arith, z)
life-is-none (event.Kept who) rest n h = let z : 107 ≡ 108 = differs 107 108 _ _ h in omega (arith, z)
life-is-none (event.SayTo c k) rest n h = let z : 115 ≡ 108 = differs 115 108 _ _ h in omega (arith, z)
life-is-none (event.Say k) rest n h = let z : 115 ≡ 108 = differs 115 108 _ _ h in omega (arith, z)
life-is-none (event.Take k j) rest n h = let z : 116 ≡ 108 = differs 116 108 _ _ h in omega (arith, z)
life-is-none (event.Hear c j) rest n h = let z : 104 ≡ 108 = differs 104 108 _ _ h in omega (arith, z)
life-is-none (event.Enter c) rest n h = let z : 101 ≡ 108 = differs 101 108 _ _ h in omega (arith, z)
life-is-none (event.Leave c) rest n h = let z : 101 ≡ 105 = differs 101 105 _ _ (later 108 108 _ _ h) in omega (arith, z)
life-is-none (event.Soften c) rest n h = let z : 115 ≡ 108 = differs 115 108 _ _ h in omega (arith, z)
life-is-none (event.Fall who) rest n h = let z : 102 ≡ 108 = differs 102 108 _ _ h in omega (arith, z)
life-is-none (event.Rise who age) rest n h = let z : 114 ≡ 108 = differs 114 108 _ _ h in omega (arith, z)
life-is-none (event.Switch k p) rest n h = let z : 115 ≡ 108 = differs 115 108 _ _ h in omega (arith, z)

take-is-none : (e : Event) (rest : List ℕ) → is_reading (kind_of e) ≡ false → event_text e ≡ 116 ∷ 97 ∷ rest → ⊥
take-is-none (event.Begin c m x place) rest n h = let z : 98 ≡ 116 = differs 98 116 _ _ h in omega (arith, z)
take-is-none (event.Try who) rest n h = let z : 114 ≡ 97 = differs 114 97 _ _ (later 116 116 _ _ h) in omega (arith, z)
take-is-none (event.Kept who) rest n h = let z : 107 ≡ 116 = differs 107 116 _ _ h in omega (arith, z)
take-is-none (event.SayTo c k) rest n h = let z : 115 ≡ 116 = differs 115 116 _ _ h in omega (arith, z)
take-is-none (event.Say k) rest n h = let z : 115 ≡ 116 = differs 115 116 _ _ h in omega (arith, z)
take-is-none (event.Take k j) rest n h = let z : true ≡ false = n in cc
take-is-none (event.Hear c j) rest n h = let z : 104 ≡ 116 = differs 104 116 _ _ h in omega (arith, z)
take-is-none (event.Enter c) rest n h = let z : 101 ≡ 116 = differs 101 116 _ _ h in omega (arith, z)
take-is-none (event.Leave c) rest n h = let z : 108 ≡ 116 = differs 108 116 _ _ h in omega (arith, z)
take-is-none (event.Soften c) rest n h = let z : 115 ≡ 116 = differs 115 116 _ _ h in omega (arith, z)
take-is-none (event.Fall who) rest n h = let z : 102 ≡ 116 = differs 102 116 _ _ h in omega (arith, z)
take-is-none (event.Rise who age) rest n h = let z : 114 ≡ 116 = differs 114 116 _ _ h in omega (arith, z)
take-is-none (event.Switch k p) rest n h = let z : 115 ≡ 116 = differs 115 116 _ _ h in omega (arith, z)

hear-is-none : (e : Event) (rest : List ℕ) → is_reading (kind_of e) ≡ false → event_text e ≡ 104 ∷ 101 ∷ rest → ⊥
hear-is-none (event.Begin c m x place) rest n h = let z : 98 ≡ 104 = differs 98 104 _ _ h in omega (arith, z)
hear-is-none (event.Try who) rest n h = let z : 116 ≡ 104 = differs 116 104 _ _ h in omega (arith, z)
hear-is-none (event.Kept who) rest n h = let z : 107 ≡ 104 = differs 107 104 _ _ h in omega (arith, z)
hear-is-none (event.SayTo c k) rest n h = let z : 115 ≡ 104 = differs 115 104 _ _ h in omega (arith, z)
hear-is-none (event.Say k) rest n h = let z : 115 ≡ 104 = differs 115 104 _ _ h in omega (arith, z)
hear-is-none (event.Take k j) rest n h = let z : 116 ≡ 104 = differs 116 104 _ _ h in omega (arith, z)
hear-is-none (event.Hear c j) rest n h = let z : true ≡ false = n in cc
hear-is-none (event.Enter c) rest n h = let z : 101 ≡ 104 = differs 101 104 _ _ h in omega (arith, z)
hear-is-none (event.Leave c) rest n h = let z : 108 ≡ 104 = differs 108 104 _ _ h in omega (arith, z)
hear-is-none (event.Soften c) rest n h = let z : 115 ≡ 104 = differs 115 104 _ _ h in omega (arith, z)
hear-is-none (event.Fall who) rest n h = let z : 102 ≡ 104 = differs 102 104 _ _ h in omega (arith, z)
hear-is-none (event.Rise who age) rest n h = let z : 114 ≡ 104 = differs 114 104 _ _ h in omega (arith, z)
hear-is-none (event.Switch k p) rest n h = let z : 115 ≡ 104 = differs 115 104 _ _ h in omega (arith, z)

-- the words of a line, joined, are the line
joined-line : (line a b c : List ℕ) → words line ≡ a ∷ b ∷ c ∷ [] → line ≡ join_with_byte 32 (a ∷ b ∷ c ∷ [])
joined-line line a b c h = sym (join_with_byte-slice_split 32 line) ∙ ap (join_with_byte 32) h

no-plain : (line w a d : List ℕ) (e : Event) → words line ≡ w ∷ a ∷ d ∷ [] → (w ≡ codes "life") ⊎ ((w ≡ codes "take") ⊎ (w ≡ codes "hear")) → IsPlain line e → ⊥
no-plain line w a d e is (inl life) plain = life-is-none e (102 ∷ 101 ∷ 32 ∷ (a ++ 32 ∷ d)) plain.1 (sym plain.0.0 ∙ joined-line line (codes "life") a d (is ∙ ap (λ x. x ∷ a ∷ d ∷ []) life))
no-plain line w a d e is (inr (inl take)) plain = take-is-none e (107 ∷ 101 ∷ 32 ∷ (a ++ 32 ∷ d)) plain.1 (sym plain.0.0 ∙ joined-line line (codes "take") a d (is ∙ ap (λ x. x ∷ a ∷ d ∷ []) take))
no-plain line w a d e is (inr (inr hear)) plain = hear-is-none e (97 ∷ 114 ∷ 32 ∷ (a ++ 32 ∷ d)) plain.1 (sym plain.0.0 ∙ joined-line line (codes "hear") a d (is ∙ ap (λ x. x ∷ a ∷ d ∷ []) hear))

frame-word : (w : List ℕ) → is_frame_word w ≡ true → (w ≡ codes "life") ⊎ ((w ≡ codes "take") ⊎ (w ≡ codes "hear"))
frame-word w = go (bytes_eq w (codes "life")) (bytes_eq w (codes "take")) (bytes_eq w (codes "hear")) refl refl refl
  where
    go : (r s t : Bool) → bytes_eq w (codes "life") ≡ r → bytes_eq w (codes "take") ≡ s → bytes_eq w (codes "hear") ≡ t → (r || (s || t)) ≡ true → (w ≡ codes "life") ⊎ ((w ≡ codes "take") ⊎ (w ≡ codes "hear"))
    go true s t e f g h = inl ((bytes_eq-Decides w (codes "life")).0 e)
    go false true t e f g h = inr (inl ((bytes_eq-Decides w (codes "take")).0 f))
    go false false true e f g h = inr (inr ((bytes_eq-Decides w (codes "hear")).0 g))
    go false false false e f g h = absurd (let z : false ≡ true = h in cc)

reading-word : (who : Actor) → is_frame_word (reading_word who) ≡ true
reading-word (actor.Node n) = refl
reading-word (actor.Client c) = refl

-- three words that frame a line

frames-text : (line w a d : List ℕ) (l : OwnLine) → words line ≡ w ∷ a ∷ d ∷ [] → Frames w a d l → IsWhole line l
frames-text line w a d (own.Life who found) is h = record { digits = d; words = is ∙ ap (λ x. x ∷ a ∷ d ∷ []) h.0 ∙ ap (λ x. codes "life" ∷ x ∷ d ∷ []) h.1; spell = h.3; actor = h.2 }
frames-text line w a d (own.Reads who frame) is h = record { digits = d; words = is ∙ ap (λ x. x ∷ a ∷ d ∷ []) h.0 ∙ ap (λ x. reading_word who ∷ x ∷ d ∷ []) h.1; spell = h.3; actor = h.2 }
frames-text line w a d (own.Does e) is h = absurd h

framed-frames : (line w a d word : List ℕ) (who : Actor) (bytes : List ℕ) → words line ≡ w ∷ a ∷ d ∷ [] → IsFramed line word who bytes → (w ≡ word) × (a ≡ actor_text who) × IsActor who × (decode_of d ≡ Ok bytes)
framed-frames line w a d word who bytes is h =
    let z : w ∷ a ∷ d ∷ [] ≡ word ∷ actor_text who ∷ h.digits ∷ [] = sym is ∙ h.words in
    let first : w ≡ word = cc in
    let second : a ≡ actor_text who = cc in
    let third : d ≡ h.digits = cc in
    (first, second, h.actor, ap decode_of third ∙ h.spell)

text-frames : (line w a d : List ℕ) (l : OwnLine) → words line ≡ w ∷ a ∷ d ∷ [] → is_frame_word w ≡ true → IsWhole line l → Frames w a d l
text-frames line w a d (own.Life who found) is framed h = framed-frames line w a d (codes "life") who found is h
text-frames line w a d (own.Reads who frame) is framed h = framed-frames line w a d (reading_word who) who frame is h
text-frames line w a d (own.Does e) is framed h = absurd (no-plain line w a d e is (frame-word w framed) h)

pub framed-reads : (line : List ℕ) (t : Three) (r : Result OwnLine OwnLineFault) → framed_in (three_of (words line)) ≡ Some t → ReadsFrame t.0 t.1 t.2 r → ReadsWhole line r
framed-reads line t r is h =
    let f = framed-at (three_of (words line)) t is in
    let three = three-are (words line) t f.0 in
    record { found = found r h.found three; only = λ l text. h.only l (text-frames line t.0 t.1 t.2 l three f.1 text) }
  where
    found : (r : Result OwnLine OwnLineFault) → IfOk r (λ l. Frames t.0 t.1 t.2 l) → words line ≡ t.0 ∷ t.1 ∷ t.2 ∷ [] → IfOk r (IsWhole line)
    found (Ok l) h three = frames-text line t.0 t.1 t.2 l three h
    found (Err f) h three = tt

-- and any other line

unframed : (line word : List ℕ) (who : Actor) (bytes : List ℕ) → framed_in (three_of (words line)) ≡ None → is_frame_word word ≡ true → IsFramed line word who bytes → ⊥
unframed line word who bytes none framed h =
    let some : framed_in (three_of (words line)) ≡ Some (word, actor_text who, h.digits) = ap (λ ws. framed_in (three_of ws)) h.words ∙ ap (λ b. cond b (Some (word, actor_text who, h.digits)) None) framed in
    let z : ◌≡◌ {A = Option Three} None (Some (word, actor_text who, h.digits)) = sym none ∙ some in
    cc

pub plain-reads : EventsAreSpelledOnce → (line : List ℕ) → framed_in (three_of (words line)) ≡ None → ReadsWhole line (plain_in (event_of line))
plain-reads once line none = record { found = found (event_of line) refl; only = only }
  where
    found-as : (e : Event) (b : Bool) → event_of line ≡ Ok e → is_reading (kind_of e) ≡ b → IfOk (cond b (Err fault.NoLine) (Ok (own.Does e))) (IsWhole line)
    found-as e true is reading = tt
    found-as e false is reading = ((once line e).0 is, reading)

    found : (r : Result Event LineFault) → event_of line ≡ r → IfOk (plain_in r) (IsWhole line)
    found (Ok e) is = found-as e (is_reading (kind_of e)) is refl
    found (Err f) is = tt

    only : (l : OwnLine) → IsWhole line l → (plain_in (event_of line) ≡ Ok l) ⊎ (plain_in (event_of line) ≡ Err fault.Memory)
    only (own.Life who bytes) h = absurd (unframed line (codes "life") who bytes none refl h)
    only (own.Reads who frame) h = absurd (unframed line (reading_word who) who frame none (reading-word who) h)
    only (own.Does e) h = inl (ap plain_in ((once line e).1 h.0) ∙ ap (λ b. cond b (Err fault.NoLine) (Ok (own.Does e))) h.1)

-- three words, read

same-fault : {A : Type 0} (f : OwnLineFault) (x : A) → ◌≡◌ {A = Result A OwnLineFault} (Err f) (Ok x) ⊎ ◌≡◌ {A = Result A OwnLineFault} (Err f) (Err fault.Memory) → f ≡ fault.Memory
same-fault f x (inl h) = absurd cc
same-fault f x (inr h) = cc

failed : (w a d : List ℕ) (f : OwnLineFault) → ((l : OwnLine) → Frames w a d l → f ≡ fault.Memory) → ReadsFrame w a d (Err f)
failed w a d f h = record { found = tt; only = λ l frames. inr (ap Err (h l frames)) }

pub no_actor : (w a d : List ℕ) (f : OwnLineFault) → NamesActor a (Err f) → ReadsFrame w a d (Err f)
no_actor w a d f h = failed w a d f which
  where
    which : (l : OwnLine) → Frames w a d l → f ≡ fault.Memory
    which (own.Life who bytes) k = same-fault f who (h.only who k.1 k.2)
    which (own.Reads who bytes) k = same-fault f who (h.only who k.1 k.2)
    which (own.Does e) k = absurd k

pub no_bytes : (w a d : List ℕ) (f : OwnLineFault) → SpellsBytes d (Err f) → ReadsFrame w a d (Err f)
no_bytes w a d f h = failed w a d f which
  where
    which : (l : OwnLine) → Frames w a d l → f ≡ fault.Memory
    which (own.Life who bytes) k = same-fault f bytes (h.only bytes k.3)
    which (own.Reads who bytes) k = same-fault f bytes (h.only bytes k.3)
    which (own.Does e) k = absurd k

same-value : {A : Type 0} (x y : A) → ◌≡◌ {A = Result A OwnLineFault} (Ok x) (Ok y) ⊎ ◌≡◌ {A = Result A OwnLineFault} (Ok x) (Err fault.Memory) → x ≡ y
same-value x y (inl h) = cc
same-value x y (inr h) = absurd cc

pub life-is-no-reading : (who : Actor) → codes "life" ≡ reading_word who → ⊥
life-is-no-reading (actor.Node n) h = let z : 108 ≡ 116 = differs 108 116 _ _ h in omega (arith, z)
life-is-no-reading (actor.Client c) h = let z : 108 ≡ 104 = differs 108 104 _ _ h in omega (arith, z)

pub frame_read : (w a d : List ℕ) (who : Actor) (bytes : List ℕ) → NamesActor a (Ok who) → SpellsBytes d (Ok bytes) → ReadsFrame w a d (line_with w who bytes)
frame_read w a d who bytes named spelled = go (bytes_eq w (codes "life")) (bytes_eq w (reading_word who)) refl refl
  where
    no-line : (s t : Bool) → bytes_eq w (codes "life") ≡ s → bytes_eq w (reading_word who) ≡ t → s ≡ false → t ≡ false → (l : OwnLine) → Frames w a d l → ⊥
    no-line s t e f sf tf (own.Life other found) k = let z : true ≡ false = sym ((bytes_eq-Decides w (codes "life")).1 k.0) ∙ e ∙ sf in cc
    no-line s t e f sf tf (own.Reads other frame) k =
        let same : who ≡ other = same-value who other (named.only other k.1 k.2) in
        let z : true ≡ false = sym ((bytes_eq-Decides w (reading_word who)).1 (k.0 ∙ ap reading_word (sym same))) ∙ f ∙ tf in
        cc
    no-line s t e f sf tf (own.Does d) k = k

    life-only : bytes_eq w (codes "life") ≡ true → (l : OwnLine) → Frames w a d l → ◌≡◌ {A = Result OwnLine OwnLineFault} (Ok (own.Life who bytes)) (Ok l)
    life-only e (own.Life other found) k =
        let same : who ≡ other = same-value who other (named.only other k.1 k.2) in
        let also : bytes ≡ found = same-value bytes found (spelled.only found k.3) in
        cc
    life-only e (own.Reads other frame) k = absurd (life-is-no-reading other (sym ((bytes_eq-Decides w (codes "life")).0 e) ∙ k.0))
    life-only e (own.Does d) k = absurd k

    reads-only : bytes_eq w (codes "life") ≡ false → bytes_eq w (reading_word who) ≡ true → (l : OwnLine) → Frames w a d l → ◌≡◌ {A = Result OwnLine OwnLineFault} (Ok (own.Reads who bytes)) (Ok l)
    reads-only n e (own.Life other found) k = absurd (let z : true ≡ false = sym ((bytes_eq-Decides w (codes "life")).1 k.0) ∙ n in cc)
    reads-only n e (own.Reads other frame) k =
        let same : who ≡ other = same-value who other (named.only other k.1 k.2) in
        let also : bytes ≡ frame = same-value bytes frame (spelled.only frame k.3) in
        cc
    reads-only n e (own.Does d) k = absurd k

    go : (s t : Bool) → bytes_eq w (codes "life") ≡ s → bytes_eq w (reading_word who) ≡ t → ReadsFrame w a d (cond s (Ok (own.Life who bytes)) (cond t (Ok (own.Reads who bytes)) (Err fault.NoLine)))
    go true t e f = record { found = ((bytes_eq-Decides w (codes "life")).0 e, named.is.0, named.is.1, spelled.is); only = λ l k. inl (life-only e l k) }
    go false true e f = record { found = ((bytes_eq-Decides w (reading_word who)).0 f, named.is.0, named.is.1, spelled.is); only = λ l k. inl (reads-only e f l k) }
    go false false e f = record { found = tt; only = λ l k. absurd (no-line false false e f refl refl l k) }
