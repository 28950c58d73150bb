-- Words and the values that they spell: each value in range has one word, which is read as it.
use Rattle.std.proofs.Common.{◌≡◌, ◌⊎◌, inl, inr, ◌↔◌, ℕ, ◌<◌, ◌≤◌, ◌^◌, Bool, true, false, cond, ◌&&◌, ◌==◌, nat_le, List, [], ◌∷◌, length, get_or, Option, Some, None, Result, Ok, Err, codes, refl, sym, ap, subst, ◌∙◌, arith, if◌then◌else◌}
use Rattle.std.specs.List.{list_all}
use Rattle.std.specs.Option.{ok_or}
use Rattle.std.specs.Str.{bytes_eq}
use Rattle.std.specs.Str.Parse.{digits_value}
use Rattle.std.specs.Fmt.{decimal}
use Rattle.std.proofs.lemmas.Bool.Decides.{nat_tests}
use Rattle.std.proofs.lemmas.Fmt.{digits_decimal, digits_value-decimal, first_decimal, decimal_nonempty, length-decimal-le}
use Rattle.std.proofs.lemmas.Slice.Eq.{bytes_eq-Decides}
use Rattle.std.proofs.lemmas.Bool.{leb-true}
use Rattle.lock_messages.specs.declared.ids.TheConstants.{MAX_NODES, MAX_CLIENTS}
use Rattle.lock_messages.specs.declared.ids.Actor.{Actor}
use Rattle.lock_messages.specs.declared.ids.Actor.TheVariants as actor
use Rattle.lock_messages.specs.declared.tickets.Mode.{Mode}
use Rattle.lock_messages.specs.declared.tickets.Mode.TheVariants.{Read, Write}
use Rattle.lock_messages.specs.Ids.{IsClient}
use Rattle.lock_messages.specs.Names.{IsName, is_name_byte}
use Rattle.lock_messages.specs.Texts.{actor_text, mode_text}
use Rattle.lock_model.specs.declared.problems.Problem.{Problem}
use Rattle.lock_model.specs.declared.problems.Problem.TheVariants.{First, Second}
use Rattle.vote_weights.specs.declared.lists.TheConstants.{MAX_BALLOTS}
use Rattle.world_model.specs.declared.TheConstants.{MAX_MESSAGES}
use Rattle.world_model.specs.declared.events.Age.{Age}
use Rattle.world_model.specs.declared.events.Age.TheVariants.{Old, New}
use Rattle.event_lines.specs.declared.faults.LineFault.{LineFault}
use Rattle.event_lines.specs.declared.faults.LineFault.TheVariants as fault
use Rattle.event_lines.specs.Lines.{◌>>=◌, Kind, ANode, AClient, AnActor, ANumber, AName, AMode, AWishMode, AnAge, APlace, AProblem, WishMode, Value, left_out, spelled, lettered, either_of, node_word, client_word, actor_word, number_word, name_word, mode_word, wish_mode_word, age_word, problem_word, behind_first, place_word, age_text, problem_text, wish_mode_text, value_in, value_text, value_texts, IsValue, IsActor, IsPlace, IsWishMode}
use Rattle.event_lines.proofs.NumberFacts.{own, spelled_so}

-- numbers
in_range_so : (a b c : Bool) (m n : ℕ) → (if (a && b) && c then Some m else None) ≡ Some n → (a ≡ true) × (b ≡ true) × (c ≡ true) × (m ≡ n)
in_range_so true true true m n h = (refl, refl, refl, (cc))
in_range_so false b c m n h = absurd (let clash : None ≡ Some n = h in cc)
in_range_so true false c m n h = absurd (let clash : None ≡ Some n = h in cc)
in_range_so true true false m n h = absurd (let clash : None ≡ Some n = h in cc)

spelled_is_text : (most : ℕ) (word : List ℕ) (n : ℕ) → spelled most word ≡ Some n → (1 ≤ n) × (n ≤ most) × (decimal n ≡ word)
unfolding spelled
spelled_is_text most word n h =
    let m = digits_value 10 word in
    let (a, b, c, e) = in_range_so (nat_le 1 m) (nat_le m most) (bytes_eq (decimal m) word) m n h in
    let low : 1 ≤ m = leb-true 1 m a in
    let high : m ≤ most = leb-true m most b in
    (subst (λ (k : ℕ). 1 ≤ k) e low, subst (λ (k : ℕ). k ≤ most) e high, ap decimal (sym e) ∙ (bytes_eq-Decides (decimal m) word).0 c)

text_is_spelled : (most : ℕ) (n : ℕ) → most < 2 ^ 64 → 1 ≤ n → n ≤ most → spelled most (decimal n) ≡ Some n
text_is_spelled most n small low high =
    let first : 48 < get_or (decimal n) 0 0 = first_decimal n (omega arith) (omega arith) in
    sym (spelled_so most (decimal n) n small (sym (digits_value-decimal own n (omega arith))) low high (digits_decimal own n (omega arith)) (decimal_nonempty n (omega arith)) (λ z. omega arith))

pub spelled_once : (most : ℕ) (word : List ℕ) (n : ℕ) → most < 2 ^ 64 → (spelled most word ≡ Some n) ↔ ((1 ≤ n) × (n ≤ most) × (decimal n ≡ word))
spelled_once most word n small =
    (spelled_is_text most word n, λ h. subst (λ (w : List ℕ). spelled most w ≡ Some n) h.2 (text_is_spelled most n small h.0 h.1))

-- from a word to its value
pub never_ok : {A P : Type 0} (e : LineFault) (x : A) → Err e ≡ Ok x → P
never_ok e x h = absurd (let clash : Err e ≡ Ok x = h in cc)

never_some : {P : Type 0} (n : ℕ) → None ≡ Some n → P
never_some n h = absurd (let clash : None ≡ Some n = h in cc)

if_some : (b : Bool) (o : Option ℕ) (n : ℕ) → (if b then o else None) ≡ Some n → (b ≡ true) × (o ≡ Some n)
if_some true o n h = (refl, h)
if_some false o n h = never_some n h

pub same_number : (b letter : ℕ) → (b == letter) ≡ true → b ≡ letter
same_number b letter h = grind (arith, nat_tests)

lettered_is : (letter most : ℕ) (w : List ℕ) (n : ℕ) → lettered letter most w ≡ Some n → (w ≡ letter ∷ decimal n) × (1 ≤ n) × (n ≤ most)
lettered_is letter most [] n h = never_some n h
lettered_is letter most (b ∷ digits) n h =
    let (t, s) = if_some (b == letter) (spelled most digits) n h in
    let e : b ≡ letter = same_number b letter t in
    let (low, high, text) = spelled_is_text most digits n s in
    (ap (λ (k : ℕ). k ∷ digits) e ∙ ap (λ (ds : List ℕ). letter ∷ ds) (sym text), low, high)

pub was_some : {A : Type 0} (o : Option A) (e : LineFault) (n : A) → ok_or o e ≡ Ok n → o ≡ Some n
was_some None e n h = never_ok e n h
was_some (Some m) e n h = cc

abbrev Spells : (k : Kind) → List ℕ → Value k → Type 0
Spells k w x = (w ≡ value_text k x) × IsValue k x

node_is : (w : List ℕ) (n : ℕ) → node_word w ≡ Ok n → Spells ANode w n
node_is w n h = let (e, low, high) = lettered_is 110 MAX_NODES w n (was_some (lettered 110 MAX_NODES w) fault.Actor n h) in (e, (low, high))

client_is : (w : List ℕ) (c : ℕ) → client_word w ≡ Ok c → Spells AClient w c
client_is w c h = let (e, low, high) = lettered_is 99 MAX_CLIENTS w c (was_some (lettered 99 MAX_CLIENTS w) fault.Actor c h) in (e, (low, high))

actor_at : (w : List ℕ) (o p : Option ℕ) (who : Actor) → lettered 110 MAX_NODES w ≡ o → lettered 99 MAX_CLIENTS w ≡ p → either_of o p ≡ Ok who → Spells AnActor w who
actor_at w (Some n) p who f g h =
    let e : actor.Node n ≡ who = cc in
    let (text, low, high) = lettered_is 110 MAX_NODES w n f in
    subst (λ (v : Actor). Spells AnActor w v) e (text, (low, high))
actor_at w None (Some c) who f g h =
    let e : actor.Client c ≡ who = cc in
    let (text, low, high) = lettered_is 99 MAX_CLIENTS w c g in
    subst (λ (v : Actor). Spells AnActor w v) e (text, (low, high))
actor_at w None None who f g h = never_ok fault.Actor who h

number_is : (w : List ℕ) (k : ℕ) → number_word w ≡ Ok k → Spells ANumber w k
number_is w k h = let (low, high, e) = spelled_is_text MAX_MESSAGES w k (was_some (spelled MAX_MESSAGES w) fault.Number k h) in (sym e, (low, high))

pick : {A P : Type 0} (b : Bool) (k c : A) (rest : Result A LineFault) → (b ≡ true → k ≡ c → P) → (rest ≡ Ok c → P) → cond b (Ok k) rest ≡ Ok c → P
pick true k c rest f g h = f refl (let same : Ok k ≡ Ok c = h in cc)
pick false k c rest f g h = g h

all_three : (a b c : Bool) → ((a && b) && c) ≡ true → (a ≡ true) × (b ≡ true) × (c ≡ true)
all_three true true true h = (refl, refl, refl)
all_three true true false h = let clash : false ≡ true = h in absurd (cc)
all_three true false c h = let clash : false ≡ true = h in absurd (cc)
all_three false b c h = let clash : false ≡ true = h in absurd (cc)

named_so : (w : List ℕ) → ((nat_le 1 (length w) && nat_le (length w) 32) && list_all is_name_byte w) ≡ true → IsName w
named_so w h =
    let (a, b, c) = all_three (nat_le 1 (length w)) (nat_le (length w) 32) (list_all is_name_byte w) h in
    let low : 1 ≤ length w = leb-true 1 (length w) a in
    let high : length w ≤ 32 = leb-true (length w) 32 b in
    record { not_empty = omega arith; fits = high; each = c }

name_is : (w x : List ℕ) → name_word w ≡ Ok x → Spells AName w x
name_is w x h =
    pick {P = Spells AName w x} ((nat_le 1 (length w) && nat_le (length w) 32) && list_all is_name_byte w) w x (Err fault.Name)
    (λ t e. (e, subst IsName e (named_so w t))) (λ e. never_ok fault.Name x e) h

mode_is : (w : List ℕ) (m : Mode) → mode_word w ≡ Ok m → Spells AMode w m
mode_is w m h =
    pick {P = Spells AMode w m} (bytes_eq w (codes "read")) Read m _ (λ t e. ((bytes_eq-Decides w (codes "read")).0 t ∙ ap mode_text e, tt))
    (pick {P = Spells AMode w m} (bytes_eq w (codes "write")) Write m (Err fault.Word) (λ t e. ((bytes_eq-Decides w (codes "write")).0 t ∙ ap mode_text e, tt)) (λ e. never_ok fault.Word m e)) h

not_softened : (w : List ℕ) (r : Result Mode LineFault) (x : WishMode) → mode_word w ≡ r → (r >>= (λ m. Ok (m, false))) ≡ Ok x → Spells AWishMode w x
not_softened w (Ok m) x e h =
    let same : (m, false) ≡ x = (let s : Ok (m, false) ≡ Ok x = h in cc) in
    subst (λ (y : WishMode). Spells AWishMode w y) same ((mode_is w m e).0, λ s. absurd (let clash : false ≡ true = s in cc))
not_softened w (Err e) x is h = never_ok e x h

wish_mode_is : (w : List ℕ) (x : WishMode) → wish_mode_word w ≡ Ok x → Spells AWishMode w x
wish_mode_is w x h =
    pick {P = Spells AWishMode w x} (bytes_eq w (codes "soften")) (Write, true) x _
    (λ t e. subst (λ (y : WishMode). Spells AWishMode w y) e ((bytes_eq-Decides w (codes "soften")).0 t, λ s. refl))
    (λ e. not_softened w (mode_word w) x refl e) h

age_is : (w : List ℕ) (a : Age) → age_word w ≡ Ok a → Spells AnAge w a
age_is w a h =
    pick {P = Spells AnAge w a} (bytes_eq w (codes "old")) Old a _ (λ t e. ((bytes_eq-Decides w (codes "old")).0 t ∙ ap age_text e, tt))
    (pick {P = Spells AnAge w a} (bytes_eq w (codes "new")) New a (Err fault.Word) (λ t e. ((bytes_eq-Decides w (codes "new")).0 t ∙ ap age_text e, tt)) (λ e. never_ok fault.Word a e)) h

problem_is : (w : List ℕ) (p : Problem) → problem_word w ≡ Ok p → Spells AProblem w p
problem_is w p h =
    pick {P = Spells AProblem w p} (bytes_eq w (codes "1")) First p _ (λ t e. ((bytes_eq-Decides w (codes "1")).0 t ∙ ap problem_text e, tt))
    (pick {P = Spells AProblem w p} (bytes_eq w (codes "2")) Second p (Err fault.Number) (λ t e. ((bytes_eq-Decides w (codes "2")).0 t ∙ ap problem_text e, tt)) (λ e. never_ok fault.Number p e)) h

-- the word is the only one of the value
abbrev pub IsItsWord : (k : Kind) → List ℕ → Value k → Type 0
IsItsWord k w x = (w ∷ [] ≡ value_texts k x) × IsValue k x

place_at : (w : List ℕ) (b : Bool) (q p : ℕ) → (q == 1) ≡ b → lettered 98 MAX_BALLOTS w ≡ Some q → cond b (Err fault.Number) (Ok q) ≡ Ok p → IsItsWord APlace w p
place_at w true q p e f h = never_ok fault.Number p h
place_at w false q p e f h =
    let same : q ≡ p = (let s : Ok q ≡ Ok p = h in cc) in
    let (text, low, high) = lettered_is 98 MAX_BALLOTS w q f in
    subst (λ (n : ℕ). IsItsWord APlace w n) same
    (ap (λ (v : List ℕ). v ∷ []) text ∙ sym (ap (λ (b : Bool). cond b [] (value_text APlace q ∷ [])) e), (low, high))

place_is : (w : List ℕ) (o : Option ℕ) (p : ℕ) → lettered 98 MAX_BALLOTS w ≡ o → behind_first o ≡ Ok p → IsItsWord APlace w p
place_is w None p f h = never_ok fault.Number p h
place_is w (Some q) p f h = place_at w (q == 1) q p refl f h

alone : (k : Kind) (w : List ℕ) (x : Value k) → value_text k x ∷ [] ≡ value_texts k x → Spells k w x → IsItsWord k w x
alone k w x one h = (ap (λ (v : List ℕ). v ∷ []) h.0 ∙ one, h.1)

pub value_is : (k : Kind) (w : List ℕ) (x : Value k) → value_in k w ≡ Ok x → IsItsWord k w x
value_is ANode w x h = alone ANode w x refl (node_is w x h)
value_is AClient w x h = alone AClient w x refl (client_is w x h)
value_is AnActor w x h = alone AnActor w x refl (actor_at w (lettered 110 MAX_NODES w) (lettered 99 MAX_CLIENTS w) x refl refl h)
value_is ANumber w x h = alone ANumber w x refl (number_is w x h)
value_is AName w x h = alone AName w x refl (name_is w x h)
value_is AMode w x h = alone AMode w x refl (mode_is w x h)
value_is AWishMode w x h = alone AWishMode w x refl (wish_mode_is w x h)
value_is AnAge w x h = alone AnAge w x refl (age_is w x h)
value_is AProblem w x h = alone AProblem w x refl (problem_is w x h)
value_is APlace w x h = place_is w (lettered 98 MAX_BALLOTS w) x refl h

-- a value whose word is left out
pub left_is : (k : Kind) (x : Value k) → left_out k ≡ Some x → ([] ≡ value_texts k x) × IsValue k x
left_is ANode x h = absurd (let clash : None ≡ Some x = h in cc)
left_is AClient x h = absurd (let clash : None ≡ Some x = h in cc)
left_is AnActor x h = absurd (let clash : None ≡ Some x = h in cc)
left_is ANumber x h = absurd (let clash : None ≡ Some x = h in cc)
left_is AName x h = absurd (let clash : None ≡ Some x = h in cc)
left_is AMode x h = absurd (let clash : None ≡ Some x = h in cc)
left_is AWishMode x h = absurd (let clash : None ≡ Some x = h in cc)
left_is AnAge x h = absurd (let clash : None ≡ Some x = h in cc)
left_is AProblem x h = absurd (let clash : None ≡ Some x = h in cc)
left_is APlace x h =
    let same : 1 ≡ x = (let s : Some 1 ≡ Some x = h in cc) in
    subst (λ (n : ℕ). ([] ≡ value_texts APlace n) × IsPlace n) same (refl, (omega arith, omega arith))

-- from a value to its word
actor_says : (who : Actor) → IsActor who → actor_word (actor_text who) ≡ Ok who
actor_says (actor.Node n) h = ap (λ (o : Option ℕ). either_of o None) (text_is_spelled MAX_NODES n (omega arith) h.0 h.1)
actor_says (actor.Client c) h = ap (λ (o : Option ℕ). either_of None o) (text_is_spelled MAX_CLIENTS c (omega arith) h.0 h.1)

three_hold : (a b c : Bool) → a ≡ true → b ≡ true → c ≡ true → ((a && b) && c) ≡ true
three_hold true true true p q r = refl
three_hold true true false p q r = r
three_hold true false c p q r = q
three_hold false b c p q r = p

if_so : {A : Type 0} (b : Bool) (x y : A) → b ≡ true → cond b x y ≡ x
if_so true x y h = refl
if_so false x y h = let clash : false ≡ true = h in absurd (cc)

name_says : (x : List ℕ) → IsName x → name_word x ≡ Ok x
name_says x h =
    let some : 0 < length x = h.not_empty in
    let few : length x ≤ 32 = h.fits in
    let low : nat_le 1 (length x) ≡ true = grind (arith, nat_tests) in
    let high : nat_le (length x) 32 ≡ true = grind (arith, nat_tests) in
    if_so ((nat_le 1 (length x) && nat_le (length x) 32) && list_all is_name_byte x) (Ok x) (Err fault.Name) (three_hold (nat_le 1 (length x)) (nat_le (length x) 32) (list_all is_name_byte x) low high h.each)

mode_says : (m : Mode) → mode_word (mode_text m) ≡ Ok m
mode_says Read = refl
mode_says Write = refl

wish_mode_says : (x : WishMode) → IsWishMode x → wish_mode_word (wish_mode_text x) ≡ Ok x
wish_mode_says (Read, false) h = refl
wish_mode_says (Write, false) h = refl
wish_mode_says (Write, true) h = refl
wish_mode_says (Read, true) h = absurd (let clash : Read ≡ Write = h refl in cc)

age_says : (a : Age) → age_word (age_text a) ≡ Ok a
age_says Old = refl
age_says New = refl

problem_says : (p : Problem) → problem_word (problem_text p) ≡ Ok p
problem_says First = refl
problem_says Second = refl

place_says : (p : ℕ) → IsPlace p → (p == 1) ≡ false → place_word (value_text APlace p) ≡ Ok p
place_says p h e = ap behind_first (text_is_spelled MAX_BALLOTS p (omega arith) h.0 h.1) ∙ ap (λ (b : Bool). cond b (Err fault.Number) (Ok p)) e

-- words are short
short_number : (n : ℕ) → n ≤ 2000000 → length (decimal n) ≤ 7
short_number n h = length-decimal-le 7 n (omega arith) (omega arith) (omega arith)

-- how long the word of such a value is at most
abbrev pub width : Kind → ℕ
width ANode = 8
width AClient = 8
width AnActor = 8
width ANumber = 8
width AName = 32
width AMode = 8
width AWishMode = 8
width AnAge = 8
width APlace = 8
width AProblem = 8

short_behind : (b : ℕ) (bs : List ℕ) → length bs ≤ 7 → length (b ∷ bs) ≤ 8
short_behind b bs h = omega arith

short_actor : (who : Actor) → IsActor who → length (actor_text who) ≤ 8
short_actor (actor.Node n) h = short_behind 110 (decimal n) (short_number n (omega (arith, h.1)))
short_actor (actor.Client c) h = short_behind 99 (decimal c) (short_number c (omega (arith, h.1)))

short_mode : (m : Mode) → length (mode_text m) ≤ 8
short_mode Read = leb-true (length (mode_text Read)) 8 refl
short_mode Write = leb-true (length (mode_text Write)) 8 refl

short_wish_mode : (x : WishMode) → length (wish_mode_text x) ≤ 8
short_wish_mode (m, true) = leb-true (length (codes "soften")) 8 refl
short_wish_mode (m, false) = short_mode m

short_age : (a : Age) → length (age_text a) ≤ 8
short_age Old = leb-true (length (age_text Old)) 8 refl
short_age New = leb-true (length (age_text New)) 8 refl

short_problem : (p : Problem) → length (problem_text p) ≤ 8
short_problem First = leb-true (length (problem_text First)) 8 refl
short_problem Second = leb-true (length (problem_text Second)) 8 refl

-- a word that is short, and is read as the value
pub record IsGoodWord (k : Kind) (w : List ℕ) (x : Value k) : Type 0 where
  pub says : value_in k w ≡ Ok x
  pub short : length w ≤ width k

-- a value has no word, and is what it is where that is left out; or one good word
abbrev pub IsSpelledBy : (k : Kind) → Value k → Type 0
IsSpelledBy k x = ((value_texts k x ≡ []) × (left_out k ≡ Some x)) ⊎ ((w : List ℕ) × (value_texts k x ≡ w ∷ []) × IsGoodWord k w x)

number_word_is : (k : ℕ) → length (decimal k) ≤ 7 → length (decimal k) ≤ 8
number_word_is k h = omega arith

place_spelled : (p : ℕ) (b : Bool) → (p == 1) ≡ b → IsPlace p → IsSpelledBy APlace p
place_spelled p true e h = inl (ap (λ (b : Bool). cond b [] (value_text APlace p ∷ [])) e, ap Some (sym (same_number p 1 e)))
place_spelled p false e h =
    inr (
      value_text APlace p,
      ap (λ (b : Bool). cond b [] (value_text APlace p ∷ [])) e,
      record { says = place_says p h e; short = short_behind 98 (decimal p) (short_number p (omega (arith, h.1))) },
    )

pub short_client : (c : ℕ) → IsClient c → length (value_text AClient c) ≤ 8
short_client c h = short_behind 99 (decimal c) (short_number c (omega (arith, h.1)))

pub spelled_by : (k : Kind) (x : Value k) → IsValue k x → IsSpelledBy k x
spelled_by ANode n h =
    inr (
      value_text ANode n,
      refl,
      record {
        says = ap (λ (o : Option ℕ). ok_or o fault.Actor) (text_is_spelled MAX_NODES n (omega arith) h.0 h.1);
        short = short_behind 110 (decimal n) (short_number n (omega (arith, h.1)));
      },
    )
spelled_by AClient c h =
    inr (
      value_text AClient c,
      refl,
      record {
        says = ap (λ (o : Option ℕ). ok_or o fault.Actor) (text_is_spelled MAX_CLIENTS c (omega arith) h.0 h.1);
        short = short_client c h;
      },
    )
spelled_by AnActor who h = inr (value_text AnActor who, refl, record { says = actor_says who h; short = short_actor who h })
spelled_by ANumber k h =
    inr (
      value_text ANumber k,
      refl,
      record {
        says = ap (λ (o : Option ℕ). ok_or o fault.Number) (text_is_spelled MAX_MESSAGES k (omega arith) h.0 h.1);
        short = number_word_is k (short_number k (omega (arith, h.1)));
      },
    )
spelled_by AName x h = inr (value_text AName x, refl, record { says = name_says x h; short = h.fits })
spelled_by AMode m h = inr (value_text AMode m, refl, record { says = mode_says m; short = short_mode m })
spelled_by AWishMode x h = inr (value_text AWishMode x, refl, record { says = wish_mode_says x h; short = short_wish_mode x })
spelled_by AnAge a h = inr (value_text AnAge a, refl, record { says = age_says a; short = short_age a })
spelled_by AProblem p h = inr (value_text AProblem p, refl, record { says = problem_says p; short = short_problem p })
spelled_by APlace p h = place_spelled p (p == 1) refl h
