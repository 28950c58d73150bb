-- Which bytes the words of a line have: none that is neither a digit nor a byte of a name. So no word has a
-- space, by which words are cut, and no text of a line has a line feed.
use Rattle.std.proofs.Common.{◌≡◌, ℕ, ◌^◌, ◌<◌, ◌==◌, Bool, true, false, cond, List, [], ◌∷◌, codes, refl, sym, ap, ◌∙◌, arith, eqb-true}
use Rattle.std.specs.List.{All, list_all, join_with_byte}
use Rattle.std.specs.Fmt.{decimal}
use Rattle.std.specs.Char.{is_ascii_digit}
use Rattle.std.proofs.lemmas.Bool.{and_parts}
use Rattle.std.proofs.lemmas.Fmt.{digits_decimal}
use Rattle.std.proofs.lemmas.List.Elements.{All-nil, All-cons, All-head, All-tail, All-append}
use Rattle.lock_messages.specs.declared.ids.Actor.{Actor}
use Rattle.lock_messages.specs.declared.ids.Actor.TheVariants as actor
use Rattle.lock_messages.specs.declared.tickets.Mode.{Mode}
use Rattle.lock_messages.specs.declared.tickets.Mode.TheVariants.{Read, Write}
use Rattle.lock_messages.specs.Ids.{IsClient}
use Rattle.lock_messages.specs.Names.{is_name_byte}
use Rattle.lock_messages.specs.Texts.{actor_text, mode_text}
use Rattle.lock_model.specs.declared.problems.Problem.{Problem}
use Rattle.lock_model.specs.declared.problems.Problem.TheVariants.{First, Second}
use Rattle.world_model.specs.declared.events.Age.{Age}
use Rattle.world_model.specs.declared.events.Age.TheVariants.{Old, New}
use Rattle.event_lines.specs.declared.commands.Command.{Command}
use Rattle.event_lines.specs.declared.commands.Command.TheVariants as command
use Rattle.event_lines.specs.Commands.{word_of}
use Rattle.event_lines.specs.Lines.{Kind, ANode, AClient, AnActor, ANumber, AName, AMode, AWishMode, AnAge, APlace, AProblem, WishMode, Value, Arguments, kinds_of, value_text, value_texts, argument_texts, parts_text, wish_mode_text, age_text, problem_text, IsActor, IsValue, AreValues}
use Rattle.event_lines.proofs.NumberFacts.{own}

abbrev pub Differs : ℕ → ℕ → Type 0
Differs c b = (b == c) ≡ false

-- the byte is not among these
abbrev pub Lacks : ℕ → List ℕ → Type 0
Lacks c bytes = All (Differs c) bytes

-- neither a digit nor a byte of a name
pub record IsOutside (c : ℕ) : Type 0 where
  pub digit : is_ascii_digit c ≡ false
  pub name : is_name_byte c ≡ false

other_byte : (p : ℕ → Bool) (c b : ℕ) (t : Bool) → (b == c) ≡ t → p c ≡ false → p b ≡ true → Differs c b
other_byte p c b true e never h = let clash : false ≡ true = sym never ∙ ap p (sym (eqb-true b c e)) ∙ h in absurd (cc)
other_byte p c b false e never h = e

-- bytes each of which passes a test that the byte doesn't
lacks_of : (p : ℕ → Bool) (c : ℕ) (bytes : List ℕ) → p c ≡ false → list_all p bytes ≡ true → Lacks c bytes
lacks_of p c [] never h = All-nil (Differs c)
lacks_of p c (b ∷ bytes) never h =
    let (x, more) = and_parts (p b) (list_all p bytes) h in
    All-cons (Differs c) b bytes (other_byte p c b (b == c) refl never x) (lacks_of p c bytes never more)

module _ (c : ℕ) (out : IsOutside c) where
  lacks_text : (bytes : List ℕ) → list_all is_name_byte bytes ≡ true → Lacks c bytes
  lacks_text bytes h = lacks_of is_name_byte c bytes out.name h

  lacks_number : (n : ℕ) → n < 2 ^ 64 → Lacks c (decimal n)
  lacks_number n h = lacks_of is_ascii_digit c (decimal n) out.digit (digits_decimal own n h)

  lacks_lettered : (letter n : ℕ) → is_name_byte letter ≡ true → n < 2 ^ 64 → Lacks c (letter ∷ decimal n)
  lacks_lettered letter n named h = All-cons (Differs c) letter (decimal n) (other_byte is_name_byte c letter (letter == c) refl out.name named) (lacks_number n h)

  pub lacks_client : (k : ℕ) → IsClient k → Lacks c (value_text AClient k)
  lacks_client k h = lacks_lettered 99 k refl (omega (arith, h.1))

  lacks_actor : (who : Actor) → IsActor who → Lacks c (actor_text who)
  lacks_actor (actor.Node n) h = lacks_lettered 110 n refl (omega (arith, h.1))
  lacks_actor (actor.Client k) h = lacks_client k h

  lacks_mode : (m : Mode) → Lacks c (mode_text m)
  lacks_mode Read = lacks_text (mode_text Read) refl
  lacks_mode Write = lacks_text (mode_text Write) refl

  lacks_wish_mode : (x : WishMode) → Lacks c (wish_mode_text x)
  lacks_wish_mode (m, true) = lacks_text (codes "soften") refl
  lacks_wish_mode (m, false) = lacks_mode m

  lacks_age : (a : Age) → Lacks c (age_text a)
  lacks_age Old = lacks_text (age_text Old) refl
  lacks_age New = lacks_text (age_text New) refl

  lacks_problem : (p : Problem) → Lacks c (problem_text p)
  lacks_problem First = lacks_text (problem_text First) refl
  lacks_problem Second = lacks_text (problem_text Second) refl

  -- the words of a value: one, or none where it is left out

  one_word : (w : List ℕ) → Lacks c w → All (Lacks c) (w ∷ [])
  one_word w h = All-cons (Lacks c) w [] h (All-nil (Lacks c))

  unless_left_out : (b : Bool) (w : List ℕ) → Lacks c w → All (Lacks c) (cond b [] (w ∷ []))
  unless_left_out true w h = All-nil (Lacks c)
  unless_left_out false w h = one_word w h

  lacks_value : (k : Kind) (x : Value k) → IsValue k x → All (Lacks c) (value_texts k x)
  lacks_value ANode n h = one_word (value_text ANode n) (lacks_lettered 110 n refl (omega (arith, h.1)))
  lacks_value AClient k h = one_word (value_text AClient k) (lacks_client k h)
  lacks_value AnActor who h = one_word (value_text AnActor who) (lacks_actor who h)
  lacks_value ANumber k h = one_word (value_text ANumber k) (lacks_number k (omega (arith, h.1)))
  lacks_value AName x h = one_word (value_text AName x) (lacks_text x h.each)
  lacks_value AMode m h = one_word (value_text AMode m) (lacks_mode m)
  lacks_value AWishMode x h = one_word (value_text AWishMode x) (lacks_wish_mode x)
  lacks_value AnAge a h = one_word (value_text AnAge a) (lacks_age a)
  lacks_value AProblem p h = one_word (value_text AProblem p) (lacks_problem p)
  lacks_value APlace place h = unless_left_out (place == 1) (value_text APlace place) (lacks_lettered 98 place refl (omega (arith, h.1)))

  pub lacks_arguments : (ks : List Kind) (a : Arguments ks) → AreValues ks a → All (Lacks c) (argument_texts ks a)
  lacks_arguments [] a v = All-nil (Lacks c)
  lacks_arguments (k ∷ ks) a v = All-append (Lacks c) (value_texts k a.0) (argument_texts ks a.1) (lacks_value k a.0 v.0) (lacks_arguments ks a.1 v.1)

  named_word : (k : Command) → list_all is_name_byte (word_of k) ≡ true
  named_word command.Begin = refl
  named_word command.Try = refl
  named_word command.Kept = refl
  named_word command.SayTo = refl
  named_word command.Say = refl
  named_word command.Take = refl
  named_word command.Hear = refl
  named_word command.Enter = refl
  named_word command.Leave = refl
  named_word command.Soften = refl
  named_word command.Fall = refl
  named_word command.Rise = refl
  named_word command.Switch = refl
  named_word command.Inside = refl
  named_word command.Waiting = refl
  named_word command.Holding = refl

  pub lacks_word : (k : Command) → Lacks c (word_of k)
  lacks_word k = lacks_text (word_of k) (named_word k)

  -- words with a space between any two

  lacks_joined : (32 == c) ≡ false → (w : List ℕ) (ws : List (List ℕ)) → Lacks c w → All (Lacks c) ws → Lacks c (join_with_byte 32 (w ∷ ws))
  lacks_joined apart w [] h hs = h
  lacks_joined apart w (v ∷ vs) h hs =
      let more = join_with_byte 32 (v ∷ vs) in
      All-append (Differs c) w (32 ∷ more) h (All-cons (Differs c) 32 more apart (lacks_joined apart v vs (All-head (Lacks c) v vs hs) (All-tail (Lacks c) v vs hs)))

  pub lacks_parts : (32 == c) ≡ false → (k : Command) (a : Arguments (kinds_of k)) → AreValues (kinds_of k) a → Lacks c (parts_text k a)
  lacks_parts apart k a v = lacks_joined apart (word_of k) (argument_texts (kinds_of k) a) (lacks_word k) (lacks_arguments (kinds_of k) a v)
