-- The words of a line, and that it is read back.
use Rattle.std.proofs.Common.{◌≡◌, ℕ, ◌==◌, ◌≤◌, Bool, true, false, cond, nat_lt, nat_le, List, [], ◌∷◌, ◌++◌, length, Some, None, Result, Ok, Err, IfOk, codes, refl, sym, ap, ◌∙◌, arith, eqb-true, append_assoc}
use Rattle.std.specs.List.{AllPass, join_with_byte}
use Rattle.std.proofs.lemmas.Bool.{and_parts, leb-true}
use Rattle.std.proofs.lemmas.List.Elements.{All-nil, All-cons, All-head, All-tail}
use Rattle.hex.specs.Hex.{IsBytes, encode_lower, is_hex_digit, lower_digits}
use Rattle.hex.proofs.HexLemmas.{decode_of-encode_lower, decode_pairs-encode_with, decode_pairs-ok, IsDigits-lower_digits}
use Rattle.lock_messages.specs.declared.ids.Actor.{Actor}
use Rattle.lock_messages.specs.declared.ids.TheConstants.{MAX_ATTEMPT}
use Rattle.lock_messages.specs.declared.tickets.Mode.{Mode}
use Rattle.lock_messages.specs.Texts.{actor_text}
use Rattle.lock_model.specs.Ballots.{Ballot, has_place}
use Rattle.world_model.specs.declared.events.Event.TheVariants as event
use Rattle.world_model.specs.declared.events.StepFault.{StepFault}
use Rattle.world_model.specs.declared.events.StepFault.TheVariants as fault
use Rattle.world_model.specs.declared.exact.ExactClient.{ExactClient}
use Rattle.world_model.specs.declared.exact.ExactClientPhase.{ExactClientPhase}
use Rattle.world_model.specs.declared.exact.ExactClientPhase.TheVariants as client
use Rattle.world_model.specs.ExactClients.{begins_in}
use Rattle.world_model.specs.ExactWorlds.{refusal_of}
use Rattle.world_model.specs.Turns.{Turns}
use Rattle.world_model.specs.Parts.{Part, NoPart, NodePart, ClientPart, own_refusal}
use Rattle.event_lines.specs.declared.commands.Command.TheVariants as command
use Rattle.event_lines.specs.Lines.{IsActor, IsPlace, AnActor}
use Rattle.event_lines.proofs.WordBytes.{Differs, Lacks, lacks_word, lacks_arguments}
use Rattle.event_lines.proofs.LineLaws.{its_words, space_outside}
use Rattle.own_journals.specs.OwnLines.{IsFramed}
use Rattle.own_recorders.specs.OwnJournals.{HasParts, IsAllowedSomewhere, IsWord}

-- what follows from a result
pub if_ok : {A E : Type 0} {P Q : A → Type 0} (r : Result A E) → ((x : A) → P x → Q x) → IfOk r P → IfOk r Q
if_ok (Ok x) f h = f x h
if_ok (Err e) f h = tt

pub take_word : IsWord (codes "take")
take_word = lacks_word 32 space_outside command.Take

pub hear_word : IsWord (codes "hear")
hear_word = lacks_word 32 space_outside command.Hear

pub life_word : IsWord (codes "life")
life_word =
    All-cons (Differs 32) 108 (codes "ife") refl
    (All-cons (Differs 32) 105 (codes "fe") refl (All-cons (Differs 32) 102 (codes "e") refl (All-cons (Differs 32) 101 [] refl (All-nil (Differs 32)))))

-- no hexadecimal digit is a space

no_space : (b : ℕ) (t : Bool) → (b == 32) ≡ t → is_hex_digit b ≡ true → Differs 32 b
no_space b true e digit = let clash : false ≡ true = ap is_hex_digit (sym (eqb-true b 32 e)) ∙ digit in absurd (cc)
no_space b false e digit = e

all_digits : (text : List ℕ) → AllPass is_hex_digit text → Lacks 32 text
all_digits [] h = All-nil (Differs 32)
all_digits (b ∷ text) h =
    All-cons (Differs 32) b text (no_space b (b == 32) refl (All-head (λ c. is_hex_digit c ≡ true) b text h)) (all_digits text (All-tail (λ c. is_hex_digit c ≡ true) b text h))

digits_lack : (bytes : List ℕ) → IsBytes bytes → Lacks 32 (encode_lower bytes)
digits_lack bytes h = all_digits (encode_lower bytes) (decode_pairs-ok 0 (encode_lower bytes) bytes (decode_pairs-encode_with lower_digits IsDigits-lower_digits 0 bytes h)).0

-- the three parts, with a space between any two
abbrev pub parts : List ℕ → Actor → List ℕ → List ℕ
parts word who bytes = join_with_byte 32 (word ∷ actor_text who ∷ encode_lower bytes ∷ [])

pub framed : (word : List ℕ) (who : Actor) (bytes : List ℕ) → IsWord word → IsActor who → IsBytes bytes → IsFramed (parts word who bytes) word who bytes
framed word who bytes is_word is_actor are_bytes = record {
  digits = encode_lower bytes;
  words = its_words word (actor_text who ∷ encode_lower bytes ∷ []) is_word
      (All-cons (Lacks 32) (actor_text who) (encode_lower bytes ∷ []) (All-head (Lacks 32) (actor_text who) [] (lacks_arguments 32 space_outside (AnActor ∷ []) (who, tt) (is_actor, tt)))
      (All-cons (Lacks 32) (encode_lower bytes) [] (digits_lack bytes are_bytes) (All-nil (Lacks 32))));
  spell = decode_of-encode_lower bytes are_bytes;
  actor = is_actor;
}

-- the same, with a line feed
pub has_parts : (word : List ℕ) (who : Actor) (bytes : List ℕ) → IsWord word → IsActor who → IsBytes bytes → (line : List ℕ) → line ≡ word ++ 32 ∷ (actor_text who ++ 32 ∷ (encode_lower bytes ++ 10 ∷ [])) → HasParts word who bytes line
has_parts word who bytes is_word is_actor are_bytes line text =
    let end : List ℕ = 10 ∷ [] in
    let name = actor_text who in
    let digits = encode_lower bytes in
    let joined : (word ++ 32 ∷ (name ++ 32 ∷ digits)) ++ end ≡ word ++ 32 ∷ (name ++ 32 ∷ (digits ++ end)) =
    append_assoc word (32 ∷ (name ++ 32 ∷ digits)) end ∙ ap (λ (l : List ℕ). word ++ 32 ∷ l) (append_assoc name (32 ∷ digits) end) in
    (parts word who bytes, framed word who bytes is_word is_actor are_bytes, text ∙ sym joined)

-- an attempt begins by a ballot of the list

no_refusal : {A : Type 0} (f : StepFault) → Some f ≡ None → A
no_refusal f h = absurd (cc)

placed : (t u : Bool) (turn : Turns ExactClient) → refusal_of (cond t (cond u turn (Err fault.NoSuchPlace)) (Err fault.AttemptsSpent)) ≡ None → u ≡ true
placed true true turn h = refl
placed true false turn h = no_refusal fault.NoSuchPlace h
placed false u turn h = no_refusal fault.AttemptsSpent h

module _ (b : List Ballot) (c : ℕ) (m : Mode) (x : List ℕ) (place : ℕ) where
  has_its_place : (k : ExactClient) (phase : ExactClientPhase) → refusal_of (begins_in b c m x place k phase) ≡ None → has_place b place ≡ true
  has_its_place k client.Down h = no_refusal fault.Down h
  has_its_place k client.Idle h = placed (nat_lt k.kept MAX_ATTEMPT) (has_place b place) _ h
  has_its_place k (client.Chosen t chosen) h = no_refusal fault.WrongPhase h
  has_its_place k (client.Asking p) h = no_refusal fault.WrongPhase h
  has_its_place k (client.Inside p) h = no_refusal fault.WrongPhase h

  has_place_in : (p : Part) → own_refusal b (event.Begin c m x place) p ≡ None → has_place b place ≡ true
  has_place_in NoPart h = no_refusal fault.UnknownActor h
  has_place_in (NodePart v) h = no_refusal fault.UnknownActor h
  has_place_in (ClientPart k) h = has_its_place k k.phase h

  pub place_in_range : IsAllowedSomewhere b (event.Begin c m x place) → length b ≤ 8 → IsPlace place
  place_in_range allowed few =
      let parts = and_parts (nat_le 1 place) (nat_le place (length b)) (has_place_in allowed.0 allowed.1) in
      let most = leb-true place (length b) parts.1 in
      (leb-true 1 place parts.0, omega (arith, most, few))
