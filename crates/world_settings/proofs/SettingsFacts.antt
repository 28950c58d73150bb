-- Tables of settings, and the lists in them.
use Rattle.std.proofs.Common.{◌≡◌, ℕ, suc, Bool, true, false, ◌&&◌, List, [], ◌∷◌, ◌++◌, length, Option, Some, None, is_some, option_map, Err, string_bytes, refl, ap, ◌∙◌}
use Rattle.std.specs.List.{list_all}
use Rattle.std.specs.Map.{keys_of}
use Rattle.std.specs.Str.{IsUtf8, is_utf8}
use Rattle.std.proofs.lemmas.Str.{IsUtf8-from_is_utf8, is_utf8-from_IsUtf8}
use Rattle.std.proofs.lemmas.Bool.{false_from_ne_true}
use Rattle.toml.specs.Data.{Members, as_str}
use Rattle.toml.specs.Parse.{parse_document}
use Rattle.toml.specs.View.{view, items_view, members_view}
use Rattle.toml.specs.declared.value.Value.{Value}
use Rattle.toml.proofs.Views.{Entry}
use Rattle.world_settings.specs.declared.faults.SettingsFault.TheVariants as fault
use Rattle.world_settings.specs.declared.commands.Command.{Command}
use Rattle.world_settings.specs.Settings.{all_known, all_keys, count, are_texts, values_of, document_settings, settings_of}

pub keys_view : (test : List ℕ → Bool) (es : List Entry) → list_all (λ k. test (string_bytes k)) (keys_of es) ≡ all_keys test (members_view es)
keys_view test [] = refl
keys_view test (e ∷ es) = ap (λ (b : Bool). test (string_bytes e.0) && b) (keys_view test es)

-- what a list is, where its front was read already
abbrev pub with_front : List ℕ → Option (List ℕ) → Option (List ℕ)
with_front front rest = option_map (λ r. front ++ r) rest

-- bytes that aren't text
pub no_text : (c : Command) (head : List ℕ) → (IsUtf8 head → ⊥) → settings_of c head ≡ Err fault.NoDocument
unfolding settings_of
no_text c head h = rw (false_from_ne_true (is_utf8 head) (λ e. h (IsUtf8-from_is_utf8 head e)))

text_settings : (c : Command) (head text : List ℕ) → text ≡ head → IsUtf8 head → settings_of c head ≡ document_settings c (parse_document text)
unfolding settings_of
text_settings c head text same h = rw (is_utf8-from_IsUtf8 head h, same)

-- text that is no document
pub no_document : (c : Command) (head text : List ℕ) → text ≡ head → IsUtf8 head → parse_document text ≡ None → settings_of c head ≡ Err fault.NoDocument
no_document c head text same h e = text_settings c head text same h ∙ ap (document_settings c) e

-- a document with another key
pub unknown_key : (c : Command) (head text : List ℕ) (ms : Members) → text ≡ head → IsUtf8 head → parse_document text ≡ Some ms → all_known ms ≡ false → settings_of c head ≡ Err fault.UnknownKey
unknown_key c head text ms same h e f = text_settings c head text same h ∙ ap (document_settings c) e ∙ rw f

-- a document with known keys alone
pub known_keys_alone : (c : Command) (head text : List ℕ) (ms : Members) → text ≡ head → IsUtf8 head → parse_document text ≡ Some ms → all_known ms ≡ true → settings_of c head ≡ values_of c ms
known_keys_alone c head text ms same h e f = text_settings c head text same h ∙ ap (document_settings c) e ∙ rw f

-- values that are texts
pub texts_view : (vs : List Value) → list_all (λ v. is_some (as_str (view v))) vs ≡ are_texts (items_view vs)
texts_view [] = refl
texts_view (v ∷ vs) = ap (λ (b : Bool). is_some (as_str (view v)) && b) (texts_view vs)

pub count_view : (vs : List Value) → length vs ≡ count (items_view vs)
count_view [] = refl
count_view (v ∷ vs) = ap suc (count_view vs)
