-- Texts that are put together, and what is said of a file.
use Rattle.std.proofs.Common.{◌≡◌, ◌≢◌, ◌∙◌, ◌++◌, ℕ, ◌+◌, List, [], ◌∷◌, length, Some, inl, inr, take, slice_get, get_or, sym, ap, subst, append_assoc}
use Rattle.std.proofs.lemmas.List.{append-nil, take_more}
use Rattle.std.proofs.lemmas.List.Concat.{flat_map-append}
use Rattle.std.proofs.lemmas.Option.{slice_get_within, get_or_from_slice_get}
use Rattle.std.specs.List.{flat_map}
use Rattle.lock_model.specs.declared.entries.Entry.{Entry}
use Rattle.slot_record.specs.declared.slots.TheConstants.{LEAST_PLATE_LEN}
use Rattle.rotating_record.specs.declared.slots.TheConstants.{ROTATING_PLATE_LEN}
use Rattle.record_view.specs.declared.files.SeenFile.{SeenFile}
use Rattle.record_view.specs.Views.{IsSize, IsWhole}
use Rattle.record_view.specs.Texts.{entry_text, SaysContent, SaysTwo, SaysThree}

entry_more : (entries : List Entry) (place : ℕ) (e : Entry) → slice_get entries place ≡ Some e → flat_map entry_text (take (place + 1) entries) ≡ flat_map entry_text (take place entries) ++ entry_text e
entry_more entries place e h =
    let within = slice_get_within entries place e h in
    let is = get_or_from_slice_get entries place e e h in
    ap (flat_map entry_text) (take_more entries place e within)
    ∙ flat_map-append entry_text (take place entries) (get_or entries place e ∷ [])
    ∙ ap (λ (bs : List ℕ). flat_map entry_text (take place entries) ++ bs) (append-nil (entry_text (get_or entries place e)) ∙ ap entry_text is)

pub entries_more : (entries : List Entry) (place : ℕ) (e : Entry) (front text new : List ℕ) → Some e ≡ slice_get entries place → text ≡ front ++ flat_map entry_text (take place entries) → new ≡ text ++ entry_text e
    → new ≡ front ++ flat_map entry_text (take (place + 1) entries)
entries_more entries place e front text new at h g =
    g ∙ ap (λ (bs : List ℕ). bs ++ entry_text e) h ∙ append_assoc front (flat_map entry_text (take place entries)) (entry_text e)
    ∙ ap (λ (bs : List ℕ). front ++ bs) (sym (entry_more entries place e (sym at)))

-- texts that were added one after the other
pub joined : (old a b one two : List ℕ) → one ≡ old ++ a → two ≡ one ++ b → two ≡ old ++ (a ++ b)
joined old a b one two e f = f ∙ ap (λ (bs : List ℕ). bs ++ b) e ∙ append_assoc old a b

pub three_joined : (old a b c one two three : List ℕ) → one ≡ old ++ a → two ≡ one ++ b → three ≡ two ++ c → three ≡ old ++ ((a ++ b) ++ c)
three_joined old a b c one two three e f g = joined old (a ++ b) c two three (joined old a b one two e f) g

pub four_joined : (old a b c d one two three four : List ℕ) → one ≡ old ++ a → two ≡ one ++ b → three ≡ two ++ c → four ≡ three ++ d → four ≡ old ++ (((a ++ b) ++ c) ++ d)
four_joined old a b c d one two three four e f g h = joined old ((a ++ b) ++ c) d three four (three_joined old a b c one two three e f g) h

pub five_joined : (old a b c d x one two three four five : List ℕ) → one ≡ old ++ a → two ≡ one ++ b → three ≡ two ++ c → four ≡ three ++ d → five ≡ four ++ x → five ≡ old ++ ((((a ++ b) ++ c) ++ d) ++ x)
five_joined old a b c d x one two three four five e f g h k = joined old (((a ++ b) ++ c) ++ d) x four five (four_joined old a b c d one two three four e f g h) k

-- what a view says of the bytes of a file that was read whole
no_other : (n : ℕ) → IsSize n → n ≢ LEAST_PLATE_LEN → n ≢ ROTATING_PLATE_LEN → ⊥
no_other n (inl e) a b = a e
no_other n (inr e) a b = b e

pub view_says : (f : SeenFile) (bytes text : List ℕ) → IsWhole f → IsSize f.size → bytes ≡ f.bytes.items → (length bytes ≡ LEAST_PLATE_LEN → SaysTwo bytes text) → (length bytes ≡ ROTATING_PLATE_LEN → SaysThree bytes text)
    → SaysContent f text
view_says f bytes text whole sized is two three = record {
  two = λ e. subst (λ (b : List ℕ). SaysTwo b text) is (two (ap (λ (b : List ℕ). length b) is ∙ whole (inl e) ∙ e));
  three = λ e. subst (λ (b : List ℕ). SaysThree b text) is (three (ap (λ (b : List ℕ). length b) is ∙ whole (inr e) ∙ e));
  other = λ a b. absurd (no_other f.size sized a b);
}
