-- A text wishes something exactly where it is the one text of it.
use Rattle.std.proofs.Common.{◌≡◌, ◌↔◌, ℕ, ◌≤◌, ◌+◌, Bool, true, false, cond, nat_le, nat_lt, if◌then◌else◌, List, [], ◌∷◌, length, Result, Ok, Err, refl, sym, ap, subst, ◌∙◌, arith}
use Rattle.std.proofs.lemmas.Bool.Decides.{nat_tests}
use Rattle.std.proofs.lemmas.List.Splits.{join_with_byte-slice_split}
use Rattle.lock_messages.specs.declared.ids.TheConstants.{MAX_CLIENTS}
use Rattle.event_lines.specs.declared.faults.LineFault.{LineFault}
use Rattle.event_lines.specs.declared.faults.LineFault.TheVariants as fault
use Rattle.event_lines.specs.declared.wishes.Wish.{Wish}
use Rattle.event_lines.specs.declared.words.TheConstants.{MAX_LINE_LEN}
use Rattle.event_lines.specs.Lines.{◌>>=◌, AClient, Arguments, argument_texts, value_text, arguments_in, values_in, words, between, client_word}
use Rattle.event_lines.specs.Wishes.{use_kinds, wish_kinds, wish_parts, wished, wish_text, wish_among, wish_of, words_wish, client_among, IsWish}
use Rattle.event_lines.proofs.LineLaws.{bind_ok, bound, arguments_are, arguments_say, joined, its_words, space_outside, short_arguments, if_short}
use Rattle.event_lines.proofs.WordBytes.{lacks_client, lacks_arguments}
use Rattle.event_lines.proofs.WordFacts.{short_client, value_is}

abbrev wish_with : Arguments wish_kinds → Wish
wish_with a = wished a.0 a.1

abbrev judged : List ℕ → Result Wish LineFault
judged bytes = arguments_in wish_kinds (words bytes) >>= (λ a. Ok (wish_with a))

short_wish : (b : Bool) (r : Result Wish LineFault) (w : Wish) → cond b (Err fault.Words) r ≡ Ok w → r ≡ Ok w
short_wish true r w h = let clash : Err fault.Words ≡ Ok w = h in absurd (cc)
short_wish false r w h = h

abbrev Wishes : List ℕ → Wish → Type 0
Wishes bytes w = (bytes ≡ wish_text w) × IsWish w

fits : (c : ℕ) → c ≤ MAX_CLIENTS → nat_le c MAX_CLIENTS ≡ true
fits c h = grind (arith, nat_tests)

-- each client that there is, is among all clients that there can be

no_more : (r : Result ℕ LineFault) → ((c : ℕ) → r ≡ Ok c → nat_le c MAX_CLIENTS ≡ true) → (r >>= (λ c. if nat_le c MAX_CLIENTS then Ok c else Err fault.Actor)) ≡ r
no_more (Ok c) is = ap (λ (b : Bool). if b then Ok c else Err fault.Actor) (is c refl)
no_more (Err e) is = refl

among_all : (word : List ℕ) → client_among MAX_CLIENTS word ≡ client_word word
among_all word = no_more (client_word word) (λ c h. fits c (value_is AClient word c h).1.1)

client_first : (c : Result ℕ LineFault) (r : Result (Arguments use_kinds) LineFault) →
    (c >>= (λ client. r >>= (λ usage. Ok (wished client usage)))) ≡ ((c >>= (λ x. r >>= (λ xs. Ok (x, xs)))) >>= (λ a. Ok (wish_with a)))
client_first (Err e) r = refl
client_first (Ok c) (Err e) = refl
client_first (Ok c) (Ok usage) = refl

words_as_values : (ws : List (List ℕ)) → words_wish MAX_CLIENTS ws ≡ (values_in wish_kinds ws >>= (λ a. Ok (wish_with a)))
words_as_values [] = refl
words_as_values (c ∷ ws) =
    ap (λ (r : Result ℕ LineFault). r >>= (λ client. values_in use_kinds ws >>= (λ usage. Ok (wished client usage)))) (among_all c)
    ∙ client_first (client_word c) (values_in use_kinds ws)

counted : (r : Result (List (List ℕ)) LineFault) → (r >>= (λ us. words_wish MAX_CLIENTS us)) ≡ ((r >>= (λ us. values_in wish_kinds us)) >>= (λ a. Ok (wish_with a)))
counted (Ok ws) = words_as_values ws
counted (Err e) = refl

-- a wish among all clients that there can be is judged as the arguments of a line are
as_arguments : (ws : List (List ℕ)) → (between 3 4 ws >>= (λ us. words_wish MAX_CLIENTS us)) ≡ (arguments_in wish_kinds ws >>= (λ a. Ok (wish_with a)))
as_arguments ws = counted (between 3 4 ws)

what_is_judged : (bytes : List ℕ) → wish_of bytes ≡ cond (nat_lt MAX_LINE_LEN (length bytes)) (Err fault.Words) (judged bytes)
unfolding wish_among
what_is_judged bytes = ap (λ (r : Result Wish LineFault). cond (nat_lt MAX_LINE_LEN (length bytes)) (Err fault.Words) r) (as_arguments (words bytes))

what_is_read : (bytes : List ℕ) (w : Wish) → wish_of bytes ≡ Ok w → Wishes bytes w
what_is_read bytes w h =
    let (a, ha, hw) = bind_ok (arguments_in wish_kinds (words bytes)) (λ a. Ok (wish_with a)) w (short_wish (nat_lt MAX_LINE_LEN (length bytes)) (judged bytes) w (sym (what_is_judged bytes) ∙ h)) in
    let s = arguments_are wish_kinds (words bytes) a ha in
    subst (λ (v : Wish). Wishes bytes v) (let same : Ok (wish_with a) ≡ Ok w = hw in cc) (sym (join_with_byte-slice_split 32 bytes) ∙ ap joined s.0, s.1)

what_is_written : (w : Wish) → IsWish w → wish_of (wish_text w) ≡ Ok w
what_is_written w v =
    let text = wish_text w in
    let rest : Arguments use_kinds = ((w.mode, w.soften), (w.resource, (w.place, tt))) in
    let first = value_text AClient w.client in
    let few : length text ≤ length first + 51 = short_arguments first use_kinds rest v.1 in
    let some : length first ≤ 8 = short_client w.client v.0 in
    let short : length text ≤ 128 = omega arith in
    what_is_judged text
    ∙ if_short (length text) (Err fault.Words) (judged text) short
    ∙ ap (λ ws. arguments_in wish_kinds ws >>= (λ a. Ok (wish_with a))) (its_words first (argument_texts use_kinds rest) (lacks_client 32 space_outside w.client v.0) (lacks_arguments 32 space_outside use_kinds rest v.1))
    ∙ bound (arguments_in wish_kinds (argument_texts wish_kinds (wish_parts w))) (λ a. Ok (wish_with a)) (wish_parts w) (Ok w) (arguments_say wish_kinds (wish_parts w) refl v) refl

pub wishes_once : (bytes : List ℕ) (w : Wish) → (wish_of bytes ≡ Ok w) ↔ ((bytes ≡ wish_text w) × IsWish w)
wishes_once bytes w = (what_is_read bytes w, λ h. subst (λ (bs : List ℕ). wish_of bs ≡ Ok w) (sym h.0) (what_is_written w h.1))
