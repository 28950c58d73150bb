-- A text that is a wish where there are so many clients is one of theirs, by the ballot of a place that there
-- may be.
use Rattle.std.proofs.Common.{◌≡◌, ℕ, ◌≤◌, nat_le, nat_lt, ◌==◌, ◌&&◌, Bool, true, false, cond, List, [], ◌∷◌, length, Option, Some, None, Result, Ok, Err, refl, subst, arith}
use Rattle.std.specs.Str.{bytes_eq}
use Rattle.std.specs.Str.Parse.{digits_value}
use Rattle.std.specs.Fmt.{decimal}
use Rattle.std.proofs.lemmas.Bool.{leb-true}
use Rattle.vote_weights.specs.declared.lists.TheConstants.{MAX_BALLOTS}
use Rattle.event_lines.specs.declared.faults.LineFault.{LineFault}
use Rattle.event_lines.specs.declared.faults.LineFault.TheVariants as fault
use Rattle.event_lines.specs.declared.wishes.Wish.{Wish}
use Rattle.event_lines.specs.declared.words.TheConstants.{MAX_LINE_LEN}
use Rattle.event_lines.specs.Lines.{◌>>=◌, AName, APlace, Arguments, IsPlace, between, words, spelled, lettered, client_word, wish_mode_word, name_word, behind_first, place_word, values_in}
use Rattle.event_lines.specs.Wishes.{use_kinds, wished, client_among, words_wish, wish_among}
use Rattle.event_lines.proofs.WordFacts.{never_ok}

-- what is answered behind a part was answered by it
behind : {A B : Type 0} (r : Result A LineFault) (f : A → Result B LineFault) (y : B) → r >>= f ≡ Ok y → (x : A) × (r ≡ Ok x) × (f x ≡ Ok y)
behind (Ok x) f y h = (x, refl, h)
behind (Err e) f y h = let clash : Err e ≡ Ok y = h in cc

-- clients

by_number : (b : Bool) (n clients c : ℕ) → nat_le n clients ≡ b → cond b (Ok n) (Err fault.Actor) ≡ Ok c → c ≤ clients
by_number true n clients c e h = let same : n ≡ c = (let s : Ok n ≡ Ok c = h in cc) in subst (λ k. k ≤ clients) same (leb-true n clients e)
by_number false n clients c e h = never_ok fault.Actor c h

client_within : (clients : ℕ) (word : List ℕ) (c : ℕ) → client_among clients word ≡ Ok c → c ≤ clients
client_within clients word c h =
    let (n, e, k) = behind (client_word word) (λ n. cond (nat_le n clients) (Ok n) (Err fault.Actor)) c h in
    by_number (nat_le n clients) n clients c refl k

-- places

spelled_at : (a b c : Bool) (most m n : ℕ) → nat_le 1 m ≡ a → nat_le m most ≡ b → cond ((a && b) && c) (Some m) None ≡ Some n → (1 ≤ n) × (n ≤ most)
spelled_at true true true most m n e f h =
    let same : m ≡ n = (let s : Some m ≡ Some n = h in cc) in
    subst (λ k. (1 ≤ k) × (k ≤ most)) same (leb-true 1 m e, leb-true m most f)
spelled_at false b c most m n e f h = absurd (let clash : None ≡ Some n = h in cc)
spelled_at true false c most m n e f h = absurd (let clash : None ≡ Some n = h in cc)
spelled_at true true false most m n e f h = absurd (let clash : None ≡ Some n = h in cc)

spelled_within : (most : ℕ) (word : List ℕ) (n : ℕ) → spelled most word ≡ Some n → (1 ≤ n) × (n ≤ most)
unfolding spelled
spelled_within most word n h =
    let m = digits_value 10 word in
    spelled_at (nat_le 1 m) (nat_le m most) (bytes_eq (decimal m) word) most m n refl refl h

behind_letter : (b : Bool) (digits : List ℕ) (n : ℕ) → cond b (spelled MAX_BALLOTS digits) None ≡ Some n → IsPlace n
behind_letter true digits n h = spelled_within MAX_BALLOTS digits n h
behind_letter false digits n h = absurd (let clash : None ≡ Some n = h in cc)

lettered_within : (word : List ℕ) (n : ℕ) → lettered 98 MAX_BALLOTS word ≡ Some n → IsPlace n
lettered_within [] n h = absurd (let clash : None ≡ Some n = h in cc)
lettered_within (b ∷ digits) n h = behind_letter (b == 98) digits n h

not_first : (b : Bool) (q p : ℕ) → IsPlace q → cond b (Err fault.Number) (Ok q) ≡ Ok p → IsPlace p
not_first true q p i h = never_ok fault.Number p h
not_first false q p i h = let same : q ≡ p = (let s : Ok q ≡ Ok p = h in cc) in subst IsPlace same i

place_at : (word : List ℕ) (o : Option ℕ) (p : ℕ) → lettered 98 MAX_BALLOTS word ≡ o → behind_first o ≡ Ok p → IsPlace p
place_at word None p e h = never_ok fault.Number p h
place_at word (Some q) p e h = not_first (q == 1) q p (lettered_within word q e) h

last_within : (ws : List (List ℕ)) (a : Arguments (APlace ∷ [])) → values_in (APlace ∷ []) ws ≡ Ok a → IsPlace a.0
last_within [] a h =
    let first : Arguments (APlace ∷ []) = (1, tt) in
    let same : first ≡ a = (let s : Ok first ≡ Ok a = h in cc) in
    subst (λ (b : Arguments (APlace ∷ [])). IsPlace b.0) same (omega arith, omega arith)
last_within (w ∷ ws) a h =
    let (p, e, k) = behind (place_word w) (λ x. values_in [] ws >>= (λ xs. Ok (x, xs))) a h in
    let (xs, f, l) = behind (values_in [] ws) (λ xs. Ok (p, xs)) a k in
    let one : Arguments (APlace ∷ []) = (p, xs) in
    let same : one ≡ a = (let s : Ok one ≡ Ok a = l in cc) in
    subst (λ (b : Arguments (APlace ∷ [])). IsPlace b.0) same (place_at w (lettered 98 MAX_BALLOTS w) p refl e)

name_first : (ws : List (List ℕ)) (a : Arguments (AName ∷ APlace ∷ [])) → values_in (AName ∷ APlace ∷ []) ws ≡ Ok a → IsPlace a.1.0
name_first [] a h = never_ok fault.Words a h
name_first (w ∷ ws) a h =
    let (x, e, k) = behind (name_word w) (λ x. values_in (APlace ∷ []) ws >>= (λ xs. Ok (x, xs))) a h in
    let (xs, f, l) = behind (values_in (APlace ∷ []) ws) (λ xs. Ok (x, xs)) a k in
    let whole : Arguments (AName ∷ APlace ∷ []) = (x, xs) in
    let same : whole ≡ a = (let s : Ok whole ≡ Ok a = l in cc) in
    subst (λ (b : Arguments (AName ∷ APlace ∷ [])). IsPlace b.1.0) same (last_within ws xs f)

use_within : (ws : List (List ℕ)) (a : Arguments use_kinds) → values_in use_kinds ws ≡ Ok a → IsPlace a.1.1.0
use_within [] a h = never_ok fault.Words a h
use_within (w ∷ ws) a h =
    let (m, e, k) = behind (wish_mode_word w) (λ x. values_in (AName ∷ APlace ∷ []) ws >>= (λ xs. Ok (x, xs))) a h in
    let (xs, f, l) = behind (values_in (AName ∷ APlace ∷ []) ws) (λ xs. Ok (m, xs)) a k in
    let whole : Arguments use_kinds = (m, xs) in
    let same : whole ≡ a = (let s : Ok whole ≡ Ok a = l in cc) in
    subst (λ (b : Arguments use_kinds). IsPlace b.1.1.0) same (name_first ws xs f)

-- wishes

-- the wish is of a client that there is, by the ballot of a place that there may be
abbrev pub IsWithin : ℕ → Wish → Type 0
IsWithin clients w = (w.client ≤ clients) × IsPlace w.place

words_within : (clients : ℕ) (ws : List (List ℕ)) (w : Wish) → words_wish clients ws ≡ Ok w → IsWithin clients w
words_within clients [] w h = never_ok fault.Words w h
words_within clients (c ∷ ws) w h =
    let (client, is_client, k) = behind (client_among clients c) (λ client. values_in use_kinds ws >>= (λ usage. Ok (wished client usage))) w h in
    let (usage, is_use, all) = behind (values_in use_kinds ws) (λ usage. Ok (wished client usage)) w k in
    let same : wished client usage ≡ w = (let s : Ok (wished client usage) ≡ Ok w = all in cc) in
    subst (λ (u : Wish). IsWithin clients u) same (client_within clients c client is_client, use_within ws usage is_use)

by_length : (b : Bool) (clients : ℕ) (bytes : List ℕ) (w : Wish) → cond b (Err fault.Words) (between 3 4 (words bytes) >>= (λ ws. words_wish clients ws)) ≡ Ok w → IsWithin clients w
by_length true clients bytes w h = never_ok fault.Words w h
by_length false clients bytes w h =
    let (ws, counted, k) = behind (between 3 4 (words bytes)) (λ ws. words_wish clients ws) w h in
    words_within clients ws w k

pub within : (clients : ℕ) (bytes : List ℕ) (w : Wish) → wish_among clients bytes ≡ Ok w → IsWithin clients w
unfolding wish_among
within clients bytes w h = by_length (nat_lt MAX_LINE_LEN (length bytes)) clients bytes w h
