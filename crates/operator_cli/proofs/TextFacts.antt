-- Texts that are put together part by part.
use Rattle.std.proofs.Common.{◌≡◌, ℕ, zero, suc, ◌+◌, ◌-◌, ◌<◌, ◌≤◌, List, [], ◌∷◌, ◌++◌, take, length, sym, ap, ◌∙◌, arith, append_assoc}
use Rattle.std.specs.List.{flat_map, range_with_len}
use Rattle.std.proofs.lemmas.List.{append-nil, take_more}
use Rattle.std.proofs.lemmas.List.Concat.{flat_map-append}
use Rattle.lock_model.specs.Ballots.{Ballot, HasPlace, ballot_at, no_ballot}
use Rattle.operator_cli.specs.Texts.{ballot_text, ballots_text}

range_more : (f : ℕ → List ℕ) (a n : ℕ) → flat_map f (range_with_len a (suc n)) ≡ flat_map f (range_with_len a n) ++ f (a + n)
range_more f a zero = let e : a ≡ a + 0 = omega arith in append-nil (f a) ∙ ap f e
range_more f a (suc n) =
    let e : (a + 1) + n ≡ a + suc n = omega arith in
    ap (λ (bs : List ℕ). f a ++ bs) (range_more f (a + 1) n) ∙ sym (append_assoc (f a) (flat_map f (range_with_len (a + 1) n)) (f ((a + 1) + n))) ∙ ap (λ k. (f a ++ flat_map f (range_with_len (a + 1) n)) ++ f k) e

-- one more number of a range
pub said_more : (f : ℕ → List ℕ) (first number : ℕ) (front text new : List ℕ) → first ≤ number → text ≡ front ++ flat_map f (range_with_len first (number - first)) → new ≡ text ++ f number
    → new ≡ front ++ flat_map f (range_with_len first ((number + 1) - first))
said_more f first number front text new h e g =
    let k : first + (number - first) ≡ number = omega arith in
    let m : suc (number - first) ≡ (number + 1) - first = omega arith in
    let told = flat_map f (range_with_len first (number - first)) in
    g ∙ ap (λ (bs : List ℕ). bs ++ f number) e ∙ append_assoc front told (f number)
    ∙ ap (λ (bs : List ℕ). front ++ bs) (ap (λ j. told ++ f j) (sym k) ∙ sym (range_more f first (number - first)) ∙ ap (λ j. flat_map f (range_with_len first j)) m)

-- the lines of one more ballot
ballot_more : (ballots : List Ballot) (place : ℕ) (b : Ballot) → HasPlace ballots place → b ≡ ballot_at ballots place → ballots_text (take ((place + 1) - 1) ballots) ≡ ballots_text (take (place - 1) ballots) ++ ballot_text b
ballot_more ballots place b placed is =
    let i = place - 1 in
    let next : (place + 1) - 1 ≡ i + 1 = omega (arith, placed.0) in
    let within : i < length ballots = omega (arith, placed.0, placed.1) in
    ap (λ k. ballots_text (take k ballots)) next
    ∙ ap ballots_text (take_more ballots i no_ballot within)
    ∙ flat_map-append ballot_text (take i ballots) (ballot_at ballots place ∷ [])
    ∙ ap (λ (bs : List ℕ). ballots_text (take i ballots) ++ bs) (append-nil (ballot_text (ballot_at ballots place)) ∙ ap ballot_text (sym is))

pub ballots_more : (ballots : List Ballot) (place : ℕ) (b : Ballot) (front text new : List ℕ) → HasPlace ballots place → b ≡ ballot_at ballots place → text ≡ front ++ ballots_text (take (place - 1) ballots) → new ≡ text ++ ballot_text b
    → new ≡ front ++ ballots_text (take ((place + 1) - 1) ballots)
ballots_more ballots place b front text new placed is e g =
    g ∙ ap (λ (bs : List ℕ). bs ++ ballot_text b) e ∙ append_assoc front (ballots_text (take (place - 1) ballots)) (ballot_text b)
    ∙ ap (λ (bs : List ℕ). front ++ bs) (sym (ballot_more ballots place b placed is))
