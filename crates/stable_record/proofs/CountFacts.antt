-- How many entries there can be.
use Rattle.std.proofs.Common.{◌≡◌, ◌⊎◌, inl, inr, ℕ, zero, suc, ◌+◌, ◌<◌, ◌≤◌, ◌==◌, Bool, true, false, ◌||◌, cond, List, [], ◌∷◌, ◌++◌, length, map, take, drop, Option, Some, None, refl, ap, ◌∙◌, subst, arith}
use Rattle.std.specs.List.{list_any, IsDistinct, AllByRecursion, slice_get}
use Rattle.std.specs.Option.{option_map_or}
use Rattle.std.proofs.lemmas.Bool.{eqb-true, cases_Bool, or_parts}
use Rattle.std.proofs.lemmas.Map.Steps.{length-le_from_distinct_below}
use Rattle.lock_messages.specs.declared.ids.TheConstants.{MAX_CLIENTS}
use Rattle.lock_messages.specs.Ids.{IsClient}
use Rattle.lock_model.specs.declared.entries.Entry.{Entry}
use Rattle.lock_model.specs.ExactStations.{is_of, knows, EachOnce}
use Rattle.stable_record.specs.EntryLists.{HasClient}
use Rattle.stable_record.specs.Records.{IsEntry}
use Rattle.stable_record.proofs.ListFacts.{same-turned}

abbrev pub clients : List Entry → List ℕ
clients es = map (λ e. e.client) es

apart : (c : ℕ) (es : List Entry) → knows c es ≡ false → AllByRecursion (λ k. (c == k) ≡ false) (clients es)
apart c [] h = tt
apart c (e ∷ es) h = let k = or_parts (is_of c e) (knows c es) h in (same-turned c e.client ∙ k.0, apart c es k.1)

distinct : (es : List Entry) → EachOnce es → IsDistinct (λ a b. a == b) (clients es)
unfolding IsDistinct
distinct [] h = tt
distinct (e ∷ es) h = (apart e.client es h.0, distinct es h.1)

not-zero : (k : ℕ) → 1 ≤ k → (0 == k) ≡ false
not-zero k h = go (cases_Bool (0 == k))
  where
    go : ((0 == k) ≡ true) ⊎ ((0 == k) ≡ false) → (0 == k) ≡ false
    go (inl p) = let z : 0 ≡ k = eqb-true 0 k p in absurd (omega arith)
    go (inr p) = p

no-zero : (es : List Entry) → AllByRecursion HasClient es → AllByRecursion (λ k. (0 == k) ≡ false) (clients es)
no-zero [] h = tt
no-zero (e ∷ es) h = (not-zero e.client h.0.0, no-zero es h.1)

with-zero : (es : List Entry) → EachOnce es → AllByRecursion HasClient es → IsDistinct (λ a b. a == b) (0 ∷ clients es)
unfolding IsDistinct
with-zero es once good = (no-zero es good, distinct es once)

below : (q : ℕ) (es : List Entry) → AllByRecursion HasClient es → list_any (λ k. q == k) (clients es) ≡ true → q ≤ MAX_CLIENTS
below q [] good h = cc
below q (e ∷ es) good h = go (below q es good.1) (q == e.client) refl h
  where
    go : (list_any (λ k. q == k) (clients es) ≡ true → q ≤ MAX_CLIENTS) → (b : Bool) → (q == e.client) ≡ b → (b || list_any (λ k. q == k) (clients es)) ≡ true → q ≤ MAX_CLIENTS
    go more true is k = let same : q ≡ e.client = eqb-true q e.client is in let top = good.0.1 in omega arith
    go more false is k = more k

all-below : (q : ℕ) (es : List Entry) → AllByRecursion HasClient es → list_any (λ k. q == k) (0 ∷ clients es) ≡ true → q < MAX_CLIENTS + 1
all-below q es good h = go (q == 0) refl h
  where
    go : (b : Bool) → (q == 0) ≡ b → (b || list_any (λ k. q == k) (clients es)) ≡ true → q < MAX_CLIENTS + 1
    go true is k = let same : q ≡ 0 = eqb-true q 0 is in omega arith
    go false is k = let low = below q es good k in omega arith

lengths : (es : List Entry) → length (clients es) ≡ length es
lengths [] = refl
lengths (e ∷ es) = ap (λ n. suc n) (lengths es)

-- clients in range, each once, are at most as many as there are
pub few_clients : (es : List Entry) → EachOnce es → AllByRecursion HasClient es → length es ≤ MAX_CLIENTS
few_clients es once good =
    let most = length-le_from_distinct_below (0 ∷ clients es) (MAX_CLIENTS + 1) (with-zero es once good) (λ q h. all-below q es good h) in
    omega (arith, lengths es)

clients-of : (es : List Entry) → AllByRecursion IsEntry es → AllByRecursion HasClient es
clients-of [] h = tt
clients-of (e ∷ es) h = (h.0.client, clients-of es h.1)

-- entries in range, each of another client, are at most as many as there are clients
pub few : (es : List Entry) → EachOnce es → AllByRecursion IsEntry es → length es ≤ MAX_CLIENTS
few es once good = few_clients es once (clients-of es good)
