-- What a search finds, and what it has passed over where it finds nothing.
use Rattle.std.proofs.Common.{◌≡◌, ℕ, arith, ◌⊎◌, Bool, true, false, cond, List, [], ◌∷◌, Option, None, Some, refl, ◌∙◌, ap, subst, inl, inr}
use Rattle.lock_model.specs.Ballots.{HasAnyNode, node_count}
use Rattle.lock_model.specs.Decisions.{Among}
use Rattle.lock_model.proofs.BallotFacts.{among-range}
use Rattle.world_model.specs.Worlds.{Setting, HasClient}
use Rattle.world_model.specs.Advice.{found, search, only, node_numbers, client_numbers}

-- of two, one or the other is found
pub found-either : {A : Type 0} (x y : Option A) (b : A) → found x y ≡ Some b → (x ≡ Some b) ⊎ ((x ≡ None) × (y ≡ Some b))
found-either None y b h = inr (refl, h)
found-either (Some c) y b h = inl h

pub found-none : {A : Type 0} (x y : Option A) → found x y ≡ None → (x ≡ None) × (y ≡ None)
found-none None y h = (refl, h)
found-none {A} (Some c) y h = absurd (let q : Some c ≡ None = h in cc)

-- what is found is found at one of the numbers
pub search-some : {A : Type 0} (f : ℕ → Option A) (ns : List ℕ) (b : A) → search f ns ≡ Some b → (n : ℕ) × Among n ns × (f n ≡ Some b)
search-some f [] b h = absurd (let q : None ≡ Some b = h in cc)
search-some f (n ∷ ns) b h =
    elim (found-either (f n) (search f ns) b h) [
      | inl e ↦ (n, inl refl, e)
      | inr e ↦ let r = search-some f ns b e.1 in (r.0, inr r.1, r.2)
    ]

-- where nothing is found there is nothing at any of them
pub search-none : {A : Type 0} (f : ℕ → Option A) (ns : List ℕ) → search f ns ≡ None → (n : ℕ) → Among n ns → f n ≡ None
search-none f [] h n m = absurd m
search-none f (k ∷ ns) h n (inl e) = ap f e ∙ (found-none (f k) (search f ns) h).0
search-none f (k ∷ ns) h n (inr m) = search-none f ns (found-none (f k) (search f ns) h).1 n m

-- what is found among the chosen ones is of a chosen one
pub only-some : {A : Type 0} (chosen : ℕ → Bool) (f : ℕ → Option A) (n : ℕ) (b : A) → only chosen f n ≡ Some b → (chosen n ≡ true) × (f n ≡ Some b)
only-some {A} chosen f n b h = go (chosen n) refl h
  where
    go : (c : Bool) → chosen n ≡ c → (cond c (f n) None) ≡ Some b → (chosen n ≡ true) × (f n ≡ Some b)
    go true is z = (is, z)
    go false is z = absurd (let q : None ≡ Some b = z in cc)

pub only-none : {A : Type 0} (chosen : ℕ → Bool) (f : ℕ → Option A) (n : ℕ) → only chosen f n ≡ None → chosen n ≡ true → f n ≡ None
only-none {A} chosen f n h is = subst (λ c. cond c (f n) None ≡ None) is h

-- the numbers of a setting's nodes and clients are theirs

pub numbers-among : (s : Setting) (n : ℕ) → Among n (node_numbers s) → HasAnyNode s.ballots n
numbers-among s n h = let r = among-range 1 (node_count s.ballots) n h in (r.0, omega (arith, r.1))

pub among-clients : (s : Setting) (c : ℕ) → Among c (client_numbers s) → HasClient s c
among-clients s c h = let r = among-range 1 s.clients c h in (r.0, omega (arith, r.1))
