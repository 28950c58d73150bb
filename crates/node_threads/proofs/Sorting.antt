-- Sessions that begin, and ends that are put in order, one after the other.
use Rattle.std.proofs.Common.{◌≡◌, ◌≢◌, ◌⊎◌, inl, inr, ℕ, ◌+◌, ◌<◌, ◌≤◌, List, [], ◌∷◌, ◌++◌, map, refl, sym, ◌∙◌, ap, subst, arith}
use Rattle.std.specs.List.{All, range_with_len}
use Rattle.std.proofs.lemmas.List.{map-append}
use Rattle.std.proofs.lemmas.List.Elements.{All-nil, All-push, All-head, All-tail, All-weaker}
use Rattle.lock_model.specs.Decisions.{Among}
use Rattle.lock_model.proofs.GrantFacts.{among-right, among-left}
use Rattle.node_threads.specs.Sessions.{AreDivided}
use Rattle.node_threads.proofs.Amongst.{all_among, from_among, among_map}
use Rattle.node_threads.proofs.Orders.{range_among}
use Rattle.node_threads.proofs.Places.{one_more_named}

-- one more at the end of a list of numbers
more : {X : Type 0} (f : X → ℕ) (xs xs' : List X) (x : X) → xs' ≡ xs ++ x ∷ [] → map f xs' ≡ map f xs ++ f x ∷ []
more f xs xs' x is = ap (map f) is ∙ map-append f xs (x ∷ [])

grown : {X : Type 0} (f : X → ℕ) (xs xs' : List X) (x : X) (n : ℕ) → xs' ≡ xs ++ x ∷ [] → Among n (map f xs) → Among n (map f xs')
grown f xs xs' x n is there = subst (λ l. Among n l) (sym (more f xs xs' x is)) (among-left n (map f xs) (f x ∷ []) there)

joined : {X : Type 0} (f : X → ℕ) (xs xs' : List X) (x : X) (n : ℕ) → xs' ≡ xs ++ x ∷ [] → n ≡ f x → Among n (map f xs')
joined f xs xs' x n is same = subst (λ l. Among n l) (sym (more f xs xs' x is)) (among-right n (map f xs) (f x ∷ []) (inl same))

-- each number is one of a session, of an end, or of a task that is left
abbrev pub Spread : List ℕ → List ℕ → List ℕ → List ℕ → Type 0
Spread all xs ys left = (n : ℕ) → Among n all → Among n xs ⊎ (Among n ys ⊎ Among n left)

pub spread_first : {T : Type 0} (h : T → ℕ) (xs ys : List ℕ) (ts ts' : List T) → ts' ≡ ts → Spread (map h ts) xs ys (map h ts')
spread_first h xs ys ts ts' gives n there = inr (inr (subst (λ us. Among n (map h us)) (sym gives) there))

pub to_sessions : {X T : Type 0} (f : X → ℕ) (h : T → ℕ) (xs xs' : List X) (x : X) (ys : List ℕ) (left left' : List T) (t : T) (all : List ℕ) → xs' ≡ xs ++ x ∷ [] → left ≡ t ∷ left' → f x ≡ h t
    → Spread all (map f xs) ys (map h left) → Spread all (map f xs') ys (map h left')
to_sessions f h xs xs' x ys left left' t all is at same before n there = go (before n there)
  where
    go : Among n (map f xs) ⊎ (Among n ys ⊎ Among n (map h left)) → Among n (map f xs') ⊎ (Among n ys ⊎ Among n (map h left'))
    go (inl one) = inl (grown f xs xs' x n is one)
    go (inr (inl other)) = inr (inl other)
    go (inr (inr rest)) = last (subst (λ l. Among n (map h l)) at rest)
      where
        last : Among n (h t ∷ map h left') → Among n (map f xs') ⊎ (Among n ys ⊎ Among n (map h left'))
        last (inl here) = inl (joined f xs xs' x n is (here ∙ sym same))
        last (inr behind) = inr (inr behind)

pub to_ends : {Y T : Type 0} (g : Y → ℕ) (h : T → ℕ) (xs : List ℕ) (ys ys' : List Y) (y : Y) (left left' : List T) (t : T) (all : List ℕ) → ys' ≡ ys ++ y ∷ [] → left ≡ t ∷ left' → g y ≡ h t
    → Spread all xs (map g ys) (map h left) → Spread all xs (map g ys') (map h left')
to_ends g h xs ys ys' y left left' t all is at same before n there = go (before n there)
  where
    go : Among n xs ⊎ (Among n (map g ys) ⊎ Among n (map h left)) → Among n xs ⊎ (Among n (map g ys') ⊎ Among n (map h left'))
    go (inl one) = inl one
    go (inr (inl other)) = inr (inl (grown g ys ys' y n is other))
    go (inr (inr rest)) = last (subst (λ l. Among n (map h l)) at rest)
      where
        last : Among n (h t ∷ map h left') → Among n xs ⊎ (Among n (map g ys') ⊎ Among n (map h left'))
        last (inl here) = inr (inl (joined g ys ys' y n is (here ∙ sym same)))
        last (inr behind) = inr (inr behind)

pub spread : (all xs ys left : List ℕ) → left ≡ [] → Spread all xs ys left → AreDivided all xs ys
spread all xs ys left none before = from_among (λ n. Among n xs ⊎ Among n ys) all (λ n there. go n (before n there))
  where
    go : (n : ℕ) → Among n xs ⊎ (Among n ys ⊎ Among n left) → Among n xs ⊎ Among n ys
    go n (inl one) = inl one
    go n (inr (inl other)) = inr other
    go n (inr (inr rest)) = absurd (subst (λ l. Among n l) none rest)

-- So far the ends of the first clients are in order, and those of the others are left.
pub record Sorting {X : Type 0} (f : X → ℕ) (all : List X) (place count : ℕ) (ordered left : List X) : Type 0 where
  pub firsts : map f ordered ≡ range_with_len 1 place
  pub those : All (λ x. Among x all) ordered
  pub behind : All (λ x. Among x all) left
  pub rest : (n : ℕ) → place < n → n ≤ count → Among n (map f left)

pub sorting_begins : {X : Type 0} (f : X → ℕ) (all ordered : List X) (count : ℕ) → ordered ≡ [] → All (λ n. Among n (map f all)) (range_with_len 1 count) → Sorting f all 0 count ordered all
sorting_begins f all ordered count none whole = subst (λ os. Sorting f all 0 count os all) (sym none) (record {
  firsts = refl;
  those = All-nil (λ x. Among x all);
  behind = from_among (λ x. Among x all) all (λ x there. there);
  rest = λ n above few. all_among (λ k. Among k (map f all)) n (range_with_len 1 count) (range_among n 1 count above (omega (arith, few))) whole;
})

-- a number that none of these has is none of theirs
pub none_named : {X : Type 0} (f : X → ℕ) (n : ℕ) (xs : List X) → All (λ x. f x ≢ n) xs → Among n (map f xs) → ⊥
none_named f n [] none there = there
none_named f n (x ∷ xs) none (inl here) = All-head (λ y. f y ≢ n) x xs none (sym here)
none_named f n (x ∷ xs) none (inr behind) = none_named f n xs (All-tail (λ y. f y ≢ n) x xs none) behind

-- a number is still there where those with another were taken
still_there : {X : Type 0} (f : X → ℕ) (m n : ℕ) (left left' : List X) → m < n → All (λ y. (f y ≡ m) ⊎ Among y left') left → Among n (map f left) → Among n (map f left')
still_there f m n [] left' other others there = absurd there
still_there f m n (y ∷ left) left' other others (inl here) = go (All-head (λ z. (f z ≡ m) ⊎ Among z left') y left others)
  where
    go : (f y ≡ m) ⊎ Among y left' → Among n (map f left')
    go (inl same) = absurd (omega (arith, other, same, here))
    go (inr stays) = subst (λ k. Among k (map f left')) (sym here) (among_map f y left' stays)
still_there f m n (y ∷ left) left' other others (inr behind) = still_there f m n left left' other (All-tail (λ z. (f z ≡ m) ⊎ Among z left') y left others) behind

pub sorting_takes : {X : Type 0} (f : X → ℕ) (all : List X) (place count : ℕ) (ordered ordered' left left' : List X) (x : X) → Sorting f all place count ordered left → f x ≡ place + 1 → Among x left
    → ordered' ≡ ordered ++ x ∷ [] → All (λ y. Among y left) left' → All (λ y. (f y ≡ place + 1) ⊎ Among y left') left → Sorting f all (place + 1) count ordered' left'
sorting_takes f all place count ordered ordered' left left' x s num there is fewer others = record {
  firsts = one_more_named f ordered ordered' x place s.firsts is num;
  those = subst (All (λ y. Among y all)) (sym is) (All-push (λ y. Among y all) ordered x s.those (all_among (λ y. Among y all) x left there s.behind));
  behind = All-weaker (λ y. Among y left) (λ y. Among y all) (λ y within. all_among (λ z. Among z all) y left within s.behind) left' fewer;
  rest = λ n above few. still_there f (place + 1) n left left' above others (s.rest n (omega (arith, above)) few);
}
