-- Records that are judged one after the other.
use Rattle.std.proofs.Common.{◌≡◌, ℕ, ◌+◌, ◌-◌, ◌<◌, ◌≤◌, ◌⊎◌, ◌&&◌, Bool, true, false, List, [], ◌∷◌, ◌++◌, length, map, get_or, drop, suc, Option, Some, None, refl, sym, ◌∙◌, ap, subst, inl, inr, arith}
use Rattle.std.specs.Prelude.{slice_get}
use Rattle.std.specs.List.{list_all, AllByRecursion}
use Rattle.std.proofs.lemmas.List.{length-map}
use Rattle.std.proofs.lemmas.List.Folds.{list_all-map}
use Rattle.std.proofs.Math.Seq.{drop-cons}
use Rattle.std.proofs.lemmas.List.{length-append}
use Rattle.std.proofs.lemmas.Option.{slice_get-map, slice_get_read, slice_get_within, get_or_from_slice_get}
use Rattle.lock_messages.specs.declared.ids.TheConstants.{MAX_ATTEMPT}
use Rattle.lock_model.specs.Ballots.{Ballot, AllCross, node_count}
use Rattle.stable_record.specs.declared.node_records.NodeRecord.{NodeRecord}
use Rattle.world_model.specs.ExactWorlds.{numbered}
use Rattle.world_model.specs.Forgetting.{IsSoundStation}
use Rattle.world_model.specs.Openings.{entries_within, stations_within, IsResumable}
use Rattle.world_opening.specs.Openings.{IsFound, IsRecordOf, IsAttemptOf, NodeFinds, ClientFinds, IsFirstWithout, IsEach, AreRecords, AreAttempts, station_in, stations_in}
use Rattle.world_model.specs.Numbered.{past-zero, numbered-next, numbered-one, numbered-there, numbered-last}

pub each-more : {A : Type 0} (P : ℕ → A → Type 0) (k : ℕ) (all : List A) (a : A) → IsEach k P all → P (k + 1) a → IsEach (k + 1) P (all ++ a ∷ [])
each-more {A} P k all a h p = record {
  count_is = length-append all (a ∷ []) ∙ ap (λ n. n + 1) h.count_is;
  each = λ n b e. go n b (numbered-last all a n b e);
}
  where
    go : (n : ℕ) (b : A) → (numbered all n ≡ Some b) ⊎ ((n ≡ length all + 1) × (a ≡ b)) → P n b
    go n b (inl e) = h.each n b e
    go n b (inr e) = subst (λ m. P m b) (ap (λ l. l + 1) (sym h.count_is) ∙ sym e.0) (subst (P (k + 1)) e.1 p)

pub first-without : {A : Type 0} (P : ℕ → A → Type 0) (count k : ℕ) (all : List A) → IsEach k P all → k < count → ((a : A) → ¬ (P (k + 1) a)) → IsFirstWithout count P (k + 1)
first-without P count k all h within none = record {
  above = omega arith;
  within = omega (arith, within);
  none = none;
  before = λ j one less. let a = numbered-there all j one (omega (arith, h.count_is, less)) in (a.0, h.each j a.0 a.1);
}

-- the bytes at a place
mapped-place : {A B : Type 0} (f : A → B) (xs : List A) (i : ℕ) (x : A) → i < length xs → x ≡ get_or xs i x → numbered (map f xs) (i + 1) ≡ Some (f x)
mapped-place f xs i x within is = numbered-next (map f xs) i ∙ slice_get-map f xs i ∙ ap (Rattle.std.specs.Option.option_map f) (slice_get_read xs (length xs) i x refl within is)

pub node-finds : {V : Type 0} (f : V → List ℕ) (found : List V) (i : ℕ) (v : V) (r : NodeRecord) → i < length found → v ≡ get_or found i v → IsRecordOf (f v) r → NodeFinds (map f found) (i + 1) r
node-finds f found i v r within at h = record { bytes = f v; finds = mapped-place f found i v within at; reads = h }

pub node-finds-none : {V : Type 0} (f : V → List ℕ) (found : List V) (i : ℕ) (v : V) → i < length found → v ≡ get_or found i v → ((r : NodeRecord) → ¬ (IsRecordOf (f v) r)) → (r : NodeRecord) → ¬ (NodeFinds (map f found) (i + 1) r)
node-finds-none f found i v within at none r h =
    let bytes : h.bytes ≡ f v = let e : Some h.bytes ≡ Some (f v) = sym h.finds ∙ mapped-place f found i v within at in cc in
    none r (subst (λ b. IsRecordOf b r) bytes h.reads)

pub client-finds : {V : Type 0} (f : V → List ℕ) (found : List V) (i : ℕ) (v : V) (a : ℕ) → i < length found → v ≡ get_or found i v → IsAttemptOf (f v) a → ClientFinds (map f found) (i + 1) a
client-finds f found i v a within at h = record { bytes = f v; finds = mapped-place f found i v within at; reads = h }

pub client-finds-none : {V : Type 0} (f : V → List ℕ) (found : List V) (i : ℕ) (v : V) → i < length found → v ≡ get_or found i v → ((a : ℕ) → ¬ (IsAttemptOf (f v) a)) → (a : ℕ) → ¬ (ClientFinds (map f found) (i + 1) a)
client-finds-none f found i v within at none a h =
    let bytes : h.bytes ≡ f v = let e : Some h.bytes ≡ Some (f v) = sym h.finds ∙ mapped-place f found i v within at in cc in
    none a (subst (λ b. IsAttemptOf b a) bytes h.reads)

-- what was found, or wasn't
pub is-found : {A : Type 0} (P : A → Type 0) (o : Option A) (a : A) → IsFound P o → o ≡ Some a → P a
is-found P o a h e = subst (IsFound P) e h

pub is-not-found : {A : Type 0} (P : A → Type 0) (o : Option A) → IsFound P o → o ≡ None → (a : A) → ¬ (P a)
is-not-found P o h e = subst (IsFound P) e h

-- what is at a place
pub there : {A : Type 0} (xs : List A) (i : ℕ) → i < length xs → (x : A) × (slice_get xs i ≡ Some x)
there xs i within = let a = numbered-there xs (i + 1) (omega arith) (omega (arith, within)) in (a.0, sym (numbered-next xs i) ∙ a.1)

-- a test of all elements from a place on
pub all-from : {A : Type 0} (test : A → Bool) (xs : List A) (i : ℕ) (x : A) → slice_get xs i ≡ Some x → list_all test (drop i xs) ≡ (test x && list_all test (drop (i + 1) xs))
all-from test xs i x h =
    ap (list_all test) (drop-cons xs i x (slice_get_within xs i x h))
    ∙ ap (λ y. test y && list_all test (drop (suc i) xs)) (get_or_from_slice_get xs i x x h)
    ∙ ap (λ n. test x && list_all test (drop n xs)) (let e : suc i ≡ i + 1 = omega arith in e)

-- what holds of each under its number holds of all
pub all-numbered : {A : Type 0} (P : A → Type 0) (xs : List A) → ((n : ℕ) (a : A) → numbered xs n ≡ Some a → P a) → AllByRecursion P xs
all-numbered P [] h = tt
all-numbered {A} P (x ∷ xs) h = (h 1 x refl, all-numbered P xs (λ n a e. h (n + 1) a (numbered-next (x ∷ xs) n ∙ next n a e)))
  where
    next : (n : ℕ) (a : A) → numbered xs n ≡ Some a → slice_get (x ∷ xs) n ≡ Some a
    next n a e =
        let one = (numbered-one xs n a e).0 in
        ap (slice_get (x ∷ xs)) (let m : n ≡ suc (n - 1) = omega (arith, one) in m) ∙ (sym (past-zero xs n one) ∙ e)

all-mapped : {A B : Type 0} (P : B → Type 0) (f : A → B) (xs : List A) → AllByRecursion (λ x. P (f x)) xs → AllByRecursion P (map f xs)
all-mapped P f [] h = tt
all-mapped P f (x ∷ xs) h = (h.0, all-mapped P f xs h.1)

-- records that fit
pub fit_to_open : (nodes clients : List (List ℕ)) (records : List NodeRecord) (attempts : List ℕ) → AreRecords nodes records → AreAttempts clients attempts →
    list_all (λ r. entries_within attempts r.entries) records ≡ true → (b : List Ballot) → AllCross b → length nodes ≡ node_count b → IsResumable b (stations_in records) attempts
fit_to_open nodes clients records attempts are made within b crosses votes = record {
  crosses = crosses;
  nodes = length-map records station_in ∙ are.count_is ∙ votes;
  sound = all-mapped IsSoundStation station_in records (all-numbered (λ r. IsSoundStation (station_in r)) records (λ n r e. sound r (are.each n r e).bytes (are.each n r e).reads));
  in_range = all-numbered (λ a. a ≤ MAX_ATTEMPT) attempts (λ c a e. (made.each c a e).reads.in_range);
  within = list_all-map (λ s. entries_within attempts s.entries) station_in records ∙ within;
}
  where
    sound : (r : NodeRecord) (bytes : List ℕ) → IsRecordOf bytes r → IsSoundStation (station_in r)
    sound r bytes h = record { well_formed = h.good.well_formed; lawful = h.good.lawful; caused = h.good.caused }

pub fit_not : (attempts : List ℕ) (records : List NodeRecord) → list_all (λ r. entries_within attempts r.entries) records ≡ false → stations_within attempts (stations_in records) ≡ false
fit_not attempts records h = list_all-map (λ s. entries_within attempts s.entries) station_in records ∙ h
