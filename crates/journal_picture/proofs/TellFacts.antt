-- What is told of the world.
use Rattle.std.proofs.Common.{◌≡◌, ◌⊎◌, ℕ, zero, suc, ◌+◌, ◌-◌, ◌==◌, ◌≤◌, Bool, true, false, List, [], ◌++◌, slice_get, map, Option, Some, None, Result, Ok, Err, OnOk, inl, inr, refl, sym, ap, subst, ◌∙◌, arith, append_assoc}
use Rattle.std.specs.List.{flat_map, range_with_len, All}
use Rattle.std.specs.Option.{option_map}
use Rattle.std.proofs.lemmas.List.{append-nil, map-append}
use Rattle.std.proofs.lemmas.Option.{slice_get_within, get_or_from_slice_get}
use Rattle.lock_messages.specs.declared.ids.Actor.TheVariants as actor
use Rattle.stable_record.specs.declared.faults.RecordFault.{RecordFault}
use Rattle.stable_record.specs.declared.faults.RecordFault.TheVariants as bad
use Rattle.stable_record.specs.declared.node_records.NodeRecord.{NodeRecord}
use Rattle.stable_record.specs.Records.{IsNodeRecord, node_record_of}
use Rattle.world_model.specs.declared.exact.ExactNode.{ExactNode}
use Rattle.world_model.specs.declared.exact.ExactWorld.{ExactWorld}
use Rattle.world_model.specs.ExactWorlds.{numbered}
use Rattle.world_machine.specs.Keeping.{record_in, KeepsRecords}
use Rattle.world_machine.specs.Listing.{kept_bytes, station_bytes}
use Rattle.run_picture.specs.declared.marks.Lasting.{Lasting}
use Rattle.run_picture.specs.declared.marks.Mark.{Mark}
use Rattle.journal_picture.specs.Histories.{votes_in, votes_at, with_more}
use Rattle.journal_picture.specs.Strokes.{Stroke, Marked}

range_more : {A : Type 0} (f : ℕ → List A) (a n : ℕ) → flat_map f (range_with_len a (suc n)) ≡ flat_map f (range_with_len a n) ++ f (a + n)
range_more f a zero = let e : a ≡ a + 0 = omega arith in append-nil (f a) ∙ ap f e
range_more f a (suc n) =
    let e : (a + 1) + n ≡ a + suc n = omega arith in
    ap (λ bs. f a ++ bs) (range_more f (a + 1) n) ∙ sym (append_assoc (f a) (flat_map f (range_with_len (a + 1) n)) (f ((a + 1) + n))) ∙ ap (λ k. (f a ++ flat_map f (range_with_len (a + 1) n)) ++ f k) e

-- one number more
pub said_more : {A : Type 0} (f : ℕ → List A) (first number : ℕ) (said new : List A) → first ≤ number → said ≡ flat_map f (range_with_len first (number - first)) → new ≡ said ++ f number
    → new ≡ flat_map f (range_with_len first ((number + 1) - first))
said_more f first number said new h e g =
    let k : first + (number - first) ≡ number = omega arith in
    let m : suc (number - first) ≡ (number + 1) - first = omega arith in
    g ∙ ap (λ bs. bs ++ f number) e ∙ ap (λ j. flat_map f (range_with_len first (number - first)) ++ f j) (sym k) ∙ sym (range_more f first (number - first)) ∙ ap (λ j. flat_map f (range_with_len first j)) m

-- what holds of each node holds of the one of a number
each_numbered : {A : Type 0} (P : A → Type 0) (xs : List A) (n : ℕ) (x : A) → All P xs → numbered xs n ≡ Some x → P x
each_numbered {A} P xs n x all at = by_test (n == 0) refl
  where
    by_test : (b : Bool) → (n == 0) ≡ b → P x
    by_test true t = let clash : None ≡ Some x = sym (let z : numbered xs n ≡ None = rw t refl in z) ∙ at in absurd (cc)
    by_test false t =
        let here : slice_get xs (n - 1) ≡ Some x = sym (let z : numbered xs n ≡ slice_get xs (n - 1) = rw t refl in z) ∙ at in
        subst P (get_or_from_slice_get xs (n - 1) x x here) (all (n - 1) x (slice_get_within xs (n - 1) x here))

-- a record that was read
abbrev reads : NodeRecord → Result NodeRecord RecordFault
reads kept = Ok kept

-- what is read is the record that was written
read_is : (kept r : NodeRecord) → (reads kept ≡ Err bad.NoMemory) ⊎ (reads kept ≡ Ok r) → kept ≡ r
read_is kept r (inl h) = absurd (cc)
read_is kept r (inr h) = cc

-- the votes that are read are those of the node
pub votes_so : (w : ExactWorld) (n : ℕ) (bytes : List ℕ) (kept : NodeRecord) (old new : List Lasting) → KeepsRecords w → kept_bytes (actor.Node n) w ≡ Some bytes
    → ((r : NodeRecord) → IsNodeRecord r → bytes ≡ node_record_of r → (reads kept ≡ Err bad.NoMemory) ⊎ (reads kept ≡ Ok r))
    → new ≡ old ++ votes_in n kept.entries → new ≡ old ++ votes_at n (numbered w.nodes n)
votes_so w n bytes kept old new keeps stands said added = by_node (numbered w.nodes n) refl
  where
    by_node : (found : Option ExactNode) → numbered w.nodes n ≡ found → new ≡ old ++ votes_at n found
    by_node None at = let clash : None ≡ Some bytes = sym (ap (option_map (λ v. station_bytes v.kept)) at) ∙ stands in absurd (cc)
    by_node (Some v) at =
        let is_some : Some (station_bytes v.kept) ≡ Some bytes = sym (ap (option_map (λ v. station_bytes v.kept)) at) ∙ stands in
        let written : bytes ≡ node_record_of (record_in v.kept) = cc in
        let same : kept ≡ record_in v.kept = read_is kept (record_in v.kept) (said (record_in v.kept) (each_numbered (λ x. IsNodeRecord (record_in x.kept)) w.nodes n v keeps.nodes at) written) in
        added ∙ ap (λ (r : NodeRecord). old ++ votes_in n r.entries) same

pub votes_on : {A E : Type 0} (r : Result A E) (w : ExactWorld) (n : ℕ) (bytes : List ℕ) (kept : NodeRecord) (old new : List Lasting) → KeepsRecords w → kept_bytes (actor.Node n) w ≡ Some bytes
    → ((r : NodeRecord) → IsNodeRecord r → bytes ≡ node_record_of r → (reads kept ≡ Err bad.NoMemory) ⊎ (reads kept ≡ Ok r))
    → OnOk r (new ≡ old ++ votes_in n kept.entries) → OnOk r (new ≡ old ++ votes_at n (numbered w.nodes n))
votes_on (Ok a) w n bytes kept old new keeps stands said added = votes_so w n bytes kept old new keeps stands said added
votes_on (Err e) w n bytes kept old new keeps stands said added = tt

-- marks behind marks
pub more_marks : (xs ys : List Mark) (drawn : Option (List Stroke)) → with_more ys (with_more xs drawn) ≡ with_more (xs ++ ys) drawn
more_marks xs ys None = refl
more_marks xs ys (Some zs) = ap Some (append_assoc zs (map Marked xs) (map Marked ys) ∙ ap (λ (ss : List Stroke). zs ++ ss) (sym (map-append Marked xs ys)))

pub no_marks : (drawn : Option (List Stroke)) → drawn ≡ with_more [] drawn
no_marks None = refl
no_marks (Some zs) = ap Some (sym (append-nil zs))

-- Messages that were lost.

-- the marks of one number more
pub lost_more : (f : ℕ → List Mark) (before : ℕ) (old now new : Option (List Stroke)) (marks : List Mark) → now ≡ with_more (flat_map f (range_with_len 1 before)) old → new ≡ with_more marks now → marks ≡ f (before + 1)
    → new ≡ with_more (flat_map f (range_with_len 1 (before + 1))) old
lost_more f before old now new marks h g e =
    let at : 1 + before ≡ before + 1 = omega arith in
    let next : suc before ≡ before + 1 = omega arith in
    g ∙ ap (with_more marks) h ∙ more_marks (flat_map f (range_with_len 1 before)) marks old ∙ ap (λ ms. with_more (flat_map f (range_with_len 1 before) ++ ms) old) (e ∙ ap f (sym at))
    ∙ ap (λ ms. with_more ms old) (sym (range_more f 1 before)) ∙ ap (λ k. with_more (flat_map f (range_with_len 1 k)) old) next
