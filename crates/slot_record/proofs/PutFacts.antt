-- What is put into an image, and the images that a crash may leave of a plate in memory.
use Rattle.std.specs.Prelude.{None, IfOk, replicate}
use Rattle.std.proofs.Common.{◌≡◌, inl, inr, ℕ, zero, suc, ◌+◌, ◌≤◌, List, [], ◌∷◌, length, take, drop, Result, Ok, Err, OnOk, refl, sym, ◌∙◌, ap, subst, arith}
use Rattle.std.proofs.lemmas.List.{length-replicate}
use Rattle.slot_record.specs.Images.{Image, DiffersWithin, IsWritten}
use Rattle.slot_record.specs.Plates.{NothingNew}
use Rattle.slot_record.specs.MemoryPlates.{PlateCall, Idle, Written, Torn, Synced, Memory, put, content, MayLeave, state_of, Makes, filled}
use Rattle.slot_record.specs.MemoryLaws.{length_of_put, length_of_content, put_differs, seen_may_be_left}
use Rattle.slot_record.specs.PutLaws.{put_writes}

-- ---- a put leaves what differs within a range

take-put : (n at : ℕ) (bytes image : List ℕ) → take n (put at bytes image) ≡ put at bytes (take n image)
take-put zero zero [] image = refl
take-put zero zero (b ∷ bytes) image = refl
take-put zero (suc at) bytes image = refl
take-put (suc n) zero [] image = refl
take-put (suc n) zero (b ∷ bytes) [] = refl
take-put (suc n) zero (b ∷ bytes) (x ∷ image) = ap (λ (l : Image). b ∷ l) (take-put n zero bytes image)
take-put (suc n) (suc at) bytes [] = refl
take-put (suc n) (suc at) bytes (x ∷ image) = ap (λ (l : Image). x ∷ l) (take-put n at bytes image)

-- what is behind n bytes after a put depends on what was behind them before
drop_put_same : (n at : ℕ) (bytes a b : List ℕ) → drop n a ≡ drop n b → length a ≡ length b → drop n (put at bytes a) ≡ drop n (put at bytes b)
drop_put_same zero at bytes a b same long = ap (λ (l : Image). put at bytes l) same
drop_put_same (suc n) zero [] a b same long = same
drop_put_same (suc n) zero (v ∷ bytes) [] [] same long = refl
drop_put_same (suc n) zero (v ∷ bytes) [] (y ∷ b) same long = absurd (omega arith)
drop_put_same (suc n) zero (v ∷ bytes) (x ∷ a) [] same long = absurd (omega arith)
drop_put_same (suc n) zero (v ∷ bytes) (x ∷ a) (y ∷ b) same long = drop_put_same n zero bytes a b same (omega arith)
drop_put_same (suc n) (suc at) bytes [] [] same long = refl
drop_put_same (suc n) (suc at) bytes [] (y ∷ b) same long = absurd (omega arith)
drop_put_same (suc n) (suc at) bytes (x ∷ a) [] same long = absurd (omega arith)
drop_put_same (suc n) (suc at) bytes (x ∷ a) (y ∷ b) same long = drop_put_same n at bytes a b same (omega arith)

put_both : (at n to : ℕ) (bytes a b : List ℕ) → DiffersWithin at n a b → DiffersWithin at n (put to bytes a) (put to bytes b)
put_both at n to bytes a b d = record {
  before = take-put at to bytes b ∙ ap (λ (l : Image). put to bytes l) d.before ∙ sym (take-put at to bytes a);
  behind = drop_put_same (at + n) to bytes b a d.behind d.length;
  length = length_of_put to bytes b ∙ d.length ∙ sym (length_of_put to bytes a);
}

filled_both : (at n fill : ℕ) (calls : List PlateCall) (a b : List ℕ) → DiffersWithin at n a b → DiffersWithin at n (filled fill calls a) (filled fill calls b)
filled_both at n fill [] a b d = d
filled_both at n fill (Idle ∷ calls) a b d = filled_both at n fill calls a b d
filled_both at n fill (Written to bytes ∷ calls) a b d = filled_both at n fill calls _ _ (put_both at n to (replicate (length bytes) fill) a b d)
filled_both at n fill (Torn to m ∷ calls) a b d = filled_both at n fill calls _ _ (put_both at n to (replicate m fill) a b d)
filled_both at n fill (Synced ∷ calls) a b d = d

-- ---- after a crash

-- what differs within a range, and has anything put there, differs within it still
put_over : (at n : ℕ) (bytes a b : List ℕ) → length bytes ≡ n → DiffersWithin at n a b → DiffersWithin at n a (put at bytes b)
put_over at n bytes a b is d =
    let over : DiffersWithin at n b (put at bytes b) = subst (λ (k : ℕ). DiffersWithin at k b (put at bytes b)) is (put_differs at bytes b) in
    record { before = over.before ∙ d.before; behind = over.behind ∙ d.behind; length = over.length ∙ d.length }

-- filling an image that a crash may leave gives one
filled_left : (first : Image) (fill : ℕ) (calls : List PlateCall) (image : Image) → MayLeave first calls image → MayLeave first calls (filled fill calls image)
filled_left first fill [] image left = left
filled_left first fill (Idle ∷ calls) image left = filled_left first fill calls image left
filled_left first fill (Written at bytes ∷ calls) image left = (
  filled fill calls left.0,
  filled_left first fill calls left.0 left.1,
  filled_both at (length bytes) fill calls left.0 (put at (replicate (length bytes) fill) image)
      (put_over at (length bytes) (replicate (length bytes) fill) left.0 image (length-replicate (length bytes) fill) left.2),
)
filled_left first fill (Torn at n ∷ calls) image left = (
  filled fill calls left.0,
  filled_left first fill calls left.0 left.1,
  filled_both at n fill calls left.0 (put at (replicate n fill) image)
      (put_over at n (replicate n fill) left.0 image (length-replicate n fill) left.2),
)
filled_left first fill (Synced ∷ calls) image left = left

pub filled_allowed : {E : Type 0} (first : Image) (fill : ℕ) (calls : List PlateCall) (bytes : Image) (r : Result Memory E)
    → bytes ≡ filled fill calls (content first calls) → IfOk r (λ m. m ≡ record { first = bytes; calls = []; fuse = None; failures = 0 }) → IfOk r (λ m. MayLeave first calls m.first)
filled_allowed first fill calls bytes (Ok m) left is =
    let all = filled_left first fill calls (content first calls) (seen_may_be_left first calls) in
    subst (λ (k : Memory). MayLeave first calls k.first) (sym is) (subst (λ (i : Image). MayLeave first calls i) (sym left) all)
filled_allowed first fill calls bytes (Err e) left is = tt

-- ---- what the calls make

pub synced_leaves : {T E : Type 0} (m n : Memory) (result : Result T E) → Makes Synced Idle m result n → NothingNew (state_of m) (state_of n)
synced_leaves m n result (inl was) =
    let is = was.2 in
    λ c left. let there : MayLeave m.first (Synced ∷ m.calls) c = subst (λ (k : Memory). MayLeave k.first k.calls c) is left in
    subst (λ (i : Image). MayLeave m.first m.calls i) (sym there) (seen_may_be_left m.first m.calls)
synced_leaves m n result (inr (failed, inl is)) = λ c left. subst (λ (k : Memory). MayLeave k.first k.calls c) is left
synced_leaves m n result (inr (failed, inr (spent, is))) = λ c left. subst (λ (k : Memory). MayLeave k.first k.calls c) is left

pub written_seen : {T E : Type 0} (at : ℕ) (bytes : List ℕ) (m n : Memory) (result : Result T E) → at + length bytes ≤ length m.first → Makes (Written at bytes) (Torn at (length bytes)) m result n
    → OnOk result (IsWritten at bytes (state_of m).seen (state_of n).seen)
written_seen at bytes m n (Ok t) le (inl was) =
    let long = length_of_content m.first m.calls in
    let w : IsWritten at bytes (content m.first m.calls) (put at bytes (content m.first m.calls)) = put_writes at bytes (content m.first m.calls) (omega (arith, long, le)) in
    subst (λ (k : Memory). IsWritten at bytes (content m.first m.calls) (content k.first k.calls)) (sym was.2) w
written_seen at bytes m n (Ok t) le (inr failed) = let no = failed.0 in absurd cc
written_seen at bytes m n (Err e) le made = tt
