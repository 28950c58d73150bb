-- What the calls of a plate over a file make of it.
use Rattle.std.proofs.Common.{◌≡◌, inl, inr, ℕ, ◌+◌, ◌≤◌, List, ◌∷◌, length, drop, map, Result, Ok, Err, OnOk, Vec, sym, ap, subst, arith}
use Rattle.std.specs.Global.{Global}
use Rattle.std.proofs.lemmas.List.{take_at}
use Rattle.std.specs.Vec.{with_items}
use Rattle.slot_record.specs.Images.{Image, IsWritten}
use Rattle.slot_record.specs.Plates.{NothingNew}
use Rattle.slot_record.specs.MemoryPlates.{PlateCall, put, content, MayLeave, Memory}
use Rattle.slot_record.specs.MemoryPlates as plates
use Rattle.slot_record.specs.MemoryLaws.{length_of_put, length_of_content, seen_may_be_left}
use Rattle.file_plate.specs.Media.{Took, WriteFailed, Synced, SyncFailed}
use Rattle.file_plate.specs.FilePlates.{OnFile, plate_call, file_state, image_of, Asks}
use Rattle.slot_record.specs.PutLaws.{put_writes}

pub synced_leaves : {T E : Type 0} (p q : OnFile) (result : Result T E) → Asks Synced SyncFailed p result q → NothingNew (file_state p) (file_state q)
synced_leaves p q result (inl was) =
    λ c left. let there : MayLeave p.first (plates.Synced ∷ map plate_call p.asked) c = subst (λ (k : OnFile). MayLeave k.first (map plate_call k.asked) c) was.2 left in
    subst (λ (i : Image). MayLeave p.first (map plate_call p.asked) i) (sym there) (seen_may_be_left p.first (map plate_call p.asked))
synced_leaves p q result (inr (inl was)) = λ c left. subst (λ (k : OnFile). MayLeave k.first (map plate_call k.asked) c) was.2 left
synced_leaves p q result (inr (inr was)) = λ c left. subst (λ (k : OnFile). MayLeave k.first (map plate_call k.asked) c) was.2 left

pub written_seen : {T E : Type 0} (at : ℕ) (bytes : List ℕ) (p q : OnFile) (result : Result T E) → at + length bytes ≤ length p.first → Asks (Took at bytes) (WriteFailed at (length bytes)) p result q
    → OnOk result (IsWritten at bytes (file_state p).seen (file_state q).seen)
written_seen at bytes p q (Ok t) le (inl was) =
    let long = length_of_content p.first (map plate_call p.asked) in
    let w : IsWritten at bytes (image_of p) (put at bytes (image_of p)) = put_writes at bytes (image_of p) (omega (arith, long, le)) in
    subst (λ (k : OnFile). IsWritten at bytes (image_of p) (image_of k)) (sym was.2) w
written_seen at bytes p q (Ok t) le (inr (inl failed)) = let no = failed.0 in absurd cc
written_seen at bytes p q (Ok t) le (inr (inr failed)) = let no = failed.0 in absurd cc
written_seen at bytes p q (Err e) le made = tt

-- the image after a write
pub image_after : (at : ℕ) (bytes new : List ℕ) (image : Vec ℕ Global) → new ≡ put at bytes image.items → (with_items image new).items ≡ new
image_after at bytes new image is =
    let size : length new ≡ image.len = omega (arith, ap (λ (l : List ℕ). length l) is, length_of_put at bytes image.items, image.ok.0) in
    take_at new (drop (length new) image.items) image.len size
