-- What a plate is: what a read gives, what a crash may leave, and when. This is the model of a disk on
-- which all that is said of plates rests: between two syncs that succeed each written range, that of a
-- failed write too, may hold any bytes after a crash; bytes outside these ranges stay; what a read gives is
-- one of the images that a crash may leave; after a sync that succeeds a crash leaves what a read gives.
use Rattle.std.specs.Prelude.{◌≡◌, ◌⊎◌, ℕ, ◌+◌, ◌≤◌, List, length, Result, OnOk, OnErr}
use Rattle.stable_record.specs.Finding.{Counts}
use Rattle.slot_record.specs.Images.{Image, part, DiffersWithin}

pub record PlateState : Type 1 where
  -- how many bytes it has
  pub size : ℕ
  -- how many device calls have failed, up to the greatest number
  pub failures : ℕ
  -- what a read gives
  pub seen : Image
  -- the moment, as a number that does not fall
  pub clock : ℕ
  -- the images that a crash now may leave
  pub may_leave : Image → Type 0
  -- those that a crash may have left at some moment since that one
  pub left_since : ℕ → Image → Type 0

-- what holds of a plate at every moment
pub record IsPlate (s : PlateState) : Type 0 where
  pub whole : (image : Image) → s.may_leave image → length image ≡ s.size
  -- what a read gives is one of the images
  pub seen_may_be_left : s.may_leave s.seen
  -- this moment is one of those since an earlier one, and since this moment there is no other
  pub now_counts : (t : ℕ) (image : Image) → t ≤ s.clock → s.may_leave image → s.left_since t image
  pub only_now : (image : Image) → s.left_since s.clock image → s.may_leave image

-- a read gave what stands from a place on, and changed nothing of it
abbrev pub HasRead : ℕ → List ℕ → List ℕ → PlateState → PlateState → Type 0
HasRead at before now old new = (now ≡ part at (length before) old.seen) × (new.seen ≡ old.seen)

-- a crash may leave this image and no other
abbrev pub Only : Image → PlateState → Type 0
Only image s = (c : Image) → s.may_leave c → c ≡ image

-- a crash may leave nothing that it could not leave before
abbrev pub NothingNew : PlateState → PlateState → Type 0
NothingNew old new = (c : Image) → new.may_leave c → old.may_leave c

-- a crash may leave what it could leave before, but with any bytes among n from a place on
abbrev pub Tears : ℕ → ℕ → PlateState → PlateState → Type 0
Tears at n old new = (c : Image) → new.may_leave c → (d : Image) × old.may_leave d × DiffersWithin at n d c

-- Time goes on: what a crash may have left since an earlier moment is what it might have left before, or
-- what it may leave now.
pub record GoesOn (old new : PlateState) : Type 0 where
  pub later : old.clock ≤ new.clock
  pub nothing_else : (t : ℕ) (c : Image) → t ≤ old.clock → new.left_since t c → old.left_since t c ⊎ new.may_leave c
  pub keeps : (t : ℕ) (c : Image) → t ≤ old.clock → old.left_since t c → new.left_since t c

-- One device call failed and no other: the count of failures rose by one, or stood at its greatest.
abbrev pub FailedOnce : ℕ → ℕ → Type 0
FailedOnce before now = Counts before now × (now ≤ before + 1)

-- The size stays and the count of failures does not fall. It stays where no fault is answered; where one is,
-- one device call failed. So a work of many calls makes none behind one that fails, since that might fail too.
pub record Called {T E : Type 0} (old new : PlateState) (result : Result T E) : Type 0 where
  pub size : new.size ≡ old.size
  pub count : old.failures ≤ new.failures
  pub fine : OnOk result (new.failures ≡ old.failures)
  pub cause : OnErr result (FailedOnce old.failures new.failures)

-- A crash at any moment from the old state to the new one leaves an image of which this holds.
pub record LeavesOnly (old new : PlateState) (P : Image → Type 0) : Type 0 where
  pub later : old.clock ≤ new.clock
  pub each : (c : Image) → new.left_since old.clock c → P c
  pub now : (c : Image) → new.may_leave c → P c
  -- for work that began earlier
  pub before : (t : ℕ) (c : Image) → t ≤ old.clock → new.left_since t c → old.left_since t c ⊎ P c
