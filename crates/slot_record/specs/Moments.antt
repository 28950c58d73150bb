-- How work on a plate goes on from call to call. Nothing here has to be believed: each line is proved from `Plates`.
use Rattle.std.proofs.Common.{ℕ, inl, inr, ⊎_elim, arith}
use Rattle.slot_record.specs.Images.{Image, DiffersWithin}
use Rattle.slot_record.specs.Plates.{PlateState, IsPlate, LeavesOnly, Tears, NothingNew, GoesOn}

-- no call yet
pub rests : (s : PlateState) (P : Image → Type 0) → IsPlate s → ((c : Image) → s.may_leave c → P c) → LeavesOnly s s P
rests s P sound all = record {
  later = omega arith;
  each = λ c left. all c (sound.only_now c left);
  now = all;
  before = λ t c le left. inl left;
}

-- what holds of each image has a consequence
pub weakened : (a b : PlateState) (P Q : Image → Type 0) → LeavesOnly a b P → ((c : Image) → P c → Q c) → LeavesOnly a b Q
weakened a b P Q m then = record {
  later = m.later;
  each = λ c left. then c (m.each c left);
  now = λ c left. then c (m.now c left);
  before = λ t c le left. ⊎_elim (λ past. inl past) (λ p. inr (then c p)) (m.before t c le left);
}

-- one work after another
pub chained : (a b c : PlateState) (P Q R : Image → Type 0) → LeavesOnly a b P → LeavesOnly b c Q → ((i : Image) → P i → R i) → ((i : Image) → Q i → R i) → LeavesOnly a c R
chained a b c P Q R first second p q = record {
  later = omega (arith, first.later, second.later);
  each = λ i left. ⊎_elim (λ past. p i (first.each i past)) (λ h. q i h) (second.before a.clock i first.later left);
  now = λ i left. q i (second.now i left);
  before = λ t i le left. ⊎_elim (λ past. ⊎_elim (λ older. inl older) (λ h. inr (p i h)) (first.before t i le past)) (λ h. inr (q i h)) (second.before t i (omega (arith, le, first.later)) left);
}

-- one call more, after which of each image that a crash may leave the same holds
one_more : (a s r : PlateState) (Q : Image → Type 0) → LeavesOnly a s Q → GoesOn s r → ((c : Image) → r.may_leave c → Q c) → LeavesOnly a r Q
one_more a s r Q m on now = record {
  later = omega (arith, m.later, on.later);
  each = λ c left. ⊎_elim (λ past. m.each c past) (λ h. now c h) (on.nothing_else a.clock c m.later left);
  now = now;
  before = λ t c le left. ⊎_elim (λ past. m.before t c le past) (λ h. inr (now c h)) (on.nothing_else t c (omega (arith, le, m.later)) left);
}

-- one write more, in a range in which any bytes may stand
pub torn_on : (at n : ℕ) (a s r : PlateState) (Q : Image → Type 0) → LeavesOnly a s Q → GoesOn s r → Tears at n s r → ((d c : Image) → Q d → DiffersWithin at n d c → Q c) → LeavesOnly a r Q
torn_on at n a s r Q m on tears free = one_more a s r Q m on (λ c left. let t = tears c left in free t.0 c (m.now t.0 t.1) t.2)

-- one sync or read more
pub went_on : (a s r : PlateState) (Q : Image → Type 0) → LeavesOnly a s Q → GoesOn s r → NothingNew s r → LeavesOnly a r Q
went_on a s r Q m on none = one_more a s r Q m on (λ c left. m.now c (none c left))
