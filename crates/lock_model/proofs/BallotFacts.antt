-- Sums over sets of nodes, and the node that two sets share.
use Rattle.std.proofs.Common.{◌≡◌, ℕ, zero, suc, ◌+◌, ◌-◌, ◌<◌, ◌≤◌, min, max, Bool, true, false, ◌&&◌, List, [], ◌∷◌, ◌++◌, length, slice_index, sum, sum_by, refl, ◌∙◌, subst, inl, inr, arith, if◌then◌else◌}
use Rattle.std.specs.List.{range_with_len}
use Rattle.std.proofs.Math.Nat.{max_comm}
use Rattle.std.proofs.lemmas.Bool.{cases_lt, cases_order, and_parts}
use Rattle.std.proofs.lemmas.List.{append_assoc, get_or_at, get_or_past, length_push}
use Rattle.std.proofs.lemmas.List.Sums.{sum_by-cons}
use Rattle.lock_messages.specs.declared.tickets.Mode.{Mode}
use Rattle.lock_messages.specs.declared.tickets.Mode.TheVariants.{Read, Write}
use Rattle.lock_model.specs.Ballots.{Ballot, HasNode, nodes, nodes_of_both, votes_at, votes_of, larger_votes, total, IsEnough, Crosses, AreCrossing, AllCross, IsShared, IsSharedUnderBoth, HasPlace, no_ballot, ballot_at}
use Rattle.lock_model.specs.Decisions.{Among}

-- what a set has of a value of each element
abbrev pub part : (ℕ → ℕ) → (ℕ → Bool) → List ℕ → ℕ
part f chosen xs = sum_by (λ n. if chosen n then f n else 0) xs

abbrev pub both : (ℕ → Bool) → (ℕ → Bool) → ℕ → Bool
both left right n = left n && right n

-- at a node two sets have no more than the larger of what each may have there, and what both have once more
cell : (a b : Bool) (v w l r x m : ℕ) → l + r ≤ x + m → ((if a then v else 0) + l) + ((if b then w else 0) + r) ≤ (max v w + x) + ((if a && b then min v w else 0) + m)
cell true true v w l r x m h = omega arith
cell true false v w l r x m h = omega arith
cell false true v w l r x m h = omega arith
cell false false v w l r x m h = omega arith

pub part-both : (f g : ℕ → ℕ) (left right : ℕ → Bool) (xs : List ℕ) →
    part f left xs + part g right xs ≤ sum_by (λ n. max (f n) (g n)) xs + part (λ n. min (f n) (g n)) (both left right) xs
part-both f g left right [] = omega arith
part-both f g left right (x ∷ xs) =
    rw (sum_by-cons (λ n. if left n then f n else 0) x xs, sum_by-cons (λ n. if right n then g n else 0) x xs, sum_by-cons (λ n. max (f n) (g n)) x xs, sum_by-cons (λ n. if both left right n then min (f n) (g n) else 0) x xs)
    (cell (left x) (right x) (f x) (g x) _ _ _ _ (part-both f g left right xs))

-- a set that has something of the sum has an element with something
pub record IsPlace (f : ℕ → ℕ) (chosen : ℕ → Bool) (xs : List ℕ) (n : ℕ) : Type 0 where
  pub among : Among n xs
  pub chosen_is : chosen n ≡ true
  pub some : 0 < f n

behind : (f : ℕ → ℕ) (chosen : ℕ → Bool) (x : ℕ) (xs : List ℕ) → (n : ℕ) × IsPlace f chosen xs n → (n : ℕ) × IsPlace f chosen (x ∷ xs) n
behind f chosen x xs h = (h.0, record { among = inr h.1.among; chosen_is = h.1.chosen_is; some = h.1.some })

place_step : (f : ℕ → ℕ) (chosen : ℕ → Bool) (x : ℕ) (xs : List ℕ) (b : Bool) → chosen x ≡ b → 0 < (if b then f x else 0) + part f chosen xs →
    (0 < part f chosen xs → (n : ℕ) × IsPlace f chosen xs n) → (v r : ℕ) → f x ≡ v → part f chosen xs ≡ r → (n : ℕ) × IsPlace f chosen (x ∷ xs) n
place_step f chosen x xs false e h ih v r ev er = behind f chosen x xs (ih (omega arith))
place_step f chosen x xs true e h ih zero r ev er = behind f chosen x xs (ih (omega arith))
place_step f chosen x xs true e h ih (suc v) r ev er = (x, record { among = inl refl; chosen_is = e; some = omega arith })

pub part-place : (f : ℕ → ℕ) (chosen : ℕ → Bool) (xs : List ℕ) → 0 < part f chosen xs → (n : ℕ) × IsPlace f chosen xs n
part-place f chosen [] h = absurd (omega arith)
part-place f chosen (x ∷ xs) h =
    place_step f chosen x xs (chosen x) refl (rw (sum_by-cons (λ n. if chosen n then f n else 0) x xs) at h) (part-place f chosen xs) (f x) (part f chosen xs) refl refl

-- the sum over the nodes is the sum of the votes
votes-from : (front votes : List ℕ) → sum_by (λ n. slice_index (front ++ votes) (n - 1)) (range_with_len (length front + 1) (length votes)) ≡ sum votes
votes-from front [] = refl
votes-from front (v ∷ votes) =
    let shape : front ++ v ∷ [] ++ votes ≡ front ++ v ∷ votes = append_assoc front (v ∷ []) votes in
    let here : slice_index (front ++ v ∷ votes) (length front + 1 - 1) ≡ v = get_or_at front v votes 0 _ (omega arith) in
    let rest : sum_by (λ n. slice_index (front ++ v ∷ votes) (n - 1)) (range_with_len (length front + 1 + 1) (length votes)) ≡ sum votes =
    subst (λ xs. sum_by (λ n. slice_index xs (n - 1)) (range_with_len (length front + 1 + 1) (length votes)) ≡ sum votes) shape
    (subst (λ k. sum_by (λ n. slice_index (front ++ v ∷ [] ++ votes) (n - 1)) (range_with_len (k + 1) (length votes)) ≡ sum votes) (length_push front v) (votes-from (front ++ v ∷ []) votes)) in
    rw (sum_by-cons (λ n. slice_index (front ++ v ∷ votes) (n - 1)) (length front + 1) (range_with_len (length front + 1 + 1) (length votes)), here, rest, sum_by-cons (λ x. x) v votes) refl

pub votes-all : (b : Ballot) → sum_by (votes_at b) (nodes b) ≡ total b
votes-all b = votes-from [] b.votes

pub among-range : (a k n : ℕ) → Among n (range_with_len a k) → (a ≤ n) × (n < a + k)
among-range a zero n h = absurd h
among-range a (suc k) n (inl e) = (omega arith, omega arith)
among-range a (suc k) n (inr h) = let r = among-range (a + 1) k n h in (omega arith, omega arith)

-- a sum over the first nodes is no more than one over more nodes
sum-longer : (f : ℕ → ℕ) (a k m : ℕ) → k ≤ m → sum_by f (range_with_len a k) ≤ sum_by f (range_with_len a m)
sum-longer f a zero m h = omega arith
sum-longer f a (suc k) zero h = absurd (omega arith)
sum-longer f a (suc k) (suc m) h =
    rw (sum_by-cons f a (range_with_len (a + 1) k), sum_by-cons f a (range_with_len (a + 1) m))
    (let r = sum-longer f (a + 1) k m (omega arith) in omega arith)

-- a node that has votes is one of the ballot's
node-with-votes : (b : Ballot) (n : ℕ) → 1 ≤ n → 0 < votes_at b n → HasNode b n
node-with-votes b n h v =
    elim (cases_lt (n - 1) (length b.votes)) [
      | inl within ↦ (h, omega arith)
      | inr past ↦ absurd (omega (arith, get_or_past b.votes (n - 1) 0 past))
    ]

share-both : (first second : Ballot) (left right : ℕ → Bool) → larger_votes first second < votes_of first left + votes_of second right →
    (n : ℕ) × IsSharedUnderBoth first second left right n
share-both first second left right h =
    let f : ℕ → ℕ = votes_at first in
    let g : ℕ → ℕ = votes_at second in
    let xs : List ℕ = nodes_of_both first second in
    let l = sum-longer (λ n. if left n then f n else 0) 1 (length first.votes) (max (length first.votes) (length second.votes)) (omega arith) in
    let r = sum-longer (λ n. if right n then g n else 0) 1 (length second.votes) (max (length first.votes) (length second.votes)) (omega arith) in
    let p = part-place (λ n. min (f n) (g n)) (both left right) xs (omega (arith, l, r, part-both f g left right xs)) in
    let range = among-range 1 (max (length first.votes) (length second.votes)) p.0 p.1.among in
    let t = and_parts (left p.0) (right p.0) p.1.chosen_is in
    let some = p.1.some in
    let in_first : 0 < votes_at first p.0 = omega (arith, some) in
    let in_second : 0 < votes_at second p.0 = omega (arith, some) in (
      p.0,
      record {
        under_first = record { node = node-with-votes first p.0 range.0 in_first; in_left = t.0; in_right = t.1; has_votes = in_first };
        under_second = record { node = node-with-votes second p.0 range.0 in_second; in_left = t.0; in_right = t.1; has_votes = in_second };
      },
    )

pub enough-share-both : (first second : Ballot) (mode : Mode) (left right : ℕ → Bool) → AreCrossing first second →
    IsEnough first Write left → IsEnough second mode right → (n : ℕ) × IsSharedUnderBoth first second left right n
enough-share-both first second Read left right x l r = share-both first second left right (omega (arith, x.writes_meet_reads))
enough-share-both first second Write left right x l r = share-both first second left right (omega (arith, x.writes_meet))

-- the larger votes are the same in either order, and of a ballot with itself all that it has
larger_votes-swap : (first second : Ballot) → larger_votes first second ≡ larger_votes second first
larger_votes-swap first second =
    λ i. sum_by (λ n. max_comm (votes_at first n) (votes_at second n) i) (range_with_len 1 (max_comm (length first.votes) (length second.votes) i))

max-itself : (n : ℕ) → max n n ≡ n
max-itself n = omega arith

larger_votes-itself : (b : Ballot) → larger_votes b b ≡ total b
larger_votes-itself b = (λ i. sum_by (λ n. max-itself (votes_at b n) i) (range_with_len 1 (max-itself (length b.votes) i))) ∙ votes-all b

pub crosses-itself : (b : Ballot) → Crosses b → AreCrossing b b
crosses-itself b x =
    let e = larger_votes-itself b in
    record {
      reads_meet_writes = omega (arith, e, x.reads_meet_writes);
      writes_meet_reads = omega (arith, e, x.reads_meet_writes);
      writes_meet = omega (arith, e, x.writes_meet);
    }

crossing-swap : (first second : Ballot) → AreCrossing first second → AreCrossing second first
crossing-swap first second x =
    let e = larger_votes-swap first second in
    record {
      reads_meet_writes = omega (arith, e, x.writes_meet_reads);
      writes_meet_reads = omega (arith, e, x.reads_meet_writes);
      writes_meet = omega (arith, e, x.writes_meet);
    }

pub any-two-cross : (ballots : List Ballot) (first second : ℕ) → AllCross ballots → HasPlace ballots first → HasPlace ballots second →
    AreCrossing (ballot_at ballots first) (ballot_at ballots second)
any-two-cross ballots first second x h k =
    elim (cases_order first second) [
      | inl same ↦ rw (← same) (crosses-itself (ballot_at ballots first) (x.each (first - 1) no_ballot (omega arith)))
      | inr (inl below) ↦ x.each_two (first - 1) (second - 1) no_ballot (omega arith) (omega arith)
      | inr (inr above) ↦ crossing-swap (ballot_at ballots second) (ballot_at ballots first) (x.each_two (second - 1) (first - 1) no_ballot (omega arith) (omega arith))
    ]

pub enough-share : (b : Ballot) (mode : Mode) (left right : ℕ → Bool) → Crosses b → IsEnough b Write left → IsEnough b mode right → (n : ℕ) × IsShared b left right n
enough-share b mode left right x l r =
    let s = enough-share-both b b mode left right (crosses-itself b x) l r in
    (s.0, s.1.under_first)
