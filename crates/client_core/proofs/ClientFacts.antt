-- What entering, softening and counting keep.
use Rattle.std.proofs.Common.{◌≡◌, ℕ, ◌≤◌, ◌==◌, Bool, true, false, true≢false, ◌||◌, List, refl, sym, ◌∙◌, arith, if◌then◌else◌}
use Rattle.std.proofs.lemmas.Bool.Decides.{nat_tests}
use Rattle.std.proofs.lemmas.List.Sums.{sum_by-le-sum_by}
use Rattle.lock_messages.specs.declared.messages.Message.{Message}
use Rattle.lock_model.specs.declared.hearing.Heard.TheVariants as heard
use Rattle.lock_model.specs.Ballots.{Ballot, HasAnyNode, ballot_at, nodes, votes_at, votes_of}
use Rattle.vote_weights.specs.Sets.{has_node, with_node}
use Rattle.client_core.specs.declared.phases.State.{State}
use Rattle.client_core.specs.declared.phases.State.TheVariants.{Idle, Chosen, Asking, Inside}
use Rattle.client_core.specs.Clients.{IsLawfulState, AreNodes, granted_in}
use Rattle.client_core.specs.Calls.{MayEnterIn, enters_in, MaySoftenIn, softens_in, counts_in, AddsNode, AddsVote, HearsIn}

-- a client that enters with enough votes is lawfully inside
pub enters-lawful : (client : ℕ) (b : List Ballot) (attempt : ℕ) (s : State) → IsLawfulState client b attempt s → MayEnterIn b s →
    IsLawfulState client b attempt (enters_in s)
enters-lawful client b attempt Idle h may = absurd may
enters-lawful client b attempt (Chosen t place) h may = absurd may
enters-lawful client b attempt (Asking p) h may = record { own = h.own; placed = h.placed; nodes = h.nodes; enough = may; softened = λ e. absurd (true≢false (sym e ∙ h.unsoftened)) }
enters-lawful client b attempt (Inside p) h may = absurd may

-- a node more
add-nodes : (b : List Ballot) (before after : List ℕ) (n : ℕ) → HasAnyNode b n → AreNodes b before → AddsNode before n after → AreNodes b after
add-nodes b before after n at h adds m e = go (n == m) refl
  where
    go : (same : Bool) → (n == m) ≡ same → HasAnyNode b m
    go true same =
        let one : n ≡ m = grind (arith, nat_tests) in
        rw (← one) at
    go false same =
        let a = adds m in
        let r = rw same at a in
        h m cc

if-le : (a c : Bool) (v : ℕ) → (if c then v else 0) ≤ (if a || c then v else 0)
if-le true true v = omega arith
if-le true false v = omega arith
if-le false true v = omega arith
if-le false false v = omega arith

add-enough : (b : Ballot) (before after : List ℕ) (n needed : ℕ) → AddsNode before n after → needed ≤ votes_of b (has_node before) → needed ≤ votes_of b (has_node after)
add-enough b before after n needed adds h =
    let more : votes_of b (has_node before) ≤ votes_of b (has_node after) =
    sum_by-le-sum_by (λ m. if has_node before m then votes_at b m else 0) (λ m. if has_node after m then votes_at b m else 0) (nodes b)
    (λ m. rw (adds m) (if-le (n == m) (has_node before m) (votes_at b m))) in
    omega arith

-- a counted vote leaves a lawful state
pub counts-lawful : (client : ℕ) (b : List Ballot) (attempt : ℕ) (s : State) (n : ℕ) → HasAnyNode b n → AddsVote s n →
    IsLawfulState client b attempt s → IsLawfulState client b attempt (counts_in n s)
counts-lawful client b attempt Idle n at adds h = h
counts-lawful client b attempt (Chosen t place) n at adds h = h
counts-lawful client b attempt (Asking p) n at adds h = record {
  own = h.own;
  placed = h.placed;
  nodes = add-nodes b p.granted (with_node p.granted n) n at h.nodes adds;
  unsoftened = h.unsoftened;
}
counts-lawful client b attempt (Inside p) n at adds h = record {
  own = h.own;
  placed = h.placed;
  nodes = add-nodes b p.granted (with_node p.granted n) n at h.nodes adds;
  enough = add-enough (ballot_at b p.place) p.granted (with_node p.granted n) n _ adds h.enough;
  softened = h.softened;
}

-- a client that softens is lawfully inside
pub softens-lawful : (client : ℕ) (b : List Ballot) (attempt : ℕ) (s : State) → IsLawfulState client b attempt s → MaySoftenIn s →
    IsLawfulState client b attempt (softens_in s)
softens-lawful client b attempt Idle h may = absurd may
softens-lawful client b attempt (Chosen t place) h may = absurd may
softens-lawful client b attempt (Asking p) h may = absurd may
softens-lawful client b attempt (Inside p) h may = record { own = h.own; placed = h.placed; nodes = h.nodes; enough = h.enough; softened = λ e. may.mode }

-- where a vote is counted, the granted set has the node too
pub granted-counts : (b : List Ballot) (client attempt : ℕ) (s : State) (m : Message) (n k : ℕ) → HearsIn b client attempt s m heard.Counted → AddsVote s n →
    has_node (granted_in (counts_in n s)) k ≡ ((n == k) || has_node (granted_in s) k)
granted-counts b client attempt Idle m n k h adds = absurd h
granted-counts b client attempt (Chosen t place) m n k h adds = cc
granted-counts b client attempt (Asking p) m n k h adds = adds k
granted-counts b client attempt (Inside p) m n k h adds = adds k
