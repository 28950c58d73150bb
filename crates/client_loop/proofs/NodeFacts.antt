-- Sets of nodes that a client goes through, one node after the other.
use Rattle.std.proofs.Common.{◌≡◌, ℕ, zero, suc, ◌+◌, ◌<◌, ◌≤◌, ◌==◌, Bool, true, false, ◌||◌, ◌&&◌, List, length, nat_lt, nat_le, refl, ap, sym, subst, arith, if◌then◌else◌, ◌∙◌}
use Rattle.std.proofs.lemmas.Bool.Decides.{nat_tests}
use Rattle.std.proofs.lemmas.List.Sums.{sum_by-cons}
use Rattle.std.specs.List.{range_with_len, sum_by}
use Rattle.lock_messages.specs.declared.tickets.Mode.{Mode}
use Rattle.lock_model.specs.Ballots.{Ballot, HasNode, IsEnough, needed, votes_at, votes_of}
use Rattle.vote_weights.specs.Sets.{has_node, with_node}
use Rattle.vote_weights.specs.SetLaws.{has_node-with_node}
use Rattle.client_core.specs.declared.phases.State.{State}
use Rattle.client_core.specs.declared.phases.State.TheVariants.{Idle, Chosen, Asking, Inside}
use Rattle.client_core.specs.Clients.{Client}
use Rattle.client_core.specs.Calls.{skipping, skips_in}
use Rattle.client_loop.specs.declared.progress.Progress.{Progress}
use Rattle.client_loop.specs.Standing.{IsAlike}
use Rattle.client_loop.specs.Nodes.{SkipsIn, Skips}

-- votes hang on the ballot's nodes alone
sum_alike : (votes : ℕ → ℕ) (p q : ℕ → Bool) (from count : ℕ) → ((n : ℕ) → from ≤ n → n < from + count → p n ≡ q n) →
    sum_by (λ n. if p n then votes n else 0) (range_with_len from count) ≡ sum_by (λ n. if q n then votes n else 0) (range_with_len from count)
sum_alike votes p q from zero h = refl
sum_alike votes p q from (suc count) h =
    let here = h from (omega arith) (omega arith) in
    let there = sum_alike votes p q (from + 1) count (λ n low high. h n (omega arith) (omega arith)) in
    let left = sum_by-cons (λ n. if p n then votes n else 0) from (range_with_len (from + 1) count) in
    let right = sum_by-cons (λ n. if q n then votes n else 0) from (range_with_len (from + 1) count) in
    let first : (if p from then votes from else 0) ≡ (if q from then votes from else 0) = rw here refl in
    left ∙ (rw (first, there) (sym right))

pub votes_alike : (b : Ballot) (p q : ℕ → Bool) → ((n : ℕ) → HasNode b n → p n ≡ q n) → votes_of b p ≡ votes_of b q
votes_alike b p q h = sum_alike (votes_at b) p q 1 (length b.votes) (λ n low high. h n (low, omega arith))

-- skipping none
skips_none_in : (these : ℕ → Bool) (s : State) → ((n : ℕ) → these n ≡ false) → SkipsIn these s s
skips_none_in these Idle none = refl
skips_none_in these (Chosen t place) none = refl
skips_none_in these (Asking p) none = record { more = p.skipped; state = refl; members = λ n. rw (none n) refl }
skips_none_in these (Inside p) none = refl

pub skips_none : (these : ℕ → Bool) (c : Client) → ((n : ℕ) → these n ≡ false) → Skips these c c
skips_none these c none = record { client = refl; ballots = refl; attempt = refl; state = skips_none_in these c.state none }

-- skipping one more
or_assoc : (a b c : Bool) → a || (b || c) ≡ (a || b) || c
or_assoc true b c = refl
or_assoc false b c = refl

skips_more_in : (these those : ℕ → Bool) (k : ℕ) (s after : State) → SkipsIn these s after → ((n : ℕ) → those n ≡ ((k == n) || these n)) → SkipsIn those s (skips_in k after)
skips_more_in these those k Idle after h also = ap (skips_in k) h
skips_more_in these those k (Chosen t place) after h also = ap (skips_in k) h
skips_more_in these those k (Asking p) after h also = record {
  more = with_node h.more k;
  state = ap (skips_in k) h.state;
  members = λ n. rw (has_node-with_node h.more k n, h.members n, also n) (or_assoc (k == n) (these n) (has_node p.skipped n));
}
skips_more_in these those k (Inside p) after h also = ap (skips_in k) h

pub skips_more : (these those : ℕ → Bool) (k : ℕ) (before after : Client) → Skips these before after → ((n : ℕ) → those n ≡ ((k == n) || these n)) → Skips those before (skipping after k)
skips_more these those k before after h also = record {
  client = h.client;
  ballots = h.ballots;
  attempt = h.attempt;
  state = skips_more_in these those k before.state after.state h.state also;
}

-- skipping as many
skips_alike_in : (these those : ℕ → Bool) (s after : State) → SkipsIn these s after → ((n : ℕ) → those n ≡ these n) → SkipsIn those s after
skips_alike_in these those Idle after h same = h
skips_alike_in these those (Chosen t place) after h same = h
skips_alike_in these those (Asking p) after h same = record { more = h.more; state = h.state; members = λ n. rw (same n) (h.members n) }
skips_alike_in these those (Inside p) after h same = h

pub skips_alike : (these those : ℕ → Bool) (before after : Client) → Skips these before after → ((n : ℕ) → those n ≡ these n) → Skips those before after
skips_alike these those before after h same = record {
  client = h.client;
  ballots = h.ballots;
  attempt = h.attempt;
  state = skips_alike_in these those before.state after.state h.state same;
}

-- the nodes below a number, and one more
abbrev pub is_below : ℕ → ℕ → Bool
is_below number n = nat_le 1 n && nat_lt n number

below_one : (n : ℕ) → is_below 1 n ≡ false
below_one n = grind (arith, nat_tests)

below_more : (number n : ℕ) → 1 ≤ number → is_below (number + 1) n ≡ ((number == n) || is_below number n)
below_more number n low = grind (arith, nat_tests)

pub gone_more : (number n : ℕ) (gone before : List ℕ) → 1 ≤ number → has_node gone n ≡ (is_below number n || has_node before n) →
    has_node (with_node gone number) n ≡ (is_below (number + 1) n || has_node before n)
gone_more number n gone before low h =
    has_node-with_node gone number n ∙ ap (λ (b : Bool). (number == n) || b) h ∙ or_assoc (number == n) (is_below number n) (has_node before n)
    ∙ ap (λ (b : Bool). b || has_node before n) (sym (below_more number n low))

pub gone_one : (gone : List ℕ) (n : ℕ) → has_node gone n ≡ (is_below 1 n || has_node gone n)
gone_one gone n = rw (below_one n) refl

pub skips_below_one : (c : Client) → Skips (is_below 1) c c
skips_below_one c = skips_none (is_below 1) c below_one

pub skips_below_more : (number : ℕ) (before after : Client) → 1 ≤ number → Skips (is_below number) before after → Skips (is_below (number + 1)) before (skipping after number)
skips_below_more number before after low h = skips_more (is_below number) (is_below (number + 1)) number before after h (λ n. below_more number n low)

-- the nodes below a number that are gone
abbrev pub is_gone_below : List ℕ → ℕ → ℕ → Bool
is_gone_below gone number n = is_below number n && has_node gone n

pub skips_gone_one : (gone : List ℕ) (c : Client) → Skips (is_gone_below gone 1) c c
skips_gone_one gone c = skips_none (is_gone_below gone 1) c (λ n. rw (below_one n) refl)

gone_too : (number n : ℕ) (gone : List ℕ) (e s g : Bool) → (number == n) ≡ e → (number ≡ n → has_node gone n ≡ true) → (((number == n) || s) && has_node gone n) ≡ ((number == n) || (s && has_node gone n))
gone_too number n gone true s g is h =
    let same : number ≡ n = grind (arith, nat_tests) in
    rw (is, h same) refl
gone_too number n gone false s g is h = rw is refl

gone_not : (number n : ℕ) (gone : List ℕ) (e s : Bool) → (number == n) ≡ e → (number ≡ n → has_node gone n ≡ false) → (((number == n) || s) && has_node gone n) ≡ (s && has_node gone n)
gone_not number n gone true true is h =
    let same : number ≡ n = grind (arith, nat_tests) in
    rw (is, h same) refl
gone_not number n gone true false is h =
    let same : number ≡ n = grind (arith, nat_tests) in
    rw (is, h same) refl
gone_not number n gone false s is h = rw is refl

skips_if : (gone : List ℕ) (number : ℕ) (before after : Client) (is_gone : Bool) → has_node gone number ≡ is_gone → 1 ≤ number → Skips (is_gone_below gone number) before after →
    Skips (is_gone_below gone (number + 1)) before (if is_gone then skipping after number else after)
skips_if gone number before after true is low h =
    skips_more (is_gone_below gone number) (is_gone_below gone (number + 1)) number before after h
    (λ n. ap (λ (b : Bool). b && has_node gone n) (below_more number n low) ∙ gone_too number n gone (number == n) (is_below number n) true refl (λ same. rw same at is))
skips_if gone number before after false is low h =
    skips_alike (is_gone_below gone number) (is_gone_below gone (number + 1)) before after h
    (λ n. ap (λ (b : Bool). b && has_node gone n) (below_more number n low) ∙ gone_not number n gone (number == n) (is_below number n) refl (λ same. rw same at is))

pub skips_gone_more : (gone : List ℕ) (number : ℕ) (before after : Client) → 1 ≤ number → Skips (is_gone_below gone number) before after →
    Skips (is_gone_below gone (number + 1)) before (if has_node gone number then skipping after number else after)
skips_gone_more gone number before after low h = skips_if gone number before after (has_node gone number) refl low h

pub enough_alike : (b : Ballot) (mode : Mode) (p q : ℕ → Bool) → ((n : ℕ) → HasNode b n → p n ≡ q n) → IsEnough b mode p → IsEnough b mode q
enough_alike b mode p q h enough = subst (λ (v : ℕ). needed b mode ≤ v) (votes_alike b p q h) enough

-- a core that stays
pub alike_none : (c : Client) → IsAlike c c
alike_none c = record { client = refl; ballots = refl; part = refl; phase = refl; ticket = refl }

-- one core after the other
pub alike_on : (a b c : Client) → IsAlike a b → IsAlike b c → IsAlike a c
alike_on a b c first second = record {
  client = second.client ∙ first.client;
  ballots = second.ballots ∙ first.ballots;
  part = second.part ∙ first.part;
  phase = second.phase ∙ first.phase;
  ticket = second.ticket ∙ first.ticket;
}

-- what is remembered, from node to node
pub skip_others : (first before after : Progress) (core : Client) → before ≡ record first { core = before.core } → after ≡ record before { core = core } → after ≡ record first { core = after.core }
skip_others first before after core b a = rw (a, b) refl

pub skip_step : (first before after : Progress) (number node : ℕ) → node ≡ number → 1 ≤ number → before ≡ record first { core = before.core } →
    after ≡ record before { core = (if has_node before.gone node then skipping before.core node else before.core) } →
    Skips (is_gone_below first.gone number) first.core before.core → Skips (is_gone_below first.gone (number + 1)) first.core after.core
skip_step first before after number node same low b a h =
    let gone : before.gone ≡ first.gone = ap (λ (p : Progress). p.gone) b in
    let core : after.core ≡ (if has_node first.gone number then skipping before.core number else before.core) =
    ap (λ (p : Progress). p.core) a ∙ (rw (gone, same) refl) in
    rw core (skips_gone_more first.gone number first.core before.core low h)

pub lose_others : (first before after : Progress) (core : Client) (gone : List ℕ) → before ≡ record first { core = before.core; gone = before.gone } →
    after ≡ record before { core = core; gone = gone } → after ≡ record first { core = after.core; gone = after.gone }
lose_others first before after core gone b a = rw (a, b) refl

pub lose_gone : (before after : Progress) (old : List ℕ) (number node n : ℕ) → node ≡ number → 1 ≤ number →
    after ≡ record before { core = skipping before.core node; gone = with_node before.gone node } →
    has_node before.gone n ≡ (is_below number n || has_node old n) → has_node after.gone n ≡ (is_below (number + 1) n || has_node old n)
lose_gone before after old number node n same low a h =
    let gone : after.gone ≡ with_node before.gone number = ap (λ (p : Progress). p.gone) a ∙ ap (with_node before.gone) same in
    rw gone (gone_more number n before.gone old low h)

pub lose_step : (first : Client) (before after : Progress) (number node : ℕ) → node ≡ number → 1 ≤ number →
    after ≡ record before { core = skipping before.core node; gone = with_node before.gone node } →
    Skips (is_below number) first before.core → Skips (is_below (number + 1)) first after.core
lose_step first before after number node same low a h =
    let core : after.core ≡ skipping before.core number = ap (λ (p : Progress). p.core) a ∙ ap (skipping before.core) same in
    rw core (skips_below_more number first before.core low h)
