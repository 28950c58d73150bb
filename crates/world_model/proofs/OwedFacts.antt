-- What is owed, as a sum over the nodes: when it is no more than it was, and when it is less.
use Rattle.std.proofs.Common.{◌≡◌, ◌≢◌, ℕ, ◌+◌, ◌≤◌, nat_le, Bool, true, false, if◌then◌else◌, List, [], ◌∷◌, Option, None, Some, refl, sym, ◌∙◌, ap, subst, inl, inr, arith}
use Rattle.std.proofs.lemmas.Bool.{cases_eq, leb-true, le-leb}
use Rattle.lock_messages.specs.declared.messages.Message.{Message}
use Rattle.lock_model.specs.Ballots.{HasAnyNode}
use Rattle.lock_model.specs.Stations.{Station}
use Rattle.lock_model.specs.Decisions.{Among}
use Rattle.world_model.specs.declared.exact.ExactStation.{ExactStation}
use Rattle.world_model.specs.declared.exact.ExactNode.{ExactNode}
use Rattle.world_model.specs.declared.exact.ExactWorld.{ExactWorld}
use Rattle.world_model.specs.declared.ways.Want.{Want}
use Rattle.world_model.specs.Worlds.{NodePhase, ClientPhase, Setting}
use Rattle.world_model.specs.ExactWorlds.{numbered}
use Rattle.world_model.specs.Numbered.{numbered-one}
use Rattle.world_model.specs.Forgetting.{station_of, node_phase_of, forget, setting_of, IsSound}
use Rattle.world_model.specs.Advice.{blocks, node_numbers, client_numbers}
use Rattle.world_model.specs.ExactWays.{total_over, block_load, load_at, load}
use Rattle.world_model.proofs.Costs.{block_cost, ask_cost}
use Rattle.world_model.proofs.Nearer.{Grows, total-le, node-among, ask-le}
use Rattle.world_model.proofs.InTheWay.{total-drops}
use Rattle.world_model.proofs.Owed.{vote_owed, owed_at, owed}

-- the client's phase, in the world without its order
abbrev pub own_phase : Want → ExactWorld → ClientPhase
own_phase a w = ((forget w).clients a.client).phase

-- what is owed at one number, by the numbers of this setting
abbrev pub owes_in : Setting → (ℕ → Bool) → Want → ExactWorld → ℕ → ℕ
owes_in s chosen a w n = if chosen n then owed_at s a (own_phase a w) w.sent n (numbered w.nodes n) else 0

abbrev pub owed_in : Setting → (ℕ → Bool) → Want → ExactWorld → ℕ
owed_in s chosen a w = total_over (owes_in s chosen a w) (node_numbers s)

-- a vote that costs no more is owed no more
pub vote-owed-le : (now was : ℕ) → now ≤ was → (if nat_le 7 now then 2 else 0) ≤ (if nat_le 7 was then 2 else 0)
vote-owed-le now was le = go (nat_le 7 now) refl
  where
    most : (b : Bool) → (if b then 2 else 0) ≤ 2
    most true = omega arith
    most false = omega arith

    go : (b : Bool) → nat_le 7 now ≡ b → (if b then 2 else 0) ≤ (if nat_le 7 was then 2 else 0)
    go true is = subst (λ b. 2 ≤ (if b then 2 else 0)) (sym (le-leb 7 was (let h = leb-true 7 now is in omega (arith, h, le)))) (omega arith)
    go false is = omega arith

pub vote-owed-most : (a : Want) (k : ClientPhase) (sent : List Message) (n : ℕ) (phase : NodePhase) → vote_owed a k sent n phase ≤ 2
vote-owed-most a k sent n phase = go (nat_le 7 (ask_cost a k sent n phase))
  where
    go : (b : Bool) → (if b then 2 else 0) ≤ 2
    go true = omega arith
    go false = omega arith

-- it is owed whole, or not at all
pub vote-owed-whole : (a : Want) (k : ClientPhase) (sent : List Message) (n : ℕ) (phase : NodePhase) → 7 ≤ ask_cost a k sent n phase → vote_owed a k sent n phase ≡ 2
vote-owed-whole a k sent n phase le = ap (λ b. if b then 2 else 0) (le-leb 7 (ask_cost a k sent n phase) le)

pub vote-owed-none : (a : Want) (k : ClientPhase) (sent : List Message) (n : ℕ) (phase : NodePhase) → ask_cost a k sent n phase ≤ 2 → vote_owed a k sent n phase ≡ 0
vote-owed-none a k sent n phase le = go (nat_le 7 (ask_cost a k sent n phase)) refl
  where
    owed_by : Bool → ℕ
    owed_by b = if b then 2 else 0

    go : (b : Bool) → nat_le 7 (ask_cost a k sent n phase) ≡ b → owed_by b ≡ 0
    go true is = absurd (let h = leb-true 7 (ask_cost a k sent n phase) is in let z : ⊥ = omega (arith, h, le) in z)
    go false is = refl

-- the load of those that block is half their cost
total-double : (f g : ℕ → ℕ) (ns : List ℕ) → ((n : ℕ) → f n + f n ≡ g n) → total_over f ns + total_over f ns ≡ total_over g ns
total-double f g [] same = refl
total-double f g (n ∷ ns) same = omega (arith, same n, total-double f g ns same)

pub blocks-double : (s : Setting) (a : Want) (st : ExactStation) (u : Station) → station_of st ≡ u →
    total_over (block_load a st) (client_numbers s) + total_over (block_load a st) (client_numbers s) ≡ total_over (block_cost a u) (client_numbers s)
blocks-double s a st u same = total-double (block_load a st) (block_cost a (station_of st)) (client_numbers s) (λ d. one (blocks a (station_of st) d)) ∙ ap (λ x. total_over (block_cost a x) (client_numbers s)) same
  where
    one : (b : Bool) → (if b then 2 else 0) + (if b then 2 else 0) ≡ (if b then 4 else 0)
    one true = refl
    one false = refl

-- one of a sum is no more than the whole
pub total-least : (f : ℕ → ℕ) (ns : List ℕ) (k : ℕ) → Among k ns → f k ≤ total_over f ns
total-least f [] k m = absurd m
total-least f (n ∷ ns) k (inl e) = subst (λ j. f j ≤ f n + total_over f ns) (sym e) (omega arith)
total-least f (n ∷ ns) k (inr m) = omega (arith, total-least f ns k m)

pub owed-least : (chosen : ℕ → Bool) (a : Want) (x : ExactWorld) (n : ℕ) → HasAnyNode x.ballots n → chosen n ≡ true → owed_at (setting_of x) a (own_phase a x) x.sent n (numbered x.nodes n) ≤ owed chosen a x
owed-least chosen a x n known is =
    subst (λ b. (if b then owed_at (setting_of x) a (own_phase a x) x.sent n (numbered x.nodes n) else 0) ≤ owed chosen a x) is
    (total-least (owes_in (setting_of x) chosen a x) (node_numbers (setting_of x)) n (node-among (setting_of x) n known))

-- The nodes are as they were, nothing was said, and no vote costs more: no more is owed.
pub owed-still : (chosen : ℕ → Bool) (a : Want) (x t : ExactWorld) → IsSound x → setting_of t ≡ setting_of x → ((n : ℕ) → numbered t.nodes n ≡ numbered x.nodes n) → t.sent ≡ x.sent →
    ((n : ℕ) → HasAnyNode x.ballots n → chosen n ≡ true → (phase : NodePhase) → ask_cost a (own_phase a t) x.sent n phase ≤ ask_cost a (own_phase a x) x.sent n phase) → owed chosen a t ≤ owed chosen a x
owed-still chosen a x t ok setting nodes sent asks = subst (λ s. owed_in s chosen a t ≤ owed chosen a x) (sym setting) (total-le (owes_in (setting_of x) chosen a t) (owes_in (setting_of x) chosen a x) (node_numbers (setting_of x)) each)
  where
    s : Setting
    s = setting_of x

    at : (n : ℕ) (b : Bool) → chosen n ≡ b → (o : Option ExactNode) → numbered x.nodes n ≡ o → (if b then owed_at s a (own_phase a t) x.sent n o else 0) ≤ (if b then owed_at s a (own_phase a x) x.sent n o else 0)
    at n true is None there = omega arith
    at n true is (Some v) there =
        let r = numbered-one x.nodes n v there in
        let known : HasAnyNode x.ballots n = (r.0, omega (arith, r.1, ok.nodes)) in
        let vote = vote-owed-le (ask_cost a (own_phase a t) x.sent n (node_phase_of v.phase)) (ask_cost a (own_phase a x) x.sent n (node_phase_of v.phase)) (asks n known is (node_phase_of v.phase)) in
        omega (arith, vote)
    at n false is o there = omega arith

    each : (n : ℕ) → owes_in s chosen a t n ≤ owes_in s chosen a x n
    each n =
        subst (λ o. (if chosen n then owed_at s a (own_phase a t) t.sent n o else 0) ≤ owes_in s chosen a x n) (sym (nodes n))
        (subst (λ l. (if chosen n then owed_at s a (own_phase a t) l n (numbered x.nodes n) else 0) ≤ owes_in s chosen a x n) (sym sent) (at n (chosen n) refl (numbered x.nodes n) refl))

-- Only this node is another, more was said, and less by so much is owed at it: so it is in the whole.
pub owed-drops : (chosen : ℕ → Bool) (a : Want) (x t : ExactWorld) (n m : ℕ) → setting_of t ≡ setting_of x → HasAnyNode x.ballots n → chosen n ≡ true → ((k : ℕ) → k ≢ n → numbered t.nodes k ≡ numbered x.nodes k) →
    own_phase a t ≡ own_phase a x → Grows (forget x) (forget t) →
    owed_at (setting_of x) a (own_phase a x) t.sent n (numbered t.nodes n) + m ≤ owed_at (setting_of x) a (own_phase a x) x.sent n (numbered x.nodes n) → owed chosen a t + m ≤ owed chosen a x
owed-drops chosen a x t n m setting known is others phase grows less =
    subst (λ s. owed_in s chosen a t + m ≤ owed chosen a x) (sym setting) (total-drops (owes_in s chosen a t) (owes_in s chosen a x) (node_numbers s) each m n (node-among s n known) here)
  where
    s : Setting
    s = setting_of x

    k : ClientPhase
    k = own_phase a x

    here : owes_in s chosen a t n + m ≤ owes_in s chosen a x n
    here =
        subst (λ b. (if b then owed_at s a (own_phase a t) t.sent n (numbered t.nodes n) else 0) + m ≤ (if b then owed_at s a k x.sent n (numbered x.nodes n) else 0)) (sym is)
        (subst (λ c. owed_at s a c t.sent n (numbered t.nodes n) + m ≤ owed_at s a k x.sent n (numbered x.nodes n)) (sym phase) less)

    at : (j : ℕ) (b : Bool) (o : Option ExactNode) → (if b then owed_at s a k t.sent j o else 0) ≤ (if b then owed_at s a k x.sent j o else 0)
    at j true None = omega arith
    at j true (Some v) =
        let vote = vote-owed-le (ask_cost a k t.sent j (node_phase_of v.phase)) (ask_cost a k x.sent j (node_phase_of v.phase)) (ask-le a k j (forget x) (forget t) (node_phase_of v.phase) grows) in
        omega (arith, vote)
    at j false o = omega arith

    there : (j : ℕ) → j ≢ n → owes_in s chosen a t j ≤ owes_in s chosen a x j
    there j apart =
        subst (λ o. (if chosen j then owed_at s a (own_phase a t) t.sent j o else 0) ≤ owes_in s chosen a x j) (sym (others j apart))
        (subst (λ c. (if chosen j then owed_at s a c t.sent j (numbered x.nodes j) else 0) ≤ owes_in s chosen a x j) (sym phase) (at j (chosen j) (numbered x.nodes j)))

    each : (j : ℕ) → owes_in s chosen a t j ≤ owes_in s chosen a x j
    each j = elim (cases_eq j n) [
      | inl e ↦ subst (λ i. owes_in s chosen a t i ≤ owes_in s chosen a x i) (sym e) (omega (arith, here))
      | inr apart ↦ there j apart
    ]

-- At the start no more is owed than the load.
pub owed-load : (chosen : ℕ → Bool) (a : Want) (x : ExactWorld) → owed chosen a x ≤ load chosen a x
owed-load chosen a x = total-le (owes_in s chosen a x) (λ n. if chosen n then load_at s a (numbered x.nodes n) else 0) (node_numbers s) (λ n. each n (chosen n) (numbered x.nodes n))
  where
    s : Setting
    s = setting_of x

    each : (n : ℕ) (b : Bool) (o : Option ExactNode) → (if b then owed_at s a (own_phase a x) x.sent n o else 0) ≤ (if b then load_at s a o else 0)
    each n true None = omega arith
    each n true (Some v) = omega (arith, vote-owed-most a (own_phase a x) x.sent n (node_phase_of v.phase))
    each n false o = omega arith
