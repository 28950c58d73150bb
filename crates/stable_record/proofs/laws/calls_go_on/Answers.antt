use Rattle.std.proofs.Common.{◌≡◌, ℕ, ◌+◌, ◌*◌, ◌/◌, ◌%◌, Bool, true, false, cond, nat_lt, refl, sym, ap, ◌∙◌, arith}
use Rattle.std.proofs.Math.Nat.{mul-add-mod_self_left, div-add-mod}
use Rattle.stable_record.specs.Faulty.{most_calls}
use Rattle.stable_record.proofs.laws.calls_go_on.Goals as goal

rest-more : (n k : ℕ) → (n % k + 1) % k ≡ (n + 1) % k
rest-more n k =
    let whole = div-add-mod n k in
    let e : k * (n / k) + (n % k + 1) ≡ n + 1 = omega (arith, whole) in
    sym (mul-add-mod_self_left k (n / k) (n % k + 1)) ∙ ap (λ m. m % k) e

go : (b : Bool) (n k : ℕ) → cond b (n + 1) (n % k + 1) % k ≡ (n + 1) % k
go true n k = refl
go false n k = rest-more n k

pub returns : goal.returns
returns c = λ f. go (nat_lt f.calls most_calls) f.calls f.every
