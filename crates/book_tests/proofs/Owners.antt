-- The berths of a book stay its own.
use Rattle.std.proofs.Common.{◌≡◌, ◌∙◌, sym, List, [], ◌∷◌, ◌++◌, ℕ}
use Rattle.std.proofs.Math.ListN.{set}
use Rattle.std.specs.List.{All}
use Rattle.std.proofs.lemmas.List.Elements.{All-weaker, All-push, All-set}
use Rattle.history_book.specs.Books.{BookValue, BerthValue}
use Rattle.book_tests.specs.Ties.{IsOf}

pub still : (b b' : BookValue) → b'.number ≡ b.number → b'.table ≡ b.table → (ks : List BerthValue) → All (IsOf b) ks → All (IsOf b') ks
still b b' n t ks own = All-weaker (IsOf b) (IsOf b') (λ k is. record { number = is.number ∙ sym n; table = is.table ∙ sym t }) ks own

pub with_one_more : (b b' : BookValue) → b'.number ≡ b.number → b'.table ≡ b.table → (ks : List BerthValue) (k : BerthValue) → All (IsOf b) ks → k.number ≡ b'.number → k.table ≡ b'.table → All (IsOf b') (ks ++ k ∷ [])
with_one_more b b' n t ks k own m u = All-push (IsOf b') ks k (still b b' n t ks own) (record { number = m; table = u })

pub with_one_changed : (b b' : BookValue) → b'.number ≡ b.number → b'.table ≡ b.table → (ks : List BerthValue) (i : ℕ) (k : BerthValue) → All (IsOf b) ks → k.number ≡ b'.number → k.table ≡ b'.table → All (IsOf b') (set ks i k)
with_one_changed b b' n t ks i k own m u = All-set (IsOf b') ks i k (record { number = m; table = u }) (still b b' n t ks own)
