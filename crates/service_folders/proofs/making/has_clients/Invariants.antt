use Rattle.std.proofs.Common.{◌≡◌, true, ℕ, ◌<◌, ◌≤◌}
use Rattle.lock_messages.specs.declared.ids.Actor.TheVariants as actor
use Rattle.service_folders.specs.Folders.{service_has}
use Rattle.service_folders.specs.Parts.{part_has}
use Rattle.service_folders.proofs.making.has_clients.Given as goal

-- the service has those of the part with a lower number
abbrev pub invariant-loop-number : goal.invariant-loop-number
invariant-loop-number l =
    (n : ℕ) → 1 ≤ n → n < l.number → part_has l.part (actor.Client n) ≡ true → service_has l.settings (actor.Client n) ≡ true
