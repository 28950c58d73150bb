use Rattle.std.proofs.Common.{◌≡◌, ◌<◌, ◌≤◌, ◌-◌, length, Some, ◌∙◌, subst, arith}
use Rattle.lock_messages.specs.declared.ids.TheConstants.{MAX_CLIENTS}
use Rattle.world_model.specs.ExactWorlds.{numbered}
use Rattle.world_model.specs.Numbered.{numbered-at}
use Rattle.world_machine.proofs.keeping.see_last.Goals as goal

pub returns-then-count-gt0 : goal.returns-then-count-gt0
returns-then-count-gt0 c b each =
    let cs = c.args.clients.now in
    let count = length cs in
    let last = c.index-clients-count.result in
    let within : count - 1 < count = omega (arith, c.if-count-gt0.true) in
    let at : numbered cs count ≡ Some last = numbered-at cs count last (omega arith) within c.index-clients-count.is in
    let named : last.number ≡ count = (each count last at).0 in
    subst (λ n. n ≤ MAX_CLIENTS) (c.get-number.ensures.number ∙ c.number.ensures ∙ named) c.get-number.ensures.in_range.1
