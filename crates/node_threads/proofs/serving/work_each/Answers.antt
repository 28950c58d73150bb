use Rattle.std.proofs.Common.{◌∙◌, sym, ap, get_or}
use Rattle.std.proofs.lemmas.List.{get_or_default}
use Rattle.node_threads.proofs.Promises.{same_by_place}
use Rattle.node_threads.proofs.serving.work_each.Goals as goal

-- each place has the client that it had
pub returns-then-count-gt0 : goal.returns-then-count-gt0
returns-then-count-gt0 g c =
    let before = c.args.sessions.now in
    let long = c.for_each_mut.auto.s in
    same_by_place (λ s. s.client) (λ s. s.client) c.for_each_mut.new.s before long
    (λ i d within. let at = (c.for_each_mut.ensures i d within).1 in (get_or before i d, get_or_default before i d _ within, ap (λ s. s.client) (sym at.left) ∙ at.call ∙ ap (λ s. s.client) at.argument_is))
