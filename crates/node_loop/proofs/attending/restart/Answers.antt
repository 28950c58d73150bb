use Rattle.std.proofs.Common.{sym, ap, ◌∙◌, rules}
use Rattle.voter_core.specs.Voters.{Voter}
use Rattle.node_loop.proofs.KeepFacts.{restarts, finds_record}
use Rattle.node_loop.proofs.SentFacts.{rising_tells}
use Rattle.node_loop.proofs.UnsentFacts.{failing_leaves}
use Rattle.node_loop.proofs.attending.restart.Goals as goal

pub returns-in-Ok-clause-idle : goal.returns-in-Ok-clause-idle
returns-in-Ok-clause-idle g c =
    let risen = c.in_ok-found.ensures.risen in
    let core = c.in-Ok.ensures.risen in
    restarts _ _ c.args.core.now _ c.node.result c.requires.0 c.args.tried.now _ _ _ risen.0 c.in_ok-found.found.items _ core.0 c.one_spelling.ensures.nodes c.node.ensures c.requires.1 risen.1 c.in_ok-found.ensures.found c.deref.ensures.value core.1 core.2

pub returns-in-Ok-clause-sent : goal.returns-in-Ok-clause-sent
returns-in-Ok-clause-sent g c =
    let risen = c.in_ok-found.ensures.risen in
    let core = c.in-Ok.ensures.risen in
    rising_tells _ _ c.node.result c.restart.new.self.node risen.0 (c.node.ensures ∙ sym (ap (λ (v : Voter). v.node) core.2)) risen.1

pub returns-in_err-found-clause-unsent : goal.returns-in_err-found-clause-unsent
returns-in_err-found-clause-unsent g c = failing_leaves _ _ c.node.result c.in_err-found.ensures.ended.log

pub unreachable-requires : goal.unreachable-requires
unreachable-requires g c =
    let risen = c.in_ok-found.ensures.risen in
    let is = finds_record _ _ c.args.core.now c.node.result c.requires.0 c.args.tried.now _ _ _ risen.0 c.in_ok-found.found.items _ c.node.ensures c.requires.1 risen.1 c.in_ok-found.ensures.found c.deref.ensures.value in
    let only = rw c.in-Err-Unreadable.is at c.restart.ensures.only is.0 is.1 in
    search rules
