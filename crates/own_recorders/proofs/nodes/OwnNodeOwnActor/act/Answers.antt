use Rattle.own_recorders.proofs.LineFacts.{if_ok}
use Rattle.own_recorders.proofs.nodes.OwnNodeOwnActor.act.Goals as goal

pub returns-in-Say-clause-turned : goal.returns-in-Say-clause-turned
returns-in-Say-clause-turned c = λ c'. if_ok c'.say.result (λ done turned. rw c'.in-Say.is (turned c'.args.self.now.list c'.in-Say.field-0)) c'.say.ensures.turned
