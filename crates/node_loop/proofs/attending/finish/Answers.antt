use Rattle.std.proofs.Common.{rules}
use Rattle.std.proofs.lemmas.Result.{on_ok_weaker}
use Rattle.node_loop.proofs.SentFacts.{nudge_follows}
use Rattle.node_loop.proofs.UnsentFacts.{nothing_given, memory_whole}
use Rattle.node_loop.proofs.attending.finish.Goals as goal

pub returns-in-Failed : goal.returns-in-Failed
returns-in-Failed g c =
    let node = c.keep.new.core.node in
    let so = rw c.in-Failed.is at c.in_ok-keep.ensures.sent in
    record {
      turns = record {
        goes = c.keep.ensures.goes;
        taken = on_ok_weaker c.tell_lost.result (λ told. record { idle = search rules; sent = nudge_follows _ _ node c.node.result _ _ so c.node.ensures told }) c.tell_lost.ensures.told;
        ended = search (rules, nothing_given, memory_whole);
      };
    }
