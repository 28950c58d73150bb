use Rattle.std.proofs.Common.{drop}
use Rattle.node_loop.specs.Replies.{sendings}
use Rattle.node_loop.specs.Unsent.{HasGiven}
use Rattle.node_loop.proofs.replies.send_all.Given as goal

-- of all that is to be sent a beginning was, and the rest is left
abbrev pub invariant-loop-reply : goal.invariant-loop-reply
invariant-loop-reply g l =
    HasGiven (sendings l.fn.first l.replies) (sendings l.number (drop l.reply-index l.replies)) (g.L.Link.given l.fn.link) (g.L.Link.given l.link)
