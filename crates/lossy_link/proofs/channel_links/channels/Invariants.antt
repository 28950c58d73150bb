use Rattle.std.proofs.Common.{◌≡◌, vec_len}
use Rattle.lossy_link.proofs.channel_links.channels.Given as goal

abbrev pub invariant-loop-i : goal.invariant-loop-i
invariant-loop-i g l = (vec_len l.senders ≡ l._i) × (vec_len l.inboxes ≡ l._i)
