use Rattle.std.proofs.Common.{IsOkUnless}
use Rattle.lossy_link.specs.declared.faults.LinkFault.TheVariants.{Memory}
use Rattle.lossy_link.proofs.channel_links.ChannelLink.tell_others.Given as goal

abbrev pub invariant-loop-inbox : goal.invariant-loop-inbox
invariant-loop-inbox g l = IsOkUnless l.told Memory
