use Rattle.std.proofs.Common.{◌≡◌, ◌+◌, map, vec_len}
use Rattle.std.specs.List.{range_with_len}
use Rattle.std.specs.Vec.Iter.{into_iter_len}
use Rattle.lossy_link.specs.ChannelLinks.{link_at}
use Rattle.lossy_link.proofs.channel_links.ChannelLink.opened.Given as goal

abbrev pub invariant-loop-inbox : goal.invariant-loop-inbox
invariant-loop-inbox g l =
    (l.links.items ≡ map (link_at l.nodes l.weather) (range_with_len 0 (vec_len l.links)))
    × (vec_len l.links + into_iter_len l.inbox-iterator ≡ l.nodes + l.clients)
