use Rattle.std.proofs.Common.{arith, vec_len, ◌∙◌, ap}
use Rattle.lossy_link.specs.ChannelLinks.{actor_at}
use Rattle.lossy_link.specs.Weathers.{climate_at}
use Rattle.lossy_link.proofs.LinkFacts.{one_link_more}
use Rattle.lossy_link.proofs.channel_links.ChannelLink.opened.Goals as goal

pub loop-inbox-preserved : goal.loop-inbox-preserved
loop-inbox-preserved g c =
    let place = vec_len c.loop-inbox.links in
    let whose = ◌∙◌ {b = actor_at c.args.nodes c.len-place.result} c.actor_at-actor.ensures (ap (actor_at c.args.nodes) c.len-place.ensures) in
    let weather = ◌∙◌ {b = climate_at c.args.weather.now c.len-place.result} c.at.ensures (ap (climate_at c.args.weather.now) c.len-place.ensures) in (
      rw c.in_ok-push.ensures.len (one_link_more c.args.nodes place c.args.weather.now c.at.result c.actor_at-actor.result c.loop-inbox.links.items c.push.new.self.items c.in_ok-link.link c.loop-inbox.invariant.0 c.in_ok-push.ensures.items c.in_ok-link.ensures whose weather),
      omega (arith, c.in-Some.ensures.steps, c.in_ok-push.ensures.len, c.loop-inbox.invariant.1),
    )
