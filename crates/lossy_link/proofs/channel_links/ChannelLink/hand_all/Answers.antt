use Rattle.std.proofs.Common.{◌≡◌, option_to_list, rules}
use Rattle.std.proofs.lemmas.Result.{err_from_is_err_and}
use Rattle.lossy_link.specs.ChannelLinks.{after_handing}
use Rattle.lossy_link.proofs.LinkFacts.{refused_second}
use Rattle.lossy_link.proofs.channel_links.ChannelLink.hand_all.Goals as goal

pub returns-in_err-hand_over-2-clause-part : goal.returns-in_err-hand_over-2-clause-part
returns-in_err-hand_over-2-clause-part g c =
    let p = err_from_is_err_and c.from_residual-in_err-hand_over-2.result c.from_residual-in_err-hand_over-2.ensures.1 in
    let before : c.match-first.self ≡ after_handing c.args.self.now (option_to_list c.args.departure.first) = search rules in
    rw p.1 (refused_second c.args.self.now c.match-first.self c.hand_over-in-Some-second.new.self c.args.departure c.in-Some-second.mail before c.in-Some-second.is c.in_err-hand_over-2.ensures.unchanged)
