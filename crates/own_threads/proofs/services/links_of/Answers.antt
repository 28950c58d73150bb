use Rattle.std.proofs.Common.{◌≡◌, ◌+◌, length, map, min, ◌∙◌, ap, arith}
use Rattle.std.specs.List.{range_with_len}
use Rattle.std.proofs.lemmas.List.FromFn.{length-map-range_with_len}
use Rattle.lock_messages.specs.declared.ids.TheConstants.{MAX_NODES, MAX_CLIENTS}
use Rattle.lossy_link.specs.ChannelLinks.{link_at}
use Rattle.own_threads.proofs.Places.{both_parts}
use Rattle.own_threads.proofs.services.links_of.Goals as goal

pub split_off-requires : goal.split_off-requires
split_off-requires g c =
    let count = min c.args.nodes MAX_NODES + min c.args.clients MAX_CLIENTS in
    let long : length c.in-Ok.links.items ≡ count = ap length c.in-Ok.ensures.links ∙ length-map-range_with_len _ 0 count in
    let all : count ≡ c.args.nodes + c.args.clients = omega (arith, c.requires.few_nodes, c.requires.few_clients) in
    omega (arith, long, all, c.in-Ok.links.ok)

pub returns-clause-clients : goal.returns-clause-clients
returns-clause-clients g c =
    let count = min c.args.nodes MAX_NODES + min c.args.clients MAX_CLIENTS in
    let long : length c.in-Ok.links.items ≡ count = ap length c.in-Ok.ensures.links ∙ length-map-range_with_len _ 0 count in
    let all : count ≡ c.args.nodes + c.args.clients = omega (arith, c.requires.few_nodes, c.requires.few_clients) in
    omega (arith, long, all, c.in-Ok.links.ok, c.in-Ok-split_off.others.ok, c.in-Ok-split_off.ensures.tail_len)

pub returns-clause-links : goal.returns-clause-links
returns-clause-links g c =
    let first = min c.args.nodes MAX_NODES in
    let count = first + min c.args.clients MAX_CLIENTS in
    let few : first ≡ c.args.nodes = omega (arith, c.requires.few_nodes) in
    let all : count ≡ c.args.nodes + c.args.clients = omega (arith, c.requires.few_nodes, c.requires.few_clients) in
    both_parts c.split_off.new.self.items c.in-Ok-split_off.others.items c.in-Ok.links.items c.args.nodes c.in-Ok-split_off.ensures.items c.in-Ok-split_off.ensures.tail ∙ c.in-Ok.ensures.links
    ∙ ap (λ n. map (link_at n c.args.weather.now) (range_with_len 0 count)) few ∙ ap (λ n. map (link_at c.args.nodes c.args.weather.now) (range_with_len 0 n)) all
