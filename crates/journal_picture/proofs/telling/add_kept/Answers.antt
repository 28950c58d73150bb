use Rattle.std.proofs.Common.{◌<◌, ◌++◌, length, take, ◌∙◌, ap, arith, append_assoc}
use Rattle.std.specs.Option.{option_to_list}
use Rattle.journal_picture.specs.Histories.{vote_of, votes_in}
use Rattle.world_machine.proofs.ListingFacts.{flat_map-more}
use Rattle.journal_picture.proofs.telling.add_kept.Goals as goal

pub loop-place-preserved : goal.loop-place-preserved
loop-place-preserved c =
    let found = option_to_list c.vote_at.result in
    let so_far = votes_in c.args.node (take c.loop-place.place c.args.kept.now.entries) in
    let within : c.loop-place.place < length c.args.kept.now.entries = omega (arith, c.loop-place-test.true, c.len-place-end.ensures.len) in
    c.in_ok-add_some.ensures ∙ ap (λ ts. ts ++ found) c.loop-place.invariant ∙ append_assoc c.args.lasting.now.items so_far found
    ∙ ap (λ ts. c.args.lasting.now.items ++ ts) (flat_map-more (vote_of c.args.node) c.args.kept.now.entries c.loop-place.place found within c.vote_at.ensures)
