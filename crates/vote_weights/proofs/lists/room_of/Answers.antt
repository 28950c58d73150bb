use Rattle.std.proofs.Common.{◌++◌, length, ap}
use Rattle.std.proofs.lemmas.List.{get_or_read, drop-replicate}
use Rattle.lock_model.specs.Ballots.{no_ballot}
use Rattle.vote_weights.proofs.lists.room_of.Goals as goal

pub returns : goal.returns
returns c =
    let first = get_or_read c.args.ballots.now 0 c.index-ballots-0.result c.requires.some c.index-ballots-0.is no_ballot in
    rw (c.copy_from_slice.ensures.after, ← first) (ap (λ xs. c.args.ballots.now ++ xs) (drop-replicate (length c.args.ballots.now) 8 c.index-ballots-0.result))
