use Rattle.std.proofs.Common.{◌∷◌, [], ◌∙◌, ap, ℕ, List}
use Rattle.stable_record.specs.Records.{client_record_of}
use Rattle.session_tests.proofs.Ready.{may_begin, both}
use Rattle.session_tests.proofs.lending.entries_of.Goals as goal

-- both records are lent as they are
pub with_sessions-requires-clause-may : goal.with_sessions-requires-clause-may
with_sessions-requires-clause-may g c κs within =
    let clients = c.in_ok-clients.ensures ∙ ap (λ (r : List ℕ). (r ∷ []) ∷ (c.args.other.now ∷ []) ∷ []) c.requires.one ∙ ap (λ (r : List ℕ). (client_record_of 0 ∷ []) ∷ (r ∷ []) ∷ []) c.requires.other in
    may_begin c.in_ok-ballots.ballots c.in_ok-world.world _ _ c.in_ok-world.ensures c.in_ok-pairs.ensures (both _ _ _ _ c.in_ok-nodes.ensures clients)
