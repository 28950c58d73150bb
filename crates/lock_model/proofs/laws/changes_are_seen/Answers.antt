use Rattle.lock_model.specs.ExactDecisions.{decision}
use Rattle.lock_model.proofs.EntryTests.{no-change-iff, not-same-iff}
use Rattle.lock_model.proofs.laws.changes_are_seen.Goals as goal

pub returns : goal.returns
returns c =
    record {
      changed = λ p entries message. not-same-iff entries (decision p entries message).entries;
      same = λ p entries message. no-change-iff entries (decision p entries message).entries;
    }
