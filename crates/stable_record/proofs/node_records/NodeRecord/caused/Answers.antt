use Rattle.std.proofs.Common.{◌↔◌, Bool, IsTrue, subst, sym}
use Rattle.lock_model.specs.Stations.{IsCaused}
use Rattle.lock_model.specs.ExactStations.{meaning}
use Rattle.stable_record.proofs.node_records.NodeRecord.caused.Goals as goal

pub returns : goal.returns
returns c =
    let r = c.args.self.now in
    subst (λ (b : Bool). IsTrue b ↔ IsCaused (meaning r.problem r.entries)) (sym c.is_caused.ensures.test) (c.judgement_is_exact.ensures.caused r.problem r.entries c.is_caused.ensures.once)
