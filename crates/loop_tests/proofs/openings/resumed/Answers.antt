use Rattle.std.proofs.Common.{◌∙◌, map, ap}
use Rattle.loop_tests.proofs.Resumed.{resumed_keeps}
use Rattle.loop_tests.proofs.openings.resumed.Goals as goal

pub returns-in-Ok : goal.returns-in-Ok
returns-in-Ok g c =
    resumed_keeps _ _ _ _ _ _ _ c.in-Ok.ensures.world (ap (map (λ v. v.items)) c.deref-2.ensures.value ∙ c.in_ok-clients.ensures) c.client_bytes.ensures
