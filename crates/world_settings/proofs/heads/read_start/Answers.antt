use Rattle.world_settings.proofs.StartFacts.{not_started, started, refused}
use Rattle.world_settings.proofs.heads.read_start.Goals as goal

pub returns-in-Err-clause-start : goal.returns-in-Err-clause-start
returns-in-Err-clause-start g c = not_started c.args.command c.args.source.now c.read_head.new.source c.read_head.new.head.items c.in-Err.fault c.in-Err.ensures.head

pub returns-in-Ok-read_settings-clause-start : goal.returns-in-Ok-read_settings-clause-start
returns-in-Ok-read_settings-clause-start g c =
    started c.args.command c.args.source.now c.read_head.new.source c.read_head.new.head.items c.as_slice.result.now tt c.in-Ok-read_settings.start c.in-Ok.ensures.head c.as_slice.ensures.value c.in-Ok-read_settings.ensures.start

pub returns-in-Err-read_settings-clause-start : goal.returns-in-Err-read_settings-clause-start
returns-in-Err-read_settings-clause-start g c =
    refused c.args.command c.args.source.now c.read_head.new.source c.read_head.new.head.items c.as_slice.result.now tt c.in-Err-read_settings.fault c.in-Ok.ensures.head c.as_slice.ensures.value c.in-Err-read_settings.ensures.start
