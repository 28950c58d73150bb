use Rattle.run_service.proofs.RunFacts.{not_started, serves}
use Rattle.run_service.proofs.serving.run_source.Goals as goal

pub returns-in-Err : goal.returns-in-Err
returns-in-Err g c =
    let out = g.W.Write.contents in
    record {
      output = not_started c.args.journal c.args.source.now c.read_head.new.source (out c.args.writer.now) (out c.refuse_start.new.writer) c.read_head.new.head.items c.in-Err.fault c.refuse_start.result c.in-Err.ensures.head c.refuse_start.ensures.told;
      faults = c.refuse_start.ensures.faults;
    }

pub returns : goal.returns
returns g c =
    let out = g.W.Write.contents in
    record {
      output = serves c.args.journal c.args.source.now c.read_head.new.source (out c.args.writer.now) (out c.run_head.new.writer) c.read_head.new.head.items c.as_slice-2.result.now tt c.run_head.result
          c.journals_are_sound.ensures.sound c.verdicts_are_exact.ensures c.in-Ok.ensures.head c.as_slice-2.ensures.value c.run_head.ensures.told;
      faults = c.run_head.ensures.common;
    }
