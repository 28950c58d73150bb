use Rattle.std.proofs.Common.{string_bytes}
use Rattle.record_view.proofs.TextFacts.{view_says}
use Rattle.record_view.proofs.reports.viewed.Goals as goal

pub returns-in-Ok-clause-says : goal.returns-in-Ok-clause-says
returns-in-Ok-clause-says c =
    view_says c.args.file.now c.deref.result.now (string_bytes c.in-Ok.seen.text) c.requires.whole c.requires.sized c.deref.ensures.value c.in-Ok.ensures.says_two c.in-Ok.ensures.says_three
