use Rattle.std.proofs.Common.{codes, ap, ◌∙◌}
use Rattle.clap.specs.Words.{App, with_subcommand}
use Rattle.command_words.specs.Words.{top_app, served_app, with_command, run_shape, explain_shape, merge_shape, record_shape}
use Rattle.clap_arguments.proofs.ShapeFacts.{with_sub}
use Rattle.service_words.specs.Shapes.{with_services}
use Rattle.command_words.proofs.reading.words_taken.Goals as goal

abbrev third : App
third = with_command (with_command (with_command top_app (codes "script")) (codes "audit")) (codes "ballot")

pub returns : goal.returns
returns c =
    let one = c.in_ok-with_script.ensures ∙ ap (λ (a : App). with_command a (codes "script")) c.in_ok-bare.ensures in
    let two = c.in_ok-with_audit.ensures ∙ ap (λ (a : App). with_command a (codes "audit")) one in
    let three = c.in_ok-with_ballot.ensures ∙ ap (λ (a : App). with_command a (codes "ballot")) two in
    let four = with_sub c.in_ok-with_ballot.with_ballot c.in_ok-run.run' c.in_ok-with_run.with_run third run_shape c.in_ok-with_run.ensures three c.in_ok-run.ensures.shape c.in_ok-run.ensures.local in
    let five = with_sub c.in_ok-with_run.with_run c.in_ok-explain.explain c.in_ok-with_explain.with_explain served_app explain_shape c.in_ok-with_explain.ensures four c.in_ok-explain.ensures.shape c.in_ok-explain.ensures.local in
    let six = with_sub c.in_ok-with_explain.with_explain c.in_ok-merge.merge c.in_ok-with_merge.with_merge (with_subcommand served_app explain_shape) merge_shape c.in_ok-with_merge.ensures five c.in_ok-merge.ensures.shape c.in_ok-merge.ensures.local in
    let seven = with_sub c.in_ok-with_merge.with_merge c.in_ok-viewer.viewer c.in_ok-with_viewer.with_viewer (with_subcommand (with_subcommand served_app explain_shape) merge_shape) record_shape c.in_ok-with_viewer.ensures six c.in_ok-viewer.ensures.shape c.in_ok-viewer.ensures.local in
    c.in_ok-with_all.ensures ∙ ap with_services seven
