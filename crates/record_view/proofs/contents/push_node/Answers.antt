use Rattle.std.proofs.Common.{◌∙◌, ℕ, List, ◌++◌, length, string_bytes, ap}
use Rattle.std.specs.List.{flat_map}
use Rattle.record_view.specs.Texts.{head_words, problem_text, entry_text}
use Rattle.record_view.proofs.TextFacts.{joined}
use Rattle.record_view.proofs.contents.push_node.Goals as goal

pub returns : goal.returns
returns c =
    let old = string_bytes c.args.text.now in
    let count = length c.args.kept.now.entries in
    let head = c.in_ok-push_head.ensures
    ∙ ap (λ (words : List ℕ). old ++ head_words words c.len-count.result) c.problem_word-problem.ensures
    ∙ ap (λ (n : ℕ). old ++ head_words (problem_text c.args.kept.now.problem) n) c.len-count.ensures.len in
    joined old (head_words (problem_text c.args.kept.now.problem) count) (flat_map entry_text c.args.kept.now.entries) (string_bytes c.push_head.new.text) (string_bytes c.push_entries.new.text) head c.in_ok-push_entries.ensures
