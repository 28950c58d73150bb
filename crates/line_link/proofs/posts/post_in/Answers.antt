use Rattle.std.proofs.Common.{◌≡◌, ℕ, List, Some, IfSome, Option, Ok, subst, sym, ◌∙◌}
use Rattle.hex.specs.Hex.{IsBytes}
use Rattle.lock_messages.specs.declared.ids.Actor.{Actor}
use Rattle.lock_messages.specs.declared.ids.Actor.TheVariants.{Node, Client}
use Rattle.lock_model.specs.declared.problems.Problem.{Problem}
use Rattle.frame_lines.specs.FrameLines.{frame_line}
use Rattle.switch_lines.proofs.SwitchFacts.{lines_differ}
use Rattle.line_link.specs.Posts.{IsSwitchFor}
use Rattle.line_link.proofs.posts.post_in.Goals as goal

-- no line has both a frame and a switch
not_both : (block : List ℕ) (own : Actor) (line frame : List ℕ) (problem : Problem) → IsBytes frame → line ≡ frame_line block own frame → IsSwitchFor block own line problem → ⊥
not_both block (Node n) line frame problem fits one other = lines_differ block frame n problem fits (sym one ∙ other)
not_both block (Client c) line frame problem fits one other = other

pub returns-in-Some-clause-frame : goal.returns-in-Some-clause-frame
returns-in-Some-clause-frame c = λ frame fits is.
    let block = c.args.inlet.now.block in
    let own = c.args.inlet.now.own in
    let switch : IsSwitchFor block own c.args.line.now c.in-Some.problem = subst (λ (o : Option Problem). IfSome o (λ problem. IsSwitchFor block own c.args.line.now problem)) c.in-Some.is c.in_ok-problem.ensures.accepted in
    absurd (not_both block own c.args.line.now frame c.in-Some.problem fits is switch)
