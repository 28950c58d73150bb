use Rattle.std.proofs.Common.{◌≡◌, ◌∙◌, ◌∷◌, length, true, false, Some, Ok, ap, sym, subst, inl, arith}
use Rattle.std.specs.Bool.{IsTrue}
use Rattle.frame_lines.specs.FrameLines.{IsOkUnlessMemory, frame_line, tag_of}
use Rattle.frame_lines.proofs.FrameFacts.{not_none, same_frame, tag_length}
use Rattle.frame_lines.proofs.lines.read_frame.Goals as goal

pub returns-in_default-clause-only : goal.returns-in_default-clause-only
returns-in_default-clause-only c = λ frame fits is.
    let tag = tag_of c.args.secret.now c.args.own frame in
    let long : length (32 ∷ tag) ≡ 17 = let t = tag_length c.args.secret.now c.args.own frame in omega (arith, t) in
    let found = c.frame_in.ensures frame (32 ∷ tag) fits long is in
    not_none frame (subst (λ r. IsOkUnlessMemory r (Some frame)) (c.in_ok-frame.was ∙ ap Ok c.in_default.is) found)

pub returns-then-branch-clause-only : goal.returns-then-branch-clause-only
returns-then-branch-clause-only c = λ frame fits is.
    let tag = tag_of c.args.secret.now c.args.own frame in
    let long : length (32 ∷ tag) ≡ 17 = let t = tag_length c.args.secret.now c.args.own frame in omega (arith, t) in
    let found = c.frame_in.ensures frame (32 ∷ tag) fits long is in
    inl (ap (λ f. Ok (Some f)) (same_frame c.in-Some.frame frame (subst (λ r. IsOkUnlessMemory r (Some frame)) (c.in_ok-frame.was ∙ ap Ok c.in-Some.is) found)))

pub returns-clause-only : goal.returns-clause-only
returns-clause-only c = λ frame fits is.
    let tag = tag_of c.args.secret.now c.args.own frame in
    let long : length (32 ∷ tag) ≡ 17 = let t = tag_length c.args.secret.now c.args.own frame in omega (arith, t) in
    let found = c.frame_in.ensures frame (32 ∷ tag) fits long is in
    let same : c.in-Some.frame ≡ frame = same_frame c.in-Some.frame frame (subst (λ r. IsOkUnlessMemory r (Some frame)) (c.in_ok-frame.was ∙ ap Ok c.in-Some.is) found) in
    let told : IsTrue c.in_ok-is_line_of.field-0 = c.in_ok-is_line_of.ensures.1 (is ∙ ap (frame_line c.args.secret.now c.args.own) (sym (c.as_slice.ensures ∙ same))) in
    let clash : false ≡ true = subst IsTrue c.if-branch.false told in absurd (cc)
