use Rattle.std.proofs.Common.{◌≡◌, ◌++◌, ◌∙◌, Ok, Err, List, ℕ, codes, sym, ap, subst, arith, rules}
use Rattle.std.specs.Str.{bytes_eq}
use Rattle.world_settings.specs.Heads.{dashes}
use Rattle.world_settings.proofs.HeadFacts.{at_piece, dashes_then_feed, dashes_at_end, never_dashes, line_too_long, head_too_long, head_goes_on, HeadSoFar, TakesHead, takes_line, takes_piece}
use Rattle.world_settings.proofs.heads.read_head.Goals as goal

pub returns-in-Limit-clause-head : goal.returns-in-Limit-clause-head
returns-in-Limit-clause-head g c =
    line_too_long c.args.source.now c.loop-source.source c.next_piece.new.source c.loop-source.head.items c.next_piece.new.piece.items c.keep_last.new.head.items c.loop-source.invariant.head
    (at_piece _ _ _ _ _ c.in-Ok.ensures.piece c.in-Limit.is)

pub returns-then-is_dashes-clause-head : goal.returns-then-is_dashes-clause-head
returns-then-is_dashes-clause-head g c =
    dashes_at_end c.args.source.now c.loop-source.source c.next_piece.new.source c.loop-source.head.items c.next_piece.new.piece.items tt c.loop-source.invariant.head
    (at_piece _ _ _ _ _ c.in-Ok.ensures.piece c.in-Input.is)
    (ap (λ (p : List ℕ). bytes_eq p dashes) (sym c.as_slice-in-Input.ensures.value) ∙ sym c.is_dashes.ensures ∙ c.if-is_dashes.true) (omega (arith, c.loop-source.head.ok.0))

pub returns-in-Input-clause-head : goal.returns-in-Input-clause-head
returns-in-Input-clause-head g c =
    never_dashes c.args.source.now c.loop-source.source c.next_piece.new.source c.loop-source.head.items c.next_piece.new.piece.items c.keep_last-in-Input.new.head.items c.loop-source.invariant.head
    (at_piece _ _ _ _ _ c.in-Ok.ensures.piece c.in-Input.is)
    (ap (λ (p : List ℕ). bytes_eq p dashes) (sym c.as_slice-in-Input.ensures.value) ∙ sym c.is_dashes.ensures ∙ c.if-is_dashes.false)

pub returns-then-is_dashes-2-clause-head : goal.returns-then-is_dashes-2-clause-head
returns-then-is_dashes-2-clause-head g c =
    dashes_then_feed c.args.source.now c.loop-source.source c.next_piece.new.source c.loop-source.head.items c.next_piece.new.piece.items tt c.loop-source.invariant.head
    (at_piece _ _ _ _ _ c.in-Ok.ensures.piece c.in-LineFeed.is)
    (ap (λ (p : List ℕ). bytes_eq p dashes) (sym c.as_slice-in-LineFeed.ensures.value) ∙ sym c.is_dashes-in-LineFeed.ensures ∙ c.if-is_dashes-2.true) (omega (arith, c.loop-source.head.ok.0))

pub returns-clause-head : goal.returns-clause-head
returns-clause-head g c = head_too_long c.args.source.now c.loop-source.source c.loop-source.head.items c.loop-source.invariant.head (omega (arith, c.loop-source.head.ok.0))

pub returns-in-Err-clause-few : goal.returns-in-Err-clause-few
returns-in-Err-clause-few g c =
    takes_piece c.args.source.now c.loop-source.source c.next_piece.new.source c.loop-source.head.items c.next_piece.new.piece.items (Err c.in-Err.fault) c.loop-source.invariant.taken (omega (arith, c.loop-source.head.ok.0)) c.in-Err.ensures.taken c.in-Err.ensures.few

pub returns-in-Limit-clause-few : goal.returns-in-Limit-clause-few
returns-in-Limit-clause-few g c =
    takes_piece c.args.source.now c.loop-source.source c.next_piece.new.source c.loop-source.head.items c.next_piece.new.piece.items (Ok c.in-Ok.end) c.loop-source.invariant.taken (omega (arith, c.loop-source.head.ok.0)) c.in-Ok.ensures.taken c.in-Ok.ensures.few

pub returns-then-is_dashes-clause-few : goal.returns-then-is_dashes-clause-few
returns-then-is_dashes-clause-few g c =
    takes_piece c.args.source.now c.loop-source.source c.next_piece.new.source c.loop-source.head.items c.next_piece.new.piece.items (Ok c.in-Ok.end) c.loop-source.invariant.taken (omega (arith, c.loop-source.head.ok.0)) c.in-Ok.ensures.taken c.in-Ok.ensures.few

pub returns-in-Input-clause-few : goal.returns-in-Input-clause-few
returns-in-Input-clause-few g c =
    takes_piece c.args.source.now c.loop-source.source c.next_piece.new.source c.loop-source.head.items c.next_piece.new.piece.items (Ok c.in-Ok.end) c.loop-source.invariant.taken (omega (arith, c.loop-source.head.ok.0)) c.in-Ok.ensures.taken c.in-Ok.ensures.few

pub returns-then-is_dashes-2-clause-few : goal.returns-then-is_dashes-2-clause-few
returns-then-is_dashes-2-clause-few g c =
    takes_piece c.args.source.now c.loop-source.source c.next_piece.new.source c.loop-source.head.items c.next_piece.new.piece.items (Ok c.in-Ok.end) c.loop-source.invariant.taken (omega (arith, c.loop-source.head.ok.0)) c.in-Ok.ensures.taken c.in-Ok.ensures.few

pub returns-then-is_err-clause-few : goal.returns-then-is_err-clause-few
returns-then-is_err-clause-few g c =
    takes_piece c.args.source.now c.loop-source.source c.next_piece.new.source c.loop-source.head.items c.next_piece.new.piece.items (Ok c.in-Ok.end) c.loop-source.invariant.taken (omega (arith, c.loop-source.head.ok.0)) c.in-Ok.ensures.taken c.in-Ok.ensures.few

pub loop-source-preserved : goal.loop-source-preserved
loop-source-preserved g c =
    let pushed : c.push_line.new.head.items ≡ c.loop-source.head.items ++ c.next_piece.new.piece.items ++ codes "\n" = search rules in
    let ended = at_piece _ _ _ _ _ c.in-Ok.ensures.piece c.in-LineFeed.is in
    let other = ap (λ (p : List ℕ). bytes_eq p dashes) (sym c.as_slice-in-LineFeed.ensures.value) ∙ sym c.is_dashes-in-LineFeed.ensures ∙ c.if-is_dashes-2.false in
    record {
      head = subst (λ (h : List ℕ). HeadSoFar c.args.source.now c.next_piece.new.source h) (sym pushed)
          (head_goes_on c.args.source.now c.loop-source.source c.next_piece.new.source c.loop-source.head.items c.next_piece.new.piece.items c.loop-source.invariant.head ended other);
      taken = subst (λ (h : List ℕ). TakesHead c.args.source.now c.next_piece.new.source h) (sym pushed)
          (takes_line c.args.source.now c.loop-source.source c.next_piece.new.source c.loop-source.head.items c.next_piece.new.piece.items c.in-Ok.end c.loop-source.invariant.taken (omega (arith, c.loop-source.head.ok.0)) c.in-Ok.ensures.taken c.in-Ok.ensures.few c.in-LineFeed.is);
    }
