use Rattle.std.proofs.Common.{◌≡◌, ◌∙◌, length, sym, subst, refl, arith, All}
use Rattle.std.specs.Vec.Iter.{into_iter_items}
use Rattle.std.proofs.lemmas.List.Elements.{All-cons}
use Rattle.history_book.specs.Books.{Known, BookValue}
use Rattle.node_threads.specs.declared.ends.ClientEnd.{ClientEnd}
use Rattle.node_threads.proofs.Taking.{rest_of}
use Rattle.node_threads.proofs.running.tie_all.Goals as goal

pub loop-ended-init : goal.loop-ended-init
loop-ended-init g c =
    let book = c.args.book.now in
    let gives = c.into_iter-ended-iterator.ensures.into_iter_gives.0 in
    record {
      can = tt;
      finite = tt;
      book = refl;
      theirs = subst (λ es. All (λ (e : ClientEnd). e.berth.table ≡ book.table) es) (sym gives) c.requires;
      tied = λ each. subst (λ es. All (λ (e : ClientEnd). Known book e.berth) es) gives each;
    }

pub loop-ended-preserved : goal.loop-ended-preserved
loop-ended-preserved g c =
    let book = c.args.book.now in
    let before = c.loop-ended.invariant in
    let ended = c.in-Some.ended in
    let steps = c.in-Some.ensures.steps.0 in
    let known : Known book ended.berth = subst (λ (b : BookValue). Known b ended.berth) before.book c.tie.ensures.known in
    record {
      can = tt;
      finite = tt;
      book = c.tie.ensures.same.book ∙ before.book;
      theirs = rest_of ended (λ e. e.berth.table ≡ book.table) _ _ steps before.theirs;
      tied = λ each. before.tied (subst (λ es. All (λ (e : ClientEnd). Known book e.berth) es) (sym steps) (All-cons (λ (e : ClientEnd). Known book e.berth) ended _ known each));
    }

pub returns-clause-tied : goal.returns-clause-tied
returns-clause-tied g c =
    let none : length (into_iter_items c.loop-ended.ended-iterator) ≡ 0 = sym c.loop-ended.ended-iterator.rest.ok.0 ∙ c.in-None.ensures.steps.0 in
    c.loop-ended.invariant.tied (λ k d within. absurd (omega (arith, within, none)))
