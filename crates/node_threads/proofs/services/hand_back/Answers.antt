use Rattle.std.proofs.Common.{◌≡◌, ◌∙◌, ◌++◌, length, map, sym, ap, subst, refl, arith, All}
use Rattle.std.specs.Vec.Iter.{into_iter_items}
use Rattle.std.proofs.lemmas.List.Elements.{All-cons}
use Rattle.history_book.specs.Books.{Known, BookValue}
use Rattle.node_threads.proofs.Taking.{first_of, rest_of, handed_more}
use Rattle.node_threads.proofs.services.hand_back.Goals as goal

pub loop-ended-init : goal.loop-ended-init
loop-ended-init g c =
    let book = c.args.book.now in
    let gives = c.into_iter-ended-iterator.ensures.into_iter_gives.0 in
    record {
      can = tt;
      finite = tt;
      book = refl;
      theirs = subst (All (λ e. e.berth.table ≡ book.table)) (sym gives) c.requires;
      tied = λ each. subst (All (λ e. Known book e.berth)) gives each;
      records = ap (λ rs. rs ++ map (λ e. (e.client, e.stable)) (into_iter_items c.into_iter-ended-iterator.result)) c.new-records.ensures.items ∙ ap (map (λ e. (e.client, e.stable))) gives;
    }

pub tie-requires : goal.tie-requires
tie-requires g c =
    first_of c.in-Some.ended (λ e. e.berth.table ≡ c.args.book.now.table) _ _ c.in-Some.ensures.steps.0 c.loop-ended.invariant.theirs ∙ sym (ap (λ (b : BookValue). b.table) c.loop-ended.invariant.book)

pub loop-ended-preserved : goal.loop-ended-preserved
loop-ended-preserved g c =
    let book = c.args.book.now in
    let before = c.loop-ended.invariant in
    let ended = c.in-Some.ended in
    let steps = c.in-Some.ensures.steps.0 in
    let known : Known book ended.berth = subst (λ (b : BookValue). Known b ended.berth) before.book c.tie.ensures.known in
    record {
      can = tt;
      finite = tt;
      book = c.tie.ensures.same.book ∙ before.book;
      theirs = rest_of ended (λ e. e.berth.table ≡ book.table) _ _ steps before.theirs;
      tied = λ each. before.tied (subst (All (λ e. Known book e.berth)) (sym steps) (All-cons (λ e. Known book e.berth) ended _ known each));
      records = handed_more (λ e. (e.client, e.stable)) c.loop-ended.records.items c.push.new.self.items _ _ ended _ before.records steps c.in-Ok.ensures.items;
    }

pub returns-clause-tied : goal.returns-clause-tied
returns-clause-tied g c =
    let none : length (into_iter_items c.loop-ended.ended-iterator) ≡ 0 = sym c.loop-ended.ended-iterator.rest.ok.0 ∙ c.in-None.ensures.steps.0 in
    c.loop-ended.invariant.tied (λ k d within. absurd (omega (arith, within, none)))
