use Rattle.std.proofs.Common.{◌≡◌, ◌<◌, ◌≤◌, ◌+◌, ◌∙◌, ◌++◌, List, ℕ, [], ◌∷◌, false, length, take, vec_len, inl, inr, ⊎_elim, sym, ap, subst, arith, length-append}
use Rattle.std.specs.List.{list_any, slice_range}
use Rattle.std.specs.Io.KnownBytes.{prepend_known, Consumes}
use Rattle.std.proofs.lemmas.List.{length-take-le}
use Rattle.line_streams.specs.Streams.{is_line_feed}
use Rattle.line_streams.proofs.StreamFacts.{plain_whole, takes_front, takes_feed}
use Rattle.line_streams.proofs.holding.ReadAhead.take.Goals as goal

pub returns-then-feed-clause-bytes : goal.returns-then-feed-clause-bytes
returns-then-feed-clause-bytes c = λ behind.
    let s = c.self.inside in
    let held = slice_range s.room s.at s.end in
    let count = c.plain_front-count.result.0 in
    let found = c.plain_front-count.ensures in
    let (rest, f) = found.feed c.if-feed.true in (
      take count held,
      c.in_ok-add.ensures.bytes ∙ ap (λ (bs : List ℕ). c.args.line.now.items ++ bs) c.split_at.ensures.front,
      found.plain,
      subst (λ (n : ℕ). n < c.args.most) (sym (length-take-le count held found.within)) (found.fewer c.if-feed.true),
      subst (λ (bs : List ℕ). Consumes (prepend_known bs behind) (prepend_known (slice_range s.room (s.at + count + 1) s.end) behind) (take count held ++ 10 ∷ [])) c.self.view_is
          (takes_feed s.room s.at s.end count behind rest c.self.invariant.0 found.within f),
    )

pub returns-clause-bytes : goal.returns-clause-bytes
returns-clause-bytes c = λ behind.
    let s = c.self.inside in
    let held = slice_range s.room s.at s.end in
    let count = c.plain_front-count.result.0 in
    let found = c.plain_front-count.ensures in (
      take count held,
      c.in_ok-add.ensures.bytes ∙ ap (λ (bs : List ℕ). c.args.line.now.items ++ bs) c.split_at.ensures.front,
      found.plain,
      subst (λ (n : ℕ). n ≤ c.args.most) (sym (length-take-le count held found.within)) found.few,
      subst (λ (bs : List ℕ). Consumes (prepend_known bs behind) (prepend_known (slice_range s.room (s.at + count) s.end) behind) (take count held)) c.self.view_is
          (takes_front s.room s.at s.end count behind c.self.invariant.0 found.within),
    )

pub returns-clause-all : goal.returns-clause-all
returns-clause-all c = λ unfed.
    let s = c.self.inside in
    let held = slice_range s.room s.at s.end in
    let count = c.plain_front-count.result.0 in
    let found = c.plain_front-count.ensures in
    let joined : length c.add.new.line.items ≡ length c.args.line.now.items + count =
    ap length (c.in_ok-add.ensures.bytes ∙ ap (λ (bs : List ℕ). c.args.line.now.items ++ bs) c.split_at.ensures.front)
    ∙ length-append c.args.line.now.items (take count held) ∙ ap (λ (n : ℕ). length c.args.line.now.items + n) (length-take-le count held found.within) in
    let long : vec_len c.add.new.line ≡ vec_len c.args.line.now + count = omega (arith, c.add.new.line.ok.0, c.args.line.now.ok.0, joined) in
    ⊎_elim
    (λ all. inr (
      long ∙ ap (λ (n : ℕ). vec_len c.args.line.now + n) (all ∙ ap length c.self.view_is),
      subst (λ (bs : List ℕ). list_any is_line_feed bs ≡ false) c.self.view_is (plain_whole held count all found.plain),
    ))
    (λ most. inl (
      long ∙ ap (λ (n : ℕ). vec_len c.args.line.now + n) most,
      subst (λ (bs : List ℕ). c.args.most ≤ length bs) c.self.view_is (subst (λ (n : ℕ). n ≤ length held) most found.within),
    ))
    (found.all c.if-feed.false)
