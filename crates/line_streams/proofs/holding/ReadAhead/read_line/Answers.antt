use Rattle.std.proofs.Common.{◌≡◌, ◌<◌, ◌∙◌, true, List, ℕ, [], length, Ok, vec_len, sym, subst, rules}
use Rattle.std.specs.Io.KnownBytes.{prepend_known, Consumes}
use Rattle.std.proofs.lemmas.List.{append-nil}
use Rattle.line_streams.specs.declared.holding.TheConstants.{MAX_AHEAD}
use Rattle.line_streams.specs.Streams.{IsPlain, EndsLine}
use Rattle.line_streams.proofs.StreamFacts.{line_ends, line_taken, part_taken, input_ends, is_too_long, no_end_yet, some_held, is_found, held_feed, held_long}
use Rattle.line_streams.proofs.holding.ReadAhead.read_line.Given.{Over}
use Rattle.line_streams.proofs.holding.ReadAhead.read_line.Goals.{Else-fed, After-fetch}
use Rattle.line_streams.proofs.holding.ReadAhead.read_line.Goals as goal

-- where what is held ends the line, this is the first round, and the reader isn't asked
first_round : (g : Over) (c : After-fetch g) → EndsLine c.args.limit c.args.self.now → (c.fetch.result ≡ Ok true) × (c.fetch.new.self ≡ c.args.self.now) × (c.loop-found.line.items ≡ [])
first_round g c ends =
    let first = c.loop-found.invariant.asks ends in
    let held = c.fetch.ensures.held (subst (λ (bs : List ℕ). 0 < length bs) (sym first.0) (some_held c.args.limit c.args.self.now ends)) in
    (held.0, held.1 ∙ first.0, first.1)

pub returns-then-not-found-clause-line : goal.returns-then-not-found-clause-line
returns-then-not-found-clause-line g c =
    let left = g.R.Read.remaining in
    input_ends c.args.limit (prepend_known c.args.self.now (left c.args.reader.now)) (prepend_known c.loop-found.self (left c.loop-found.reader)) (prepend_known c.fetch.new.self (left c.fetch.new.reader)) c.loop-found.line.items c.in_ok-found.found
    c.loop-found.invariant.taken c.loop-found.invariant.plain c.in_ok-found.ensures.bytes c.if-not-found.true

pub returns-then-fed-clause-line : goal.returns-then-fed-clause-line
returns-then-fed-clause-line g c =
    let left = g.R.Read.remaining in
    let behind = left c.fetch.new.reader in
    line_ends c.args.limit _ (prepend_known c.args.self.now (left c.args.reader.now)) (prepend_known c.loop-found.self (left c.loop-found.reader)) (prepend_known c.fetch.new.self behind) (prepend_known c.take.new.self behind)
    c.loop-found.line.items c.take.new.line.items c.in_ok-found.found c.in_ok-fed.fed
    c.loop-found.invariant.taken c.loop-found.invariant.plain c.in_ok-found.ensures.bytes c.if-not-found.false (c.in_ok-fed.ensures.bytes behind) c.if-fed.true

pub returns-then-fed-clause-taken : goal.returns-then-fed-clause-taken
returns-then-fed-clause-taken g c =
    let left = g.R.Read.remaining in
    let behind = left c.fetch.new.reader in
    line_taken _ (prepend_known c.args.self.now (left c.args.reader.now)) (prepend_known c.loop-found.self (left c.loop-found.reader)) (prepend_known c.fetch.new.self behind) (prepend_known c.take.new.self behind)
    c.loop-found.line.items c.take.new.line.items c.in_ok-found.found c.in_ok-fed.fed
    c.loop-found.invariant.taken c.loop-found.invariant.plain c.in_ok-found.ensures.bytes c.if-not-found.false (c.in_ok-fed.ensures.bytes behind) c.if-fed.true

-- what a round took that met no line feed
round_taken : (g : Over) (c : Else-fed g)
    → IsPlain c.take.new.line.items
    × Consumes (prepend_known c.args.self.now (g.R.Read.remaining c.args.reader.now)) (prepend_known c.take.new.self (g.R.Read.remaining c.fetch.new.reader)) c.take.new.line.items
round_taken g c =
    let left = g.R.Read.remaining in
    let behind = left c.fetch.new.reader in
    part_taken _ (prepend_known c.args.self.now (left c.args.reader.now)) (prepend_known c.loop-found.self (left c.loop-found.reader)) (prepend_known c.fetch.new.self behind) (prepend_known c.take.new.self behind)
    c.loop-found.line.items c.take.new.line.items c.in_ok-found.found c.in_ok-fed.fed
    c.loop-found.invariant.taken c.loop-found.invariant.plain c.in_ok-found.ensures.bytes c.if-not-found.false (c.in_ok-fed.ensures.bytes behind) c.if-fed.false

pub loop-found-preserved : goal.loop-found-preserved
loop-found-preserved g c =
    let (plain, taken) = round_taken g (goal.at.loop-found-preserved g c).Else-fed in
    record {
      taken = taken;
      plain = plain;
      few = search rules;
      room = search rules;
      asks = λ ends.
          let first = c.loop-found.invariant.asks ends in
          let same : c.fetch.new.self ≡ c.args.self.now = (c.fetch.ensures.held (subst (λ (bs : List ℕ). 0 < length bs) (sym first.0) (some_held c.args.limit c.args.self.now ends))).1 ∙ first.0 in
          absurd (no_end_yet c.args.limit MAX_AHEAD c.fetch.new.self (vec_len c.loop-found.line) (vec_len c.take.new.line) (search rules) c.fetch.ensures.room (search rules) (search rules) (subst (λ (bs : List ℕ). EndsLine c.args.limit bs) (sym same) ends));
    }

pub returns-then-len-limit-clause-line : goal.returns-then-len-limit-clause-line
returns-then-len-limit-clause-line g c =
    let (plain, taken) = round_taken g (goal.at.returns-then-len-limit-clause-line g c).Else-fed in
    is_too_long c.args.limit _ _ c.take.new.line.items taken plain (search rules)

pub returns-then-len-limit-clause-taken : goal.returns-then-len-limit-clause-taken
returns-then-len-limit-clause-taken g c =
    let left = g.R.Read.remaining in
    let (plain, taken) = round_taken g (goal.at.returns-then-len-limit-clause-taken g c).Else-fed in
    (plain, subst (λ (bs : List ℕ). Consumes (prepend_known c.args.self.now (left c.args.reader.now)) (prepend_known c.take.new.self (left c.fetch.new.reader)) bs) (sym (append-nil c.take.new.line.items)) taken)

pub returns-then-not-found-clause-held : goal.returns-then-not-found-clause-held
returns-then-not-found-clause-held g c = λ behind ends.
    let first = first_round g (goal.at.returns-then-not-found-clause-held g c).After-fetch ends in
    absurd (is_found c.fetch.result c.in_ok-found.found first.0 c.in_ok-found.was c.if-not-found.true)

pub returns-then-not-found-clause-held_taken : goal.returns-then-not-found-clause-held_taken
returns-then-not-found-clause-held_taken g c = λ behind ends.
    let first = first_round g (goal.at.returns-then-not-found-clause-held_taken g c).After-fetch ends in
    absurd (is_found c.fetch.result c.in_ok-found.found first.0 c.in_ok-found.was c.if-not-found.true)

pub returns-then-fed-clause-held : goal.returns-then-fed-clause-held
returns-then-fed-clause-held g c = λ behind ends.
    let first = first_round g (goal.at.returns-then-fed-clause-held g c).After-fetch ends in
    (held_feed c.args.limit _ c.args.self.now c.fetch.new.self c.take.new.self c.loop-found.line.items c.take.new.line.items behind c.in_ok-fed.fed first.1 first.2 (c.in_ok-fed.ensures.bytes behind) c.if-fed.true).0

pub returns-then-fed-clause-held_taken : goal.returns-then-fed-clause-held_taken
returns-then-fed-clause-held_taken g c = λ behind ends.
    let first = first_round g (goal.at.returns-then-fed-clause-held_taken g c).After-fetch ends in
    (held_feed c.args.limit _ c.args.self.now c.fetch.new.self c.take.new.self c.loop-found.line.items c.take.new.line.items behind c.in_ok-fed.fed first.1 first.2 (c.in_ok-fed.ensures.bytes behind) c.if-fed.true).1

pub returns-then-len-limit-clause-held : goal.returns-then-len-limit-clause-held
returns-then-len-limit-clause-held g c = λ behind ends.
    let first = first_round g (goal.at.returns-then-len-limit-clause-held g c).After-fetch ends in
    (held_long c.args.limit _ c.args.self.now c.fetch.new.self c.take.new.self c.loop-found.line.items c.take.new.line.items behind c.in_ok-fed.fed first.1 first.2 (c.in_ok-fed.ensures.bytes behind) c.if-fed.false (search rules)).0

pub returns-then-len-limit-clause-held_taken : goal.returns-then-len-limit-clause-held_taken
returns-then-len-limit-clause-held_taken g c = λ behind ends.
    let first = first_round g (goal.at.returns-then-len-limit-clause-held_taken g c).After-fetch ends in
    (held_long c.args.limit _ c.args.self.now c.fetch.new.self c.take.new.self c.loop-found.line.items c.take.new.line.items behind c.in_ok-fed.fed first.1 first.2 (c.in_ok-fed.ensures.bytes behind) c.if-fed.false (search rules)).1
