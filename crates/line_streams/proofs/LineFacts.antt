-- The next line of known bytes, as its piece was read.
use Rattle.std.proofs.Common.{◌≡◌, ℕ, ◌<◌, ◌==◌, Bool, true, false, cond, List, [], ◌∷◌, ◌++◌, length, Option, Some, None, refl, sym, ap, ◌∙◌, arith, append_assoc, length-append}
use Rattle.std.proofs.lemmas.Bool.Decides.{nat_tests}
use Rattle.std.proofs.lemmas.List.Elements.{All-head, All-tail}
use Rattle.std.proofs.lemmas.List.Splits.{slice_split_at}
use Rattle.line_streams.specs.declared.reading.End.{End}
use Rattle.line_streams.specs.declared.reading.End.TheVariants.{LineFeed, Input, Limit}
use Rattle.line_streams.specs.Streams.{is_line_feed, pieces, lines_in, IsPlain, ends_no_line, KnownLeft, EndsPiece, fed_lines, FedLinesComeFirst}
use Rattle.line_streams.proofs.StreamFacts.{some_part}

-- a line is what was kept of it; or both are longer than the limit
abbrev pub IsKept : ℕ → List ℕ → End → List ℕ → Type 0
IsKept limit piece LineFeed line = line ≡ piece
IsKept limit piece Input line = line ≡ piece
IsKept limit piece Limit line = (limit < length piece) × (limit < length line)

-- what stands behind a line, where that is known
abbrev pub Behind : End → Option (List ℕ) → List (List ℕ) → Type 0
Behind LineFeed new more = KnownLeft new (λ zs. more ≡ lines_in (pieces zs))
Behind Input new more = more ≡ []
Behind Limit new more = Unit {0}

abbrev pub NextLine : ℕ → List (List ℕ) → Option (List ℕ) → List ℕ → End → Type 0
NextLine limit lines new piece end = (line : List ℕ) × (more : List (List ℕ)) × (lines ≡ line ∷ more) × IsKept limit piece end line × Behind end new more

-- the lines that pieces are
line_and_more : (p : List ℕ) (more : List (List ℕ)) → (length p == 0) ≡ false → lines_in (p ∷ more) ≡ p ∷ lines_in more
line_and_more p [] h = rw h
line_and_more p (q ∷ qs) h = refl

pub line_then_bytes : (p zs : List ℕ) → lines_in (p ∷ pieces zs) ≡ p ∷ lines_in (pieces zs)
line_then_bytes p zs = let (q, qs, e) = some_part is_line_feed zs in ap (λ ps. lines_in (p ∷ ps)) e ∙ ap (λ ps. p ∷ lines_in ps) (sym e)

-- no line is left
pub no_line_left : (limit : ℕ) (ys : List ℕ) (new : Option (List ℕ)) (piece : List ℕ) (end : End) → EndsPiece limit ys new piece end → ends_no_line end piece ≡ true → lines_in (pieces ys) ≡ []
no_line_left limit ys new piece LineFeed r h = cc
no_line_left limit ys new piece Input r h = ap lines_in r.0 ∙ ap (λ (b : Bool). cond b [] (piece ∷ [])) h
no_line_left limit ys new piece Limit r h = cc

-- a line comes
pub next_line : (limit : ℕ) (ys : List ℕ) (new : Option (List ℕ)) (piece : List ℕ) (end : End) → EndsPiece limit ys new piece end → ends_no_line end piece ≡ false → NextLine limit (lines_in (pieces ys)) new piece end
next_line limit ys None piece LineFeed r h = absurd r
next_line limit ys (Some zs) piece LineFeed r h = (piece, lines_in (pieces zs), ap lines_in r ∙ line_then_bytes piece zs, refl, refl)
next_line limit ys new piece Input r h = (piece, [], ap lines_in r.0 ∙ line_and_more piece [] h, refl, refl)
next_line limit ys new piece Limit r h =
    let (rest, more, e, long) = r in
    let whole : limit < length (piece ++ rest) = simp length-append (omega arith) in
    let some : (length (piece ++ rest) == 0) ≡ false = grind (arith, nat_tests) in
    (piece ++ rest, lines_in more, ap lines_in e ∙ line_and_more (piece ++ rest) more some, (long, whole), tt)

-- lines come first that stand in front with their line feeds
pub fed_lines_first : FedLinesComeFirst
fed_lines_first [] behind plain = refl
fed_lines_first (l ∷ ls) behind plain =
    let P : List ℕ → Type 0 = IsPlain in
    let rest = fed_lines ls ++ behind in
    ap (λ (bs : List ℕ). lines_in (pieces bs)) (append_assoc l (10 ∷ fed_lines ls) behind)
    ∙ ap lines_in (slice_split_at is_line_feed l 10 rest (All-head P l ls plain) refl) ∙ line_then_bytes l rest
    ∙ ap (λ (rows : List (List ℕ)). l ∷ rows) (fed_lines_first ls behind (All-tail P l ls plain))
