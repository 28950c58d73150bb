use Rattle.line_link.specs.Carried.{Repeats}
use Rattle.line_link.proofs.links.next_post.Given as goal

-- between two lines the carrier was given some of the kept lines again
abbrev pub invariant-loop : goal.invariant-loop
invariant-loop g l = Repeats l.fn.letters (g.C.Carrier.given l.fn.carrier) (g.C.Carrier.given l.carrier)
