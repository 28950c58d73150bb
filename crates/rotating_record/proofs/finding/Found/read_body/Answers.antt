use Rattle.std.proofs.Common.{◌≡◌, ◌≤◌, ℕ, ◌+◌, ap, length, drop, take, arith}
use Rattle.std.proofs.lemmas.List.{length-take-le}
use Rattle.rotating_record.proofs.SlotFacts.{holder_fits}
use Rattle.rotating_record.proofs.FindFacts.{body_read}
use Rattle.slot_record.specs.KeepLaws.{both_ok}
use Rattle.rotating_record.proofs.finding.Found.read_body.Goals as goal

pub slice_bounds-read_at-end : goal.slice_bounds-read_at-end
slice_bounds-read_at-end g c =
    let fits = holder_fits c.args.self.known.own (g.P.Plate.state c.args.plate.now).seen c.requires.found.0.holder in
    omega (arith, fits, c.requires.found.1, c.requires.body)

pub slice_bounds-read_at-end-2 : goal.slice_bounds-read_at-end-2
slice_bounds-read_at-end-2 g c =
    let fits = holder_fits c.args.self.known.own (g.P.Plate.state c.args.plate.now).seen c.requires.found.0.holder in
    let le : c.args.self.length ≤ length c.args.body.now = omega (arith, fits, c.requires.found.1, c.requires.body) in
    omega (arith, length-take-le c.args.self.length c.args.body.now le)

pub returns-clause-read : goal.returns-clause-read
returns-clause-read g c =
    let seen = (g.P.Plate.state c.args.plate.now).seen in
    let own = c.args.self.known.own in
    let fits = holder_fits own seen c.requires.found.0.holder in
    let le : c.args.self.length ≤ length c.args.body.now = omega (arith, fits, c.requires.found.1, c.requires.body) in
    let m = length-take-le c.args.self.length c.args.body.now le in
    let long : length c.read_at.new.buffer ≡ length (take c.args.self.length c.args.body.now) = omega arith in
    both_ok c.read_at.result _ _ _ c.read_at.ensures.read c.read_at.ensures.seen
    (λ is stays. body_read own seen (g.P.Plate.state c.read_at.new.self).seen (c.start.result + 4108) c.args.self.length (length (take c.args.self.length c.args.body.now)) c.read_at.new.buffer (drop c.args.self.length c.args.body.now)
    (ap (λ (j : ℕ). j + 4108) c.start.ensures) m c.requires.found.1 long is stays)
