use Rattle.std.proofs.Common.{◌≡◌, ℕ, List, [], ◌∷◌, ◌++◌, Some, Contains, ap, subst, sym, ◌∙◌}
use Rattle.std.proofs.lemmas.List.Elements.{Contains-push}
use Rattle.lock_messages.specs.declared.ids.Actor.{Actor}
use Rattle.lossy_link.specs.declared.parcels.Sending.TheVariants.{Sent}
use Rattle.lossy_link.specs.Links.{one_more}
use Rattle.line_link.specs.Carried.{Given, LinedLink, AreAmong, given_before, line_for, lines_given, sendings}
use Rattle.line_link.proofs.CarriedFacts.{gives_sent, lines_after_sent, among_more, sendings_on}
use Rattle.line_link.proofs.links.LineLinkLink.send.Goals as goal

pub invariant_of-self-2 : goal.invariant_of-self-2
invariant_of-self-2 g c =
    let k = c.self.inside in
    let old = g.C.Carrier.given k.carrier in
    let new = g.C.Carrier.given c.put_frame.new.carrier in
    let more = c.and-self-inside.result.items in
    let line = line_for k.secret c.args.to c.args.parcel.frame in
    let lines = lines_given k.secret (sendings k.made.items) in
    let put : c.in-Ok.letter ≡ line = c.in-Ok.ensures.line ∙ ap (λ (f : List ℕ). line_for k.secret c.args.to f) c.as_slice.ensures in
    let grown = lines_after_sent k.secret k.made.items more c.args.to k.own c.args.parcel c.and-self-inside.ensures in
    let kept : AreAmong c.keep.new.self (lines ++ line ∷ []) = c.keep.ensures (lines ++ line ∷ []) (among_more k.letters lines line c.self.invariant.1) (subst (λ (l : Actor × List ℕ). Contains (lines ++ line ∷ []) l) (sym put) (Contains-push lines line)) in (
      gives_sent k.secret (given_before g.C.Carrier.given k.opened.items) old new k.made.items more c.args.to k.own c.args.parcel c.self.invariant.0 (c.in-Ok.ensures.given ∙ ap (one_more old) put) c.and-self-inside.ensures,
      subst (λ (ls : Given). AreAmong c.keep.new.self ls) (sym grown) kept,
    )

pub returns-clause-sent : goal.returns-clause-sent
returns-clause-sent g c =
    let k = c.self.inside in
    let more = c.and-self-inside.result.items in
    subst (λ (l : LinedLink). Some (sendings more) ≡ one_more (Some l.given) (Sent c.args.to c.args.parcel)) c.self.view_is
    (ap Some (ap sendings c.and-self-inside.ensures ∙ sendings_on k.made.items (Sent c.args.to c.args.parcel, k.own)))
