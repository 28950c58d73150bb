use Rattle.std.proofs.Common.{string_bytes}
use Rattle.service_status.proofs.TextFacts.{says}
use Rattle.service_status.proofs.texts.text_of.Goals as goal

pub returns : goal.returns
returns c =
    says c.args.sight.now c.deref.result.now c.deref-2.result.now c.deref-3.result.now c.in_ok-claims.claims.items c.deref-4.result.now (string_bytes c.new-text.result) (string_bytes c.push_all.new.text)
    c.deref.ensures.value c.deref-2.ensures.value c.deref-3.ensures.value c.deref-4.ensures.value c.new-text.ensures.bytes
    c.in_ok-claims.ensures.exact c.in_ok-claims.ensures.once c.in_ok-claims.ensures.sorted c.in_ok-push_all.ensures
