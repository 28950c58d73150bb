use Rattle.std.proofs.Common.{◌≡◌, ◌++◌, take, string_bytes}
use Rattle.std.specs.List.{flat_map}
use Rattle.service_status.specs.Texts.{client_line}
use Rattle.service_status.proofs.texts.push_clients.Given as goal

-- a line was added for each client before this one
abbrev pub invariant-loop-seen : goal.invariant-loop-seen
invariant-loop-seen l = string_bytes l.text ≡ string_bytes l.fn.text ++ flat_map client_line (take l.seen-index l.clients)
