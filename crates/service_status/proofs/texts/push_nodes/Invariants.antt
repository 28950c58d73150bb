use Rattle.std.proofs.Common.{◌≡◌, ◌++◌, take, string_bytes}
use Rattle.std.specs.List.{flat_map}
use Rattle.service_status.specs.Texts.{node_line}
use Rattle.service_status.proofs.texts.push_nodes.Given as goal

-- a line was added for each node before this one
abbrev pub invariant-loop-seen : goal.invariant-loop-seen
invariant-loop-seen l = string_bytes l.text ≡ string_bytes l.fn.text ++ flat_map node_line (take l.seen-index l.nodes)
