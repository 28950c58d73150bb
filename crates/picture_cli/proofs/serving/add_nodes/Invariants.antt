use Rattle.std.proofs.Common.{◌≡◌, ◌++◌, map}
use Rattle.std.specs.List.{range_with_len}
use Rattle.picture_cli.specs.Drawing.{node_down}
use Rattle.picture_cli.proofs.serving.add_nodes.Given as goal

abbrev pub invariant-loop-before : goal.invariant-loop-before
invariant-loop-before l = l.lasting.items ≡ l.fn.lasting.items ++ map node_down (range_with_len 1 l.before)
