use Rattle.std.proofs.Common.{◌≡◌, ◌++◌, drop}
use Rattle.std.specs.Prelude.{codes}
use Rattle.std.specs.Fmt.{decimal}
use Rattle.std.specs.List.{flat_map}
use Rattle.std.specs.String.{string_bytes}
use Rattle.script_text.proofs.blocks.print_following.Given as goal

abbrev pub invariant-loop-node : goal.invariant-loop-node
invariant-loop-node l =
    string_bytes l.line ++ flat_map (λ node. codes "," ++ decimal node) (drop l.node-index l.nodes) ≡ string_bytes l.initial.line ++ flat_map (λ node. codes "," ++ decimal node) l.nodes
