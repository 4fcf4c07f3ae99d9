-- Each node of a directory has fewer rows beneath it than the directory.
use Rattle.std.specs.Prelude.{ℕ, ◌+◌, ◌≤◌, max, List, [], ◌∷◌, length, map}
use Rattle.std.proofs.Common.{arith, length-append}
use Rattle.std.proofs.lemmas.List.{length-map}
use Rattle.std.specs.Map.{values_of}
use denote.Param.Weighed.{most}
use Rattle.inode_nodes.specs.Node.{Node, flatten, rows, under}
use Rattle.inode_nodes.specs.Kept.{rows_in}
use Rattle.inode_nodes.specs.declared.node.Held.{Held}
use Rattle.inode_nodes.specs.declared.node.Held.TheVariants.{File, Directory}
use Rattle.inode_nodes.specs.declared.node.Node.TheDeep.{deep-Held}

pub most_le : (es : List (List ℕ × Node)) → most (λ b. length b.beneath + 1) (values_of es) ≤ length (flatten es)
most_le [] = omega arith
most_le (e ∷ es) = omega (arith, most_le es, length-append (map (under e.0) (rows e.1)) (flatten es), length-map (rows e.1) (under e.0))

pub falls : (h : Held) → max (deep-Held h) 0 ≤ length (rows_in h)
falls (File place) = omega arith
falls (Directory m) = omega (arith, most_le m.entries)
