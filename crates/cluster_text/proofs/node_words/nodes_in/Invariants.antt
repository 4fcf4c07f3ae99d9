use Rattle.std.proofs.Common.{◌≡◌, map, drop}
use Rattle.cluster_text.specs.Words.{nodes_in}
use Rattle.cluster_text.proofs.Nodes.{continued}
use Rattle.cluster_text.proofs.node_words.nodes_in.Given as goal

abbrev pub invariant-loop-piece : goal.invariant-loop-piece
invariant-loop-piece l = continued l.nodes.items (nodes_in (map (λ x. x.now) (drop l.piece-index l.pieces))) ≡ nodes_in (map (λ x. x.now) l.pieces)
