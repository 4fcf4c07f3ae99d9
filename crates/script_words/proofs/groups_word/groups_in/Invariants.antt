use Rattle.std.proofs.Common.{◌≡◌, map, take, drop}
use Rattle.std.specs.List.{list_all}
use Rattle.hdfs_values.specs.Who.{is_who}
use Rattle.script_words.proofs.groups_word.groups_in.Given as goal

abbrev pub invariant-loop-piece : goal.invariant-loop-piece
invariant-loop-piece l = record {
  read : l.groups.items ≡ map (λ x. x.now) (take l.piece-index l.pieces);
  left : list_all is_who (map (λ x. x.now) (drop l.piece-index l.pieces)) ≡ list_all is_who (map (λ x. x.now) l.pieces);
}
