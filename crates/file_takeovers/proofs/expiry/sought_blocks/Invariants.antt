use Rattle.std.proofs.Common.{◌≡◌, ◌++◌}
use Rattle.std.specs.BTreeMap.{values}
use Rattle.file_takeovers.specs.Expiry.{blocks_to_recover}
use Rattle.file_takeovers.proofs.expiry.sought_blocks.Given as goal

abbrev pub invariant-loop-file : goal.invariant-loop-file
invariant-loop-file l = record {
  can_next : (goal.iterator-loop-file).can_next l.file-iterator;
  is_finite : (goal.iterator-loop-file).is_finite l.file-iterator;
  blocks : l.sought.items ++ blocks_to_recover l.file-iterator ≡ blocks_to_recover (values l.files);
}
