use Rattle.std.proofs.Common.{◌≡◌, take}
use Rattle.hdfs_values.proofs.groups.Groups.from_slice.Given as goal

abbrev pub invariant-loop-who : goal.invariant-loop-who
invariant-loop-who l = l.copy.items ≡ take l.who-index l.list
