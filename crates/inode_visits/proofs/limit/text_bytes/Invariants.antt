use Rattle.std.proofs.Common.{◌≡◌, take}
use Rattle.inode_visits.specs.Limits.{bytes_of}
use Rattle.inode_visits.proofs.limit.text_bytes.Given as goal

abbrev pub invariant-loop-name : goal.invariant-loop-name
invariant-loop-name l = l.bytes ≡ bytes_of (take l.name-index l.path)
