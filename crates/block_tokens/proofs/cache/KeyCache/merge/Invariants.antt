use Rattle.std.proofs.Common.{◌≡◌, take}
use Rattle.block_tokens.specs.KeyList.{AreKeys, merged_keys}
use Rattle.block_tokens.proofs.cache.KeyCache.merge.Given as goal

abbrev pub invariant-loop-serial : goal.invariant-loop-serial
invariant-loop-serial l = record {
  taken_in : l.keys.entries ≡ merged_keys l.self-inside.keys.entries (take l.serial-index l.serial-items);
  ordered : AreKeys l.keys.entries;
}
