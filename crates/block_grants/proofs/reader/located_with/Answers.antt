use Rattle.std.proofs.Common.{sym, subst}
use Rattle.std.specs.List.Sorted.{IsStrictlyIncreasing}
use Rattle.std.specs.Map.{keys_of}
use Rattle.std.proofs.lemmas.Map.Keys.{IsStrictlyIncreasing-from_sorted}
use Rattle.block_grants.proofs.reader.located_with.Goals as goal

pub of_ascending-requires : goal.of_ascending-requires
of_ascending-requires c = subst IsStrictlyIncreasing (sym c.in_ok-nodes.ensures) (IsStrictlyIncreasing-from_sorted (keys_of c.args.own.now.reports) c.len-count.ensures.ascending)
