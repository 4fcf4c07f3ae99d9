use Rattle.std.proofs.Common.{take}
use Rattle.token_provenance.specs.Index.{IsIndex}
use Rattle.token_provenance.proofs.index.TokenIndex.of.Given as goal

abbrev pub invariant-loop-row : goal.invariant-loop-row
invariant-loop-row l = IsIndex l.index (take l.row-index l.rows)
