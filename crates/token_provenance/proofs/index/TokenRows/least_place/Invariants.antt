use Rattle.std.proofs.Common.{◌≡◌, take, map}
use Rattle.token_provenance.specs.Provenance.{least_place}
use Rattle.token_provenance.proofs.index.TokenRows.least_place.Given as goal

abbrev pub invariant-loop-row : goal.invariant-loop-row
invariant-loop-row l = l.least ≡ least_place (map (λ row. row.now) (take l.row-index l.row-items)) l.entry
