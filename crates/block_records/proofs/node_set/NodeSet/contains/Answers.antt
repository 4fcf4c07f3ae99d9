use Rattle.std.proofs.Common.{◌∙◌}
use Rattle.block_records.proofs.Searches.{found_number}
use Rattle.block_records.proofs.node_set.NodeSet.contains.Goals as goal

pub returns : goal.returns
returns c =
    rw (← c.as_slice.ensures.nodes) (c.is_ok.ensures.value ∙ found_number _ c.args.node _ c.binary_search.ensures.position (rw c.as_slice.ensures.nodes c.as_slice.ensures.ascending))
