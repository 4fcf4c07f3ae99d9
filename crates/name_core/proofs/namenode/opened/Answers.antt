use Rattle.std.proofs.Common.{rules}
use Rattle.name_core.proofs.Opened.{opened_exact}
use Rattle.name_core.proofs.namenode.opened.Goals as goal

pub returns : goal.returns
returns c =
    let exact = opened_exact c.in_ok-tree.tree c.in_ok-writers.writers c.durations-durations.result.soft_limit c.durations-durations.result.hard_limit c.in_ok-tree.ensures c.in_ok-writers.ensures in
    record { tree = c.in_ok-tree.ensures; users = search rules; ring = search rules; blocks = search rules; exact = exact; limits = search rules; latest = search rules }
