use Rattle.std.proofs.Common.{ap, length, arith}
use Rattle.inode_visits.proofs.Limits.{bytes_fit}
use Rattle.inode_visits.proofs.limit.text_bytes.Goals as goal

pub overflow_add-bytes-in-loop-name : goal.overflow_add-bytes-in-loop-name
overflow_add-bytes-in-loop-name c =
    let fit =
    bytes_fit c.names-name-items.result.now c.args.path.now c.loop-name.name-index c.loop-name.bytes c.name-item.result c.names-name-items.ensures.names c.names-name-items.ensures.path c.loop-name-test.true c.name-item.is c.loop-name.invariant in
    omega (arith, fit, ap length c.as_str.ensures.text)
