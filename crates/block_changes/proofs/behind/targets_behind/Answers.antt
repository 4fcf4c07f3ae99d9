use Rattle.std.proofs.Common.{◌≡◌, Option, None, IfOk, rules, subst, sym}
use Rattle.block_records.specs.declared.last_block.LastBlock.{LastBlock}
use Rattle.block_changes.specs.Behind.{targets_behind}
use Rattle.block_changes.proofs.behind.targets_behind.Goals as goal

pub returns-in-None : goal.returns-in-None
returns-in-None c =
    let none : c.args.last.now ≡ None = search rules in
    let there : IfOk c.targets.result (λ targets. targets ≡ targets_behind None c.args.known.now c.args.replication c.args.live.now) = search rules in
    subst (λ (last : Option LastBlock). IfOk c.targets.result (λ targets. targets ≡ targets_behind last c.args.known.now c.args.replication c.args.live.now)) (sym none) there
