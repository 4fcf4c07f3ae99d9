use Rattle.block_records.specs.Numbers.{has_number}
use Rattle.block_tables.proofs.Indexes.{undone}
use Rattle.block_tables.proofs.block_table.reassign.Goals as goal

pub returns-then-is_err-clause-err : goal.returns-then-is_err-clause-err
returns-then-is_err-clause-err c =
    undone c.args.held.now c.insert_each.new.self c.remove_each.new.self c.args.block (λ n. has_number n c.args.fresh.now) c.in_ok-insert_each.ensures.ok c.remove_each.ensures c.requires
