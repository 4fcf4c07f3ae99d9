use Rattle.std.proofs.Common.{◌≡◌, ◌∙◌, ap, cond, Some}
use Rattle.block_records.specs.Numbers.{is_number, entry_at}
use Rattle.block_tables.proofs.block_table.BlockTable.insert.Goals as goal
use Rattle.block_tables.proofs.block_table.BlockTable.insert.Goals.{in-Ok+in-Some-1, in-Ok+in-None-1, in-Err-1}

pub returns-clause-others : goal.returns-clause-others
returns-clause-others c = λ q.
    let same : c.match-this.self ≡ c.insert.new.self.entries = elim c.match-this.branch [ in-Ok+in-Some-1 w ↦ w.self-is | in-Ok+in-None-1 w ↦ w.self-is | in-Err-1 w ↦ w.self-is ] in
    ap (entry_at q) same ∙ (c.in_default.ensures.updates.0 q ∙ ap (λ table. cond (is_number c.args.block q) (Some c.args.own) (entry_at q table)) c.self.view_is)
