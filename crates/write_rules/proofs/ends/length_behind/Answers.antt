use Rattle.std.proofs.Common.{◌∙◌, sym, ap}
use Rattle.flat_rows.specs.BlockOutcome.{is_last, with_last}
use Rattle.file_blocks.specs.Blocks.{length_of}
use Rattle.write_rules.proofs.LastLength.{told_is, length_committed}
use Rattle.write_rules.proofs.ends.length_behind.Goals as goal

pub returns-in-Some-length_behind_last : goal.returns-in-Some-length_behind_last
returns-in-Some-length_behind_last c =
    told_is c.in-Some-length_behind_last.length _ (sym c.in-Some-length_behind_last.is ∙ c.length_behind_last.ensures)
    ∙ (sym (length_committed c.in-Some.last.block c.in-Some.last.length c.args.file.now.blocks (ap (λ last. is_last last c.args.file.now.blocks) (sym c.in-Some.is) ∙ c.requires))
    ∙ ap (λ last. length_of (with_last last c.args.file.now).blocks) (sym c.in-Some.is))
