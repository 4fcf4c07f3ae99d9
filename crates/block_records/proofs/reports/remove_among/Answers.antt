use Rattle.std.proofs.Common.{◌∙◌, sym}
use Rattle.block_records.proofs.Standing.{removed_there, removed_absent}
use Rattle.block_records.proofs.reports.remove_among.Goals as goal

pub returns-in-Ok : goal.returns-in-Ok
returns-in-Ok c = c.remove.ensures.items ∙ removed_there c.args.node c.args.reports.now.items c.in-Ok.at (rw (← c.deref.ensures.value) c.in-Ok.ensures.there)

pub returns-in_default : goal.returns-in_default
returns-in_default c = sym (removed_absent c.args.node c.args.reports.now.items c.in_default.field-0 c.requires (rw (← c.deref.ensures.value) c.in_default.ensures.absent))
