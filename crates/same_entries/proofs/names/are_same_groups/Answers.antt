use Rattle.std.proofs.lemmas.Slice.Eq.{slice_eq-Decides}
use Rattle.same_entries.proofs.Deciding.{text_decides}
use Rattle.same_entries.proofs.names.are_same_groups.Goals as goal

pub returns : goal.returns
returns c = slice_eq-Decides text_decides c.args.groups.now c.args.others.now c.eq.result c.eq.ensures
