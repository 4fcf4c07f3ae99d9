use Rattle.std.proofs.Common.{take, ◌∷◌}
use Rattle.std.specs.List.{flat_map}
use Rattle.std.specs.Fmt.{HasWritten, IsPlainFormatter}
use Rattle.permission_specs.specs.Entry.{entry_text}
use Rattle.acl_entries.specs.Acl.{named_entry}
use Rattle.acl_entries.proofs.print.FollowingDisplay.fmt.Given as goal

abbrev pub invariant-loop-entry : goal.invariant-loop-entry
invariant-loop-entry g l =
    IsPlainFormatter l.initial.f → HasWritten g.W.Write.write_str_gives l.initial.f (flat_map (λ entry. 44 ∷ entry_text (named_entry l.scope l.kind entry)) (take l.entry-index l.entry-items)) l.f
