use Rattle.std.proofs.Common.{◌++◌, ap, ◌∙◌}
use Rattle.namespace_rows.specs.Rows.{row_at}
use Rattle.flat_rows.specs.Outcome.{rows_after}
use Rattle.permission_laws.proofs.Endings.{done}
use Rattle.permission_laws.proofs.Elsewhere.{without_there, moved_there, moved_away}
use Rattle.permission_laws.proofs.laws.deletions_and_renames_take_all.Goals as goal

pub returns-clause-deleted : goal.returns-clause-deleted
returns-clause-deleted c = λ a path recursive other is_done asked inside.
    ap (row_at other) (done a.facts a.rows a.users a.caller a.op is_done).left ∙ ap (λ o. row_at other (rows_after a.facts o a.caller a.rows)) asked ∙ without_there a.rows other path inside

pub returns-clause-moved : goal.returns-clause-moved
returns-clause-moved c = λ a from to names row is_done asked there.
    ap (row_at (to ++ names)) (done a.facts a.rows a.users a.caller a.op is_done).left ∙ ap (λ o. row_at (to ++ names) (rows_after a.facts o a.caller a.rows)) asked ∙ moved_there from to names a.rows row there

pub returns-clause-left : goal.returns-clause-left
returns-clause-left c = λ a from to other is_done asked inside apart.
    ap (row_at other) (done a.facts a.rows a.users a.caller a.op is_done).left ∙ ap (λ o. row_at other (rows_after a.facts o a.caller a.rows)) asked ∙ moved_away a.rows other from to inside apart
