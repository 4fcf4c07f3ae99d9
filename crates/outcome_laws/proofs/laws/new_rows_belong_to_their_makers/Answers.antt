use Rattle.std.proofs.Common.{◌≡◌, true, ◌++◌, Some, None, refl, sym, ap, ◌∙◌, subst}
use Rattle.std.specs.List.{list_all}
use Rattle.std.specs.Option.{IsSomeAnd}
use Rattle.hdfs_values.specs.Text.{same}
use Rattle.hdfs_values.proofs.Texts.{same_is}
use Rattle.acl_entries.specs.Acl.{shown_mode}
use Rattle.namespace_rows.specs.declared.row.Row.{Row}
use Rattle.namespace_rows.specs.Files.{new_file}
use Rattle.namespace_rows.specs.Rows.{row_at, ancestor}
use Rattle.flat_rows.specs.Outcome.{new_rows, rows_after}
use Rattle.permission_laws.specs.Attempt.{may}
use Rattle.permission_laws.proofs.Endings.{either_way}
use Rattle.permission_laws.proofs.LastAbove.{last_is_ancestor}
use Rattle.outcome_laws.specs.Laws.{IsNewFile}
use Rattle.outcome_laws.proofs.Modes.{shown_of_directory, shown_of_file}
use Rattle.outcome_laws.proofs.Making.{made_there}
use Rattle.outcome_laws.proofs.Made.{made_or_there, directory_made, file_there}
use Rattle.outcome_laws.proofs.Appearing.{owners, groups, never, appears, same_path_of, same_row_of}
use Rattle.outcome_laws.proofs.Parents.{serves, all_serve, whole_of, path_found, serving_maker}
use Rattle.outcome_laws.proofs.laws.new_rows_belong_to_their_makers.Goals as goal

pub returns-clause-owner : goal.returns-clause-owner
returns-clause-owner c = λ a path row other free after.
    either_way a.facts a.rows a.users a.caller a.op (λ some. row_at path some ≡ Some row → row.owner ≡ a.caller)
    (λ at. absurd (never path a.rows free row at))
    (λ at. sym (same_is a.caller row.owner (appears path a.rows free a.facts a.caller (λ r. same a.caller r.owner) row a.op other (λ top above mode file names cut is e. owners a.caller mode file above names) at)))
    after

pub returns-clause-group : goal.returns-clause-group
returns-clause-group c = λ a made path above row namespace other is last free after.
    either_way a.facts a.rows a.users a.caller a.op (λ some. row_at path some ≡ Some row → row.group ≡ above.group)
    (λ at. absurd (never path a.rows free row at))
    (λ at. sym (same_is above.group row.group (appears path a.rows free a.facts a.caller (λ r. same above.group r.group) row a.op other
    (λ top there mode file names cut is_top e.
    let last_above : Some there ≡ Some above =
    sym e ∙ ap (λ p. ancestor p a.rows) (same_path_of (sym is_top ∙ is)) ∙ last_is_ancestor a.rows namespace made above last.stands last.above_path last.last in
    subst (λ r. list_all (λ x. same r.group x.group) (new_rows there a.caller mode file names) ≡ true) (same_row_of last_above) (groups a.caller mode file there names)) at)))
    after

pub returns-clause-made : goal.returns-clause-made
returns-clause-made c = λ a path mode namespace is_done asked.
    made_or_there a path mode namespace is_done asked (row_at path a.rows) refl

pub returns-clause-written : goal.returns-clause-written
returns-clause-written c = λ a path mode replication over above namespace is_done asked last.
    let made = made_there mode (Some (new_file replication a.caller)) a.caller path a.rows above (last_is_ancestor a.rows namespace path above last.stands last.above_path last.last) in
    subst (λ o. IsSomeAnd o (IsNewFile a above replication)) (sym (file_there a path mode replication over above namespace is_done asked last ∙ made.there))
    (record { owner = made.owner_is; group = made.group_is; file = made.file_is })

pub returns-clause-directories : goal.returns-clause-directories
returns-clause-directories c = λ a path mode above row namespace is_mode is_done asked free last none after.
    let made = made_there mode None a.caller path a.rows above (last_is_ancestor a.rows namespace path above last.stands last.above_path last.last) in
    let is : row ≡ made.row = same_row_of (sym after ∙ directory_made a path mode above namespace is_done asked free last ∙ made.there) in
    ap (λ (r : Row). shown_mode r.acl) is ∙ ap shown_mode (made.list_is none) ∙ shown_of_directory mode is_mode

pub returns-clause-files : goal.returns-clause-files
returns-clause-files c = λ a path mode replication over above row namespace is_mode is_done asked last none after.
    let made = made_there mode (Some (new_file replication a.caller)) a.caller path a.rows above (last_is_ancestor a.rows namespace path above last.stands last.above_path last.last) in
    let is : row ≡ made.row = same_row_of (sym after ∙ file_there a path mode replication over above namespace is_done asked last ∙ made.there) in
    ap (λ (r : Row). shown_mode r.acl) is ∙ ap shown_mode (made.list_is none) ∙ shown_of_file mode is_mode

pub returns-clause-parents : goal.returns-clause-parents
returns-clause-parents c = λ a made path above row namespace other is last none under free after.
    either_way a.facts a.rows a.users a.caller a.op (λ some. row_at path some ≡ Some row → may 3 a row ≡ true)
    (λ at. absurd (never path a.rows free row at))
    (λ at.
    let owned : same a.caller row.owner ≡ true = appears path a.rows free a.facts a.caller (λ r. same a.caller r.owner) row a.op other (λ top there mode file names cut is_top e. owners a.caller mode file there names) at in
    let serving : serves made row ≡ true =
    appears path a.rows free a.facts a.caller (serves made) row a.op other
    (λ top there mode file names cut is_top e.
    let one_path : made ≡ top = same_path_of (sym is ∙ is_top) in
    let last_above : there ≡ above = same_row_of (sym e ∙ ap (λ p. ancestor p a.rows) (sym one_path) ∙ last_is_ancestor a.rows namespace made above last.stands last.above_path last.last) in
    all_serve made a.caller mode file there names (ap (λ (r : Row). r.acl.default) last_above ∙ none)
    (one_path ∙ whole_of top a.rows there e ∙ ap (λ names. there.path ++ names) (sym cut)))
    at in
    serving_maker made a path row (path_found path (rows_after a.facts a.op a.caller a.rows) row at) under owned serving)
    after
