use Rattle.std.proofs.Common.{sym, ◌∙◌}
use Rattle.namespace_rows.specs.Changes.{rows_under}
use Rattle.file_effects.proofs.Fileless.{no_holders, no_ids}
use Rattle.file_effects.proofs.effect.files_at.Goals as goal

pub returns-then-not-has_files-clause-clients : goal.returns-then-not-has_files-clause-clients
returns-then-not-has_files-clause-clients c = c.new.ensures.items ∙ no_holders (rows_under c.args.path.now c.args.tree.now) (c.requires c.if-not-has_files.true)

pub returns-then-not-has_files-clause-blocks : goal.returns-then-not-has_files-clause-blocks
returns-then-not-has_files-clause-blocks c = c.new-then-not-has_files-2.ensures.items ∙ no_ids (rows_under c.args.path.now c.args.tree.now) (c.requires c.if-not-has_files.true)

pub returns-then-not-has_files-clause-any : goal.returns-then-not-has_files-clause-any
returns-then-not-has_files-clause-any c = sym (c.requires c.if-not-has_files.true)
