use Rattle.std.proofs.Common.{◌≡◌, false, sym, subst}
use Rattle.std.specs.Result.{OnOk}
use Rattle.hdfs_types.specs.Verb.{write_op}
use Rattle.inode_tree.specs.Tree.{has_files, rows_deleted}
use Rattle.file_effects.specs.Effected.{IsFree, IsEffected}
use Rattle.file_effects.proofs.Effects.{free_complete}
use Rattle.file_effects.proofs.Effected.{effected_completion}
use Rattle.file_effects.proofs.effect.effect.Goals as goal

pub complete-requires-clause-held : goal.complete-requires-clause-held
complete-requires-clause-held c =
    free_complete c.in-Complete.path.now c.in-Complete.last c.args.caller.now c.args.tree.now c.requires.free.0 c.requires.namespace
    (subst (λ verb. IsFree (write_op verb) c.args.caller.now c.args.tree.now c.requires.free.0) c.in-Complete.is c.requires.free.1)

pub returns-in-Complete-clause-ok : goal.returns-in-Complete-clause-ok
returns-in-Complete-clause-ok c =
    subst (λ verb. OnOk c.complete.result (IsEffected (write_op verb) c.args.caller.now c.args.now c.args.tree.now c.args.writers.now c.complete.new.tree c.complete.new.writers)) (sym c.in-Complete.is)
    (effected_completion c.complete.result c.in-Complete.path.now c.in-Complete.last c.args.caller.now c.args.now c.args.tree.now c.complete.new.tree c.args.writers.now c.complete.new.writers c.complete.ensures.tree c.complete.ensures.exact)

pub delete-requires-clause-files : goal.delete-requires-clause-files
delete-requires-clause-files c = λ none. subst (λ verb. has_files (rows_deleted (write_op verb) c.args.tree.now) ≡ false) c.in-Delete.is (c.requires.files none)
