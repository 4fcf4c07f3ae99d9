use Rattle.std.proofs.Common.{◌∙◌, ap}
use Rattle.file_table.specs.Seen.{seen_rows}
use Rattle.inode_nodes.specs.Node.{rows}
use Rattle.inode_files.proofs.Places.{seen_same}
use Rattle.inode_files.proofs.KeptChanges.{own_parent, on_any_err, kept_inserted, seen_inserted}
use Rattle.inode_files.proofs.nodes.Nodes.insert.Goals as goal

pub returns-in_err-place-clause-err : goal.returns-in_err-place-clause-err
returns-in_err-place-clause-err c = on_any_err c.from_residual.result (seen_same c.self.inside.files c.room_for.new.files (rows c.self.inside.root) c.in_err-place.ensures.same ∙ c.self.view_is)

pub set_at-requires-clause-parent : goal.set_at-requires-clause-parent
set_at-requires-clause-parent c = own_parent c.self.inside.files (rows c.self.inside.root) c.args.self.now c.self.view_is c.args.path.now ∙ c.requires

pub returns-in_err-set_at-clause-err : goal.returns-in_err-set_at-clause-err
returns-in_err-set_at-clause-err c =
    on_any_err c.from_residual-in_err-set_at.result
    (ap (λ f. seen_rows f (rows c.set_at.new.root)) c.in_err-set_at.ensures.err_files ∙ ap (λ n. seen_rows c.room_for.new.files (rows n)) c.in_err-set_at.ensures.err_root
    ∙ seen_same c.self.inside.files c.room_for.new.files (rows c.self.inside.root) c.in_ok-place.ensures.same ∙ c.self.view_is)

pub invariant_of-self-2 : goal.invariant_of-self-2
invariant_of-self-2 c =
    kept_inserted c.self.inside.files c.room_for.new.files c.set_at.new.files c.args.file c.in_ok-place.place c.in_ok-place.ensures.same c.in_ok-place.ensures.room
    c.self.inside.root c.new-new.result c.set_at.new.root c.self.invariant c.args.path.now c.in_ok-set_at.ensures.ok_files
    c.args.owner c.args.group c.args.acl c.new-new.ensures c.in_ok-set_at.ensures.ok_rows

pub returns-clause-ok : goal.returns-clause-ok
returns-clause-ok c =
    seen_inserted c.self.inside.files c.room_for.new.files c.set_at.new.files c.args.file c.in_ok-place.place c.in_ok-place.ensures.same c.in_ok-place.ensures.room
    c.self.inside.root c.new-new.result c.set_at.new.root c.self.invariant c.args.path.now c.in_ok-set_at.ensures.ok_files
    c.args.owner c.args.group c.args.acl c.new-new.ensures c.in_ok-set_at.ensures.ok_rows c.args.self.now c.self.view_is
