use Rattle.std.proofs.Common.{◌∙◌}
use Rattle.inode_nodes.specs.Node.{rows}
use Rattle.inode_files.proofs.KeptChanges.{own_missing, own_clear, kept_made, seen_made}
use Rattle.inode_files.proofs.nodes.Nodes.make.Goals as goal

pub make-requires-clause-missing : goal.make-requires-clause-missing
make-requires-clause-missing c = own_missing c.self.inside.files (rows c.self.inside.root) c.args.self.now c.self.view_is c.args.path.now ∙ c.requires.missing

pub make-requires-clause-clear : goal.make-requires-clause-clear
make-requires-clause-clear c = own_clear c.self.inside.files (rows c.self.inside.root) c.args.self.now c.self.view_is c.args.path.now c.requires.clear

pub invariant_of-self-2 : goal.invariant_of-self-2
invariant_of-self-2 c =
    kept_made c.self.inside.files c.room_for.new.files c.keep.new.files c.args.file c.in_ok-place.place c.in_ok-place.ensures.same c.in_ok-place.ensures.room c.keep.ensures c.self.inside.root c.make.new.self
    c.self.invariant c.args.self.now c.self.view_is c.args.path.now c.args.mode c.args.owner.now c.requires.namespace c.requires.missing c.in_ok-make.ensures.ok

pub returns-clause-ok : goal.returns-clause-ok
returns-clause-ok c =
    seen_made c.self.inside.files c.room_for.new.files c.keep.new.files c.args.file c.in_ok-place.place c.in_ok-place.ensures.same c.in_ok-place.ensures.room c.keep.ensures c.self.inside.root c.make.new.self
    c.self.invariant c.args.self.now c.self.view_is c.args.path.now c.args.mode c.args.owner.now c.requires.namespace c.requires.missing c.in_ok-make.ensures.ok
