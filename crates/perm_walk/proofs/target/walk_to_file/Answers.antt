use Rattle.std.proofs.Common.{◌∙◌, sym, ap, subst}
use Rattle.std.specs.Option.{option_copied}
use Rattle.perm_walk.specs.Target.{IsTarget, file_at_row}
use Rattle.perm_walk.proofs.Standing.{missing_file, free_file, directory_refused}
use Rattle.perm_walk.proofs.target.walk_to_file.Goals as goal

pub returns-in-Refused : goal.returns-in-Refused
returns-in-Refused c =
    let refused = subst (IsTarget c.args.path.now c.args.tree.now c.args.caller.now c.args.needs.now) c.in-Refused.is c.in_ok-denial.ensures in
    record { granted = refused.granted; refused = missing_file c.args.path.now c.args.tree.now c.in-Refused.refusal refused.refused }

pub returns-in-Some : goal.returns-in-Some
returns-in-Some c =
    let at = subst (IsTarget c.args.path.now c.args.tree.now c.args.caller.now c.args.needs.now) c.in-There.is c.in_ok-denial.ensures in
    let held = sym (ap (λ row. row.file) c.inode.ensures) ∙ sym c.file.ensures ∙ ap option_copied c.in-Some.is in
    record {
      granted = at.granted;
      there = record {
        at = ap file_at_row at.there.at ∙ held;
        free = free_file c.args.path.now c.args.tree.now c.in-There.component c.in-Some.file.now at.tree at.there.at held at.there.free;
      };
    }

pub returns-in-None : goal.returns-in-None
returns-in-None c =
    let at = subst (IsTarget c.args.path.now c.args.tree.now c.args.caller.now c.args.needs.now) c.in-There.is c.in_ok-denial.ensures in
    let none = sym (ap (λ row. row.file) c.inode.ensures) ∙ sym c.file.ensures ∙ ap option_copied c.in-None.is in
    record { granted = at.granted; refused = directory_refused c.args.path.now c.args.tree.now c.in-There.component at.tree at.there.at none at.there.free }
