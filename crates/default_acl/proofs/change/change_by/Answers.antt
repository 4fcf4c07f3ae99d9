use Rattle.std.proofs.lemmas.Result.{err_from_is_err_and}
use Rattle.partial_acl.specs.AclChange.{acl_change}
use Rattle.default_acl.specs.Forms.{change_of}
use Rattle.default_acl.proofs.Changing.{unchanged}
use Rattle.default_acl.proofs.change.change_by.Goals as goal

pub returns-in_err-acl : goal.returns-in_err-acl
returns-in_err-acl c =
    let p = err_from_is_err_and c.from_residual.result c.from_residual.ensures.1 in
    rw (p.1, p.2) (unchanged c.in_err-acl.field-0.0 (acl_change (change_of c.args.form c.args.spec.now) c.args.kind c.args.acl.now) c.args.acl.now c.in_err-acl.ensures)
