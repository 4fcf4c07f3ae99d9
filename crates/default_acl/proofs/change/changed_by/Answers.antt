use Rattle.std.proofs.Common.{◌≡◌, Bool, List, Option, Ok, Err, sym, ap, subst, ◌∙◌}
use Rattle.std.proofs.lemmas.Result.{err_from_is_err_and}
use Rattle.permission_specs.specs.declared.entry.Entry.{Entry}
use Rattle.refusals.specs.declared.refusal.Refusal.TheVariants.{BadAcl}
use Rattle.acl_entries.specs.Acl.{EntryList, IsAcl}
use Rattle.partial_acl.specs.AclChange.{access_after, acl_change, default_after}
use Rattle.default_acl.specs.Forms.{MakesChanged, change_of}
use Rattle.partial_acl.specs.Answers.{Makes, MakesAny}
use Rattle.default_acl.proofs.Changing.{faulted, refused_by_access, refused_by_default, made_good, done}
use Rattle.default_acl.proofs.change.changed_by.Goals as goal

pub returns-in-Some : goal.returns-in-Some
returns-in-Some c =
    let entries = c.as_slice-entries.result.now in
    let change = change_of c.args.form entries in
    subst (λ (spec : List Entry). acl_change (change_of c.args.form spec) c.args.kind c.args.acl.now ≡ Err (BadAcl c.in-Some.fault)) c.as_slice-entries.ensures.entries
    (faulted change c.args.kind c.args.acl.now c.in-Some.fault (sym c.in-Some.is ∙ c.fault_of.ensures))
    ∙ ap (λ fault. Err (BadAcl fault)) (sym c.of.ensures)

pub returns-in_err-access : goal.returns-in_err-access
returns-in_err-access c =
    let p = err_from_is_err_and c.from_residual.result c.from_residual.ensures.1 in
    let entries = c.as_slice-entries.result.now in
    let change = change_of c.args.form entries in
    let fault = c.in_err-access.field-0.0 in
    let refused : Makes (Err fault) (access_after change c.args.acl.now.access) =
    subst (λ (old : EntryList). Makes (Err fault) (access_after change old)) c.access.ensures.list c.in_err-access.ensures in
    rw (p.1, p.2)
    (subst (λ (spec : List Entry). MakesChanged (Err fault) (acl_change (change_of c.args.form spec) c.args.kind c.args.acl.now)) c.as_slice-entries.ensures.entries
    (refused_by_access change c.args.kind c.args.acl.now fault (sym c.in_default.is ∙ c.fault_of.ensures) refused))

pub returns-in_err-default : goal.returns-in_err-default
returns-in_err-default c =
    let p = err_from_is_err_and c.from_residual-in_err-default.result c.from_residual-in_err-default.ensures.1 in
    let entries = c.as_slice-entries.result.now in
    let change = change_of c.args.form entries in
    let fault = c.in_err-default.field-0.0 in
    let made : Makes (Ok c.in_ok-access.access) (access_after change c.args.acl.now.access) =
    subst (λ (old : EntryList). Makes (Ok c.in_ok-access.access) (access_after change old)) c.access.ensures.list c.in_ok-access.ensures in
    let refused : MakesAny (Err fault) (default_after change c.in_ok-access.access c.args.acl.now.default) =
    subst (λ (old : Option EntryList). MakesAny (Err fault) (default_after change c.in_ok-access.access old)) c.default_list.ensures c.in_err-default.ensures in
    rw (p.1, p.2)
    (subst (λ (spec : List Entry). MakesChanged (Err fault) (acl_change (change_of c.args.form spec) c.args.kind c.args.acl.now)) c.as_slice-entries.ensures.entries
    (refused_by_default change c.args.kind c.args.acl.now c.in_ok-access.access made.0 fault (sym c.in_default.is ∙ c.fault_of.ensures) refused))

pub new-requires : goal.new-requires
new-requires c =
    let entries = c.as_slice-entries.result.now in
    let change = change_of c.args.form entries in
    let made : Makes (Ok c.in_ok-access.access) (access_after change c.args.acl.now.access) =
    subst (λ (old : EntryList). Makes (Ok c.in_ok-access.access) (access_after change old)) c.access.ensures.list c.in_ok-access.ensures in
    let made_too : MakesAny (Ok c.in_ok-default.default) (default_after change c.in_ok-access.access c.args.acl.now.default) =
    subst (λ (old : Option EntryList). MakesAny (Ok c.in_ok-default.default) (default_after change c.in_ok-access.access old)) c.default_list.ensures c.in_ok-default.ensures in
    subst (λ (sticky : Bool). IsAcl (record { sticky = sticky; access = c.in_ok-access.access; default = c.in_ok-default.default })) (sym c.is_sticky.ensures)
    (made_good change c.args.kind c.args.acl.now c.in_ok-access.access made.0 c.in_ok-default.default made_too.0 c.access.ensures.acl)

pub returns : goal.returns
returns c =
    let entries = c.as_slice-entries.result.now in
    let change = change_of c.args.form entries in
    let made : Makes (Ok c.in_ok-access.access) (access_after change c.args.acl.now.access) =
    subst (λ (old : EntryList). Makes (Ok c.in_ok-access.access) (access_after change old)) c.access.ensures.list c.in_ok-access.ensures in
    let made_too : MakesAny (Ok c.in_ok-default.default) (default_after change c.in_ok-access.access c.args.acl.now.default) =
    subst (λ (old : Option EntryList). MakesAny (Ok c.in_ok-default.default) (default_after change c.in_ok-access.access old)) c.default_list.ensures c.in_ok-default.ensures in
    subst (λ (spec : List Entry). acl_change (change_of c.args.form spec) c.args.kind c.args.acl.now ≡ Ok c.in_ok-new.field-0) c.as_slice-entries.ensures.entries
    (done change c.args.kind c.args.acl.now c.in_ok-access.access made.0 c.in_ok-default.default made_too.0 (sym c.in_default.is ∙ c.fault_of.ensures) made.1 made_too.1
    ∙ ap (λ (sticky : Bool). Ok (record { sticky = sticky; access = c.in_ok-access.access; default = c.in_ok-default.default })) (sym c.is_sticky.ensures)
    ∙ ap (λ list. Ok list) (sym c.in_ok-new.ensures))
