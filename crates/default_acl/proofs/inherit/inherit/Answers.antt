use Rattle.std.proofs.Common.{◌≡◌, Bool, true, Option, sym, ap, subst, ◌∙◌}
use Rattle.std.specs.Option.{option_copied, option_map_or, is_some}
use Rattle.acl_entries.specs.Acl.{EntryList, IsAcl, is_access_list}
use Rattle.partial_acl.specs.AclChange.{as_kept}
use Rattle.default_acl.specs.Inheritance.{list_cut_to}
use Rattle.partial_acl.proofs.Tests.{both}
use Rattle.default_acl.proofs.Inheriting.{inherited_good}
use Rattle.default_acl.proofs.inherit.inherit.Goals as goal

pub new-requires : goal.new-requires
new-requires c =
    let list = c.in-Some.list.now in
    let has_mask : Option EntryList → Bool = λ default. option_map_or (λ entries. is_some entries.mask) default true in
    let parts = both (is_access_list c.args.parent.now.access) (has_mask c.args.parent.now.default) c.access-access.ensures.acl in
    let masked : is_some list.mask ≡ true = ap has_mask (sym (ap option_copied c.in-Some.is) ∙ c.default_list.ensures) ∙ parts.1 in
    subst (λ (access : EntryList). IsAcl (record { sticky = c.if-eq.sticky; access = access; default = c.in_ok-default.default }))
    (sym c.in_ok-access.ensures)
    (subst (λ (default : Option EntryList). IsAcl (record { sticky = c.if-eq.sticky; access = as_kept (list_cut_to c.args.mode list); default = default }))
    (sym c.in_ok-default.ensures)
    (inherited_good c.args.mode c.args.kind c.if-eq.sticky list masked))
