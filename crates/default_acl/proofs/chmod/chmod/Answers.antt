use Rattle.std.proofs.Common.{◌≡◌, Some, sym, ap, subst, ◌∙◌}
use Rattle.acl_entries.specs.declared.entry_list.Bases.{Bases}
use Rattle.acl_entries.specs.Acl.{IsEntryList, are_rights, is_access_list}
use Rattle.acl_entries.specs.Kept.{list_of_parts}
use Rattle.partial_acl.proofs.Tests.{both}
use Rattle.partial_acl.proofs.Completing.{remasked_good}
use Rattle.default_acl.proofs.Changing.{masked_where_named}
use Rattle.default_acl.proofs.chmod.chmod.Goals as goal

pub set_bases-requires-2-clause-list : goal.set_bases-requires-2-clause-list
set_bases-requires-2-clause-list c =
    let list = c.set_sticky.new.self.access in
    let bases = c.bases_of-bases.result in
    let user = both (are_rights bases.user) _ c.bases_of-bases.ensures.bits in
    let group = both (are_rights bases.group) (are_rights bases.other) user.1 in
    let masked = both (is_access_list list) _ c.access-access.ensures.acl in
    let entries : IsEntryList list = subst IsEntryList c.access-access.ensures.list c.beside_mask-others.ensures.entries in
    let is : c.beside_mask-others.result ≡ record { user = bases.user; group = list.group; other = bases.other } =
    c.beside_mask-others.ensures.bases ∙ ap (λ access. record { user = bases.user; group = access.group; other = bases.other }) c.access-access.ensures.list in
    subst (λ (parts : Bases). IsEntryList (list_of_parts parts (Some bases.group) list.users list.groups)) (sym is)
    (remasked_good list bases.user bases.other (Some bases.group) entries
    (sym (masked_where_named list masked.0 (sym c.is_extended.ensures ∙ c.if-not-is_extended.false))) user.0 group.0 group.1)
