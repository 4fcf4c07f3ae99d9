use Rattle.std.proofs.Common.{◌≡◌, ◌+◌, true, length, sym, ap, ◌∙◌, subst}
use Rattle.std.specs.Prelude.{nat_le, unwrap_or}
use Rattle.acl_entries.specs.Acl.{IsEntryList, union_of_named}
use Rattle.partial_acl.specs.Answers.{named_count}
use Rattle.partial_acl.proofs.Completing.{completed_from, completed_good}
use Rattle.partial_acl.proofs.completed.completed.Goals as goal

-- src/completed.rt:86:8
pub new-requires : goal.new-requires
new-requires c =
    let users : c.list.inside.users.items ≡ c.args.list.users = ap (λ list. list.users) c.list.view_is in
    let groups : c.list.inside.groups.items ≡ c.args.list.groups = ap (λ list. list.groups) c.list.view_is in
    let mask : c.mask_of-mask.result ≡ unwrap_or c.args.named_mask (union_of_named (union_of_named c.bases_of-bases.result.group c.list.inside.users.items) c.list.inside.groups.items) =
    c.mask_of-mask.ensures
    ∙ ap (λ named. unwrap_or c.args.named_mask (union_of_named (union_of_named c.bases_of-bases.result.group named) c.deref-2.result.now)) c.deref.ensures.value
    ∙ ap (λ named. unwrap_or c.args.named_mask (union_of_named (union_of_named c.bases_of-bases.result.group c.list.inside.users.items) named)) c.deref-2.ensures.value in
    let few : nat_le (named_count c.args.list) 28 ≡ true =
    ap (λ named. nat_le (length named + length c.args.list.groups) 28) (sym (c.deref-3.ensures.value ∙ users))
    ∙ ap (λ named. nat_le (length c.deref-3.result.now + length named) 28) (sym (c.deref-4.ensures.value ∙ groups))
    ∙ sym c.have_room.ensures ∙ c.if-not-have_room.false in
    subst IsEntryList
    (sym (completed_from c.args.named_mask c.args.other.now c.args.list c.bases_of-bases.result c.mask_of-mask.result c.list.inside.users.items c.list.inside.groups.items
    c.bases_of-bases.ensures.user c.bases_of-bases.ensures.group c.bases_of-bases.ensures.others users groups mask))
    (completed_good c.args.named_mask c.args.other.now c.args.list c.requires.mask c.bases_of-bases.ensures.entries c.requires.list few)
