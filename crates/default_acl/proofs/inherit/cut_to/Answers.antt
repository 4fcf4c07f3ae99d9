use Rattle.std.proofs.Common.{◌≡◌, ap, ◌∙◌}
use Rattle.std.specs.Int.RustNames.{bit_and}
use Rattle.std.specs.Option.{option_map}
use Rattle.permission_bits.specs.Mode.{user_bits, group_bits, other_bits}
use Rattle.permission_bits.specs.Rights.{rights}
use Rattle.acl_entries.specs.Acl.{intersection}
use Rattle.default_acl.proofs.Inheriting.{cut_from}
use Rattle.default_acl.proofs.inherit.cut_to.Goals as goal

pub new-requires : goal.new-requires
new-requires c =
    let list = c.args.list.now in
    let user : c.intersection-user.result ≡ intersection list.user (rights (user_bits c.args.mode)) =
    ap rights (c.intersection-user.ensures tt ∙ ap (λ own. bit_and own.0 c.user-2.result.0) c.user.ensures.user ∙ ap (λ bits. bit_and list.user.0 bits) c.user-2.ensures) in
    let other : c.intersection-other.result ≡ intersection list.other (rights (other_bits c.args.mode)) =
    ap rights (c.intersection-other.ensures tt ∙ ap (λ own. bit_and own.0 c.other-2.result.0) c.other.ensures ∙ ap (λ bits. bit_and list.other.0 bits) c.other-2.ensures) in
    cut_from c.args.mode list (record { user = c.intersection-user.result; group = c.group-own.result; other = c.intersection-other.result })
    c.cut_mask-mask.result c.in_ok-users.users.items c.in_ok-groups.groups.items c.user.ensures.list user c.group-own.ensures other
    (c.cut_mask-mask.ensures ∙ ap (λ mask. option_map (λ own. intersection own (rights (group_bits c.args.mode))) mask) c.mask.ensures)
    (c.in_ok-users.ensures ∙ c.users-2.ensures) (c.in_ok-groups.ensures ∙ c.groups-2.ensures)
