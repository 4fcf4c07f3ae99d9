use Rattle.std.proofs.Common.{sym, ap, ◌∙◌}
use Rattle.std.specs.Option.{option_copied}
use Rattle.permission_bits.specs.Rights.{covers}
use Rattle.acl_entries.specs.JudgedEntry.{effective_rights}
use Rattle.acl_entries.proofs.Searches.{granting_for_member, granting_for_stranger, matching_for_stranger}
use Rattle.acl_entries.proofs.access_check.chosen_by_groups.Goals as goal

-- src/access_check.rt:64:9
pub returns-then-has_group : goal.returns-then-has_group
returns-then-has_group c =
    let plain = sym (c.is_granted.ensures ∙ ap (λ j. j.granted) c.by_base_entry-own.ensures
    ∙ ap (λ x. covers (effective_rights c.mask-mask.result x).0 c.args.need.0) c.group.ensures
    ∙ ap (λ m. covers (effective_rights m c.args.access.now.group).0 c.args.need.0) c.mask-mask.ensures) ∙ c.if-is_granted.false in
    c.by_named_entry.ensures ∙ granting_for_member c.args.group.now c.args.access.now c.args.groups.now c.args.need
    c.mask-mask.result c.groups-named.result.now c.mask-mask.ensures c.groups-named.ensures c.in-Some.entry.now
    (sym c.has_group.ensures ∙ c.if-has_group.true) plain (sym c.first_granting.ensures ∙ ap option_copied c.in-Some.is)

-- src/access_check.rt:67:9
pub returns-in-Some-first_granting : goal.returns-in-Some-first_granting
returns-in-Some-first_granting c =
    c.by_named_entry-in-Some-first_granting.ensures ∙ granting_for_stranger c.args.group.now c.args.access.now c.args.groups.now c.args.need
    c.mask-mask.result c.groups-named.result.now c.mask-mask.ensures c.groups-named.ensures c.in-Some-first_granting.entry.now
    (sym c.has_group.ensures ∙ c.if-has_group.false) (sym c.first_granting-2.ensures ∙ ap option_copied c.in-Some-first_granting.is)

-- src/access_check.rt:45:1
pub returns : goal.returns
returns c =
    c.by_named_entry-2.ensures ∙ matching_for_stranger c.args.group.now c.args.access.now c.args.groups.now c.args.need
    c.mask-mask.result c.groups-named.result.now c.mask-mask.ensures c.groups-named.ensures c.in-Some-first_matching.entry.now
    (sym c.has_group.ensures ∙ c.if-has_group.false) (sym c.first_granting-2.ensures ∙ ap option_copied c.in_default-first_granting.is)
    (sym c.first_matching.ensures ∙ ap option_copied c.in-Some-first_matching.is)
