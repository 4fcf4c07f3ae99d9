-- What is made keeps to its mode and to the default list above it.
use Rattle.std.proofs.Common.{refl, ◌≡◌, ℕ, Bool, true, false, cond, Option, Some, None, sym, ap, subst, ◌∙◌}
use Rattle.std.specs.Prelude.{unwrap_or}
use Rattle.std.specs.Option.{is_some, option_map, option_map_or}
use Rattle.std.specs.Int.RustNames.{bit_and}
use Rattle.permission_bits.specs.Mode.{user_bits, group_bits, other_bits, is_sticky}
use Rattle.permission_bits.specs.Rights.{covers, rights}
use Rattle.permission_bits.specs.declared.rights.Rights.{Rights}
use Rattle.file_states.specs.declared.kind.ObjectKind.TheVariants.{File, Directory}
use Rattle.acl_entries.specs.Acl.{Acl, EntryList, IsAcl, base_entries, has_named, intersection, is_access_list}
use Rattle.partial_acl.specs.AclChange.{as_kept}
use Rattle.partial_acl.proofs.Tests.{both}
use Rattle.default_acl.specs.Inheritance.{acl_from_default, list_cut_to}
use Rattle.acl_laws.specs.Laws.{HasBoth, KeepsToList, KeepsToMode, StickyBitsAreTheModes, WhatBothGrantIsGranted, WhatIsMadeKeepsToItsMode, WhatIsMadeKeepsToTheDefaultList, group_class_of}
use Rattle.acl_laws.proofs.Bits.{covers_common, covers_left, covers_right, covers_self, covers_trans}
use Rattle.acl_laws.proofs.Changed.{groups_kept, users_kept}

module _ (mode : ℕ) (list : EntryList) where
  abbrev cut_user : Rights
  cut_user = intersection list.user (rights (user_bits mode))

  abbrev cut_other : Rights
  cut_other = intersection list.other (rights (other_bits mode))

  abbrev cut_mask : Option Rights → Option Rights
  cut_mask mask = option_map (λ own. intersection own (rights (group_bits mode))) mask

  -- what is kept of the list, cut to the mode, with this mask
  abbrev kept_where : Bool → Option Rights → EntryList
  kept_where named mask =
      cond named (record list { user = cut_user; mask = cut_mask mask; other = cut_other })
      (base_entries cut_user (option_map_or (intersection list.group) (cut_mask mask) list.group) cut_other)

  keeps_to_mode : is_some list.mask ≡ true → KeepsToMode mode (as_kept (list_cut_to mode list))
  keeps_to_mode h = by (has_named list) list.mask h
    where
      by : (named : Bool) (mask : Option Rights) → is_some mask ≡ true → KeepsToMode mode (kept_where named mask)
      by named None k = cc
      by true (Some mask) k = record {
        user = covers_right list.user.0 (user_bits mode);
        group_class = covers_right mask.0 (group_bits mode);
        other = covers_right list.other.0 (other_bits mode);
      }
      by false (Some mask) k =
          let common = bit_and mask.0 (group_bits mode) in
          record {
            user = covers_right list.user.0 (user_bits mode);
            group_class = covers_trans (group_bits mode) common (bit_and list.group.0 common) (covers_right mask.0 (group_bits mode)) (covers_right list.group.0 common);
            other = covers_right list.other.0 (other_bits mode);
          }

  group_kept : (named : Bool) (mask : Option Rights) → covers list.group.0 (kept_where named mask).group.0 ≡ true
  group_kept true mask = covers_self list.group.0
  group_kept false None = covers_self list.group.0
  group_kept false (Some mask) = covers_left list.group.0 (bit_and mask.0 (group_bits mode))

  class_kept : (named : Bool) (mask : Option Rights) → is_some mask ≡ true → covers (unwrap_or mask list.group).0 (group_class_of (kept_where named mask)) ≡ true
  class_kept named None h = cc
  class_kept true (Some mask) h = covers_left mask.0 (group_bits mode)
  class_kept false (Some mask) h =
      let common = bit_and mask.0 (group_bits mode) in
      covers_trans mask.0 common (bit_and list.group.0 common) (covers_left mask.0 (group_bits mode)) (covers_right list.group.0 common)

  user_kept : (named : Bool) → covers list.user.0 (kept_where named list.mask).user.0 ≡ true
  user_kept true = covers_left list.user.0 (user_bits mode)
  user_kept false = covers_left list.user.0 (user_bits mode)

  other_kept : (named : Bool) → covers list.other.0 (kept_where named list.mask).other.0 ≡ true
  other_kept true = covers_left list.other.0 (other_bits mode)
  other_kept false = covers_left list.other.0 (other_bits mode)

  keeps_to_list : is_some list.mask ≡ true → KeepsToList list (as_kept (list_cut_to mode list))
  keeps_to_list h = record {
    user = user_kept (has_named list);
    users = users_kept (list_cut_to mode list);
    group = group_kept (has_named list) list.mask;
    groups = groups_kept (list_cut_to mode list);
    group_class = class_kept (has_named list) list.mask h;
    other = other_kept (has_named list);
  }

  has_both : is_some list.mask ≡ true → HasBoth mode list (as_kept (list_cut_to mode list))
  has_both h = by (has_named list) list.mask refl h
    where
      by : (named : Bool) (mask : Option Rights) → list.mask ≡ mask → is_some mask ≡ true → HasBoth mode list (kept_where named mask)
      by named None is k = cc
      by true (Some mask) is k =
          let bounded : (need : ℕ) → covers (group_class_of list) need ≡ true → covers mask.0 need ≡ true = λ need given. ap (λ own. covers (unwrap_or own list.group).0 need) (sym is) ∙ given in
          record {
            user = λ need own given. covers_common list.user.0 (user_bits mode) need own given;
            group = λ need own masked given. own;
            mask = λ need some own given. covers_common mask.0 (group_bits mode) need (bounded need own) given;
            other = λ need own given. covers_common list.other.0 (other_bits mode) need own given;
          }
      by false (Some mask) is k =
          let bounded : (need : ℕ) → covers (group_class_of list) need ≡ true → covers mask.0 need ≡ true = λ need given. ap (λ own. covers (unwrap_or own list.group).0 need) (sym is) ∙ given in
          record {
            user = λ need own given. covers_common list.user.0 (user_bits mode) need own given;
            group = λ need own masked given. covers_common list.group.0 (bit_and mask.0 (group_bits mode)) need own (covers_common mask.0 (group_bits mode) need (bounded need masked) given);
            mask = λ need some own given. cc;
            other = λ need own given. covers_common list.other.0 (other_bits mode) need own given;
          }

-- a default list has a mask
abbrev has_mask : Option EntryList → Bool
has_mask default = option_map_or (λ list. is_some list.mask) default true

masked : (acl : Acl) → IsAcl acl → has_mask acl.default ≡ true
masked acl h = (both (is_access_list acl.access) (has_mask acl.default) h).1

pub made_keeps_to_mode : WhatIsMadeKeepsToItsMode
made_keeps_to_mode parent mode kind h = by parent.default (masked parent h)
  where
    by : (default : Option EntryList) → has_mask default ≡ true → KeepsToMode mode (acl_from_default default mode kind).access
    by None k = record { user = covers_self (user_bits mode); group_class = covers_self (group_bits mode); other = covers_self (other_bits mode) }
    by (Some list) k = keeps_to_mode mode list k

pub made_keeps_to_list : WhatIsMadeKeepsToTheDefaultList
made_keeps_to_list parent list mode kind h is =
    subst (λ default. KeepsToList list (acl_from_default default mode kind).access) (sym is) (keeps_to_list mode list (ap has_mask (sym is) ∙ masked parent h))

pub both_granted : WhatBothGrantIsGranted
both_granted parent list mode kind h is =
    subst (λ default. HasBoth mode list (acl_from_default default mode kind).access) (sym is) (has_both mode list (ap has_mask (sym is) ∙ masked parent h))

pub sticky_of_mode : StickyBitsAreTheModes
sticky_of_mode parent mode = by parent.default
  where
    by : (default : Option EntryList) → ((acl_from_default default mode Directory).sticky ≡ is_sticky mode) × ((acl_from_default default mode File).sticky ≡ false)
    by None = (refl, refl)
    by (Some list) = (refl, refl)
