-- Lists that are completed with a mask, and access lists as they are kept.
use Rattle.std.proofs.Common.{◌≡◌, ◌+◌, ◌<◌, true, false, List, [], ◌∷◌, length, cond, Option, Some, None, refl, sym, ap, ◌∙◌, arith, length-append}
use Rattle.std.proofs.lemmas.List.{length-map}
use Rattle.std.specs.Prelude.{unwrap_or, nat_lt, nat_le}
use Rattle.std.specs.Option.{option_map_or, is_some}
use Rattle.std.proofs.lemmas.Bool.Decides.{nat_tests}
use Rattle.std.proofs.lemmas.Nat.{or_lt, and_le_l}
use Rattle.std.specs.Int.RustNames.{bit_and, bit_or}
use Rattle.permission_specs.specs.declared.entry.Scope.TheVariants.{Access}
use Rattle.permission_bits.specs.declared.rights.Rights.{Rights}
use Rattle.acl_entries.specs.declared.entry_list.NamedEntry.{NamedEntry}
use Rattle.acl_entries.specs.declared.entry_list.Bases.{Bases}
use Rattle.acl_entries.specs.Kept.{list_of_parts}
use Rattle.acl_entries.specs.Acl.{EntryList, base_entries, intersection, union, union_of_named, union_of_group_class, has_named, entries_in, mask_entries, fits_in_scope, ascend, grant_rights, are_rights, are_bases, IsEntryList}
use Rattle.partial_acl.specs.AclChange.{PartialList, completed_list, with_bases_of, as_kept}
use Rattle.partial_acl.specs.Answers.{IsPartialList, named_count}
use Rattle.partial_acl.proofs.Tests.{both, and}

pub entries_count : (list : EntryList) → length (entries_in Access list) ≡ 3 + length (mask_entries Access list.mask) + length list.users + length list.groups
entries_count list = simp (length-append, length-map) (omega arith)

pub completed_fits : (named : Option Rights) (other : EntryList) (list : PartialList) → fits_in_scope (completed_list named other list) ≡ nat_le (named_count list) 28
completed_fits named other list = rw (entries_count (completed_list named other list)) (grind (arith, nat_tests))

pub too_many : (named : Option Rights) (other : EntryList) (list : PartialList) → 32 < named_count list → fits_in_scope (completed_list named other list) ≡ false
too_many named other list many = completed_fits named other list ∙ grind (arith, nat_tests)

pub kept_named : (list : EntryList) → has_named list ≡ true → as_kept list ≡ list
kept_named list h = rw h refl

pub too_many_kept : (named : Option Rights) (other : EntryList) (list : PartialList) → 32 < named_count list → fits_in_scope (as_kept (completed_list named other list)) ≡ false
too_many_kept named other list many =
    let named_too : nat_lt 0 (named_count list) ≡ true = grind (arith, nat_tests) in
    ap fits_in_scope (kept_named (completed_list named other list) named_too) ∙ too_many named other list many

-- ---- rights have three bits

union_good : (a b : Rights) → are_rights a ≡ true → are_rights b ≡ true → are_rights (union a b) ≡ true
union_good a b h k =
    let below_a : a.0 < 8 = grind (arith, nat_tests) in
    let below_b : b.0 < 8 = grind (arith, nat_tests) in
    let below : bit_or a.0 b.0 < 8 = or_lt 3 a.0 b.0 below_a below_b in
    grind (arith, nat_tests)

pub named_union_good : (granted : Rights) (named : List NamedEntry) → are_rights granted ≡ true → grant_rights named ≡ true → are_rights (union_of_named granted named) ≡ true
named_union_good granted [] h k = h
named_union_good granted (e ∷ es) h k =
    let parts = both (are_rights e.rights) (grant_rights es) k in named_union_good (union granted e.rights) es (union_good granted e.rights h parts.0) parts.1

pub common_good : (a b : Rights) → are_rights a ≡ true → are_rights (intersection a b) ≡ true
common_good a b h =
    let below_a : a.0 < 8 = grind (arith, nat_tests) in
    let below : bit_and a.0 b.0 < 8 = omega (arith, and_le_l a.0 b.0) in
    grind (arith, nat_tests)

pub empty_is : {X : Type 0} (xs : List X) → length xs ≡ 0 → xs ≡ []
empty_is [] h = refl
empty_is (x ∷ xs) h = absurd (omega arith)

unwrapped_good : (granted : Option Rights) (other : Rights) → option_map_or are_rights granted true ≡ true → are_rights other ≡ true → are_rights (unwrap_or granted other) ≡ true
unwrapped_good None other h k = k
unwrapped_good (Some granted) other h k = h

pub record Good (list : EntryList) : Type 0 where
  pub users_ascend : ascend list.users ≡ true
  pub groups_ascend : ascend list.groups ≡ true
  pub users_grant : grant_rights list.users ≡ true
  pub groups_grant : grant_rights list.groups ≡ true
  pub list_fits : fits_in_scope list ≡ true
  pub mask : option_map_or are_rights list.mask true ≡ true
  pub user : are_rights list.user ≡ true
  pub group : are_rights list.group ≡ true
  pub other : are_rights list.other ≡ true

pub good : (list : EntryList) → IsEntryList list → Good list
good list h =
    let a = both (ascend list.users) _ h in
    let b = both (ascend list.groups) _ a.1 in
    let c = both (grant_rights list.users) _ b.1 in
    let d = both (grant_rights list.groups) _ c.1 in
    let e = both (fits_in_scope list) _ d.1 in
    let f = both (option_map_or are_rights list.mask true) _ e.1 in
    let g = both (are_rights list.user) _ f.1 in
    let i = both (are_rights list.group) _ g.1 in
    record { users_ascend = a.0; groups_ascend = b.0; users_grant = c.0; groups_grant = d.0; list_fits = e.0; mask = f.0; user = g.0; group = i.0; other = i.1 }

pub is_good : (list : EntryList) → Good list → IsEntryList list
is_good list g = and _ _ g.users_ascend (and _ _ g.groups_ascend (and _ _ g.users_grant (and _ _ g.groups_grant (and _ _ g.list_fits (and _ _ g.mask (and _ _ g.user (and _ _ g.group g.other)))))))

pub record GoodParts (list : PartialList) : Type 0 where
  pub users_ascend : ascend list.users ≡ true
  pub groups_ascend : ascend list.groups ≡ true
  pub users_grant : grant_rights list.users ≡ true
  pub groups_grant : grant_rights list.groups ≡ true
  pub user : option_map_or are_rights list.user true ≡ true
  pub group : option_map_or are_rights list.group true ≡ true
  pub other : option_map_or are_rights list.other true ≡ true

pub good_parts : (list : PartialList) → IsPartialList list → GoodParts list
good_parts list h =
    let a = both (ascend list.users) _ h in
    let b = both (ascend list.groups) _ a.1 in
    let c = both (grant_rights list.users) _ b.1 in
    let d = both (grant_rights list.groups) _ c.1 in
    let e = both (option_map_or are_rights list.user true) _ d.1 in
    let f = both (option_map_or are_rights list.group true) _ e.1 in
    record { users_ascend = a.0; groups_ascend = b.0; users_grant = c.0; groups_grant = d.0; user = e.0; group = f.0; other = f.1 }

pub are_good_parts : (list : PartialList) → GoodParts list → IsPartialList list
are_good_parts list g = and _ _ g.users_ascend (and _ _ g.groups_ascend (and _ _ g.users_grant (and _ _ g.groups_grant (and _ _ g.user (and _ _ g.group g.other)))))

-- ---- without named entries a mask filters the owning group for good

module _ (named : Option Rights) (other : EntryList) (list : PartialList) where
  abbrev pub kept_bases : EntryList
  kept_bases = base_entries (unwrap_or list.user other.user) (intersection (unwrap_or list.group other.group) (unwrap_or named (unwrap_or list.group other.group))) (unwrap_or list.other other.other)

  pub kept_is_bases : nat_lt 0 (named_count list) ≡ false → as_kept (completed_list named other list) ≡ kept_bases
  kept_is_bases none =
      let users : list.users ≡ [] = empty_is list.users (grind (arith, nat_tests)) in
      let groups : list.groups ≡ [] = empty_is list.groups (grind (arith, nat_tests)) in
      let group = unwrap_or list.group other.group in
      ap (λ b. cond b (completed_list named other list) (base_entries (unwrap_or list.user other.user) (intersection group (unwrap_or named (union_of_named (union_of_named group list.users) list.groups))) (unwrap_or list.other other.other))) none
      ∙ ap (λ named_too. base_entries (unwrap_or list.user other.user) (intersection group (unwrap_or named (union_of_named (union_of_named group named_too) list.groups))) (unwrap_or list.other other.other)) users
      ∙ ap (λ named_too. base_entries (unwrap_or list.user other.user) (intersection group (unwrap_or named (union_of_named group named_too))) (unwrap_or list.other other.other)) groups

-- ---- what is completed is a list of entries

module _ (named : Option Rights) (other : EntryList) (list : PartialList) (mask : option_map_or are_rights named true ≡ true) (others : IsEntryList other) (parts : IsPartialList list) where
  o : Good other
  o = good other others

  p : GoodParts list
  p = good_parts list parts

  group_good : are_rights (unwrap_or list.group other.group) ≡ true
  group_good = unwrapped_good list.group other.group p.group o.group

  union_of_class : are_rights (union_of_group_class (with_bases_of other list)) ≡ true
  union_of_class = named_union_good (union_of_named (unwrap_or list.group other.group) list.users) list.groups (named_union_good (unwrap_or list.group other.group) list.users group_good p.users_grant) p.groups_grant

  mask_good : are_rights (unwrap_or named (union_of_group_class (with_bases_of other list))) ≡ true
  mask_good = unwrapped_good named (union_of_group_class (with_bases_of other list)) mask union_of_class

  pub completed_good : nat_le (named_count list) 28 ≡ true → IsEntryList (completed_list named other list)
  completed_good few = is_good (completed_list named other list) (record {
    users_ascend = p.users_ascend;
    groups_ascend = p.groups_ascend;
    users_grant = p.users_grant;
    groups_grant = p.groups_grant;
    list_fits = completed_fits named other list ∙ few;
    mask = mask_good;
    user = unwrapped_good list.user other.user p.user o.user;
    group = group_good;
    other = unwrapped_good list.other other.other p.other o.other;
  })

  pub bases_good : are_bases (kept_bases named other list).user (kept_bases named other list).group (kept_bases named other list).other ≡ true
  bases_good = and _ _ (unwrapped_good list.user other.user p.user o.user)
      (and _ _ (common_good (unwrap_or list.group other.group) (unwrap_or named (unwrap_or list.group other.group)) group_good) (unwrapped_good list.other other.other p.other o.other))

  pub kept_bases_good : IsEntryList (kept_bases named other list)
  kept_bases_good = bases_good

-- the parts that the code makes
pub completed_from : (named : Option Rights) (other : EntryList) (list : PartialList) (bases : Bases) (mask : Rights) (users groups : List NamedEntry)
    → bases.user ≡ unwrap_or list.user other.user → bases.group ≡ unwrap_or list.group other.group → bases.other ≡ unwrap_or list.other other.other
    → users ≡ list.users → groups ≡ list.groups → mask ≡ unwrap_or named (union_of_named (union_of_named bases.group users) groups)
    → list_of_parts bases (Some mask) users groups ≡ completed_list named other list
completed_from named other list bases mask users groups user group others us gs is = rw (user, others, is, group, us, gs) refl

pub kept_from : (named : Option Rights) (other : EntryList) (list : PartialList) (bases : Bases) (mask group : Rights)
    → option_map_or are_rights named true ≡ true → IsEntryList other → IsPartialList list
    → bases.user ≡ unwrap_or list.user other.user → bases.group ≡ unwrap_or list.group other.group → bases.other ≡ unwrap_or list.other other.other
    → mask ≡ unwrap_or named bases.group → group.0 ≡ bit_and bases.group.0 mask.0 → are_bases bases.user group bases.other ≡ true
kept_from named other list bases mask group good_mask others parts user owning all is cut =
    rw (user, all, cut, is, owning) (bases_good named other list good_mask others parts)

-- ---- other rights for owner, mask and others

mask_length : (a b : Option Rights) → is_some a ≡ is_some b → length (mask_entries Access a) ≡ length (mask_entries Access b)
mask_length None None h = refl
mask_length None (Some b) h = cc
mask_length (Some a) None h = cc
mask_length (Some a) (Some b) h = refl

pub remasked_good : (list : EntryList) (user other : Rights) (mask : Option Rights) → IsEntryList list → is_some mask ≡ is_some list.mask
    → are_rights user ≡ true → option_map_or are_rights mask true ≡ true → are_rights other ≡ true
    → IsEntryList (record list { user = user; mask = mask; other = other })
remasked_good list user other mask h masked users masks others =
    let parts : Good list = good list h in
    let new : EntryList = record list { user = user; mask = mask; other = other } in
    let count : length (entries_in Access new) ≡ length (entries_in Access list) =
    entries_count new ∙ ap (λ n. 3 + n + length list.users + length list.groups) (mask_length mask list.mask masked) ∙ sym (entries_count list) in
    is_good new (record {
      users_ascend = parts.users_ascend;
      groups_ascend = parts.groups_ascend;
      users_grant = parts.users_grant;
      groups_grant = parts.groups_grant;
      list_fits = ap (λ n. nat_le n 32) count ∙ parts.list_fits;
      mask = masks;
      user = users;
      group = parts.group;
      other = others;
    })
