-- A list that was modified by a spec is modified by it again: nothing changes.
use Rattle.std.proofs.Common.{◌≡◌, ℕ, ◌+◌, ◌<◌, Bool, true, false, ◌&&◌, ◌||◌, List, [], ◌∷◌, length, cond, Option, Some, None, Ok, Err, inl, inr, ◌⊎◌, refl, sym, ap, ◌∙◌, Ordering, Less, Equal, Greater, is_eq, arith}
use Rattle.std.specs.Prelude.{filter, nat_lt, unwrap_or}
use Rattle.std.specs.List.{list_any, filter_map, cons_option}
use Rattle.std.specs.Option.{option_eq, option_map, option_map_or, option_or}
use Rattle.std.specs.Ordering.{is_lt, ordering_reverse}
use Rattle.std.specs.Int.RustNames.{bit_and}
use Rattle.std.specs.Int.Bits.{and_self}
use Rattle.std.proofs.lemmas.Cmp.{nat_list_cmp_total}
use Rattle.std.proofs.lemmas.Nat.{and_assoc}
use Rattle.std.proofs.lemmas.Bool.Decides.{nat_tests}
use Rattle.hdfs_values.specs.Text.{same, text_cmp}
use Rattle.hdfs_values.proofs.Texts.{same_is, same_self, same_symm}
use Rattle.permission_bits.specs.Rights.{rights}
use Rattle.permission_specs.specs.Spec.{IsSpec, has_duplicate, is_named_base, same_key, same_kind, same_scope}
use Rattle.permission_bits.specs.declared.rights.Rights.{Rights}
use Rattle.permission_specs.specs.declared.entry.Entry.{Entry}
use Rattle.permission_specs.specs.declared.entry.EntryKind.{EntryKind}
use Rattle.permission_specs.specs.declared.entry.EntryKind.TheVariants.{User, Group, Mask, Other}
use Rattle.permission_specs.specs.declared.entry.Scope.{Scope}
use Rattle.permission_specs.specs.declared.entry.Scope.TheVariants.{Access, Default}
use Rattle.hdfs_values.specs.declared.fault.AclFault.{AclFault}
use Rattle.hdfs_values.specs.declared.fault.AclFault.TheVariants.{Duplicate, NamedBase}
use Rattle.permission_specs.specs.declared.acl_change.AclChange.TheVariants.{Modify}
use Rattle.refusals.specs.declared.refusal.Refusal.TheVariants.{TooManyEntries}
use Rattle.acl_entries.specs.declared.entry_list.NamedEntry.{NamedEntry}
use Rattle.acl_entries.specs.Acl.{Acl, EntryList, base_entries, intersection, fits_in_scope}
use Rattle.partial_acl.specs.AclChange.{PartialList, access_after, access_where, acl_after, after_addition, all_of, as_kept, completed_list, default_after, default_where, first_acl_fault, base_rights, rights_granted, is_entry_for, mask_after, named_in, no_entries, with_entry, touches, unless_fault, with_each, with_name}
use Rattle.partial_acl.specs.Answers.{named_count}
use Rattle.default_acl.specs.Laws.{ModifyingAgainChangesNothing}
use Rattle.partial_acl.proofs.Tests.{both}
use Rattle.partial_acl.proofs.NamedLists.{put_grows, with_each_grows}
use Rattle.partial_acl.proofs.Completing.{kept_bases, kept_is_bases, kept_named}

-- ---- what was put in stands there

-- an entry stands in a list, behind lesser names alone
abbrev pub Stands : NamedEntry → List NamedEntry → Type 0
Stands new [] = ⊥
Stands new (e ∷ es) = (e ≡ new) ⊎ ((text_cmp new.name e.name ≡ Greater) × Stands new es)

greater_back : (a b : List ℕ) → text_cmp a b ≡ Less → text_cmp b a ≡ Greater
greater_back a b h = nat_list_cmp_total.antisymm b a ∙ ap ordering_reverse h

less_back : (a b : List ℕ) → text_cmp a b ≡ Greater → text_cmp b a ≡ Less
less_back a b h = nat_list_cmp_total.antisymm b a ∙ ap ordering_reverse h

greater_through : (a b c : List ℕ) → text_cmp a b ≡ Less → text_cmp c b ≡ Greater → text_cmp c a ≡ Greater
greater_through a b c h k = greater_back a c (nat_list_cmp_total.trans a b c h (less_back c b k))

put_stands : (new : NamedEntry) (entries : List NamedEntry) → Stands new (with_entry new entries)
put_stands new [] = inl refl
put_stands new (e ∷ es) = by (text_cmp new.name e.name) refl (put_stands new es)
  where
    by : (o : Ordering) → text_cmp new.name e.name ≡ o → Stands new (with_entry new es) → Stands new (cond (is_eq o) (new ∷ es) (cond (is_lt o) (new ∷ e ∷ es) (e ∷ with_entry new es)))
    by Less k others = inl refl
    by Equal k others = inl refl
    by Greater k others = inr (k, others)

stands_is : (new : NamedEntry) (entries : List NamedEntry) → Stands new entries → with_entry new entries ≡ entries
stands_is new [] h = absurd h
stands_is new (e ∷ es) h = elim h [
  | inl is ↦ ap (λ b. cond b (new ∷ es) (cond (is_lt (text_cmp new.name e.name)) (new ∷ e ∷ es) (e ∷ with_entry new es))) (ap (λ entry. same new.name entry.name) is ∙ same_self new.name)
      ∙ ap (λ entry. entry ∷ es) (sym is)
  | inr others ↦ ap (λ o. cond (is_eq o) (new ∷ es) (cond (is_lt o) (new ∷ e ∷ es) (e ∷ with_entry new es))) others.0 ∙ ap (λ list. e ∷ list) (stands_is new es others.1)
]

stands_beside : (new other : NamedEntry) (entries : List NamedEntry) → same other.name new.name ≡ false → Stands new entries → Stands new (with_entry other entries)
stands_beside new other [] apart h = absurd h
stands_beside new other (e ∷ es) apart h = by (text_cmp other.name e.name) refl h (λ k. stands_beside new other es apart k)
  where
    at_once : (o : Ordering) → text_cmp other.name e.name ≡ o → e ≡ new → Stands new (cond (is_eq o) (other ∷ es) (cond (is_lt o) (other ∷ e ∷ es) (e ∷ with_entry other es)))
    at_once Less k is = inr (greater_back other.name new.name (ap (λ entry. text_cmp other.name entry.name) (sym is) ∙ k), inl is)
    at_once Equal k is = let tied : same other.name new.name ≡ true = ap (λ entry. same other.name entry.name) (sym is) ∙ ap is_eq k in cc
    at_once Greater k is = inl is

    behind : (o : Ordering) → text_cmp other.name e.name ≡ o → text_cmp new.name e.name ≡ Greater → Stands new es → (Stands new es → Stands new (with_entry other es))
        → Stands new (cond (is_eq o) (other ∷ es) (cond (is_lt o) (other ∷ e ∷ es) (e ∷ with_entry other es)))
    behind Less k low there others = inr (greater_through other.name e.name new.name k low, inr (low, there))
    behind Equal k low there others = inr (ap (λ name. text_cmp new.name name) (same_is other.name e.name (ap is_eq k)) ∙ low, there)
    behind Greater k low there others = inr (low, others there)

    by : (o : Ordering) → text_cmp other.name e.name ≡ o → Stands new (e ∷ es) → (Stands new es → Stands new (with_entry other es))
        → Stands new (cond (is_eq o) (other ∷ es) (cond (is_lt o) (other ∷ e ∷ es) (e ∷ with_entry other es)))
    by o k there others = elim there [ inl is ↦ at_once o k is | inr rest ↦ behind o k rest.0 rest.1 others ]

-- no two entries have one name
abbrev pub AreApart : List NamedEntry → Type 0
AreApart [] = Unit {0}
AreApart (e ∷ es) = (list_any (λ other. same other.name e.name) es ≡ false) × AreApart es

stands_beside_each : (new : NamedEntry) (entries others : List NamedEntry) → list_any (λ other. same other.name new.name) others ≡ false → Stands new entries → Stands new (with_each entries others)
stands_beside_each new entries [] apart h = h
stands_beside_each new entries (o ∷ os) apart h = by (same o.name new.name) refl apart (λ there k. stands_beside_each new (with_entry o entries) os there k)
  where
    by : (b : Bool) → same o.name new.name ≡ b → (b || list_any (λ other. same other.name new.name) os) ≡ false
        → (list_any (λ other. same other.name new.name) os ≡ false → Stands new (with_entry o entries) → Stands new (with_each (with_entry o entries) os)) → Stands new (with_each (with_entry o entries) os)
    by true k there others = cc
    by false k there others = others there (stands_beside new o entries k h)

pub each_again : (entries others : List NamedEntry) → AreApart others → with_each (with_each entries others) others ≡ with_each entries others
each_again entries [] apart = refl
each_again entries (o ∷ os) apart =
    ap (λ list. with_each list os) (stands_is o (with_each (with_entry o entries) os) (stands_beside_each o (with_entry o entries) os apart.0 (put_stands o entries)))
    ∙ each_again (with_entry o entries) os apart.1

-- ---- a spec names nobody twice

scope_is : (a b : Scope) → same_scope a b ≡ true → a ≡ b
scope_is Access Access h = refl
scope_is Default Default h = refl
scope_is Access Default h = cc
scope_is Default Access h = cc

kind_is : (a b : EntryKind) → same_kind a b ≡ true → a ≡ b
kind_is User User h = refl
kind_is Group Group h = refl
kind_is Mask Mask h = refl
kind_is Other Other h = refl
kind_is User Group h = cc
kind_is User Mask h = cc
kind_is User Other h = cc
kind_is Group User h = cc
kind_is Group Mask h = cc
kind_is Group Other h = cc
kind_is Mask User h = cc
kind_is Mask Group h = cc
kind_is Mask Other h = cc
kind_is Other User h = cc
kind_is Other Group h = cc
kind_is Other Mask h = cc

pub scope_self : (a : Scope) → same_scope a a ≡ true
scope_self Access = refl
scope_self Default = refl

pub kind_self : (a : EntryKind) → same_kind a a ≡ true
kind_self User = refl
kind_self Group = refl
kind_self Mask = refl
kind_self Other = refl

pub or_false : (a b : Bool) → (a || b) ≡ false → (a ≡ false) × (b ≡ false)
or_false true b h = cc
or_false false b h = (refl, h)

-- two entries for one scope and kind, with these names
name_apart : (scope : Scope) (kind : EntryKind) (e f : Entry) (name own : List ℕ) → is_entry_for scope kind e ≡ true → is_entry_for scope kind f ≡ true → e.name ≡ Some name → f.name ≡ Some own
    → same_key e f ≡ false → same own name ≡ false
name_apart scope kind e f name own h k n m apart =
    let a = both (same_scope e.scope scope) (same_kind e.kind kind) h in
    let b = both (same_scope f.scope scope) (same_kind f.kind kind) k in
    let scopes : same_scope e.scope f.scope ≡ true = ap (λ s. same_scope e.scope s) (scope_is f.scope scope b.0 ∙ sym (scope_is e.scope scope a.0)) ∙ scope_self e.scope in
    let kinds : same_kind e.kind f.kind ≡ true = ap (λ s. same_kind e.kind s) (kind_is f.kind kind b.1 ∙ sym (kind_is e.kind kind a.1)) ∙ kind_self e.kind in
    same_symm own name ∙ ap (λ o. option_eq same (Some name) o) (sym m) ∙ ap (λ o. option_eq same o f.name) (sym n)
    ∙ ap (λ b. b && option_eq same e.name f.name) (sym kinds) ∙ ap (λ b. b && (same_kind e.kind f.kind && option_eq same e.name f.name)) (sym scopes) ∙ apart

names_apart : (scope : Scope) (kind : EntryKind) (e : Entry) (name : List ℕ) (es : List Entry) → is_entry_for scope kind e ≡ true → e.name ≡ Some name → list_any (same_key e) es ≡ false
    → list_any (λ other. same other.name name) (named_in scope kind es) ≡ false
names_apart scope kind e name [] h n apart = refl
names_apart scope kind e name (f ∷ fs) h n apart =
    let parts = or_false (same_key e f) (list_any (same_key e) fs) apart in by (is_entry_for scope kind f) refl parts.0 (names_apart scope kind e name fs h n parts.1)
  where
    named : (own : Option (List ℕ)) → f.name ≡ own → is_entry_for scope kind f ≡ true → same_key e f ≡ false → list_any (λ other. same other.name name) (named_in scope kind fs) ≡ false
        → list_any (λ other. same other.name name) (cons_option (option_map (λ own. record { name = own; rights = rights_granted f }) own) (named_in scope kind fs)) ≡ false
    named None m k there others = others
    named (Some own) m k there others = ap (λ b. b || list_any (λ other. same other.name name) (named_in scope kind fs)) (name_apart scope kind e f name own h k n m there) ∙ others

    by : (b : Bool) → is_entry_for scope kind f ≡ b → same_key e f ≡ false → list_any (λ other. same other.name name) (named_in scope kind fs) ≡ false
        → list_any (λ other. same other.name name) (filter_map with_name (cond b (f ∷ filter (is_entry_for scope kind) fs) (filter (is_entry_for scope kind) fs))) ≡ false
    by true k there others = named f.name refl k there others
    by false k there others = others

entries_apart : (scope : Scope) (kind : EntryKind) (spec : List Entry) → has_duplicate spec ≡ false → AreApart (named_in scope kind spec)
entries_apart scope kind [] h = tt
entries_apart scope kind (e ∷ es) h = let parts = or_false (list_any (same_key e) es) (has_duplicate es) h in by (is_entry_for scope kind e) refl parts.0 (entries_apart scope kind es parts.1)
  where
    named : (own : Option (List ℕ)) → e.name ≡ own → is_entry_for scope kind e ≡ true → list_any (same_key e) es ≡ false → AreApart (named_in scope kind es)
        → AreApart (cons_option (option_map (λ own. record { name = own; rights = rights_granted e }) own) (named_in scope kind es))
    named None n k there others = others
    named (Some name) n k there others = (names_apart scope kind e name es k n there, others)

    by : (b : Bool) → is_entry_for scope kind e ≡ b → list_any (same_key e) es ≡ false → AreApart (named_in scope kind es)
        → AreApart (filter_map with_name (cond b (e ∷ filter (is_entry_for scope kind) es) (filter (is_entry_for scope kind) es)))
    by true k there others = named e.name refl k there others
    by false k there others = others

pub spec_apart : (scope : Scope) (kind : EntryKind) (spec : List Entry) → IsSpec spec → AreApart (named_in scope kind spec)
spec_apart scope kind spec h = entries_apart scope kind spec (by (has_duplicate spec) h)
  where
    by : (b : Bool) → cond b (Some Duplicate) (cond (list_any is_named_base spec) (Some NamedBase) None) ≡ None → b ≡ false
    by true k = cc
    by false k = refl

-- ---- a list that was completed, once more

base_again : (named old : Option Rights) (first second : Rights) → unwrap_or (option_or named (Some (unwrap_or (option_or named old) first))) second ≡ unwrap_or (option_or named old) first
base_again None old first second = refl
base_again (Some new) old first second = refl

abbrev built : Option Rights → Rights → List NamedEntry → Rights → List NamedEntry → Rights → EntryList
built mask user users group groups other = mask_after mask (record { user = user; users = users; group = group; groups = groups; mask = None; other = other })

module _ (scope : Scope) (spec : List Entry) (mask : Option Rights) (users_apart : AreApart (named_in scope User spec)) (groups_apart : AreApart (named_in scope Group spec)) where
  completed_again : (first second : EntryList) (old : PartialList)
      → completed_list mask second (after_addition scope spec (all_of (completed_list mask first (after_addition scope spec old)))) ≡ completed_list mask first (after_addition scope spec old)
  completed_again first second old =
      let once = completed_list mask first (after_addition scope spec old) in
      let user = base_again (base_rights scope User spec) old.user first.user second.user in
      let group = base_again (base_rights scope Group spec) old.group first.group second.group in
      let other = base_again (base_rights scope Other spec) old.other first.other second.other in
      let users = each_again old.users (named_in scope User spec) users_apart in
      let groups = each_again old.groups (named_in scope Group spec) groups_apart in
      ap (λ r. built mask r (with_each once.users (named_in scope User spec)) (unwrap_or (option_or (base_rights scope Group spec) (Some once.group)) second.group)
      (with_each once.groups (named_in scope Group spec)) (unwrap_or (option_or (base_rights scope Other spec) (Some once.other)) second.other)) user
      ∙ ap (λ l. built mask once.user l (unwrap_or (option_or (base_rights scope Group spec) (Some once.group)) second.group)
      (with_each once.groups (named_in scope Group spec)) (unwrap_or (option_or (base_rights scope Other spec) (Some once.other)) second.other)) users
      ∙ ap (λ r. built mask once.user once.users r (with_each once.groups (named_in scope Group spec)) (unwrap_or (option_or (base_rights scope Other spec) (Some once.other)) second.other)) group
      ∙ ap (λ l. built mask once.user once.users once.group l (unwrap_or (option_or (base_rights scope Other spec) (Some once.other)) second.other)) groups
      ∙ ap (λ r. built mask once.user once.users once.group once.groups r) other

-- ---- an access list without named entries, once more

group_again : (named mask : Option Rights) (old : Rights) →
    let once = intersection (unwrap_or (option_or named (Some old)) old) (unwrap_or mask (unwrap_or (option_or named (Some old)) old)) in
    let next = unwrap_or (option_or named (Some once)) once in
    intersection next (unwrap_or mask next) ≡ once
group_again (Some new) mask old = refl
group_again None None old = ap rights (ap (λ n. bit_and n n) (and_self old.0))
group_again None (Some mask) old = ap rights (and_assoc mask.0 old.0 mask.0 ∙ ap (λ n. bit_and old.0 n) (and_self mask.0))

none_put : (entries others : List NamedEntry) → length (with_each entries others) ≡ 0 → others ≡ []
none_put entries [] h = refl
none_put entries (o ∷ os) h = absurd (omega (arith, with_each_grows (with_entry o entries) os, some_put o entries))
  where
    some_put : (new : NamedEntry) (entries : List NamedEntry) → 0 < length (with_entry new entries)
    some_put new [] = omega arith
    some_put new (e ∷ es) = omega (arith, put_grows new (e ∷ es))

module _ (spec : List Entry) (mask : Option Rights) (users_apart : AreApart (named_in Access User spec)) (groups_apart : AreApart (named_in Access Group spec)) where
  abbrev step : EntryList → EntryList
  step old = as_kept (completed_list mask old (after_addition Access spec (all_of old)))

  abbrev named : EntryList → ℕ
  named old = named_count (after_addition Access spec (all_of old))

  extended_again : (old : EntryList) → nat_lt 0 (named old) ≡ true → step (step old) ≡ step old
  extended_again old h =
      let kept : step old ≡ completed_list mask old (after_addition Access spec (all_of old)) = kept_named (completed_list mask old (after_addition Access spec (all_of old))) h in
      ap step kept ∙ ap as_kept (completed_again Access spec mask users_apart groups_apart old (completed_list mask old (after_addition Access spec (all_of old))) (all_of old))

  plain_again : (old : EntryList) → nat_lt 0 (named old) ≡ false → step (step old) ≡ step old
  plain_again old h =
      let kept : step old ≡ kept_bases mask old (after_addition Access spec (all_of old)) = kept_is_bases mask old (after_addition Access spec (all_of old)) h in
      let once = kept_bases mask old (after_addition Access spec (all_of old)) in
      let no_users : named_in Access User spec ≡ [] = none_put old.users (named_in Access User spec) (grind (arith, nat_tests)) in
      let no_groups : named_in Access Group spec ≡ [] = none_put old.groups (named_in Access Group spec) (grind (arith, nat_tests)) in
      let none : nat_lt 0 (named once) ≡ false =
      ap (λ l. nat_lt 0 (length (with_each [] l) + length (with_each [] (named_in Access Group spec)))) no_users ∙ ap (λ l. nat_lt 0 (length (with_each [] []) + length (with_each [] l))) no_groups in
      ap step kept ∙ kept_is_bases mask once (after_addition Access spec (all_of once)) none
      ∙ ap (λ r. base_entries r (intersection (unwrap_or (option_or (base_rights Access Group spec) (Some once.group)) once.group) (unwrap_or mask (unwrap_or (option_or (base_rights Access Group spec) (Some once.group)) once.group)))
      (unwrap_or (option_or (base_rights Access Other spec) (Some once.other)) once.other)) (base_again (base_rights Access User spec) (Some old.user) old.user once.user)
      ∙ ap (λ r. base_entries once.user r (unwrap_or (option_or (base_rights Access Other spec) (Some once.other)) once.other)) (group_again (base_rights Access Group spec) mask old.group)
      ∙ ap (λ r. base_entries once.user once.group r) (base_again (base_rights Access Other spec) (Some old.other) old.other once.other)
      ∙ sym kept

  step_again : (old : EntryList) → step (step old) ≡ step old
  step_again old = by (nat_lt 0 (named old)) refl
    where
      by : (b : Bool) → nat_lt 0 (named old) ≡ b → step (step old) ≡ step old
      by true h = extended_again old h
      by false h = plain_again old h

-- ---- the whole change, once more

module _ (spec : List Entry) (is_spec : IsSpec spec) where
  access_again : (old : EntryList) → access_after (Modify spec) (access_after (Modify spec) old) ≡ access_after (Modify spec) old
  access_again old = by (touches Access spec)
    where
      by : (b : Bool) → (let once = access_where b (base_rights Access Mask spec) old (after_addition Access spec (all_of old)) in
          access_where b (base_rights Access Mask spec) once (after_addition Access spec (all_of once)) ≡ once)
      by true = step_again spec (base_rights Access Mask spec) (spec_apart Access User spec is_spec) (spec_apart Access Group spec is_spec) old
      by false = refl

  default_again : (first second : EntryList) (old : Option EntryList) → default_after (Modify spec) second (default_after (Modify spec) first old) ≡ default_after (Modify spec) first old
  default_again first second old = by (touches Default spec)
    where
      by : (b : Bool) → (let once = default_where b (base_rights Default Mask spec) old first (after_addition Default spec (option_map_or all_of old no_entries)) in
          default_where b (base_rights Default Mask spec) once second (after_addition Default spec (option_map_or all_of once no_entries)) ≡ once)
      by true = ap (λ list. Some list) (completed_again Default spec (base_rights Default Mask spec) (spec_apart Default User spec is_spec) (spec_apart Default Group spec is_spec)
          first second (option_map_or all_of old no_entries))
      by false = refl

  acl_again : (acl : Acl) → acl_after (Modify spec) (acl_after (Modify spec) acl) ≡ acl_after (Modify spec) acl
  acl_again acl =
      let access = access_after (Modify spec) acl.access in
      ap (λ list. record { sticky = acl.sticky; access = list; default = default_after (Modify spec) list (default_after (Modify spec) access acl.default) }) (access_again acl.access)
      ∙ ap (λ list. record { sticky = acl.sticky; access = access; default = list }) (default_again access access acl.default)

accepted_is : (fault : Option AclFault) (after once : Acl) → unless_fault fault after ≡ Ok once → after ≡ once
accepted_is (Some fault) after once h = cc
accepted_is None after once h = by (fits_in_scope after.access && option_map_or fits_in_scope after.default true) h
  where
    by : (b : Bool) → cond b (Ok after) (Err TooManyEntries) ≡ Ok once → after ≡ once
    by true k = cc
    by false k = cc

pub modified_again : ModifyingAgainChangesNothing
modified_again spec kind acl once is_spec h =
    let fault = first_acl_fault (Modify spec) kind acl in
    let is : acl_after (Modify spec) acl ≡ once = accepted_is fault (acl_after (Modify spec) acl) once h in
    ap (λ list. unless_fault fault (acl_after (Modify spec) list)) (sym is) ∙ ap (λ list. unless_fault fault list) (acl_again spec is_spec acl) ∙ h
