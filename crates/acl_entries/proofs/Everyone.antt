-- A list that grants everybody alike grants whoever asks.
use Rattle.std.proofs.Common.{◌≡◌, ℕ, ◌+◌, Bool, true, false, not, ◌&&◌, List, [], ◌∷◌, ◌++◌, length, map, cond, Option, Some, None, refl, ◌∙◌, arith}
use Rattle.std.specs.Prelude.{unwrap_or, nat_lt}
use Rattle.std.specs.Option.{option_or}
use Rattle.std.proofs.lemmas.Bool.Decides.{nat_tests}
use Rattle.hdfs_values.specs.Groups.{has_group}
use Rattle.hdfs_values.specs.Text.{same}
use Rattle.permission_bits.specs.Rights.{covers}
use Rattle.permission_bits.specs.declared.rights.Rights.{Rights}
use Rattle.permission_specs.specs.declared.entry.EntryKind.TheVariants.{User, Group, Other}
use Rattle.permission_specs.specs.declared.entry.Scope.TheVariants.{Access}
use Rattle.acl_entries.specs.declared.entry_list.NamedEntry.{NamedEntry}
use Rattle.acl_entries.specs.Acl.{Acl, EntryList, base_entry}
use Rattle.acl_entries.specs.JudgedEntry.{Chosen, judged_by, best_judgement, judged_entry, effective_rights}
use Rattle.acl_entries.specs.Everyone.{grants_all}

both : (a b : Bool) → (a && b) ≡ true → (a ≡ true) × (b ≡ true)
both true true h = (refl, refl)
both true false h = cc
both false b h = cc

none_named : (n : ℕ) (others : Bool) → (not (nat_lt 0 n) && others) ≡ true → n ≡ 0
none_named n others h = let none : not (nat_lt 0 n) ≡ true = (both (not (nat_lt 0 n)) others h).0 in grind (arith, nat_tests, none)

module _ (owner group caller : List ℕ) (groups : List (List ℕ)) (need : Rights) where
  -- where nobody is named
  module _ (user class other : Rights) (mask : Option Rights) (u : covers user.0 need.0 ≡ true) (c : covers (effective_rights mask class).0 need.0 ≡ true) (o : covers other.0 need.0 ≡ true) where
    abbrev own : Chosen
    own = judged_by (base_entry Access Group class) mask need

    abbrev rest : Chosen
    rest = judged_by (base_entry Access Other other) None need

    abbrev by_groups : Bool → Chosen
    by_groups member = unwrap_or (best_judgement (map (λ entry. judged_by entry mask need) (cond member (base_entry Access Group class ∷ []) [] ++ []))) rest

    alike : (member : Bool) → (by_groups member).granted ≡ true
    alike true = found own.granted ∙ c
      where
        found : (b : Bool) → (unwrap_or (option_or (cond b (Some own) None) (Some own)) rest).granted ≡ own.granted
        found true = refl
        found false = refl
    alike false = o

    plain : (is_owner : Bool) → (cond is_owner (judged_by (base_entry Access User user) None need) (by_groups (has_group groups group))).granted ≡ true
    plain true = u
    plain false = alike (has_group groups group)

  module _ (sticky : Bool) (default : Option EntryList) where
    by_parts : (user : Rights) (users : List NamedEntry) (class : Rights) (named : List NamedEntry) (mask : Option Rights) (other : Rights)
        → grants_all (record { user = user; users = users; group = class; groups = named; mask = mask; other = other }) need ≡ true
        → (judged_entry owner group (record { sticky = sticky; access = record { user = user; users = users; group = class; groups = named; mask = mask; other = other }; default = default }) caller groups need).granted ≡ true
    by_parts user (entry ∷ users) class named mask other h = absurd (omega (arith, none_named (length (entry ∷ users) + length named) _ h))
    by_parts user [] class (entry ∷ named) mask other h = absurd (omega (arith, none_named (0 + length (entry ∷ named)) _ h))
    by_parts user [] class [] mask other h =
        let of_owner = both (covers user.0 need.0) _ h in
        let of_others = both (covers (effective_rights mask class).0 need.0) _ of_owner.1 in
        plain user class other mask of_owner.0 of_others.0 of_others.1 (same caller owner)

  pub granted_to_all : (acl : Acl) → grants_all acl.access need ≡ true → (judged_entry owner group acl caller groups need).granted ≡ true
  granted_to_all acl h = by_parts acl.sticky acl.default acl.access.user acl.access.users acl.access.group acl.access.groups acl.access.mask acl.access.other h
