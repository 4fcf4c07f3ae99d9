-- Who has some rights has each of them.
use Rattle.std.proofs.Common.{◌≡◌, ℕ, Bool, true, false, ◌||◌, List, [], ◌∷◌, Option, Some, None, map, refl, sym, ap, ◌∙◌, cond}
use Rattle.std.specs.Prelude.{unwrap_or}
use Rattle.std.specs.List.{find, list_any}
use Rattle.std.specs.Option.{option_or, option_map_or}
use Rattle.std.specs.Int.RustNames.{bit_and}
use Rattle.std.proofs.lemmas.Bool.{eq-eqb, eqb-true}
use Rattle.std.proofs.lemmas.Nat.{and_assoc}
use Rattle.hdfs_values.specs.Text.{same}
use Rattle.permission_bits.specs.Rights.{rights, covers}
use Rattle.permission_bits.specs.declared.rights.Rights.{Rights}
use Rattle.permission_specs.specs.declared.entry.Entry.{Entry}
use Rattle.permission_specs.specs.declared.entry.EntryKind.TheVariants.{User, Other}
use Rattle.permission_specs.specs.declared.entry.Scope.TheVariants.{Access}
use Rattle.acl_entries.specs.declared.entry_list.NamedEntry.{NamedEntry}
use Rattle.acl_entries.specs.Acl.{Acl, base_entry, named_entry}
use Rattle.acl_entries.specs.JudgedEntry.{Chosen, effective_rights, judged_by, group_entries, best_judgement, judged_by_groups}
use Rattle.namespace_rows.specs.declared.row.Row.{Row}
use Rattle.namespace_rows.specs.Judgement.{judgement}

covers_less : (granted more less : ℕ) → bit_and more less ≡ less → covers granted more ≡ true → covers granted less ≡ true
covers_less granted more less part h =
    eq-eqb (bit_and granted less) less
    (ap (bit_and granted) (sym part) ∙ sym (and_assoc less granted more) ∙ ap (λ n. bit_and n less) (eqb-true (bit_and granted more) more h) ∙ part)

module _ (more less : ℕ) (part : bit_and more less ≡ less) where
  by_entry : (entry : Entry) (mask : Option Rights) → (judged_by entry mask (rights more)).granted ≡ true → (judged_by entry mask (rights less)).granted ≡ true
  by_entry entry mask h = covers_less (effective_rights mask entry.rights).0 more less part h

  module _ (mask : Option Rights) (wide narrow : Chosen) (others : wide.granted ≡ true → narrow.granted ≡ true) where
    abbrev wides : List Entry → List Chosen
    wides entries = map (λ entry. judged_by entry mask (rights more)) entries

    abbrev narrows : List Entry → List Chosen
    narrows entries = map (λ entry. judged_by entry mask (rights less)) entries

    -- where some entry grants, what is found grants
    found_grants : (entries : List Entry) (rest : Option Chosen) (other : Chosen) → list_any (λ j. j.granted) (narrows entries) ≡ true
        → (unwrap_or (option_or (find (λ j. j.granted) (narrows entries)) rest) other).granted ≡ true
    found_grants [] rest other h = cc
    found_grants (entry ∷ entries) rest other h = by (judged_by entry mask (rights less)).granted refl h (found_grants entries rest other)
      where
        by : (b : Bool) → (judged_by entry mask (rights less)).granted ≡ b → (b || list_any (λ j. j.granted) (narrows entries)) ≡ true
            → (list_any (λ j. j.granted) (narrows entries) ≡ true → (unwrap_or (option_or (find (λ j. j.granted) (narrows entries)) rest) other).granted ≡ true)
            → (unwrap_or (option_or (cond b (Some (judged_by entry mask (rights less))) (find (λ j. j.granted) (narrows entries))) rest) other).granted ≡ true
        by true e k later = e
        by false e k later = later k

    -- and what is found grants only where some entry does, or else the first of all does
    found_granted : (entries : List Entry) (rest : Option Chosen) (other : Chosen) → (unwrap_or (option_or (find (λ j. j.granted) (wides entries)) rest) other).granted ≡ true
        → (list_any (λ j. j.granted) (narrows entries) || (unwrap_or rest other).granted) ≡ true
    found_granted [] rest other h = h
    found_granted (entry ∷ entries) rest other h = by (judged_by entry mask (rights more)).granted refl h (found_granted entries rest other)
      where
        either : (a b c : Bool) → a ≡ true → ((a || b) || c) ≡ true
        either true b c k = refl
        either false b c k = cc

        later_one : (a b c : Bool) → (b || c) ≡ true → ((a || b) || c) ≡ true
        later_one true b c k = refl
        later_one false b c k = k

        by : (b : Bool) → (judged_by entry mask (rights more)).granted ≡ b
            → (unwrap_or (option_or (cond b (Some (judged_by entry mask (rights more))) (find (λ j. j.granted) (wides entries))) rest) other).granted ≡ true
            → ((unwrap_or (option_or (find (λ j. j.granted) (wides entries)) rest) other).granted ≡ true → (list_any (λ j. j.granted) (narrows entries) || (unwrap_or rest other).granted) ≡ true)
            → (((judged_by entry mask (rights less)).granted || list_any (λ j. j.granted) (narrows entries)) || (unwrap_or rest other).granted) ≡ true
        by true e k later = either (judged_by entry mask (rights less)).granted (list_any (λ j. j.granted) (narrows entries)) (unwrap_or rest other).granted (by_entry entry mask e)
        by false e k later = later_one (judged_by entry mask (rights less)).granted (list_any (λ j. j.granted) (narrows entries)) (unwrap_or rest other).granted (later k)

    by_groups : (entries : List Entry) → (unwrap_or (best_judgement (wides entries)) wide).granted ≡ true → (unwrap_or (best_judgement (narrows entries)) narrow).granted ≡ true
    by_groups [] h = others h
    by_groups (entry ∷ entries) h =
        found_grants (entry ∷ entries) (Some (judged_by entry mask (rights less))) narrow
        (once (list_any (λ j. j.granted) (narrows (entry ∷ entries))) (judged_by entry mask (rights more)).granted (found_granted (entry ∷ entries) (Some (judged_by entry mask (rights more))) wide h)
        (λ e. first_one (judged_by entry mask (rights less)).granted (list_any (λ j. j.granted) (narrows entries)) (by_entry entry mask e)))
      where
        first_one : (a b : Bool) → a ≡ true → (a || b) ≡ true
        first_one true b k = refl
        first_one false b k = cc

        once : (a b : Bool) → (a || b) ≡ true → (b ≡ true → a ≡ true) → a ≡ true
        once true b k f = refl
        once false b k f = f k

  by_user : (acl : Acl) (at : Option NamedEntry) (wide narrow : Chosen) → (wide.granted ≡ true → narrow.granted ≡ true)
      → (option_map_or (λ entry. judged_by (named_entry Access User entry) acl.access.mask (rights more)) at wide).granted ≡ true
      → (option_map_or (λ entry. judged_by (named_entry Access User entry) acl.access.mask (rights less)) at narrow).granted ≡ true
  by_user acl None wide narrow f h = f h
  by_user acl (Some entry) wide narrow f h = by_entry (named_entry Access User entry) acl.access.mask h

  pub wider : (row : Row) (caller : List ℕ) (groups : List (List ℕ)) → (judgement row caller groups (rights more)).granted ≡ true → (judgement row caller groups (rights less)).granted ≡ true
  wider row caller groups h = by (same caller row.owner) h
    where
      by : (b : Bool)
          → (cond b (judged_by (base_entry Access User row.acl.access.user) None (rights more))
          (option_map_or (λ entry. judged_by (named_entry Access User entry) row.acl.access.mask (rights more)) (find (λ entry. same caller entry.name) row.acl.access.users) (judged_by_groups row.group row.acl.access groups (rights more)))).granted ≡ true
          → (cond b (judged_by (base_entry Access User row.acl.access.user) None (rights less))
          (option_map_or (λ entry. judged_by (named_entry Access User entry) row.acl.access.mask (rights less)) (find (λ entry. same caller entry.name) row.acl.access.users) (judged_by_groups row.group row.acl.access groups (rights less)))).granted ≡ true
      by true k = by_entry (base_entry Access User row.acl.access.user) None k
      by false k =
          by_user row.acl (find (λ entry. same caller entry.name) row.acl.access.users) (judged_by_groups row.group row.acl.access groups (rights more)) (judged_by_groups row.group row.acl.access groups (rights less))
          (λ g. by_groups row.acl.access.mask (judged_by (base_entry Access Other row.acl.access.other) None (rights more)) (judged_by (base_entry Access Other row.acl.access.other) None (rights less))
          (λ o. by_entry (base_entry Access Other row.acl.access.other) None o) (group_entries row.group row.acl.access groups) g) k
