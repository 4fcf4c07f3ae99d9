-- The entry of a name in lists of named entries, where others are put in or taken away.
use Rattle.std.proofs.Common.{◌≡◌, ℕ, Bool, true, false, ◌&&◌, ◌||◌, List, [], ◌∷◌, ◌++◌, cond, Option, Some, None, refl, sym, ap, ◌∙◌, Ordering, Less, Equal, Greater, is_eq}
use Rattle.std.specs.Prelude.{filter, not}
use Rattle.std.specs.List.{list_any, find, filter_map, cons_option}
use Rattle.std.specs.Option.{option_map, option_map_or}
use Rattle.std.specs.Ordering.{is_lt}
use Rattle.hdfs_values.specs.Text.{same, text_cmp}
use Rattle.hdfs_values.proofs.Texts.{same_is, same_self, same_symm}
use Rattle.permission_specs.specs.Spec.{same_kind, same_scope}
use Rattle.permission_specs.specs.declared.entry.Entry.{Entry}
use Rattle.permission_specs.specs.declared.entry.EntryKind.{EntryKind}
use Rattle.permission_specs.specs.declared.entry.Scope.{Scope}
use Rattle.acl_entries.specs.declared.entry_list.NamedEntry.{NamedEntry}
use Rattle.partial_acl.specs.AclChange.{entries_without, is_entry_for, named_in, rights_granted, with_each, with_entry, with_name}
use Rattle.acl_laws.specs.Laws.{names, speaks_of}

abbrev pub entry_for : List ℕ → List NamedEntry → Option NamedEntry
entry_for name named = find (λ entry. same name entry.name) named

abbrev pub has_name : List ℕ → List NamedEntry → Bool
has_name name named = list_any (λ entry. same name entry.name) named

-- ---- entries that are put in

pub put_beside : (name : List ℕ) (new : NamedEntry) (entries : List NamedEntry) → same name new.name ≡ false → entry_for name (with_entry new entries) ≡ entry_for name entries
put_beside name new [] h = ap (λ b. cond b (Some new) None) h
put_beside name new (e ∷ es) h = by (same new.name e.name) (is_lt (text_cmp new.name e.name)) refl (put_beside name new es h)
  where
    new_first : (rest : List NamedEntry) → entry_for name (new ∷ rest) ≡ entry_for name rest
    new_first rest = ap (λ b. cond b (Some new) (entry_for name rest)) h

    by : (b less : Bool) → same new.name e.name ≡ b → entry_for name (with_entry new es) ≡ entry_for name es
        → entry_for name (cond b (new ∷ es) (cond less (new ∷ e ∷ es) (e ∷ with_entry new es))) ≡ entry_for name (e ∷ es)
    by true less k others =
        let apart : same name e.name ≡ false = ap (same name) (sym (same_is new.name e.name k)) ∙ h in
        new_first es ∙ sym (ap (λ b. cond b (Some e) (entry_for name es)) apart)
    by false true k others = new_first (e ∷ es)
    by false false k others = ap (λ rest. cond (same name e.name) (Some e) rest) others

pub each_beside : (name : List ℕ) (entries others : List NamedEntry) → has_name name others ≡ false → entry_for name (with_each entries others) ≡ entry_for name entries
each_beside name entries [] h = refl
each_beside name entries (o ∷ os) h = by (same name o.name) refl h (each_beside name (with_entry o entries) os)
  where
    by : (b : Bool) → same name o.name ≡ b → (b || has_name name os) ≡ false → (has_name name os ≡ false → entry_for name (with_each (with_entry o entries) os) ≡ entry_for name (with_entry o entries))
        → entry_for name (with_each (with_entry o entries) os) ≡ entry_for name entries
    by true k others rest = cc
    by false k others rest = rest others ∙ put_beside name o entries k

pub put_found : (new : NamedEntry) (entries : List NamedEntry) → entry_for new.name (with_entry new entries) ≡ Some new
put_found new [] = ap (λ b. cond b (Some new) None) (same_self new.name)
put_found new (e ∷ es) = by (text_cmp new.name e.name) refl (put_found new es)
  where
    new_first : (rest : List NamedEntry) → entry_for new.name (new ∷ rest) ≡ Some new
    new_first rest = ap (λ b. cond b (Some new) (entry_for new.name rest)) (same_self new.name)

    by : (o : Ordering) → text_cmp new.name e.name ≡ o → entry_for new.name (with_entry new es) ≡ Some new
        → entry_for new.name (cond (is_eq o) (new ∷ es) (cond (is_lt o) (new ∷ e ∷ es) (e ∷ with_entry new es))) ≡ Some new
    by Less k others = new_first (e ∷ es)
    by Equal k others = new_first es
    by Greater k others = ap (λ o. cond (is_eq o) (Some e) (entry_for new.name (with_entry new es))) k ∙ others

-- ---- entries that are taken away

-- one that is taken away has a name of the others
turned : (name : List ℕ) (others : List NamedEntry) → list_any (λ other. same other.name name) others ≡ has_name name others
turned name [] = refl
turned name (o ∷ os) = ap (λ b. b || list_any (λ other. same other.name name) os) (same_symm o.name name) ∙ ap (λ b. same name o.name || b) (turned name os)

module _ (name : List ℕ) (others : List NamedEntry) where
  abbrev left : List NamedEntry → List NamedEntry
  left entries = entries_without entries others

  named_alike : (entry : NamedEntry) (b : Bool) → same name entry.name ≡ true → list_any (λ other. same other.name entry.name) others ≡ b → has_name name others ≡ b
  named_alike entry b h k = sym (turned name others) ∙ ap (λ own. list_any (λ other. same other.name own) others) (same_is name entry.name h) ∙ k

  pub left_beside : (entries : List NamedEntry) → has_name name others ≡ false → entry_for name (left entries) ≡ entry_for name entries
  left_beside [] h = refl
  left_beside (e ∷ es) h = by (list_any (λ other. same other.name e.name) others) (same name e.name) refl refl (left_beside es h)
    where
      by : (gone own : Bool) → list_any (λ other. same other.name e.name) others ≡ gone → same name e.name ≡ own → entry_for name (left es) ≡ entry_for name es
          → entry_for name (cond (not gone) (e ∷ left es) (left es)) ≡ cond own (Some e) (entry_for name es)
      by true true k m rest = let clash : has_name name others ≡ true = named_alike e true m k in cc
      by true false k m rest = rest
      by false true k m rest = ap (λ b. cond b (Some e) (entry_for name (left es))) m
      by false false k m rest = ap (λ b. cond b (Some e) (entry_for name (left es))) m ∙ rest

  pub none_left : (entries : List NamedEntry) → has_name name others ≡ true → entry_for name (left entries) ≡ None
  none_left [] h = refl
  none_left (e ∷ es) h = by (list_any (λ other. same other.name e.name) others) (same name e.name) refl refl (none_left es h)
    where
      by : (gone own : Bool) → list_any (λ other. same other.name e.name) others ≡ gone → same name e.name ≡ own → entry_for name (left es) ≡ None
          → entry_for name (cond (not gone) (e ∷ left es) (left es)) ≡ None
      by true own k m rest = rest
      by false true k m rest = let clash : has_name name others ≡ false = named_alike e false m k in cc
      by false false k m rest = ap (λ b. cond b (Some e) (entry_for name (left es))) m ∙ rest

-- ---- what a spec names

module _ (scope : Scope) (kind : EntryKind) (name : List ℕ) where
  abbrev named_by : Entry → Bool
  named_by entry = is_entry_for scope kind entry && option_map_or (same name) entry.name false

  one_more : (own : Option (List ℕ)) (granted : List ℕ → NamedEntry) → ((n : List ℕ) → (granted n).name ≡ n) → (rest : List NamedEntry)
      → has_name name (cons_option (option_map granted own) rest) ≡ (option_map_or (same name) own false || has_name name rest)
  one_more None granted h rest = refl
  one_more (Some n) granted h rest = ap (λ own. same name own || has_name name rest) (h n)

  pub names_are : (spec : List Entry) → has_name name (named_in scope kind spec) ≡ names scope kind name spec
  names_are [] = refl
  names_are (e ∷ es) = by (is_entry_for scope kind e) (names_are es)
    where
      by : (b : Bool) → has_name name (named_in scope kind es) ≡ names scope kind name es
          → has_name name (filter_map with_name (cond b (e ∷ filter (is_entry_for scope kind) es) (filter (is_entry_for scope kind) es)))
          ≡ ((b && option_map_or (same name) e.name false) || names scope kind name es)
      by true rest = one_more e.name (λ n. record { name = n; rights = rights_granted e }) (λ n. refl) (named_in scope kind es) ∙ ap (λ b. option_map_or (same name) e.name false || b) rest
      by false rest = rest

  -- a spec that names somebody of a list says something of it
  pub silent_names_nobody : (spec : List Entry) → speaks_of scope spec ≡ false → names scope kind name spec ≡ false
  silent_names_nobody [] h = refl
  silent_names_nobody (e ∷ es) h = by (same_scope e.scope scope) h (silent_names_nobody es)
    where
      by : (b : Bool) → (b || speaks_of scope es) ≡ false → (speaks_of scope es ≡ false → names scope kind name es ≡ false)
          → (((b && same_kind e.kind kind) && option_map_or (same name) e.name false) || names scope kind name es) ≡ false
      by true k rest = cc
      by false k rest = rest k

  -- who is put in last has that entry
  module _ (entry : Entry) (own : entry.name ≡ Some name) (here : is_entry_for scope kind entry ≡ true) (behind : List Entry) (last : names scope kind name behind ≡ false) where
    abbrev made : NamedEntry
    made = record { name = name; rights = rights_granted entry }

    first_of_rest : named_in scope kind (entry ∷ behind) ≡ made ∷ named_in scope kind behind
    first_of_rest =
        ap (λ b. filter_map with_name (cond b (entry ∷ filter (is_entry_for scope kind) behind) (filter (is_entry_for scope kind) behind))) here
        ∙ ap (λ n. cons_option (option_map (λ n. record { name = n; rights = rights_granted entry }) n) (named_in scope kind behind)) own

    -- those of this kind that stand behind the first
    abbrev others_named : List Entry → List Entry
    others_named fs = filter (is_entry_for scope kind) (fs ++ entry ∷ behind)

    pub given_last : (front : List Entry) (entries : List NamedEntry) → entry_for name (with_each entries (named_in scope kind (front ++ entry ∷ behind))) ≡ Some made
    given_last [] entries =
        ap (λ named. entry_for name (with_each entries named)) first_of_rest
        ∙ each_beside name (with_entry made entries) (named_in scope kind behind) (names_are behind ∙ last)
        ∙ put_found made entries
    given_last (f ∷ fs) entries = by (is_entry_for scope kind f) (λ others. given_last fs others)
      where
        with_first : (first : Option NamedEntry) → ((others : List NamedEntry) → entry_for name (with_each others (filter_map with_name (others_named fs))) ≡ Some made)
            → entry_for name (with_each entries (cons_option first (filter_map with_name (others_named fs)))) ≡ Some made
        with_first None found = found entries
        with_first (Some o) found = found (with_entry o entries)

        by : (b : Bool) → ((others : List NamedEntry) → entry_for name (with_each others (filter_map with_name (others_named fs))) ≡ Some made)
            → entry_for name (with_each entries (filter_map with_name (cond b (f ∷ others_named fs) (others_named fs)))) ≡ Some made
        by true found = with_first (with_name f) found
        by false found = found entries
