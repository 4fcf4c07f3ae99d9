-- The text of a spec is the one that was read.
use Rattle.std.proofs.Common.{◌≡◌, ℕ, ◌<◌, Bool, true, false, List, [], ◌∷◌, ◌++◌, ◌⊎◌, inl, inr, ⊎_elim, map, Option, Some, None, Ok, IsTrue, cond, ltb, length, refl, sym, ap, ◌∙◌, arith, subst}
use Rattle.std.specs.List.{list_all, join_with_byte}
use Rattle.std.specs.Option.{option_map}
use Rattle.std.proofs.lemmas.Bool.Decides.{nat_tests}
use Rattle.std.proofs.lemmas.List.Splits.{join_with_byte-slice_split}
use Rattle.std.specs.Prelude.{codes}
use Rattle.hdfs_values.specs.Text.{same}
use Rattle.hdfs_values.specs.Who.{is_who}
use Rattle.permission_bits.specs.Rights.{rights, rights_text, rights_of}
use Rattle.permission_specs.specs.Entry.{entry_text, kind_text, name_text}
use Rattle.permission_specs.specs.Spec.{IsSpec, spec_fault, ok_unless}
use Rattle.hdfs_values.proofs.Texts.{same_is}
use Rattle.permission_bits.specs.declared.rights.Rights.{Rights}
use Rattle.hdfs_values.specs.declared.fault.AclFault.{AclFault}
use Rattle.permission_specs.specs.declared.entry.Scope.{Scope}
use Rattle.permission_specs.specs.declared.entry.Scope.TheVariants.{Access, Default}
use Rattle.permission_specs.specs.declared.entry.EntryKind.{EntryKind}
use Rattle.permission_specs.specs.declared.entry.EntryKind.TheVariants.{User, Group, Mask, Other}
use Rattle.permission_specs.specs.declared.entry.Entry.{Entry}
use Rattle.permission_specs.specs.SpecText.{entry_kind_of, entry_name_of, entry_with, granting_entry, entry_of_text, entry_of_fields, both, entries_of_texts, spec_or_fault, spec_of, spec_text, is_printable}
use Rattle.permission_specs.proofs.SpecTexts.{pieces_at, is_name, and_true}

-- the three letters are those of the rights
abbrev pub RightsSpelled : Type 0
RightsSpelled = (text : List ℕ) (bits : ℕ) → rights_of text ≡ Some (rights bits) → (bits < 8) × (rights_text bits ≡ text)

if_some : {X : Type 0} (b : Bool) (x y : X) (o : Option X) → cond b (Some x) o ≡ Some y → ((b ≡ true) × (x ≡ y)) ⊎ (o ≡ Some y)
if_some true x y o e = inl (refl, cc)
if_some false x y o e = inr e

-- a word that is this kind's, or else one of the words that are left
is_kind : (word : List ℕ) (own kind : EntryKind) (rest : Option EntryKind) → cond (same word (kind_text own)) (Some own) rest ≡ Some kind → (kind_text kind ≡ word) ⊎ (rest ≡ Some kind)
is_kind word own kind rest e =
    ⊎_elim (λ h. inl (ap kind_text (sym h.1) ∙ sym (same_is word (kind_text own) h.0))) (λ h. inr h) (if_some (same word (kind_text own)) own kind rest e)

kind_spelled : (word : List ℕ) (kind : EntryKind) → entry_kind_of word ≡ Some kind → kind_text kind ≡ word
kind_spelled word kind e =
    ⊎_elim (λ h. h) (λ e1. ⊎_elim (λ h. h) (λ e2. ⊎_elim (λ h. h) (λ e3. ⊎_elim (λ h. h) (λ (e4 : None ≡ Some kind). cc) (is_kind word Other kind _ e3)) (is_kind word Mask kind _ e2)) (is_kind word Group kind _ e1)) (is_kind word User kind _ e)

some_who : (text : List ℕ) (name : Option (List ℕ)) (b : Bool) → b ≡ is_who text → option_map (λ n. Some n) (cond b (Some text) None) ≡ Some name → (is_name name ≡ true) × (name_text name ≡ text)
some_who text name true h e = let own : Some text ≡ name = cc in (subst (λ n. is_name n ≡ true) own (sym h), ap name_text (sym own))
some_who text name false h e = cc

name_spelled : (word : List ℕ) (name : Option (List ℕ)) → entry_name_of word ≡ Some name → (is_name name ≡ true) × (name_text name ≡ word)
name_spelled [] None e = (refl, refl)
name_spelled [] (Some name) e = cc
name_spelled (b ∷ word) name e = some_who (b ∷ word) name (is_who (b ∷ word)) refl e

-- ── an entry ──

record Parts (scope : Scope) (kind : Option EntryKind) (name : Option (Option (List ℕ))) (granted : Option Rights) (entry : Entry) : Type 0 where
  its_scope : entry.scope ≡ scope
  its_kind : kind ≡ Some entry.kind
  its_name : name ≡ Some entry.name
  its_rights : granted ≡ Some entry.rights

parts_of : (scope : Scope) (kind : Option EntryKind) (name : Option (Option (List ℕ))) (granted : Option Rights) (entry : Entry) → entry_with scope kind name granted ≡ Some entry → Parts scope kind name granted entry
parts_of scope None name granted entry e = cc
parts_of scope (Some kind) None granted entry e = cc
parts_of scope (Some kind) (Some name) None entry e = cc
parts_of scope (Some kind) (Some name) (Some granted) entry e =
    let own : record { scope = scope; kind = kind; name = name; rights = granted } ≡ entry = cc in
    record {
      its_scope = sym (ap (λ (x : Entry). x.scope) own);
      its_kind = ap (λ (x : Entry). Some x.kind) own;
      its_name = ap (λ (x : Entry). Some x.name) own;
      its_rights = ap (λ (x : Entry). Some x.rights) own;
    }

abbrev unscoped : Entry → List ℕ
unscoped entry = kind_text entry.kind ++ (58 ∷ (name_text entry.name ++ (58 ∷ rights_text entry.rights.0)))

record Spelled (scope : Scope) (fields : List (List ℕ)) (entry : Entry) : Type 0 where
  its_scope : entry.scope ≡ scope
  own : is_printable entry ≡ true
  joined : unscoped entry ≡ join_with_byte 58 fields

granting_spelled : RightsSpelled → (scope : Scope) (fields : List (List ℕ)) (entry : Entry) → granting_entry scope fields ≡ Some entry → Spelled scope fields entry
granting_spelled spelled scope [] entry e = cc
granting_spelled spelled scope (a ∷ []) entry e = cc
granting_spelled spelled scope (a ∷ b ∷ []) entry e = cc
granting_spelled spelled scope (a ∷ b ∷ c ∷ d ∷ rest) entry e = cc
granting_spelled spelled scope (a ∷ b ∷ c ∷ []) entry e =
    let parts = parts_of scope (entry_kind_of a) (entry_name_of b) (rights_of c) entry e in
    let kind = kind_spelled a entry.kind parts.its_kind in
    let name = name_spelled b entry.name parts.its_name in
    let granted = spelled c entry.rights.0 parts.its_rights in
    let few : ltb entry.rights.0 8 ≡ true = grind (arith, nat_tests, granted.0) in
    record {
      its_scope = parts.its_scope;
      own = and_true (ltb entry.rights.0 8) (is_name entry.name) few name.0;
      joined = rw (kind, name.1, granted.1) refl;
    }

default_spelled : (fields : List (List ℕ)) (entry : Entry) → Spelled Default fields entry → 0 < length fields → (is_printable entry ≡ true) × (entry_text entry ≡ join_with_byte 58 (codes "default" ∷ fields))
default_spelled [] entry s some = absurd (omega arith)
default_spelled (a ∷ fields) entry s some = (s.own, rw s.its_scope (ap (λ t. codes "default:" ++ t) s.joined))

some_fields : (scope : Scope) (fields : List (List ℕ)) (entry : Entry) → granting_entry scope fields ≡ Some entry → 0 < length fields
some_fields scope [] entry e = cc
some_fields scope (a ∷ fields) entry e = omega arith

by_scope : RightsSpelled → (field : List ℕ) (fields : List (List ℕ)) (entry : Entry) (b : Bool) → b ≡ same field (codes "default")
    → cond b (granting_entry Default fields) (granting_entry Access (field ∷ fields)) ≡ Some entry → (is_printable entry ≡ true) × (entry_text entry ≡ join_with_byte 58 (field ∷ fields))
by_scope spelled field fields entry true h e =
    let word : field ≡ codes "default" = same_is field (codes "default") (sym h) in
    let told = default_spelled fields entry (granting_spelled spelled Default fields entry e) (some_fields Default fields entry e) in
    (told.0, told.1 ∙ ap (λ w. join_with_byte 58 (w ∷ fields)) (sym word))
by_scope spelled field fields entry false h e =
    let s = granting_spelled spelled Access (field ∷ fields) entry e in
    (s.own, rw s.its_scope s.joined)

fields_spelled : RightsSpelled → (fields : List (List ℕ)) (entry : Entry) → entry_of_fields true fields ≡ Some entry → (is_printable entry ≡ true) × (entry_text entry ≡ join_with_byte 58 fields)
fields_spelled spelled [] entry e = cc
fields_spelled spelled (field ∷ fields) entry e = by_scope spelled field fields entry (same field (codes "default")) refl e

entry_spelled : RightsSpelled → (text : List ℕ) (entry : Entry) → entry_of_text true text ≡ Some entry → (is_printable entry ≡ true) × (entry_text entry ≡ text)
entry_spelled spelled text entry e =
    let s = fields_spelled spelled (pieces_at 58 text) entry e in (s.0, s.1 ∙ join_with_byte-slice_split 58 text)

-- ── a spec ──

both_some : (one : Option Entry) (others : Option (List Entry)) (entries : List Entry) → both one others ≡ Some entries
    → (entry : Entry) × (rest : List Entry) × (one ≡ Some entry) × (others ≡ Some rest) × (entries ≡ entry ∷ rest)
both_some None others entries e = cc
both_some (Some entry) None entries e = cc
both_some (Some entry) (Some rest) entries e = (entry, rest, refl, refl, cc)

all_spelled : RightsSpelled → (texts : List (List ℕ)) (entries : List Entry) → entries_of_texts true texts ≡ Some entries → (list_all is_printable entries ≡ true) × (map entry_text entries ≡ texts)
all_spelled spelled [] entries e = let none : [] ≡ entries = cc in (subst (λ es. list_all is_printable es ≡ true) none refl, ap (map entry_text) (sym none))
all_spelled spelled (text ∷ texts) entries e =
    let found = both_some (entry_of_text true text) (entries_of_texts true texts) entries e in
    let first = entry_spelled spelled text found.0 found.2 in
    let rest = all_spelled spelled texts found.1 found.3 in
    (subst (λ es. list_all is_printable es ≡ true) (sym found.4) (and_true _ _ first.0 rest.0), rw (found.4, first.1, rest.1) refl)

checked_ok : (fault : Option AclFault) (found entries : List Entry) → ok_unless fault found ≡ Ok entries → (fault ≡ None) × (found ≡ entries)
checked_ok None found entries e = (refl, cc)
checked_ok (Some fault) found entries e = cc

spec_ok : (found : Option (List Entry)) (entries : List Entry) → spec_or_fault found ≡ Ok entries → IsSpec entries × (found ≡ Some entries)
spec_ok None entries e = cc
spec_ok (Some found) entries e =
    let told = checked_ok (spec_fault found) found entries e in (subst IsSpec told.1 told.0, ap Some told.1)

pub spec_spelled : RightsSpelled → (text : List ℕ) (entries : List Entry) → spec_of true text ≡ Ok entries → IsSpec entries × IsTrue (list_all is_printable entries) × (spec_text entries ≡ text)
spec_spelled spelled text entries e =
    let told = spec_ok (entries_of_texts true (pieces_at 44 text)) entries e in
    let all = all_spelled spelled (pieces_at 44 text) entries told.1 in
    (told.0, all.0, ap (join_with_byte 44) all.1 ∙ join_with_byte-slice_split 44 text)
