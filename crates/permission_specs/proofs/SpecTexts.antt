-- The text of a spec is read back.
use Rattle.std.proofs.Common.{◌≡◌, ℕ, zero, suc, ◌<◌, Bool, true, false, not, List, [], ◌∷◌, ◌++◌, ◌&&◌, map, Option, Some, None, Ok, IsTrue, eqb, ltb, refl, ap, ◌∙◌, arith}
use Rattle.std.specs.List.{list_all, join_with_byte, slice_split}
use Rattle.std.specs.Option.{option_map_or}
use Rattle.std.proofs.lemmas.Bool.Decides.{nat_tests}
use Rattle.std.proofs.lemmas.List.Folds.{list_all-append}
use Rattle.hdfs_values.specs.Who.{is_who, is_who_byte}
use Rattle.permission_bits.specs.Rights.{rights, rights_text}
use Rattle.permission_specs.specs.Entry.{entry_text, scope_text, kind_text, name_text}
use Rattle.permission_specs.specs.Spec.{IsSpec}
use Rattle.permission_bits.proofs.RightsText.{read_again}
use Rattle.permission_specs.specs.declared.entry.Scope.{Scope}
use Rattle.permission_specs.specs.declared.entry.Scope.TheVariants.{Access, Default}
use Rattle.permission_specs.specs.declared.entry.EntryKind.{EntryKind}
use Rattle.permission_specs.specs.declared.entry.EntryKind.TheVariants.{User, Group, Mask, Other}
use Rattle.permission_specs.specs.declared.entry.Entry.{Entry}
use Rattle.permission_specs.specs.SpecText.{entry_kind_of, entry_name_of, granting_entry, entry_of_text, entries_of_texts, spec_of, spec_text, is_printable}

-- ── cutting at a byte ──

abbrev is_free : ℕ → List ℕ → Bool
is_free c text = list_all (λ b. not (eqb b c)) text

abbrev pub pieces_at : ℕ → List ℕ → List (List ℕ)
pieces_at byte text = slice_split (λ b. eqb b byte) text

first_piece : (c : ℕ) (piece rest : List ℕ) → is_free c piece ≡ true → pieces_at c (piece ++ c ∷ rest) ≡ piece ∷ pieces_at c rest
first_piece c [] rest h = let own : eqb c c ≡ true = grind (arith, nat_tests) in rw own refl
first_piece c (b ∷ piece) rest h =
    let tail : is_free c piece ≡ true = grind (arith, nat_tests) in
    let other : eqb b c ≡ false = grind (arith, nat_tests) in
    rw (other, first_piece c piece rest tail) refl

one_piece : (c : ℕ) (piece : List ℕ) → is_free c piece ≡ true → pieces_at c piece ≡ piece ∷ []
one_piece c [] h = refl
one_piece c (b ∷ piece) h =
    let tail : is_free c piece ≡ true = grind (arith, nat_tests) in
    let other : eqb b c ≡ false = grind (arith, nat_tests) in
    rw (other, one_piece c piece tail) refl

pub both_true : (a b : Bool) → (a && b) ≡ true → (a ≡ true) × (b ≡ true)
both_true true true h = (refl, refl)
both_true true false h = cc
both_true false b h = cc

pub and_true : (a b : Bool) → a ≡ true → b ≡ true → (a && b) ≡ true
and_true a b g h = rw (g, h) refl

pub joined_pieces : (c : ℕ) (piece : List ℕ) (pieces : List (List ℕ)) → list_all (is_free c) (piece ∷ pieces) ≡ true → pieces_at c (join_with_byte c (piece ∷ pieces)) ≡ piece ∷ pieces
joined_pieces c piece [] h = one_piece c piece (both_true (is_free c piece) true h).0
joined_pieces c piece (next ∷ pieces) h =
    let parts = both_true (is_free c piece) (list_all (is_free c) (next ∷ pieces)) h in
    first_piece c piece (join_with_byte c (next ∷ pieces)) parts.0 ∙ ap (λ ps. piece ∷ ps) (joined_pieces c next pieces parts.1)

-- ── what the parts of an entry are free of ──

kind_free : (kind : EntryKind) → is_free 44 (kind_text kind) ≡ true
kind_free User = refl
kind_free Group = refl
kind_free Mask = refl
kind_free Other = refl

scope_free : (scope : Scope) → is_free 44 (scope_text scope) ≡ true
scope_free Access = refl
scope_free Default = refl

who_bytes : (name : List ℕ) → is_who name ≡ true → list_all is_who_byte name ≡ true
who_bytes name h = grind (arith, nat_tests)

bytes_free : (name : List ℕ) → list_all is_who_byte name ≡ true → (is_free 44 name ≡ true) × (is_free 58 name ≡ true)
bytes_free [] h = (refl, refl)
bytes_free (b ∷ name) h =
    let parts = both_true (is_who_byte b) (list_all is_who_byte name) h in
    let rest = bytes_free name parts.1 in
    (grind (arith, nat_tests, parts.0, rest.0), grind (arith, nat_tests, parts.0, rest.1))

abbrev pub is_name : Option (List ℕ) → Bool
is_name name = option_map_or is_who name true

name_free : (name : Option (List ℕ)) → is_name name ≡ true → (is_free 44 (name_text name) ≡ true) × (is_free 58 (name_text name) ≡ true)
name_free None h = (refl, refl)
name_free (Some name) h = bytes_free name (who_bytes name h)

rights_free : (bits : ℕ) → bits < 8 → (is_free 44 (rights_text bits) ≡ true) × (is_free 58 (rights_text bits) ≡ true)
rights_free zero lt = (refl, refl)
rights_free (suc zero) lt = (refl, refl)
rights_free (suc (suc zero)) lt = (refl, refl)
rights_free (suc (suc (suc zero))) lt = (refl, refl)
rights_free (suc (suc (suc (suc zero)))) lt = (refl, refl)
rights_free (suc (suc (suc (suc (suc zero))))) lt = (refl, refl)
rights_free (suc (suc (suc (suc (suc (suc zero)))))) lt = (refl, refl)
rights_free (suc (suc (suc (suc (suc (suc (suc zero))))))) lt = (refl, refl)
rights_free (suc (suc (suc (suc (suc (suc (suc (suc n)))))))) lt = absurd (omega arith)

-- ── an entry ──

kind_read : (kind : EntryKind) → entry_kind_of (kind_text kind) ≡ Some kind
kind_read User = refl
kind_read Group = refl
kind_read Mask = refl
kind_read Other = refl

name_read : (name : Option (List ℕ)) → is_name name ≡ true → entry_name_of (name_text name) ≡ Some name
name_read None h = refl
name_read (Some []) h = cc
name_read (Some (b ∷ name)) h = rw h refl

fields : (name : Option (List ℕ)) (bits : ℕ) → is_name name ≡ true → bits < 8 → pieces_at 58 (name_text name ++ (58 ∷ rights_text bits)) ≡ name_text name ∷ rights_text bits ∷ []
fields name bits h lt = first_piece 58 (name_text name) (rights_text bits) (name_free name h).1 ∙ ap (λ ps. name_text name ∷ ps) (one_piece 58 (rights_text bits) (rights_free bits lt).1)

-- the fields of the text behind the word of the scope
kind_fields : (kind : EntryKind) (rest : List ℕ) → pieces_at 58 (kind_text kind ++ (58 ∷ rest)) ≡ kind_text kind ∷ pieces_at 58 rest
kind_fields User rest = refl
kind_fields Group rest = refl
kind_fields Mask rest = refl
kind_fields Other rest = refl

read_fields : (scope : Scope) (kind : EntryKind) (name : Option (List ℕ)) (bits : ℕ) → is_name name ≡ true → bits < 8
    → granting_entry scope (kind_text kind ∷ name_text name ∷ rights_text bits ∷ []) ≡ Some (record { scope = scope; kind = kind; name = name; rights = rights bits })
read_fields scope kind name bits h lt = rw (kind_read kind, name_read name h, read_again bits lt) refl

scoped : (scope : Scope) (kind : EntryKind) (rest : List ℕ) → entry_of_text true (scope_text scope ++ (kind_text kind ++ (58 ∷ rest))) ≡ granting_entry scope (kind_text kind ∷ pieces_at 58 rest)
scoped Access User rest = refl
scoped Access Group rest = refl
scoped Access Mask rest = refl
scoped Access Other rest = refl
scoped Default User rest = refl
scoped Default Group rest = refl
scoped Default Mask rest = refl
scoped Default Other rest = refl

record Printable (entry : Entry) : Type 0 where
  bits : entry.rights.0 < 8
  name : is_name entry.name ≡ true

printable : (entry : Entry) → is_printable entry ≡ true → Printable entry
printable entry h =
    let parts = both_true (ltb entry.rights.0 8) (is_name entry.name) h in
    record { bits = grind (arith, nat_tests, parts.0); name = parts.1 }

entry_read : (entry : Entry) → is_printable entry ≡ true → entry_of_text true (entry_text entry) ≡ Some entry
entry_read entry h =
    let p = printable entry h in
    scoped entry.scope entry.kind (name_text entry.name ++ (58 ∷ rights_text entry.rights.0))
    ∙ ap (λ ps. granting_entry entry.scope (kind_text entry.kind ∷ ps)) (fields entry.name entry.rights.0 p.name p.bits)
    ∙ read_fields entry.scope entry.kind entry.name entry.rights.0 p.name p.bits

entry_free : (entry : Entry) → is_printable entry ≡ true → is_free 44 (entry_text entry) ≡ true
entry_free entry h =
    let p = printable entry h in
    let test = λ (b : ℕ). not (eqb b 44) in
    let end : is_free 44 (58 ∷ rights_text entry.rights.0) ≡ true = (rights_free entry.rights.0 p.bits).0 in
    let named : is_free 44 (name_text entry.name ++ (58 ∷ rights_text entry.rights.0)) ≡ true =
    list_all-append test (name_text entry.name) (58 ∷ rights_text entry.rights.0) ∙ and_true _ _ (name_free entry.name p.name).0 end in
    let kinded : is_free 44 (kind_text entry.kind ++ (58 ∷ (name_text entry.name ++ (58 ∷ rights_text entry.rights.0)))) ≡ true =
    list_all-append test (kind_text entry.kind) _ ∙ and_true _ _ (kind_free entry.kind) named in
    list_all-append test (scope_text entry.scope) _ ∙ and_true _ _ (scope_free entry.scope) kinded

-- ── a spec ──

all_free : (entries : List Entry) → list_all is_printable entries ≡ true → list_all (is_free 44) (map entry_text entries) ≡ true
all_free [] h = refl
all_free (entry ∷ entries) h =
    let parts = both_true (is_printable entry) (list_all is_printable entries) h in
    and_true _ _ (entry_free entry parts.0) (all_free entries parts.1)

all_read : (entries : List Entry) → list_all is_printable entries ≡ true → entries_of_texts true (map entry_text entries) ≡ Some entries
all_read [] h = refl
all_read (entry ∷ entries) h =
    let parts = both_true (is_printable entry) (list_all is_printable entries) h in
    rw (entry_read entry parts.0, all_read entries parts.1) refl

pub spec_read : (entry : Entry) (entries : List Entry) → IsSpec (entry ∷ entries) → IsTrue (list_all is_printable (entry ∷ entries)) → spec_of true (spec_text (entry ∷ entries)) ≡ Ok (entry ∷ entries)
spec_read entry entries spec h =
    rw (joined_pieces 44 (entry_text entry) (map entry_text entries) (all_free (entry ∷ entries) h), all_read (entry ∷ entries) h, spec) refl
