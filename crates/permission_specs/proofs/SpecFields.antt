-- An entry has at most four fields.
use Rattle.std.proofs.Common.{◌≡◌, ℕ, ◌<◌, Bool, true, false, List, [], ◌∷◌, Option, None, cond, length, eqb, refl, ap, ◌∙◌, arith}
use Rattle.std.specs.Prelude.{codes}
use Rattle.std.proofs.lemmas.List.Splits.{length-slice_split}
use Rattle.hdfs_values.specs.Text.{same}
use Rattle.permission_specs.specs.declared.entry.Scope.{Scope}
use Rattle.permission_specs.specs.declared.entry.Scope.TheVariants.{Access, Default}
use Rattle.permission_specs.specs.declared.entry.Entry.{Entry}
use Rattle.permission_specs.specs.SpecText.{bare_entry, entry_in, entry_of_fields, entry_of_text}
use Rattle.permission_specs.proofs.SpecTexts.{pieces_at}

no_bare_entry : (scope : Scope) (a b c d : List ℕ) (rest : List (List ℕ)) → bare_entry scope (a ∷ b ∷ c ∷ d ∷ rest) ≡ None
no_bare_entry scope a [] c d rest = refl
no_bare_entry scope a (x ∷ b) [] d rest = refl
no_bare_entry scope a (x ∷ b) (y ∷ c) d rest = refl

no_entry : (with_rights : Bool) (scope : Scope) (a b c d : List ℕ) (rest : List (List ℕ)) → entry_in with_rights scope (a ∷ b ∷ c ∷ d ∷ rest) ≡ None
no_entry true scope a b c d rest = refl
no_entry false scope a b c d rest = no_bare_entry scope a b c d rest

neither : (first : Bool) (one other : Option Entry) → one ≡ None → other ≡ None → cond first one other ≡ None
neither true one other h k = h
neither false one other h k = k

five_fields : (with_rights : Bool) (a b c d : List ℕ) (rest : List (List ℕ)) → 0 < length rest → entry_of_fields with_rights (a ∷ b ∷ c ∷ d ∷ rest) ≡ None
five_fields with_rights a b c d [] some = absurd (omega arith)
five_fields with_rights a b c d (e ∷ rest) some =
    neither (same a (codes "default")) (entry_in with_rights Default (b ∷ c ∷ d ∷ e ∷ rest)) (entry_in with_rights Access (a ∷ b ∷ c ∷ d ∷ e ∷ rest))
    (no_entry with_rights Default b c d e rest) (no_entry with_rights Access a b c d (e ∷ rest))

-- a text that is cut four times
pub cut_too_often : (with_rights : Bool) (text a left b left_2 c left_3 d left_4 : List ℕ)
    → pieces_at 58 text ≡ a ∷ pieces_at 58 left → pieces_at 58 left ≡ b ∷ pieces_at 58 left_2
    → pieces_at 58 left_2 ≡ c ∷ pieces_at 58 left_3 → pieces_at 58 left_3 ≡ d ∷ pieces_at 58 left_4
    → entry_of_text with_rights text ≡ None
cut_too_often with_rights text a left b left_2 c left_3 d left_4 h h_2 h_3 h_4 =
    ap (entry_of_fields with_rights) (h ∙ ap (λ ps. a ∷ ps) (h_2 ∙ ap (λ ps. b ∷ ps) (h_3 ∙ ap (λ ps. c ∷ ps) h_4)))
    ∙ five_fields with_rights a b c d (pieces_at 58 left_4) (omega (arith, length-slice_split (λ byte. eqb byte 58) left_4))
