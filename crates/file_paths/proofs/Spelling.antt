-- A path has one text.
use Rattle.std.proofs.Common.{◌≡◌, ℕ, ◌<◌, Bool, true, false, List, [], ◌∷◌, ◌++◌, length, Option, Some, None, eqb, cond, refl, sym, ap, ◌∙◌, subst, arith, length-append, append-nil}
use Rattle.std.specs.List.{list_all, flat_map, slice_split}
use Rattle.std.proofs.lemmas.Bool.Decides.{nat_tests}
use Rattle.file_paths.specs.Name.{is_name, is_name_byte}
use Rattle.file_paths.specs.Path.{IsPath, is_path, is_slash, path_of, path_after_slash, path_of_names, path_text, component}
use Rattle.hdfs_values.proofs.Texts.{guard_some}
use Rattle.file_paths.proofs.Paths.{is_its_path, path_behind, path_names, path_text-pieces}

-- a name has no slash, so it is the first piece
first_piece : (n rest : List ℕ) → list_all is_name_byte n ≡ true → slice_split is_slash (n ++ 47 ∷ rest) ≡ n ∷ slice_split is_slash rest
first_piece [] rest h = refl
first_piece (b ∷ n) rest h =
    let tail : list_all is_name_byte n ≡ true = grind (arith, nat_tests) in
    let no_slash : eqb b 47 ≡ false = grind (arith, nat_tests) in
    rw (no_slash, first_piece n rest tail) refl

one_piece : (n : List ℕ) → list_all is_name_byte n ≡ true → slice_split is_slash n ≡ n ∷ []
one_piece [] h = refl
one_piece (b ∷ n) h =
    let tail : list_all is_name_byte n ≡ true = grind (arith, nat_tests) in
    let no_slash : eqb b 47 ≡ false = grind (arith, nat_tests) in
    rw (no_slash, one_piece n tail) refl

name_bytes : (n : List ℕ) → is_name n ≡ true → list_all is_name_byte n ≡ true
name_bytes n h = grind (arith, nat_tests)

pieces_of_names : (n : List ℕ) (ns : List (List ℕ)) → list_all is_name (n ∷ ns) ≡ true → slice_split is_slash (n ++ flat_map component ns) ≡ n ∷ ns
pieces_of_names n [] h =
    let own : is_name n ≡ true = grind (arith, nat_tests) in
    ap (slice_split is_slash) (append-nil n) ∙ one_piece n (name_bytes n own)
pieces_of_names n (m ∷ ns) h =
    let own : is_name n ≡ true = grind (arith, nat_tests) in
    let others : list_all is_name (m ∷ ns) ≡ true = grind (arith, nat_tests) in
    first_piece n (m ++ flat_map component ns) (name_bytes n own) ∙ ap (λ ps. n ∷ ps) (pieces_of_names m ns others)

some_name : (n : List ℕ) (ns : List (List ℕ)) → list_all is_name (n ∷ ns) ≡ true → 0 < length n
some_name n ns h = grind (arith, nat_tests)

pub read_again : (p : List (List ℕ)) → IsPath p → path_of (path_text p) ≡ Some p
read_again [] h = refl
read_again (n ∷ ns) h =
    let names = path_names (n ∷ ns) h in
    let rest = n ++ flat_map component ns in
    let some : 0 < length rest = omega (arith, some_name n ns names, length-append n (flat_map component ns)) in
    path_behind rest some ∙ (ap path_of_names (pieces_of_names n ns names) ∙ is_its_path (n ∷ ns) true h)

guarded : {X : Type 0} (b : Bool) (o : Option X) (y : X) → cond b o None ≡ Some y → (b ≡ true) × (o ≡ Some y)
guarded true o y e = (refl, e)
guarded false o y e = cc

behind_text : (rest : List ℕ) (p : List (List ℕ)) → path_after_slash rest ≡ Some p → IsPath p × (path_text p ≡ 47 ∷ rest)
behind_text [] p e = let root : [] ≡ p = cc in (subst IsPath root refl, ap path_text (sym root))
behind_text (b ∷ rest) p e =
    let ps = slice_split is_slash (b ∷ rest) in
    let parts = guard_some (is_path ps) ps p e in
    (subst IsPath parts.1 parts.0, ap path_text (sym parts.1) ∙ path_text-pieces (b ∷ rest))

pub spelled_by : (text : List ℕ) (p : List (List ℕ)) → path_of text ≡ Some p → IsPath p × (path_text p ≡ text)
spelled_by [] p e = cc
spelled_by (b ∷ rest) p e =
    let outer = guarded (eqb b 47) (path_after_slash rest) p e in
    let slash : b ≡ 47 = grind (arith, nat_tests, outer.0) in
    let found = behind_text rest p outer.1 in
    (found.0, found.1 ∙ ap (λ c. c ∷ rest) (sym slash))
