-- Names, pieces and the text of a path.
use Rattle.std.proofs.Common.{◌≡◌, ℕ, ◌<◌, Bool, true, false, List, [], ◌∷◌, ◌++◌, length, Option, Some, None, eqb, cond, refl, sym, ap, ◌∙◌, arith, append-nil}
use Rattle.std.specs.List.{list_all, join_with_byte, slice_split}
use Rattle.std.proofs.lemmas.Bool.Decides.{nat_tests}
use Rattle.std.proofs.lemmas.List.{nil_from_length}
use Rattle.std.proofs.lemmas.List.Splits.{join_with_byte-slice_split, length-slice_split}
use Rattle.file_paths.specs.Name.{is_name}
use Rattle.file_paths.specs.Path.{IsRelative, is_path, is_slash, path_of, path_after_slash, path_of_names, path_text}

path_text-join : (n : List ℕ) (ns : List (List ℕ)) → path_text (n ∷ ns) ≡ 47 ∷ join_with_byte 47 (n ∷ ns)
path_text-join n [] = ap (λ t. 47 ∷ t) (append-nil n)
path_text-join n (m ∷ ns) = ap (λ t. 47 ∷ n ++ t) (path_text-join m ns)

some_text : (ps : List (List ℕ)) → 0 < length ps → path_text ps ≡ 47 ∷ join_with_byte 47 ps
some_text [] few = absurd (omega arith)
some_text (p ∷ ps) few = path_text-join p ps

-- the pieces behind a slash spell the text behind it
pub path_text-pieces : (rest : List ℕ) → path_text (slice_split is_slash rest) ≡ 47 ∷ rest
path_text-pieces rest =
    some_text (slice_split is_slash rest) (omega (arith, length-slice_split is_slash rest)) ∙ ap (λ t. 47 ∷ t) (join_with_byte-slice_split 47 rest)

pub some_text_left : (n : ℕ) → false ≡ eqb n 0 → 0 < n
some_text_left n h = grind (arith, nat_tests, h)

pub no_slash : (text : List ℕ) → IsRelative text → path_of text ≡ None
no_slash [] none = refl
no_slash (b ∷ text) none = grind (arith, nat_tests, λ (e : b ≡ 47). none text (ap (λ c. c ∷ text) e))

-- what stands behind the slash, unless it is empty, is a path's text where its pieces are a path
pub path_behind : (rest : List ℕ) → 0 < length rest → path_after_slash rest ≡ path_of_names (slice_split is_slash rest)
path_behind [] some = absurd (omega arith)
path_behind (b ∷ rest) some = refl

pub is_its_path : (names : List (List ℕ)) (b : Bool) → is_path names ≡ b → path_of_names names ≡ cond b (Some names) None
is_its_path names b is = ap (λ c. cond c (Some names) None) is

pub path_names : (names : List (List ℕ)) → is_path names ≡ true → list_all is_name names ≡ true
path_names names h = grind (arith, nat_tests)

module _ (text rest : List ℕ) (behind : text ≡ 47 ∷ rest) where
  -- the text is as long as that of its pieces
  pub length-text : length (path_text (slice_split is_slash rest)) ≡ length text
  length-text = ap length (path_text-pieces rest ∙ sym behind)

  pub root_spelled : length rest ≡ 0 → path_of text ≡ Some []
  root_spelled none = rw (behind, nil_from_length rest none) refl

  pub pieces_spelled : (b : Bool) → 0 < length rest → is_path (slice_split is_slash rest) ≡ b → path_of text ≡ cond b (Some (slice_split is_slash rest)) None
  pieces_spelled b some is = ap path_of behind ∙ (path_behind rest some ∙ is_its_path (slice_split is_slash rest) b is)

abbrev from_some : Option ℕ → ℕ
from_some None = 0
from_some (Some n) = n

pub some_if : (b : Bool) (n m : ℕ) → Some m ≡ cond b (Some n) None → (b ≡ true) × (m ≡ n)
some_if true n m is = (refl, ap from_some is)
some_if false n m is = cc
