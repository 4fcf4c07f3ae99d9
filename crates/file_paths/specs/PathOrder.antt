-- The order of paths: by component, and each component by its bytes. So `/a/c` stands before `/a-b`.
use Rattle.std.specs.Prelude.{ℕ, Bool, List}
use Rattle.std.specs.Cmp.{IsTotalOrder}
use Rattle.std.specs.Cmp.Lexicographic.{slice_cmp}
use Rattle.std.specs.Ordering.{is_eq}
use Rattle.std.specs.declared.cmp.Ordering.{Ordering}
use Rattle.std.proofs.lemmas.Cmp.{lists_total, nat_list_cmp_total}
use Rattle.hdfs_values.specs.Text.{text_cmp}

abbrev pub path_cmp : List (List ℕ) → List (List ℕ) → Ordering
path_cmp = slice_cmp text_cmp

-- two paths are one
abbrev pub same_path : List (List ℕ) → List (List ℕ) → Bool
same_path p q = is_eq (path_cmp p q)

pub paths_total : IsTotalOrder path_cmp
paths_total = lists_total nat_list_cmp_total
