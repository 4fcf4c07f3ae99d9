-- How a denial, a judged need and a trail are printed.
use Rattle.std.specs.Prelude.{ℕ, List, [], ◌∷◌, ◌++◌, codes, if◌then◌else◌}
use Rattle.std.specs.List.{flat_map, list_all}
use Rattle.file_paths.specs.Path.{path_text}
use Rattle.flat_rows.specs.Denial.{Denial}
use Rattle.flat_rows.specs.declared.trail.Judged.{Judged}
use Rattle.required_rights.specs.NeedText.{need_text, by_text}

abbrev pub denial_text : Denial → List ℕ
denial_text denial = path_text denial.row.path ++ (32 ∷ (need_text denial.need ++ (codes " by " ++ by_text denial.by)))

abbrev pub judged_text : Judged → List ℕ
judged_text judged = path_text judged.path ++ (32 ∷ (need_text judged.need ++ ((if judged.granted then codes " ok by " else codes " denied by ") ++ by_text judged.by)))

abbrev pub judged_line : Judged → List ℕ
judged_line judged = judged_text judged ++ (10 ∷ [])

-- the needs, a line each, and `granted` where all are met
abbrev pub trail_text : List Judged → List ℕ
trail_text needs = flat_map judged_line needs ++ (if list_all (λ need. need.granted) needs then codes "granted\n" else [])
