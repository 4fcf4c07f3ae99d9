-- What the first lines of a script show, and those behind them, where it may have fewer.
use Rattle.std.proofs.Common.{◌≡◌, ℕ, List, [], ◌∷◌, refl, Bor, length, map, take, drop, sym, ap, ◌∙◌, min, Option, Some}
use Rattle.std.proofs.lemmas.List.{take-map, drop-map, take_min, drop_min}
use Rattle.hdfs_types.specs.declared.op.Request.{Request}
use Rattle.namespace_rows.specs.declared.row.Row.{Row}
use Rattle.namespace_rows.specs.Changes.{rows_under}
use Rattle.flat_rows.specs.DenialText.{trail_text}
use Rattle.explanations.specs.declared.explain.Explained.TheVariants.{Trail}
use Rattle.cluster_runs.specs.Output.{after_lines, script_status}
use Rattle.explanations.specs.Explanation.{request_in_first, explanation_by, explanation_behind, found_by, found_behind, trail_of}

abbrev now : Bor (List ℕ) → List ℕ
now line = line.now

pub first_lines : (lines front : List (Bor (List ℕ))) (n m : ℕ) → m ≡ min n (length lines) → front ≡ take m lines → map now front ≡ take n (map now lines)
first_lines lines front n m em e = ap (map now) e ∙ ap (λ k. map now (take k lines)) em ∙ ap (map now) (take_min n lines) ∙ sym (take-map now n lines)

pub lines_behind : (lines back : List (Bor (List ℕ))) (n m : ℕ) → m ≡ min n (length lines) → back ≡ drop m lines → map now back ≡ drop n (map now lines)
lines_behind lines back n m em e = ap (map now) e ∙ ap (λ k. map now (drop k lines)) em ∙ ap (map now) (drop_min n lines) ∙ sym (drop-map now n lines)

module _ (lines front back : List (Bor (List ℕ))) (n m : ℕ) (count : m ≡ min n (length lines)) (first : front ≡ take m lines) (behind : back ≡ drop m lines) (said : Option Request) (request : Request)
    (read : said ≡ request_in_first (map now back)) (is : said ≡ Some request) where
  told : request_in_first (drop n (map now lines)) ≡ Some request
  told = ap request_in_first (sym (lines_behind lines back n m count behind)) ∙ sym read ∙ is

  pub explains : trail_text (trail_of (after_lines (map now front)) request) ≡ explanation_behind n (map now lines)
  explains =
      ap (λ l. trail_text (trail_of (after_lines l) request)) (first_lines lines front n m count first) ∙ ap (explanation_by (after_lines (take n (map now lines)))) (sym told)

  pub finds : Trail (script_status (after_lines (map now front)).answers) ≡ found_behind n (map now lines)
  finds =
      ap (λ l. Trail (script_status (after_lines l).answers)) (first_lines lines front n m count first) ∙ ap (found_by (after_lines (take n (map now lines)))) (sym told)

-- all rows stand at and beneath the root
pub all_under : (rows : List Row) → rows_under [] rows ≡ rows
all_under [] = refl
all_under (row ∷ rows) = ap (λ l. row ∷ l) (all_under rows)
