-- The nodes that reported a block, each with the length that it reported.
use Rattle.std.specs.Prelude.{ℕ, ◌==◌, Bool, not, List, filter, fold}
use Rattle.std.specs.BTreeMap.{insert_entry}
use Rattle.std.specs.List.{list_any}
use Rattle.std.specs.Map.{keys_of}
use Rattle.std.specs.Ordering.{nat_cmp}

-- a node reported this length
abbrev pub is_reported : List (ℕ × ℕ) → ℕ → Bool
is_reported reports length = list_any (λ report. report.1 == length) reports

abbrev pub agreeing_reports : ℕ → List (ℕ × ℕ) → List (ℕ × ℕ)
agreeing_reports length reports = filter (λ report. report.1 == length) reports

-- the nodes that reported another length
abbrev pub others_of : ℕ → List (ℕ × ℕ) → List ℕ
others_of length reports = keys_of (filter (λ report. not (report.1 == length)) reports)

-- each of these nodes reports this length
abbrev pub with_reports_of : List ℕ → ℕ → List (ℕ × ℕ) → List (ℕ × ℕ)
with_reports_of nodes length reports = fold (λ left node. insert_entry nat_cmp left node length) reports nodes
