-- What is asked of the rows at and beneath a path, without a copy of them.
use Rattle.std.specs.Prelude.{ℕ, ◌+◌, Bool, if◌then◌else◌, ◌&&◌, ◌^◌, ◌-◌, not, min, List, length, filter, reverse, Option, Some, None}
use Rattle.std.specs.List.{list_any}
use Rattle.std.specs.Option.{option_and_then}
use Rattle.permission_bits.specs.declared.rights.Rights.{Rights}
use Rattle.file_states.specs.declared.kind.ObjectKind.TheVariants.{Directory}
use Rattle.namespace_rows.specs.declared.row.Row.{Row}
use Rattle.namespace_rows.specs.Rows.{is_directory}
use Rattle.file_blocks.specs.Blocks.{told_length}
use Rattle.flat_rows.specs.Outcome.{bytes_in}
use Rattle.namespace_rows.specs.Judgement.{judgement}
use Rattle.inode_visits.specs.declared.visit.Counted.{Counted}
use Rattle.inode_visits.specs.declared.visit.Counts.{Counts}
use Rattle.inode_visits.specs.declared.visit.Found.{Found}
use Rattle.inode_visits.specs.Holding.{has_files}

-- the greatest number that a count tells stands for all above it
abbrev pub told_number : ℕ → ℕ
told_number number = min number (2 ^ 64 - 1)

abbrev pub directories : List Row → ℕ
directories rows = length (filter is_directory rows)

abbrev pub files : List Row → ℕ
files rows = length (filter (λ row. not (is_directory row)) rows)

-- the sum of two lengths, where it fits in 64 bits
abbrev pub sum_told : Option ℕ → Option ℕ → Option ℕ
sum_told one other = option_and_then (λ length. option_and_then (λ more. told_length (length + more)) other) one

abbrev pub counts_of : List Row → Counts
counts_of rows = record { directories = told_number (directories rows); files = told_number (files rows); bytes = told_length (bytes_in rows) }

-- a directory that doesn't grant a caller with these groups what is needed
abbrev pub is_closed : List ℕ → List (List ℕ) → Rights → Row → Bool
is_closed caller groups need row = is_directory row && not (judgement row caller groups need).granted

-- what rows are counted as, where no directory among them is closed
abbrev pub counted_open : List ℕ → List (List ℕ) → Rights → List Row → Option Counted
counted_open caller groups need rows = if list_any (is_closed caller groups need) rows then None else Some (record { number = told_number (length rows); has_files = has_files rows })

-- the row that was found, its path from where the search began
abbrev pub row_found : Found → Row
row_found found = record { path = reverse found.names.items; kind = Directory; owner = found.owner; group = found.group; acl = found.acl; file = None }
