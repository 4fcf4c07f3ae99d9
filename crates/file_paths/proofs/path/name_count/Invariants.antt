use Rattle.std.proofs.Common.{◌≡◌, ◌+◌, ◌≤◌, length}
use Rattle.std.specs.List.{list_all, slice_split}
use Rattle.file_paths.specs.Name.{is_name}
use Rattle.file_paths.specs.Path.{is_slash}
use Rattle.file_paths.proofs.path.name_count.Given as goal

abbrev pub invariant-loop-end : goal.invariant-loop-end
invariant-loop-end l =
    (list_all is_name (slice_split is_slash l.rest) ≡ list_all is_name (slice_split is_slash l.text))
    × (l.count + length (slice_split is_slash l.rest) ≡ length (slice_split is_slash l.text) + 1) × (l.count + length l.rest ≤ length l.text + 1)

abbrev pub decreases-loop-end : goal.decreases-loop-end
decreases-loop-end l = length l.rest
