use denote.Text.{Utf8}
use denote.Shadow.{shadow}
use Rattle.std.proofs.Common.{◌≡◌, ◌≤◌, ◌++◌, length}
use Rattle.std.specs.List.{list_all, slice_split}
use Rattle.file_paths.specs.Marks.{marks_of}
use Rattle.file_paths.specs.Name.{is_name}
use Rattle.file_paths.specs.Path.{is_slash}
use Rattle.file_paths.proofs.path.marked_names.Given as goal

abbrev pub invariant-loop-stops : goal.invariant-loop-stops
invariant-loop-stops l =
    shadow (Utf8 l.rest) × (l.stops ≡ marks_of l.rest) × (length l.rest ≤ 64)
    × (list_all is_name (slice_split is_slash l.rest) ≡ list_all is_name (slice_split is_slash l.text))
    × (l.names.items ++ slice_split is_slash l.rest ≡ slice_split is_slash l.text)

abbrev pub decreases-loop-stops : goal.decreases-loop-stops
decreases-loop-stops l = length l.rest
