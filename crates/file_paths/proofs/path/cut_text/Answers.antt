use Rattle.std.proofs.Common.{ap, ◌∙◌, arith}
use Rattle.std.specs.List.{position_or_len}
use Rattle.hdfs_values.proofs.Cuts.{cut_before, cut_behind, cut_first, cut_nowhere}
use Rattle.file_paths.specs.Path.{is_slash}
use Rattle.file_paths.proofs.Slashes.{slash_low}
use Rattle.file_paths.proofs.path.cut_text.Goals as goal

pub returns-then-at-text-clause-pieces : goal.returns-then-at-text-clause-pieces
returns-then-at-text-clause-pieces c =
    cut_nowhere is_slash slash_low c.args.text.now c.slash_at-at.result (c.slash_at-at.ensures.place ∙ ap (position_or_len is_slash) c.as_bytes.ensures.value) (omega arith)

pub range-requires-clause-end_boundary : goal.range-requires-clause-end_boundary
range-requires-clause-end_boundary c =
    cut_before is_slash slash_low c.args.text.now c.slash_at-at.result (c.slash_at-at.ensures.place ∙ ap (position_or_len is_slash) c.as_bytes.ensures.value) (omega arith)

pub range_from-requires : goal.range_from-requires
range_from-requires c _ =
    cut_behind is_slash slash_low c.args.text.now c.slash_at-at.result (c.slash_at-at.ensures.place ∙ ap (position_or_len is_slash) c.as_bytes.ensures.value) c.utf8.text (omega arith)

pub returns-clause-pieces : goal.returns-clause-pieces
returns-clause-pieces c =
    cut_first is_slash slash_low c.args.text.now c.slash_at-at.result (c.slash_at-at.ensures.place ∙ ap (position_or_len is_slash) c.as_bytes.ensures.value) c.range.result.now c.range_from.result.now (omega arith) c.range.ensures.value c.range_from.ensures.value
