use Rattle.std.proofs.Common.{◌∙◌, ap, arith}
use Rattle.std.specs.Prelude.{◌==◌}
use Rattle.std.specs.List.{position_or_len}
use Rattle.hdfs_values.proofs.Cuts.{cuts_before, cuts_behind, cuts_first, cuts_nowhere}
use Rattle.hdfs_values.proofs.pieces.cut_at.Goals as goal

pub returns-then-at-text-clause-pieces : goal.returns-then-at-text-clause-pieces
returns-then-at-text-clause-pieces c =
    cuts_nowhere c.args.separator c.requires c.args.text.now c.byte_at-at.result (c.byte_at-at.ensures.place ∙ ap (position_or_len (λ b. b == c.args.separator)) c.as_bytes.ensures.value) (omega arith)

pub range-requires-clause-end_boundary : goal.range-requires-clause-end_boundary
range-requires-clause-end_boundary c =
    cuts_before c.args.separator c.requires c.args.text.now c.byte_at-at.result (c.byte_at-at.ensures.place ∙ ap (position_or_len (λ b. b == c.args.separator)) c.as_bytes.ensures.value) (omega arith)

pub range_from-requires : goal.range_from-requires
range_from-requires c _ =
    cuts_behind c.args.separator c.requires c.args.text.now c.byte_at-at.result (c.byte_at-at.ensures.place ∙ ap (position_or_len (λ b. b == c.args.separator)) c.as_bytes.ensures.value) c.utf8.text (omega arith)

pub returns-clause-pieces : goal.returns-clause-pieces
returns-clause-pieces c =
    cuts_first c.args.separator c.requires c.args.text.now c.byte_at-at.result (c.byte_at-at.ensures.place ∙ ap (position_or_len (λ b. b == c.args.separator)) c.as_bytes.ensures.value) c.range.result.now c.range_from.result.now (omega arith) c.range.ensures.value c.range_from.ensures.value
