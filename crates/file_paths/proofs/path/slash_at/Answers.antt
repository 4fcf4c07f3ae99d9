use Rattle.std.proofs.Common.{sym, arith}
use Rattle.std.proofs.lemmas.Bool.Decides.{nat_tests}
use Rattle.std.proofs.lemmas.List.Sums.{position_or_len_is}
use Rattle.file_paths.specs.Path.{is_slash}
use Rattle.file_paths.proofs.path.slash_at.Goals as goal

pub returns-else-bytes-at-ne47-clause-place : goal.returns-else-bytes-at-ne47-clause-place
returns-else-bytes-at-ne47-clause-place c =
    sym (position_or_len_is is_slash c.args.bytes.now c.loop-at.at 0 c.loop-at.invariant.0 c.loop-at.invariant.1 (λ _. grind (arith, nat_tests, c.if-bytes-at-ne47.false)))

pub returns-after-loop-at-clause-place : goal.returns-after-loop-at-clause-place
returns-after-loop-at-clause-place c =
    sym (position_or_len_is is_slash c.args.bytes.now c.loop-at.at 0 c.loop-at.invariant.0 c.loop-at.invariant.1 (λ lt. absurd (omega (arith, lt))))
