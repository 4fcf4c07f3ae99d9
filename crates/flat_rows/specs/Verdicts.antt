-- Kinds of verdicts.
use Rattle.std.specs.Prelude.{Bool, true, false}
use Rattle.flat_rows.specs.declared.verdict.Verdict.{Verdict}
use Rattle.flat_rows.specs.declared.verdict.Verdict.TheVariants.{Done, Denied, Refused}

abbrev pub is_done : Verdict → Bool
is_done (Done reply) = true
is_done (Denied denial) = false
is_done (Refused refusal) = false

abbrev pub is_denied : Verdict → Bool
is_denied (Done reply) = false
is_denied (Denied denial) = true
is_denied (Refused refusal) = false
