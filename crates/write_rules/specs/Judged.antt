-- The verdict on a verb that nothing denies.
use Rattle.std.specs.Prelude.{Option, Some, None}
use Rattle.refusals.specs.declared.refusal.Refusal.{Refusal}
use Rattle.hdfs_types.specs.declared.reply.Reply.{Reply}
use Rattle.flat_rows.specs.declared.verdict.Verdict as answer
use Rattle.flat_rows.specs.declared.verdict.Verdict.TheVariants.{Done, Refused}

abbrev pub refused_or : Reply → Option Refusal → answer.Verdict
refused_or reply None = Done reply
refused_or reply (Some refusal) = Refused refusal
