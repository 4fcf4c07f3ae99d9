-- The verdicts that may come with a change, and a verdict with a copy of it.
use Rattle.std.specs.Prelude.{◌≡◌, Bool, true, false}
use Rattle.hdfs_types.specs.declared.reply.Reply.{Reply}
use Rattle.hdfs_types.specs.declared.reply.Reply.TheVariants.{Empty, Deleted, Released, Recovering, Closed, Expired, Serial, Added, Opened, Commands}
use Rattle.flat_rows.specs.declared.verdict.Verdict.{Verdict}
use Rattle.flat_rows.specs.declared.verdict.Verdict.TheVariants.{Done, Denied, Refused}
use Rattle.namesystem.specs.declared.told.Told.{Told}

-- what may be reported of a change. No copy of it takes memory, but for one that is made before the change.
abbrev pub reports_change : Reply → Bool
reports_change Empty = true
reports_change (Deleted count) = true
reports_change Released = true
reports_change (Recovering block stamp) = true
reports_change (Closed bytes) = true
reports_change (Expired files) = true
reports_change (Serial serial) = true
reports_change (Added added) = true
reports_change (Commands commands) = true
reports_change _ = false

-- the namespace, the users, leases, keys or what is known of blocks and nodes may have changed where this is the verdict
abbrev pub may_change : Verdict → Bool
may_change (Done reply) = reports_change reply
may_change (Denied denial) = false
may_change (Refused refusal) = false

-- what grants tokens: a copy of it takes memory, so that it is made before anything changes
abbrev pub is_list : Reply → Bool
is_list (Added added) = true
is_list (Opened opened) = true
is_list (Commands commands) = true
is_list _ = false

abbrev pub is_told_before : Verdict → Bool
is_told_before (Done reply) = is_list reply
is_told_before (Denied denial) = false
is_told_before (Refused refusal) = false

pub record IsTold (verdict : Verdict) (told : Told) : Type 0 where
  pub verdict_is : told.verdict ≡ verdict
  pub copy : told.copy ≡ verdict
