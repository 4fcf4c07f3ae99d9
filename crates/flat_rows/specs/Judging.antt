-- How an operation is judged in one go: where it needs rights and the sticky bit alone, of its caller with a superuser's rank while permission checking is off.
use Rattle.std.specs.Prelude.{ℕ, Bool, true, false, List, if◌then◌else◌}
use Rattle.hdfs_types.specs.declared.op.Op.{Op}
use Rattle.hdfs_types.specs.declared.op.Op.TheVariants as op
use Rattle.principals.specs.Users.{Users, Caller, caller_for_rights}
use Rattle.flat_rows.specs.Decision.{asking_caller}

-- the needs of the operation are judged also while permission checking is off
abbrev pub is_strict : Op → Bool
is_strict (op.SetMode path mode) = true
is_strict (op.SetOwner path owner group) = true
is_strict (op.SetAcl path change) = true
is_strict (op.AddUser user groups) = true
is_strict (op.SetGroups user groups) = true
is_strict (op.SetChecking on) = true
is_strict (op.RollKey key) = true
is_strict op.Tick = true
is_strict op.Heartbeat = true
is_strict (op.Reported replica) = true
is_strict (op.CommitRecovery recovered) = true
is_strict _ = false

abbrev pub judged_caller : Users → List ℕ → Op → Caller
judged_caller users caller op = if is_strict op then asking_caller users caller op else caller_for_rights users caller
