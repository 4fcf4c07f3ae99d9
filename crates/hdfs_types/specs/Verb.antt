-- The operation that each verb is.
use Rattle.hdfs_types.specs.declared.op.Op.{Op}
use Rattle.hdfs_types.specs.declared.op.Op.TheVariants as op
use Rattle.hdfs_types.specs.declared.verb.Read.{Read}
use Rattle.hdfs_types.specs.declared.verb.Read.TheVariants as read
use Rattle.hdfs_types.specs.declared.verb.Update.{Update}
use Rattle.hdfs_types.specs.declared.verb.Update.TheVariants as update
use Rattle.hdfs_types.specs.declared.verb.Write.{Write}
use Rattle.hdfs_types.specs.declared.verb.Write.TheVariants as write
use Rattle.hdfs_types.specs.declared.verb.Grant.{Grant}
use Rattle.hdfs_types.specs.declared.verb.Grant.TheVariants as grant
use Rattle.hdfs_types.specs.declared.verb.Verb.{Verb}
use Rattle.hdfs_types.specs.declared.verb.Verb.TheVariants as verb

abbrev pub read_op : Read → Op
read_op (read.Stat path) = op.Stat path.now
read_op (read.List path) = op.List path.now
read_op (read.Summary path) = op.Summary path.now
read_op (read.GetAcl path) = op.GetAcl path.now

abbrev pub update_op : Update → Op
update_op (update.Mkdirs path mode) = op.Mkdirs path.now mode
update_op (update.Rename from to) = op.Rename from.now to.now
update_op (update.SetMode path mode) = op.SetMode path.now mode
update_op (update.SetOwner path owner group) = op.SetOwner path.now owner.now group.now
update_op (update.SetAcl path change) = op.SetAcl path.now change.now
update_op (update.AddUser user groups) = op.AddUser user.now groups.now
update_op (update.SetGroups user groups) = op.SetGroups user.now groups.now
update_op (update.SetChecking on) = op.SetChecking on

abbrev pub write_op : Write → Op
write_op (write.Create path mode replication over) = op.Create path.now mode replication over
write_op (write.Complete path last) = op.Complete path.now last
write_op (write.Delete path recursive) = op.Delete path.now recursive

abbrev pub grant_op : Grant → Op
grant_op (grant.Open path) = op.Open path.now
grant_op (grant.AddBlock path last) = op.AddBlock path.now last
grant_op grant.Heartbeat = op.Heartbeat

abbrev pub op_of : Verb → Op
op_of (verb.Read read) = read_op read
op_of (verb.Update update) = update_op update
op_of (verb.Write write) = write_op write
op_of (verb.Grant grant) = grant_op grant
op_of (verb.Append path) = op.Append path.now
op_of (verb.SetReplication path replication) = op.SetReplication path.now replication
op_of (verb.RollKey key) = op.RollKey key
op_of verb.Renew = op.Renew
op_of verb.Tick = op.Tick
op_of (verb.Reported replica) = op.Reported replica
op_of (verb.CommitRecovery recovered) = op.CommitRecovery recovered.now
