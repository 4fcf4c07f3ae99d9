use Rattle.std.proofs.Common.{[], refl, subst, IfErr}
use Rattle.std.specs.Map.{set_value}
use Rattle.std.specs.Option.{unwrap_or}
use Rattle.block_records.specs.Numbers.{is_number, entry_at}
use Rattle.block_recovery.specs.Plans.{IsPlanFaultOf, refused_reply}
use Rattle.block_recovery.proofs.Tables.{unchanged}
use Rattle.block_recovery.proofs.plans.Plans.reply.Goals as goal

pub returns-clause-fault : goal.returns-clause-fault
returns-clause-fault c = subst (λ found. IfErr c.reply.result (IsPlanFaultOf (refused_reply c.args.node (entry_at c.args.stamp (unwrap_or found []))))) c.in-Some.ensures.value c.reply.ensures.fault

pub returns-clause-err : goal.returns-clause-err
returns-clause-err c =
    let plans = c.args.self.now in
    unchanged c.reply.result c.args.block plans (set_value (is_number c.args.block) plans c.reply.new.self) plans c.in-Some.own.now c.reply.new.self refl c.in-Some.ensures.value refl c.reply.ensures.err
