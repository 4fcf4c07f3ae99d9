use Rattle.std.proofs.Common.{sym, ap, ◌∙◌, subst}
use Rattle.hdfs_types.specs.declared.op.Op.TheVariants as op
use Rattle.write_rules.specs.JudgedAppends.{verdict_of_append, IsJudgedAt}
use Rattle.namesystem.specs.Performed.{facts_in}
use Rattle.namesystem.proofs.Performing.{performed_not_done}
use Rattle.namesystem.proofs.Appending.{closed_file, held_file, opened, lease_held, taken_from, three_of}
use Rattle.namesystem.proofs.namesystem.perform_append.Goals as goal

pub returns-in-Verdict-clause-ok : goal.returns-in-Verdict-clause-ok
returns-in-Verdict-clause-ok c = λ last exact.
    let facts = facts_in last c.args.now c.args.system.now in
    let none = subst (IsJudgedAt c.args.path.now c.args.system.now.tree) c.in-Verdict.is c.in_ok-verdict.ensures.found in
    performed_not_done last c.args.now c.args.caller.now (op.Append c.args.path.now) c.args.system.now c.in-Verdict.verdict
    (ap (verdict_of_append facts) (sym c.in-Verdict.is) ∙ c.in_ok-verdict.ensures.verdict facts) none exact

pub reopen-requires-clause-closed : goal.reopen-requires-clause-closed
reopen-requires-clause-closed c = closed_file c.args.path.now c.args.system.now.tree (subst (IsJudgedAt c.args.path.now c.args.system.now.tree) c.in-Closed.is c.in_ok-verdict.ensures.found)

pub take_over-requires-clause-held : goal.take_over-requires-clause-held
take_over-requires-clause-held c = held_file c.args.path.now c.args.system.now.tree c.in-Held.holder c.in-Held.unfinished (subst (IsJudgedAt c.args.path.now c.args.system.now.tree) c.in-Held.is c.in_ok-verdict.ensures.found)

pub returns-in_ok-reopen-in-Closed-clause-ok : goal.returns-in_ok-reopen-in-Closed-clause-ok
returns-in_ok-reopen-in-Closed-clause-ok c = λ last exact.
    let facts = facts_in last c.args.now c.args.system.now in
    opened last c.args.now c.args.caller.now c.args.path.now c.args.system.now exact c.reopen.new.tree c.reopen.new.writers (subst (IsJudgedAt c.args.path.now c.args.system.now.tree) c.in-Closed.is c.in_ok-verdict.ensures.found)
    (ap (verdict_of_append facts) (sym c.in-Closed.is) ∙ c.in_ok-verdict.ensures.verdict facts) c.in_ok-reopen-in-Closed.ensures.tree (c.in_ok-reopen-in-Closed.ensures.exact last exact)

pub returns-then-is_live-clause-ok : goal.returns-then-is_live-clause-ok
returns-then-is_live-clause-ok c = λ last exact.
    let facts = facts_in last c.args.now c.args.system.now in
    lease_held last c.args.now c.args.caller.now c.args.path.now c.args.system.now exact c.in-Held.holder c.in-Held.unfinished (subst (IsJudgedAt c.args.path.now c.args.system.now.tree) c.in-Held.is c.in_ok-verdict.ensures.found)
    (ap (verdict_of_append facts) (sym c.in-Held.is) ∙ c.in_ok-verdict.ensures.verdict facts) c.is_live.result c.is_live.ensures c.if-is_live.true

pub returns-else-is_live-clause-ok : goal.returns-else-is_live-clause-ok
returns-else-is_live-clause-ok c = λ last exact.
    let facts = facts_in last c.args.now c.args.system.now in
    three_of c.take_over.result _ _ _ _ c.take_over.ensures.verdict c.take_over.ensures.taken c.take_over.ensures.refused
    (λ verdict told done undone. taken_from last c.args.now c.args.caller.now c.args.path.now c.args.system.now exact c.in-Held.holder c.in-Held.unfinished
    (subst (IsJudgedAt c.args.path.now c.args.system.now.tree) c.in-Held.is c.in_ok-verdict.ensures.found) (ap (verdict_of_append facts) (sym c.in-Held.is) ∙ c.in_ok-verdict.ensures.verdict facts)
    c.is_live.result verdict c.take_over.new.tree c.take_over.new.blocks c.take_over.new.writers c.is_live.ensures c.if-is_live.false told done undone)
