use Rattle.block_effect_laws.proofs.Effects.{heartbeat_keeps, report_keeps}
use Rattle.block_effect_laws.proofs.laws.nodes_keep.Goals as goal

pub returns-clause-heartbeat : goal.returns-clause-heartbeat
returns-clause-heartbeat c = heartbeat_keeps

pub returns-clause-report : goal.returns-clause-report
returns-clause-report c = report_keeps
