use Rattle.block_effect_laws.proofs.Effects.{commit_keeps, request_keeps}
use Rattle.block_effect_laws.proofs.laws.commits_keep.Goals as goal

pub returns-clause-commit : goal.returns-clause-commit
returns-clause-commit c = commit_keeps

pub returns-clause-request : goal.returns-clause-request
returns-clause-request c = request_keeps
