use Rattle.std.proofs.Common.{Option, subst}
use Rattle.history_replay.specs.declared.pair.Pair.{Pair}
use Rattle.history_replay.specs.Agreement.{Agrees, Finds}
use Rattle.audit_check.specs.Checking.{claims_of}
use Rattle.audit_check.proofs.check.check.Goals as goal

pub returns-in-None-clause-agrees : goal.returns-in-None-clause-agrees
returns-in-None-clause-agrees c = subst (λ (found : Option Pair). Finds (Agrees (claims_of c.args.opening.now c.args.history.now c.args.passes.now)) found) c.in-None.is c.in_ok-found.ensures
