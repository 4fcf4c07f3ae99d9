use Rattle.std.proofs.Common.{◌≡◌, Some, true, subst}
use Rattle.std.specs.Option.{IfSome, is_some}
use Rattle.namespace_rows.specs.Rows.{row_at}
use Rattle.flat_rows.specs.declared.takeover.Sought.{Sought}
use Rattle.file_takeovers.specs.Expiry.{sought_at}
use Rattle.file_takeovers.proofs.sought.add_held_at.Goals as goal

pub returns-clause-some : goal.returns-clause-some
returns-clause-some c = λ expiry among all.
    c.add.ensures.some expiry c.args.tree.now (subst (λ found. IfSome found (λ sought. sought_at expiry (row_at c.args.path c.args.tree.now) ≡ Some sought)) c.in-Some.is (c.in_ok-sought.ensures.sought expiry among)) all

pub returns-clause-unfinished : goal.returns-clause-unfinished
returns-clause-unfinished c =
    c.add.ensures.unfinished (subst (λ found. IfSome found (λ (sought : Sought). is_some sought.block ≡ true)) c.in-Some.is c.in_ok-sought.ensures.unfinished)
