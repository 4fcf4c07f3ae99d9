use Rattle.std.proofs.Common.{sym, subst}
use Rattle.std.specs.List.{AllByRecursion}
use Rattle.file_takeovers.proofs.SoughtFiles.{found_more, IsFoundIn}
use Rattle.file_takeovers.proofs.FinishedFiles.{recovered_more, IsToRecover}
use Rattle.file_takeovers.proofs.sought.add.Goals as goal

pub returns-clause-some : goal.returns-clause-some
returns-clause-some c = λ expiry rows here all.
    subst (AllByRecursion (IsFoundIn expiry rows)) (sym c.in_ok-insert.ensures.entries) (found_more expiry rows c.args.path c.args.sought c.args.files.now.entries here all)

pub returns-clause-unfinished : goal.returns-clause-unfinished
returns-clause-unfinished c = λ here all.
    subst (AllByRecursion IsToRecover) (sym c.in_ok-insert.ensures.entries) (recovered_more c.args.path c.args.sought c.args.files.now.entries here all)
