use Rattle.std.proofs.Common.{sym, subst, option_copied}
use Rattle.file_takeovers.specs.Recovered.{IsSearched}
use Rattle.file_takeovers.proofs.Recovering.{none_ended}
use Rattle.file_takeovers.proofs.recovery.end_in.Goals as goal

pub returns-in-Some : goal.returns-in-Some
returns-in-Some c =
    c.end_recovery.ensures.all (c.requires.once c.in-Some.path.now (subst (λ path. IsSearched c.args.block c.args.tree.now (option_copied path)) c.in-Some.is c.requires.searched))

pub returns-in_default : goal.returns-in_default
returns-in_default c =
    sym (none_ended c.args.block c.args.length c.args.tree.now (subst (λ path. IsSearched c.args.block c.args.tree.now (option_copied path)) c.in_default.is c.requires.searched))
