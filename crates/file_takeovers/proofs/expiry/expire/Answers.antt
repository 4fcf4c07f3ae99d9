use Rattle.std.proofs.Common.{IfSome, subst}
use Rattle.file_takeovers.specs.Expiry.{Expiry, finished_closed, AreAll, AreAtMost}
use Rattle.file_takeovers.proofs.expiry.expire.Goals as goal

pub returns-in-Some-clause-ok : goal.returns-in-Some-clause-ok
returns-in-Some-clause-ok c = λ last exact.
    let expiry : Expiry = record { past = c.args.past.now; retry = c.args.blocks.now.retry; now = c.args.now } in
    c.expire_known.ensures.ok last exact (subst (λ found. IfSome found (λ known. AreAtMost c.args.tree.now c.args.past.now known.finished.items)) c.in-Some.is (c.in_ok-known.ensures.finished last exact))
    (subst (λ found. IfSome found (λ known. AreAll expiry (finished_closed c.args.past.now c.args.tree.now) known.files)) c.in-Some.is (c.in_ok-known.ensures.all last exact))
