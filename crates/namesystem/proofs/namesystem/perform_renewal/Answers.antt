use Rattle.std.proofs.Common.{refl}
use Rattle.namesystem.proofs.Performing.{refused_renewal, done_renewal}
use Rattle.namesystem.proofs.namesystem.perform_renewal.Goals as goal

pub returns-then-count-eq0-clause-ok : goal.returns-then-count-eq0-clause-ok
returns-then-count-eq0-clause-ok c = λ last exact.
    refused_renewal last c.args.now c.args.caller.now c.args.system.now c.count.result c.count.ensures c.if-count-eq0.true exact

pub returns-clause-ok : goal.returns-clause-ok
returns-clause-ok c = λ last exact.
    done_renewal last c.args.now c.args.caller.now c.args.system.now (record (c.args.system.now) { writers = c.renew.new.self }) c.count.result
    c.count.ensures c.if-count-eq0.false refl refl refl refl c.in_ok-renew.ensures.files c.in_ok-renew.ensures.leased exact
