use Rattle.std.proofs.Common.{◌-◌, refl, arith}
use Rattle.name_service.proofs.Closing.{closes, no_fewer}
use Rattle.name_service.proofs.server.close_locked.Goals as goal

pub overflow_sub-result : goal.overflow_sub-result
overflow_sub-result c = omega (arith, no_fewer c.args.opening c.args.core c.args.passes.items c.in_default.ensures.agrees, c.len-begun.ensures, c.place.ensures.place)

pub returns-clause-ok : goal.returns-clause-ok
returns-clause-ok c =
    let fewer = no_fewer c.args.opening c.args.core c.args.passes.items c.in_default.ensures.agrees in
    closes c.args.opening c.args.core c.args.passes.items (record { entries = c.place.result - c.len-begun.result; core = c.args.core }) c.requires c.in_default.ensures.agrees refl
    (omega (arith, fewer, c.len-begun.ensures, c.place.ensures.place))
