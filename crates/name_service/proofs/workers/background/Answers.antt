use Rattle.std.proofs.Common.{◌≡◌, ◌+◌, ◌∙◌, List, [], ◌∷◌, ◌++◌, length, length-drop, take, drop, sym, ap, subst, arith}
use Rattle.std.proofs.lemmas.List.{take_more, take-append-drop}
use Rattle.hdfs_types.specs.declared.op.Request.{Request}
use Rattle.name_service.specs.Passes.{Pass, IsSomeFault}
use Rattle.name_service.specs.Working.{GainsAll}
use Rattle.name_service.proofs.Gaining.{one, more}
use Rattle.name_service.proofs.workers.background.Goals as goal

pub returns-in-Err : goal.returns-in-Err
returns-in-Err g c =
    let asked = take c.loop-request.request-index c.args.requests.now in
    record {
      asked = asked;
      rest = drop c.loop-request.request-index c.args.requests.now;
      whole = sym (take-append-drop c.loop-request.request-index c.args.requests.now);
      gains = subst (λ (pass : Pass). GainsAll c.args.pass.now asked pass) (sym c.in-Err.ensures.err_pass) c.loop-request.invariant;
      all = tt;
      stopped = λ none. omega (arith, c.loop-request-test.true, length-drop c.loop-request.request-index c.args.requests.now, ap length none);
      fault = subst (λ (pass : Pass). IsSomeFault pass.seen c.in-Err.fault) (sym c.in-Err.ensures.err_pass) c.in-Err.ensures.err;
    }

pub loop-request-preserved : goal.loop-request-preserved
loop-request-preserved g c =
    let xs = c.args.requests.now in
    let i = c.loop-request.request-index in
    let next : take (i + 1) xs ≡ take i xs ++ c.request-item.result ∷ [] = take_more xs i c.request-item.result c.loop-request-test.true ∙ ap (λ x. take i xs ++ x ∷ []) (sym c.request-item.is) in
    subst (λ (asked : List Request). GainsAll c.args.pass.now asked c.keep.new.pass) (sym next)
    (more c.args.pass.now (take i xs) c.loop-request.pass (c.request-item.result ∷ []) c.keep.new.pass c.loop-request.invariant (one c.loop-request.pass c.request-item.result c.keep.new.pass c.in_default.ensures.ok))
