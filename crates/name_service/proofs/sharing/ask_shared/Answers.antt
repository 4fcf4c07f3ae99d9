use Rattle.std.proofs.Common.{◌≡◌, suc, ◌+◌, ◌∙◌, List, [], ◌∷◌, ◌++◌, Some, map, take, drop, slice_get, sym, ap, subst, arith}
use Rattle.std.specs.Prelude.{nat_eq, if◌then◌else◌}
use Rattle.std.proofs.lemmas.Option.{slice_get-get_or}
use Rattle.hdfs_types.specs.declared.op.Request.{Request}
use Rattle.name_service.specs.declared.jobs.KeptAt.{KeptAt}
use Rattle.name_service.specs.Shares.{shared}
use Rattle.name_service.specs.Passes.{Pass, IsSomeFault}
use Rattle.name_service.specs.Working.{GainsAll}
use Rattle.name_service.proofs.Gaining.{more}
use Rattle.name_service.proofs.Turns.{shared_from, shared_more, shared_parts}
use Rattle.name_service.proofs.sharing.ask_shared.Goals as goal

pub returns-in-Err : goal.returns-in-Err
returns-in-Err g c =
    let jobs = c.args.jobs.now in
    let turns = map (λ (place : KeptAt). place.worker) c.args.places.now in
    let i = c.loop-i.i in
    let job = c.index-jobs-i.result in
    let asked = shared c.args.number (take i turns) (take i jobs) in
    let job_is : slice_get jobs i ≡ Some job = slice_get-get_or jobs i job c.loop-i-test.true ∙ ap (λ (own : Request). Some own) (sym c.index-jobs-i.is) in
    record {
      asked = asked;
      rest = shared c.args.number (drop i turns) (drop i jobs);
      whole = shared_parts c.args.number turns jobs i;
      gains = subst (λ (pass : Pass). GainsAll c.args.pass.now asked pass) (sym c.in-Err.ensures.err_pass) c.loop-i.invariant;
      all = tt;
      stopped = shared_from c.args.number turns jobs i job (c.turn_at.ensures ∙ ap (λ k. Some k) c.in-Err.ensures.err_turn) job_is;
      fault = subst (λ (pass : Pass). IsSomeFault pass.seen c.in-Err.fault) (sym c.in-Err.ensures.err_pass) c.in-Err.ensures.err;
    }

pub loop-i-preserved : goal.loop-i-preserved
loop-i-preserved g c =
    let jobs = c.args.jobs.now in
    let turns = map (λ (place : KeptAt). place.worker) c.args.places.now in
    let i = c.loop-i.i in
    let job = c.index-jobs-i.result in
    let own = if nat_eq c.turn_at.result c.args.number then job ∷ [] else [] in
    let job_is : slice_get jobs i ≡ Some job = slice_get-get_or jobs i job c.loop-i-test.true ∙ ap (λ (own : Request). Some own) (sym c.index-jobs-i.is) in
    let one_more : suc i ≡ i + 1 = omega arith in
    let next : shared c.args.number (take (i + 1) turns) (take (i + 1) jobs) ≡ shared c.args.number (take i turns) (take i jobs) ++ own =
    subst (λ k. shared c.args.number (take k turns) (take k jobs) ≡ shared c.args.number (take i turns) (take i jobs) ++ own) one_more
    (shared_more c.args.number turns jobs i c.turn_at.result job c.turn_at.ensures job_is) in
    subst (λ (asked : List Request). GainsAll c.args.pass.now asked c.ask_own.new.pass) (sym next)
    (more c.args.pass.now (shared c.args.number (take i turns) (take i jobs)) c.loop-i.pass own c.ask_own.new.pass c.loop-i.invariant c.in_default.ensures.ok)
