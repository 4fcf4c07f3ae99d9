use Rattle.std.proofs.Common.{List, length, inr, subst}
use Rattle.name_service.specs.declared.jobs.KeptAt.{KeptAt}
use Rattle.name_service.specs.Jobs.{EachHasAsked}
use Rattle.name_service.specs.Shares.{shared_jobs}
use Rattle.name_service.proofs.Answering.{has_worked, placed}
use Rattle.name_service.proofs.Threads.{server_sync}
use Rattle.name_service.proofs.sharing.serve.Goals as goal

pub work_beside-requires-sync-S : goal.work_beside-requires-sync-S
work_beside-requires-sync-S g c κs within = record { shared = (server_sync g.row.G (record { shared = c.type_bounds.sync-G.shared })).shared }

pub returns-in-Some-clause-err : goal.returns-in-Some-clause-err
returns-in-Some-clause-err g c =
    let old = c.args.workers.now in
    let new = c.work_beside.new.workers in
    let jobs = c.args.jobs.now in
    let each = subst (λ (places : List KeptAt). EachHasAsked (λ number. shared_jobs number places jobs) old new) c.deref.ensures.value c.work_beside.ensures in
    inr (has_worked jobs (length old) c.in-Ok.places.items c.in-Ok.ensures.workers old new each, c.in-Some.ensures.some)

pub returns-in-None-clause-ok : goal.returns-in-None-clause-ok
returns-in-None-clause-ok g c =
    let old = c.args.workers.now in
    let new = c.work_beside.new.workers in
    let jobs = c.args.jobs.now in
    let each = subst (λ (places : List KeptAt). EachHasAsked (λ number. shared_jobs number places jobs) old new) c.deref.ensures.value c.work_beside.ensures in
    (has_worked jobs (length old) c.in-Ok.places.items c.in-Ok.ensures.workers old new each, c.in-None.ensures.none)

pub returns-in-None-clause-places : goal.returns-in-None-clause-places
returns-in-None-clause-places g c =
    placed c.args.jobs.now c.args.workers.now c.work_beside.new.workers c.in-Ok.places.items c.in-Ok.ensures.workers c.in-Ok.ensures.places c.requires (returns-in-None-clause-ok g c).0
    (returns-in-None-clause-ok g c).1
