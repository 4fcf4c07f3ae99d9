use Rattle.std.proofs.Common.{rules, ◌≡◌, ◌<◌, ◌+◌, ◌∙◌, ℕ, List, [], ◌∷◌, ◌++◌, length, length-set, map, take, set, sym, ap, subst, Some, slice_get, get_or, arith}
use Rattle.std.specs.Prelude.{count_by}
use Rattle.std.proofs.lemmas.List.{take_more}
use Rattle.hdfs_types.specs.declared.op.Request.{Request}
use Rattle.name_service.specs.Jobs.{is_job_of, receipt_behind, worker_of}
use Rattle.name_service.specs.declared.jobs.KeptAt.{KeptAt}
use Rattle.name_service.proofs.Placing.{counted, grown, maps_more}
use Rattle.name_service.proofs.jobs.places_behind.Goals as goal

pub loop-job-preserved : goal.loop-job-preserved
loop-job-preserved c =
    let callers = c.args.callers.now.keys in
    let start = c.args.next.now in
    let jobs = c.args.jobs.now in
    let i = c.loop-job.job-index in
    let job = c.job-item.result in
    let old = c.loop-job.next in
    let places = c.loop-job.places.items in
    let place = c.in_ok-next_place.field-0 in
    let before = c.loop-job.invariant in
    let worker = worker_of callers (length start) job in
    let next : take (i + 1) jobs ≡ take i jobs ++ job ∷ [] = take_more jobs i job c.loop-job-test.true ∙ ap (λ (x : Request). take i jobs ++ x ∷ []) (sym c.job-item.is) in
    let theirs : place.worker ≡ worker = search rules in
    let went_on : c.next_place.new.next ≡ set old worker (get_or old worker 0 + 1) =
    subst (λ k. c.next_place.new.next ≡ set old k (get_or old k 0 + 1)) (sym c.in_ok-next_place.ensures.place.0 ∙ theirs) c.in_ok-next_place.ensures.next in
    let len : length c.next_place.new.next ≡ length old = ap length went_on ∙ length-set old worker (get_or old worker 0 + 1) in
    let short : worker < length old = search rules in
    let counts = before.3 in
    let own : place.receipt ≡ receipt_behind callers start (take (length places) jobs) place.worker =
    c.in_ok-next_place.ensures.place.1 ∙ (ap (λ k. get_or old k 0) (sym c.in_ok-next_place.ensures.place.0 ∙ theirs) ∙ (counts worker short
    ∙ (ap (λ k. get_or start k 0 + count_by (is_job_of callers (length start) k) (take i jobs)) (sym theirs) ∙ ap (λ n. receipt_behind callers start (take n jobs) place.worker) (sym before.1)))) in (
      len ∙ before.0,
      search rules,
      ap (map (λ (place : KeptAt). place.worker)) c.in_ok-push.ensures.items ∙ (maps_more (λ (place : KeptAt). place.worker) (worker_of callers (length start)) places (take i jobs) place job before.2 theirs
          ∙ ap (map (worker_of callers (length start))) (sym next)),
      subst (λ (counters : List ℕ). (n : ℕ) → n < length counters → get_or counters n 0 ≡ get_or start n 0 + count_by (is_job_of callers (length start) n) (take (i + 1) jobs)) (sym went_on)
          (λ n small. counted (worker_of callers (length start)) jobs i job c.loop-job-test.true c.job-item.is old start short counts n (omega (arith, small, length-set old worker (get_or old worker 0 + 1)))),
      subst (λ (all : List KeptAt). (k : ℕ) (other : KeptAt) → slice_get all k ≡ Some other → other.receipt ≡ receipt_behind callers start (take k jobs) other.worker) (sym c.in_ok-push.ensures.items)
          (grown (λ k (other : KeptAt). other.receipt ≡ receipt_behind callers start (take k jobs) other.worker) places place before.4 own),
    )
