-- What workers that share jobs have answered, and where.
use Rattle.std.proofs.Common.{◌≡◌, ◌⊎◌, ◌<◌, ◌≤◌, ◌+◌, ◌∙◌, ℕ, List, [], ◌++◌, map, length, take, Some, None, Result, Ok, Err, IsOk, OnOk, sym, ap, subst, slice_get, get_or, arith, eq-eqb, inl, inr}
use Rattle.std.specs.Prelude.{count_by, option_map, unwrap_or, position}
use Rattle.std.proofs.lemmas.Nat.{mod_below}
use Rattle.std.proofs.lemmas.List.{append-nil, length-map}
use Rattle.std.proofs.lemmas.Option.{slice_get-map, slice_get_cases, slice_get_within, get_or_from_slice_get}
use Rattle.hdfs_values.specs.Text.{same}
use Rattle.hdfs_types.specs.declared.op.Request.{Request}
use Rattle.history.specs.declared.entry.Answer.{Answer}
use Rattle.name_service.specs.declared.jobs.KeptAt.{KeptAt}
use Rattle.name_service.specs.declared.pass.AskFault.{AskFault}
use Rattle.name_service.specs.declared.sharing.Worker.{Worker}
use Rattle.name_service.proofs.Gaining.{gained}
use Rattle.name_service.specs.Jobs.{NoneFaulted, ComeBehind, AreWithTheirs, EachHasAsked, HasAsked, HaveAskedTheirs, Placed, callers_of, is_job_of, jobs_of, kept_by, receipts_at, worker_of}
use Rattle.name_service.specs.Shares.{shared, shared_jobs}
use Rattle.name_service.proofs.Placing.{get_right, some_is}
use Rattle.name_service.proofs.Turns.{at_its_place, shared_by}

-- ---- each worker's jobs

module _ (jobs : List Request) (count : ℕ) (places : List KeptAt) (theirs : AreWithTheirs (callers_of jobs) count jobs places) where
  shares : (number : ℕ) → shared_jobs number places jobs ≡ jobs_of count jobs number
  shares number = ap (λ (numbers : List ℕ). shared number numbers jobs) theirs ∙ shared_by (worker_of (callers_of jobs) count) number jobs

  pub worker_at : (i : ℕ) (job : Request) (place : KeptAt) → slice_get jobs i ≡ Some job → slice_get places i ≡ Some place → place.worker ≡ worker_of (callers_of jobs) count job
  worker_at i job place is at =
      let left : slice_get (map (λ (place : KeptAt). place.worker) places) i ≡ Some place.worker = slice_get-map (λ (place : KeptAt). place.worker) places i ∙ ap (option_map (λ (place : KeptAt). place.worker)) at in
      let right : slice_get (map (worker_of (callers_of jobs) count) jobs) i ≡ Some (worker_of (callers_of jobs) count job) = slice_get-map (worker_of (callers_of jobs) count) jobs i ∙ ap (option_map (worker_of (callers_of jobs) count)) is in
      some_is place.worker (worker_of (callers_of jobs) count job) (sym left ∙ (ap (λ (numbers : List ℕ). slice_get numbers i) theirs ∙ right))

  pub has_worked : (old new : List Worker) → EachHasAsked (λ number. shared_jobs number places jobs) old new → EachHasAsked (jobs_of count jobs) old new
  has_worked old new (same_length, each) = (same_length, λ number worker after is now. subst (λ (own : List Request). HasAsked own worker after) (shares number) (each number worker after is now))

-- ---- where an answer is kept

all_asked : (ended : Result Unit AskFault) (rest : List Request) → IsOk ended → OnOk ended (rest ≡ []) → rest ≡ []
all_asked (Ok done) rest ok all = all
all_asked (Err fault) rest ok all = cc

-- at the place of a job in a worker's share, behind what he had kept
kept_at : (worker after : Worker) (share : List Request) (k : ℕ) (job : Request) → HasAsked share worker after → IsOk after.ended → slice_get share k ≡ Some job
    → option_map (λ (answer : Answer). answer.request) (slice_get after.pass.receipts (length worker.pass.receipts + k)) ≡ Some job
kept_at worker after share k job worked ended is = from (gained worker.pass worked.asked after.pass worked.gains)
  where
    whole : worked.asked ≡ share
    whole = sym (worked.whole ∙ (ap (λ (rest : List Request). worked.asked ++ rest) (all_asked after.ended worked.rest ended worked.all) ∙ append-nil worked.asked))

    from : (answers : List Answer) × (after.pass.receipts ≡ worker.pass.receipts ++ answers) × (map (λ (answer : Answer). answer.request) answers ≡ worked.asked)
        → option_map (λ (answer : Answer). answer.request) (slice_get after.pass.receipts (length worker.pass.receipts + k)) ≡ Some job
    from (answers, are, asked) =
        ap (λ (receipts : List Answer). option_map (λ (answer : Answer). answer.request) (slice_get receipts (length worker.pass.receipts + k))) are
        ∙ (ap (option_map (λ (answer : Answer). answer.request)) (get_right worker.pass.receipts answers k)
        ∙ (sym (slice_get-map (λ (answer : Answer). answer.request) answers k) ∙ (ap (λ (requests : List Request). slice_get requests k) (asked ∙ whole) ∙ is)))

there : (workers : List Worker) (number : ℕ) → number < length workers → (worker : Worker) × (slice_get workers number ≡ Some worker)
there workers number within = from (slice_get_cases workers number)
  where
    from : (slice_get workers number ≡ slice_get workers number) × (((x : Worker) × (number < length workers) × (slice_get workers number ≡ Some x) × (get_or workers number x ≡ x)) ⊎ ((length workers ≤ number) × (slice_get workers number ≡ None)))
        → (worker : Worker) × (slice_get workers number ≡ Some worker)
    from (same, inl (worker, short, is, read)) = (worker, is)
    from (same, inr (past, none)) = absurd (omega (arith, past, within))

module _ (jobs : List Request) (old new : List Worker) (places : List KeptAt)
    (theirs : AreWithTheirs (callers_of jobs) (length old) jobs places) (behind : ComeBehind (callers_of jobs) (kept_by old) jobs places)
    (some : 0 < length old) (worked : HaveAskedTheirs jobs old new) (ended : NoneFaulted new) where
  answered : (i : ℕ) (job : Request) (place : KeptAt) → slice_get jobs i ≡ Some job → slice_get places i ≡ Some place
      → option_map (λ (answer : Answer). answer.request) (slice_get (receipts_at new place.worker) place.receipt) ≡ Some job
  answered i job place is at = from (there old place.worker within) (there new place.worker (omega (arith, within, worked.0)))
    where
      theirs_at : place.worker ≡ worker_of (callers_of jobs) (length old) job
      theirs_at = worker_at jobs (length old) places theirs i job place is at

      within : place.worker < length old
      within = omega (arith, theirs_at, mod_below (unwrap_or (position (same job.caller) (callers_of jobs)) 0) (length old) some)

      before : ℕ
      before = count_by (is_job_of (callers_of jobs) (length old) place.worker) (take i jobs)

      share_at : slice_get (jobs_of (length old) jobs place.worker) before ≡ Some job
      share_at = at_its_place (is_job_of (callers_of jobs) (length old) place.worker) jobs i job is (eq-eqb (worker_of (callers_of jobs) (length old) job) place.worker (sym theirs_at))

      from : (worker : Worker) × (slice_get old place.worker ≡ Some worker) → (after : Worker) × (slice_get new place.worker ≡ Some after)
          → option_map (λ (answer : Answer). answer.request) (slice_get (receipts_at new place.worker) place.receipt) ≡ Some job
      from (worker, was) (after, now) =
          let kept : get_or (kept_by old) place.worker 0 ≡ length worker.pass.receipts =
          get_or_from_slice_get (kept_by old) place.worker (length worker.pass.receipts) 0
          (slice_get-map (λ (worker : Worker). length worker.pass.receipts) old place.worker ∙ ap (option_map (λ (worker : Worker). length worker.pass.receipts)) was) in
          let receipts : receipts_at new place.worker ≡ after.pass.receipts =
          get_or_from_slice_get (map (λ (worker : Worker). worker.pass.receipts) new) place.worker after.pass.receipts []
          (slice_get-map (λ (worker : Worker). worker.pass.receipts) new place.worker ∙ ap (option_map (λ (worker : Worker). worker.pass.receipts)) now) in
          let counted : count_by (is_job_of (callers_of jobs) (length (kept_by old)) place.worker) (take i jobs) ≡ before =
          ap (λ count. count_by (is_job_of (callers_of jobs) count place.worker) (take i jobs)) (length-map old (λ (worker : Worker). length worker.pass.receipts)) in
          let number : place.receipt ≡ length worker.pass.receipts + before = omega (arith, behind i place at, kept, counted) in
          let ok : IsOk after.ended = subst (λ (worker : Worker). IsOk worker.ended) (get_or_from_slice_get new place.worker after after now) (ended place.worker after (slice_get_within new place.worker after now)) in
          ap (λ (receipts : List Answer). option_map (λ (answer : Answer). answer.request) (slice_get receipts place.receipt)) receipts
          ∙ (ap (λ k. option_map (λ (answer : Answer). answer.request) (slice_get after.pass.receipts k)) number
          ∙ kept_at worker after (jobs_of (length old) jobs place.worker) before job (worked.1 place.worker worker after was now) ok share_at)

  pub placed : Placed jobs old new places
  placed = record { workers = theirs; behind = behind; answers = answered }
