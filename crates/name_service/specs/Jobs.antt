-- Jobs that workers share: those of one caller go to one worker, in their order, and each is answered once.
-- (This project's own rule: what a caller asks is done in the order in which he asks it.)
use Rattle.std.specs.Prelude.{◌≡◌, ℕ, ◌+◌, ◌%◌, Bool, List, [], length, map, get_or, take, filter, count_by, nat_eq, slice_get, option_map, unwrap_or, position, Some, Err, IsOk, All}
use Rattle.indexmap.specs.IndexSet.{insert_all}
use Rattle.hdfs_values.specs.Text.{same}
use Rattle.hdfs_types.specs.declared.op.Request.{Request}
use Rattle.history.specs.declared.entry.Answer.{Answer}
use Rattle.name_service.specs.Passes.{Pass}
use Rattle.name_service.specs.Working.{Asked}
use Rattle.name_service.specs.declared.jobs.KeptAt.{KeptAt}
use Rattle.name_service.specs.declared.pass.AskFault.{AskFault}
use Rattle.name_service.specs.declared.sharing.Worker.{Worker}

-- the callers of these jobs, each once, where he comes first
abbrev pub callers_of : List Request → List (List ℕ)
callers_of jobs = insert_all same [] (map (λ job. job.caller) jobs)

-- the worker of a job, of so many: the i-th caller's go to worker i modulo their number (each job's caller is among these)
abbrev pub worker_of : List (List ℕ) → ℕ → Request → ℕ
worker_of callers count job = unwrap_or (position (same job.caller) callers) 0 % count

abbrev pub is_job_of : List (List ℕ) → ℕ → ℕ → Request → Bool
is_job_of callers count worker job = nat_eq (worker_of callers count job) worker

-- the jobs of a worker, of so many
abbrev pub jobs_of : ℕ → List Request → ℕ → List Request
jobs_of count jobs worker = filter (is_job_of (callers_of jobs) count worker) jobs

-- ---- where the answers are kept

-- each with the job's worker
abbrev pub AreWithTheirs : List (List ℕ) → ℕ → List Request → List KeptAt → Type 0
AreWithTheirs callers count jobs places = map (λ place. place.worker) places ≡ map (worker_of callers count) jobs

-- behind so many receipts of the worker: those that he had kept, and one for each job that he is asked before
abbrev pub receipt_behind : List (List ℕ) → List ℕ → List Request → ℕ → ℕ
receipt_behind callers kept before worker = get_or kept worker 0 + count_by (is_job_of callers (length kept) worker) before

abbrev pub ComeBehind : List (List ℕ) → List ℕ → List Request → List KeptAt → Type 0
ComeBehind callers kept jobs places = (i : ℕ) (place : KeptAt) → slice_get places i ≡ Some place → place.receipt ≡ receipt_behind callers kept (take i jobs) place.worker

-- ---- what the workers have done

-- the passes with which they ask
abbrev pub passes_of : List Worker → List Pass
passes_of workers = map (λ worker. worker.pass) workers

-- the answers that a worker keeps
abbrev pub receipts_at : List Worker → ℕ → List Answer
receipts_at workers number = get_or (map (λ worker. worker.pass.receipts) workers) number []

-- how many each has kept
abbrev pub kept_by : List Worker → List ℕ
kept_by workers = map (λ worker. length worker.pass.receipts) workers

-- a worker has asked these jobs, up to the first fault
abbrev pub HasAsked : List Request → Worker → Worker → Type 0
HasAsked jobs old new = Asked old.pass jobs new.pass new.ended

-- each worker has asked those of its number
abbrev pub EachHasAsked : (ℕ → List Request) → List Worker → List Worker → Type 0
EachHasAsked jobs old new = (length new ≡ length old) × ((number : ℕ) (worker after : Worker) → slice_get old number ≡ Some worker → slice_get new number ≡ Some after → HasAsked (jobs number) worker after)

abbrev pub HaveAskedTheirs : List Request → List Worker → List Worker → Type 0
HaveAskedTheirs jobs old new = EachHasAsked (jobs_of (length old) jobs) old new

abbrev pub NoneFaulted : List Worker → Type 0
NoneFaulted workers = All (λ worker. IsOk worker.ended) workers

-- this fault is that of the first worker that met one
abbrev pub IsFirstFault : List Worker → AskFault → Type 0
IsFirstFault workers fault = (number : ℕ) × (worker : Worker) × (slice_get workers number ≡ Some worker) × (worker.ended ≡ Err fault) × NoneFaulted (take number workers)

-- at each job's place its answer is kept, behind all that were kept before, each job's at a place of its own
pub record Placed (jobs : List Request) (old new : List Worker) (places : List KeptAt) : Type 0 where
  pub workers : AreWithTheirs (callers_of jobs) (length old) jobs places
  pub behind : ComeBehind (callers_of jobs) (kept_by old) jobs places
  pub answers : (i : ℕ) (job : Request) (place : KeptAt) → slice_get jobs i ≡ Some job → slice_get places i ≡ Some place → option_map (λ answer. answer.request) (slice_get (receipts_at new place.worker) place.receipt) ≡ Some job
