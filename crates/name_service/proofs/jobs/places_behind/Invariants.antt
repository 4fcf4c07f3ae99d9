use Rattle.std.proofs.Common.{◌≡◌, ◌<◌, ◌+◌, ℕ, Some, length, take, get_or, slice_get}
use Rattle.std.specs.Prelude.{count_by}
use Rattle.name_service.specs.Jobs.{AreWithTheirs, is_job_of, receipt_behind}
use Rattle.name_service.specs.declared.jobs.KeptAt.{KeptAt}
use Rattle.name_service.proofs.jobs.places_behind.Given as goal

abbrev pub invariant-loop-job : goal.invariant-loop-job
invariant-loop-job l =
    (length l.next ≡ length l.fn.next)
    × (length l.places.items ≡ l.job-index)
    × AreWithTheirs l.callers.keys (length l.fn.next) (take l.job-index l.jobs) l.places.items
    × ((n : ℕ) → n < length l.next → get_or l.next n 0 ≡ get_or l.fn.next n 0 + count_by (is_job_of l.callers.keys (length l.fn.next) n) (take l.job-index l.jobs))
    × ((i : ℕ) (place : KeptAt) → slice_get l.places.items i ≡ Some place → place.receipt ≡ receipt_behind l.callers.keys l.fn.next (take i l.jobs) place.worker)
