-- Items that are shared out by the numbers beside them, as functions inside the crate say it.
use Rattle.std.specs.Prelude.{ℕ, List, [], ◌∷◌, map, nat_eq, if◌then◌else◌}
use Rattle.hdfs_types.specs.declared.op.Request.{Request}
use Rattle.name_service.specs.declared.jobs.KeptAt.{KeptAt}

-- the items that have this number beside them
abbrev pub shared : {A : Type 0} → ℕ → List ℕ → List A → List A
shared number [] items = []
shared number (n ∷ numbers) [] = []
shared number (n ∷ numbers) (item ∷ items) = if nat_eq n number then item ∷ shared number numbers items else shared number numbers items

-- the jobs whose answers this worker is to keep
abbrev pub shared_jobs : ℕ → List KeptAt → List Request → List Request
shared_jobs number places jobs = shared number (map (λ place. place.worker) places) jobs
