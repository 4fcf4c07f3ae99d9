-- A server that opens for some workers has some.
use Rattle.std.proofs.Common.{◌≡◌, ◌<◌, ℕ, zero, suc, List, [], ◌∷◌, length, length-append, refl, ap, arith}
use Rattle.std.proofs.lemmas.List.{length-map}
use Rattle.name_service.specs.Passes.{Pass, new_pass, new_passes}
use Rattle.name_service.specs.declared.sharing.Worker.{Worker}
use Rattle.name_service.specs.Jobs.{passes_of}

so_many : (count seen : ℕ) → length (new_passes count seen) ≡ count
so_many zero seen = refl
so_many (suc count) seen = omega (arith, length-append (new_passes count seen) (new_pass count seen ∷ []), so_many count seen)

pub some : (count seen : ℕ) (passes : List Pass) (workers : List Worker) → passes ≡ new_passes count seen → passes_of workers ≡ passes → 0 < count → 0 < length workers
some count seen passes workers new of_them more =
    omega (arith, more, so_many count seen, ap length new, ap length of_them, length-map workers (λ (worker : Worker). worker.pass))
