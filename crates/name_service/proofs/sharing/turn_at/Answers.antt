use Rattle.std.proofs.Common.{◌∙◌, ap}
use Rattle.std.specs.Prelude.{option_map}
use Rattle.std.proofs.lemmas.Option.{slice_get-get_or, slice_get-map}
use Rattle.name_service.specs.declared.jobs.KeptAt.{KeptAt}
use Rattle.name_service.proofs.sharing.turn_at.Goals as goal

pub returns : goal.returns
returns c =
    slice_get-map (λ (place : KeptAt). place.worker) c.args.places.now c.args.i
    ∙ ap (option_map (λ (place : KeptAt). place.worker)) (slice_get-get_or c.args.places.now c.args.i (record { worker = 0; receipt = 0 }) c.requires)
