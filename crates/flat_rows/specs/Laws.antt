-- How the needs that are judged end, beside the decision: what the laws of trails say.
use Rattle.std.specs.Prelude.{◌≡◌, Bool, true, false, not, List, [], ◌∷◌, ◌++◌, Option, Some, None}
use Rattle.std.specs.List.{list_all, last_or}
use Rattle.flat_rows.specs.declared.trail.Judged.{Judged}
use Rattle.flat_rows.specs.Denial.{Denial}

-- each of the needs is met
abbrev pub are_granted : List Judged → Bool
are_granted needs = list_all (λ need. need.granted) needs

-- the need of a denial, as it is judged
abbrev pub failed_need : Denial → Judged
failed_need denied = record { path = denied.row.path; need = denied.need; by = denied.by; granted = false }

abbrev pub is_failed : Option Judged → Bool
is_failed None = false
is_failed (Some need) = not need.granted

-- there is a last need, and it isn't met
abbrev pub ends_failed : List Judged → Bool
ends_failed needs = is_failed (last_or None needs)

-- all needs are met but the last, which is that of the denial
pub record EndsAs (needs : List Judged) (denied : Denial) : Type 0 where
  pub met : List Judged
  pub granted : are_granted met ≡ true
  pub ends : needs ≡ met ++ failed_need denied ∷ []
