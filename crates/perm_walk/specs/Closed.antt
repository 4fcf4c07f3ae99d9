-- Components that don't grant rights to a caller.
use Rattle.std.specs.Prelude.{Bool, false, not, List, Option, Some, None, filter}
use Rattle.permission_bits.specs.declared.rights.Rights.{Rights}
use Rattle.principals.specs.Users.{Caller}
use Rattle.namespace_rows.specs.declared.row.Row.{Row}
use Rattle.namespace_rows.specs.First.{first}
use Rattle.namespace_rows.specs.Judgement.{judgement}

abbrev pub denies : Rights → Caller → Row → Bool
denies asked caller row = not (judgement row caller.name caller.groups asked).granted

-- the first of the rows that doesn't grant them
abbrev pub first_closed : Rights → Caller → List Row → Option Row
first_closed asked caller rows = first (filter (denies asked caller) rows)

-- the same where rights are asked; where none are, nothing is shut
abbrev pub is_shut : Option Rights → Caller → Row → Bool
is_shut None caller = λ row. false
is_shut (Some asked) caller = denies asked caller

abbrev pub first_shut : Option Rights → Caller → List Row → Option Row
first_shut asked caller rows = first (filter (is_shut asked caller) rows)
