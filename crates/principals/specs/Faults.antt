-- A call that was refused.
use Rattle.std.specs.Prelude.{Result, Ok, Err}
use Rattle.refusals.specs.declared.refusal.Refusal.{Refusal}
use Rattle.principals.specs.declared.users.UserFault.{UserFault}
use Rattle.principals.specs.declared.users.UserFault.TheVariants.{Refused, OutOfMemory}

-- a call that was refused says so; one that was done, or had no memory, says nothing
abbrev pub IfRefused : {T : Type 0} → Result T UserFault → (Refusal → Type 0) → Type 0
IfRefused (Ok done) claim = Unit {0}
IfRefused (Err (Refused refusal)) claim = claim refusal
IfRefused (Err OutOfMemory) claim = Unit {0}
