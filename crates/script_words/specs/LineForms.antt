-- What the reader of a line answers, beside what the line says: the same, unless memory ran out.
use Rattle.std.specs.Prelude.{◌≡◌, Option, Some, None, Result, Ok, Err}
use Rattle.hdfs_values.specs.declared.fault.IllFormed.{IllFormed}
use Rattle.hdfs_values.specs.declared.fault.ParseFault.{ParseFault}
use Rattle.hdfs_values.specs.declared.fault.ParseFault.TheVariants as faults

abbrev pub FailsBy : {X : Type 0} → ParseFault → Result X IllFormed → Type 0
FailsBy (faults.IllFormed fault) said = said ≡ Err fault
FailsBy faults.OutOfMemory said = Unit {0}

abbrev pub Forms : {X : Type 0} → Result X ParseFault → Result X IllFormed → Type 0
Forms (Ok x) said = said ≡ Ok x
Forms (Err fault) said = FailsBy fault said

-- the same, where there may be nothing to read
abbrev pub FormsOption : {X : Type 0} → Option (Result X ParseFault) → Option (Result X IllFormed) → Type 0
FormsOption None said = said ≡ None
FormsOption {X} (Some read) said = (r : Result X IllFormed) × (said ≡ Some r) × Forms read r
