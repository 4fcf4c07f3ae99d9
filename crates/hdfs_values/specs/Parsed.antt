-- What a parser answers, beside the value that the text spells.
use Rattle.std.specs.Prelude.{◌≡◌, IsSome, Option, Some, None, Result, Ok, Err}
use Rattle.hdfs_values.specs.declared.fault.IllFormed.{IllFormed}
use Rattle.hdfs_values.specs.declared.fault.ParseFault.{ParseFault}
use Rattle.hdfs_values.specs.declared.fault.ParseFault.TheVariants as faults

-- a text that spells nothing is ill-formed in this one way
abbrev pub Misspells : {X : Type 0} → IllFormed → IllFormed → Option X → Type 0
Misspells kind fault spelled = (fault ≡ kind) × (spelled ≡ None)

-- the text is judged before memory is asked for: out of memory stands in place of a value alone, and never of a fault
abbrev pub Parses : {X : Type 0} → IllFormed → Result X ParseFault → Option X → Type 0
Parses kind (Ok x) spelled = spelled ≡ Some x
Parses kind (Err (faults.IllFormed fault)) spelled = Misspells kind fault spelled
Parses kind (Err faults.OutOfMemory) spelled = IsSome spelled

-- the same of a text that is judged part by part: out of memory may stand in place of any answer
abbrev pub ParsesInParts : {X : Type 0} → IllFormed → Result X ParseFault → Option X → Type 0
ParsesInParts kind (Ok x) spelled = spelled ≡ Some x
ParsesInParts kind (Err (faults.IllFormed fault)) spelled = Misspells kind fault spelled
ParsesInParts kind (Err faults.OutOfMemory) spelled = Unit {0}

-- the same, where contracts see the value by a function
abbrev pub ParsesInPartsBy : {X Y : Type 0} → (X → Y) → IllFormed → Result X ParseFault → Option Y → Type 0
ParsesInPartsBy view kind (Ok x) spelled = spelled ≡ Some (view x)
ParsesInPartsBy view kind (Err (faults.IllFormed fault)) spelled = Misspells kind fault spelled
ParsesInPartsBy view kind (Err faults.OutOfMemory) spelled = Unit {0}
