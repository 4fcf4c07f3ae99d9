-- What a parser answers, as the word of a line.
use Rattle.std.proofs.Common.{Option, Result, Ok, Err, ap, sym, ◌∙◌}
use Rattle.std.specs.Prelude.{ok_or}
use Rattle.hdfs_values.specs.declared.fault.IllFormed.{IllFormed}
use Rattle.hdfs_values.specs.declared.fault.ParseFault.{ParseFault}
use Rattle.hdfs_values.specs.declared.fault.ParseFault.TheVariants as faults
use Rattle.hdfs_values.specs.Parsed.{Parses}
use Rattle.script_words.specs.LineForms.{Forms}

pub forms : {X : Type 0} (kind : IllFormed) (parsed : Result X ParseFault) (spelled : Option X) → Parses kind parsed spelled → Forms parsed (ok_or spelled kind)
forms kind (Ok x) spelled h = ap (λ o. ok_or o kind) h
forms kind (Err (faults.IllFormed fault)) spelled h = ap (λ o. ok_or o kind) h.1 ∙ ap Err (sym h.0)
forms kind (Err faults.OutOfMemory) spelled h = tt
