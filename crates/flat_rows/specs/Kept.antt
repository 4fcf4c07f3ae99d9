-- How the types of this crate are seen.
use Rattle.flat_rows.specs.declared.ask.Ask.TheInside as ask
use Rattle.flat_rows.specs.declared.denial.Denial.TheInside as denial
use Rattle.flat_rows.specs.Decision.{Ask}
use Rattle.flat_rows.specs.Denial.{Denial}

abbrev pub denied_of : denial.Inside → Denial
denied_of denial = record {
  need = denial.evidence.value.cause.need;
  by = denial.evidence.value.cause.by;
  row = denial.evidence.value.row;
  caller = denial.evidence.value.cause.caller;
  groups = denial.evidence.value.cause.groups;
}

abbrev pub ask_of : ask.Inside → Ask
ask_of ask = record { need = ask.need.now; row = ask.row.now; above = ask.above.now }
