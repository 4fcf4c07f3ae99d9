use Rattle.std.proofs.Common.{◌≡◌, ◌++◌, take}
use Rattle.std.specs.List.{flat_map, list_all}
use Rattle.std.specs.String.{string_bytes}
use Rattle.flat_rows.specs.DenialText.{judged_line}
use Rattle.flat_rows.proofs.trail.print_needs.Given as goal

abbrev pub invariant-loop-need : goal.invariant-loop-need
invariant-loop-need l = record {
  text : string_bytes l.out ≡ string_bytes l.initial.out ++ flat_map judged_line (take l.need-index l.needs);
  granted : l.granted ≡ list_all (λ need. need.granted) (take l.need-index l.needs);
}
