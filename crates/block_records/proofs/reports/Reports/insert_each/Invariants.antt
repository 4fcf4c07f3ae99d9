use Rattle.std.proofs.Common.{◌≡◌, ℕ, ◌||◌, drop, take}
use Rattle.std.specs.Option.{is_some}
use Rattle.block_records.specs.Numbers.{has_number, entry_at}
use Rattle.block_records.specs.Reports.{with_reports_of}
use Rattle.block_records.proofs.reports.Reports.insert_each.Given as goal

abbrev pub invariant-loop-node : goal.invariant-loop-node
invariant-loop-node l =
    (with_reports_of (drop l.node-index l.nodes) l.bytes l.self ≡ with_reports_of l.nodes l.bytes l.initial.self)
    × ((q : ℕ) → is_some (entry_at q l.self) ≡ (has_number q (take l.node-index l.nodes) || is_some (entry_at q l.initial.self)))
