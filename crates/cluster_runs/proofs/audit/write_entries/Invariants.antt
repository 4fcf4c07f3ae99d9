use Rattle.std.proofs.Common.{◌-◌, ◌≤◌, length, take}
use Rattle.std.specs.Io.KnownBytes.{Appends}
use Rattle.audit_text.specs.AuditText.{audit_text}
use Rattle.cluster_runs.proofs.audit.write_entries.Given as goal

-- the lines of the first entries are written
abbrev pub invariant-loop-done : goal.invariant-loop-done
invariant-loop-done g l = record {
  within : l.done ≤ length l.entries;
  written : Appends (g.W.Write.contents l.initial.writer) (g.W.Write.contents l.writer) (audit_text (take l.done l.entries));
}

abbrev pub decreases-loop-done : goal.decreases-loop-done
decreases-loop-done g l = length l.entries - l.done
