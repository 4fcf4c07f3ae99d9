use Rattle.std.proofs.Common.{◌≡◌, take}
use Rattle.std.specs.String.{string_bytes}
use Rattle.audit_text.specs.AuditText.{audit_text}
use Rattle.audit_text.proofs.lines.audit_lines.Given as goal

abbrev pub invariant-loop-entry : goal.invariant-loop-entry
invariant-loop-entry l = string_bytes l.out ≡ audit_text (take l.entry-index l.entries)
