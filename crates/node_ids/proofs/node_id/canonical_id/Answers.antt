use Rattle.std.proofs.Common.{arith, sym, ◌∙◌}
use Rattle.node_ids.proofs.Nodes.{leading_zero, no_number, too_great, canonical}
use Rattle.node_ids.proofs.node_id.canonical_id.Goals as goal

pub returns-then-has_leading_zero : goal.returns-then-has_leading_zero
returns-then-has_leading_zero c = sym (leading_zero c.args.text.now c.if-has_leading_zero.ensures)

pub returns-in_default : goal.returns-in_default
returns-in_default c = sym (no_number c.args.text.now (sym c.in_default.ensures))

pub returns-then-id-from : goal.returns-then-id-from
returns-then-id-from c = sym (too_great c.args.text.now c.in-Some.id (sym c.in-Some.ensures) (omega arith))

pub returns : goal.returns
returns c = c.new.ensures ∙ canonical c.args.text.now c.in-Some.id c.if-has_leading_zero.ensures (sym c.in-Some.ensures)
