use Rattle.audit_text.proofs.Telling.{then_tells, then_ok}
use Rattle.audit_text.proofs.lines.put_front.Goals as goal

pub returns : goal.returns
returns c =
    then_ok c.put_number.result c.args.writer.now c.put_code.new.writer c.put_number.new.writer _ _
    (then_tells c.args.writer.now c.put_text.new.writer c.put_code.new.writer _ _
    (then_tells c.args.writer.now c.put_denied.new.writer c.put_text.new.writer _ _ c.in_ok-put_denied.ensures (rw c.as_str.ensures.text at c.in_ok-put_text.ensures))
    c.in_ok-put_code.ensures)
    (rw c.milliseconds.ensures at c.put_number.ensures)
