use Rattle.audit_text.proofs.Telling.{then_tells, then_ok}
use Rattle.audit_text.proofs.lines.put_rest.Goals as goal

pub returns : goal.returns
returns c =
    let asked = c.asked_of-asked.ensures in
    then_ok c.put_text-2.result c.args.writer.now c.put_path-2.new.writer c.put_text-2.new.writer _ _
    (then_tells c.args.writer.now c.put_number.new.writer c.put_path-2.new.writer _ _
    (then_tells c.args.writer.now c.put_path.new.writer c.put_number.new.writer _ _
    (then_tells c.args.writer.now c.put_text.new.writer c.put_path.new.writer _ _
    (then_tells c.args.writer.now c.put_need.new.writer c.put_text.new.writer _ _ c.in_ok-put_need.ensures (rw asked.name at c.in_ok-put_text.ensures))
    (rw asked.path at c.in_ok-put_path.ensures))
    c.in_ok-put_number.ensures)
    (rw asked.to at c.in_ok-put_path-2.ensures))
    (rw c.verdict_word.ensures at c.put_text-2.ensures)
