use Rattle.std.proofs.Common.{◌≡◌, sym, ap, ◌∙◌}
use Rattle.block_records.specs.Marks.{marks_for, with_marks, without_marks, marks_but}
use Rattle.block_records.proofs.Taking.{taken_out}
use Rattle.block_records.proofs.Waiting.{all_but}
use Rattle.block_records.proofs.mark.Marks.forget.Goals as goal

pub returns-in_default : goal.returns-in_default
returns-in_default c =
    ap (λ marks. with_marks marks c.keep_others.new.latest.items) c.keep_others.ensures.ordered
    ∙ (ap (with_marks (marks_but c.args.node c.settle.new.ordered.keys)) c.keep_others.ensures.latest
    ∙ (all_but c.args.node c.settle.new.ordered.keys c.settle.new.latest.items c.keep_others.ensures.sorted
    ∙ ap (marks_but c.args.node) (c.settle.ensures.same ∙ c.self.view_is)))

pub returns : goal.returns
returns c =
    let was : c.settle.new.ordered.keys ≡ c.args.self.now = sym (ap (with_marks c.settle.new.ordered.keys) c.in-Ok.ensures.settled) ∙ c.settle.ensures.same ∙ c.self.view_is in
    ap (with_marks c.remove_each.new.ordered.keys) c.in-Ok.ensures.settled
    ∙ c.remove_each.ensures
    ∙ ap (without_marks c.settle.new.ordered.keys) (c.requires ∙ ap (marks_for c.args.node) (sym was))
    ∙ taken_out c.args.node c.settle.new.ordered.keys c.len-count.ensures.ordered
    ∙ ap (marks_but c.args.node) was
