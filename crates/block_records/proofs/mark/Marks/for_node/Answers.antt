use Rattle.std.proofs.Common.{◌≡◌, [], ap, ◌∙◌, rules}
use Rattle.block_records.specs.Marks.{marks_for, with_marks}
use Rattle.block_records.proofs.Waiting.{all_for}
use Rattle.block_records.proofs.mark.Marks.for_node.Goals as goal

pub returns : goal.returns
returns c =
    let ordered = c.self.inside.ordered.keys in
    let latest = c.self.inside.latest.items in
    let first : c.insert_each.new.ordered.keys ≡ with_marks [] (marks_for c.args.node ordered) = search rules in
    let all : c.insert_each-2.new.ordered.keys ≡ with_marks c.insert_each.new.ordered.keys (marks_for c.args.node latest) = search rules in
    let own : c.insert_each-2.new.ordered.keys ≡ marks_for c.args.node c.args.self.now =
    all ∙ (all_for c.args.node ordered latest c.insert_each.new.ordered.keys c.in_ok-marks.ensures.sorted first ∙ ap (marks_for c.args.node) c.self.view_is) in
    search (rules, own)
