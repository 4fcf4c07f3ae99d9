use Rattle.block_records.proofs.Standing.{ordered_either_way}
use Rattle.block_recovery.proofs.answer.Answers.insert.Goals as goal

pub invariant_of-self : goal.invariant_of-self
invariant_of-self c =
    ordered_either_way c.note_among.result c.args.node c.args.answer c.self.inside.by_node.items c.note_among.new.answers.items c.self.invariant c.note_among.ensures.ok c.note_among.ensures.err
