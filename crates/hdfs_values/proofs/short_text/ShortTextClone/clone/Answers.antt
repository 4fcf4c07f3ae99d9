use Rattle.hdfs_values.proofs.short_text.ShortTextClone.clone.Goals as goal

pub invariant_of-result : goal.invariant_of-result
invariant_of-result c = rw c.in-Inline.is at c.self.invariant
