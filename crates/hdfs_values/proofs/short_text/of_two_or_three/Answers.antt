-- What the two copies put in place.
use Rattle.hdfs_values.proofs.Filled.{two_or_three_are}
use Rattle.hdfs_values.proofs.short_text.of_two_or_three.Goals as goal

pub returns : goal.returns
returns c =
    rw (c.copy_from_slice-2.ensures.after, c.copy_from_slice.ensures.after, c.behind_two-rest.ensures)
    (two_or_three_are c.args.bytes.now c.requires.least c.requires.most)
