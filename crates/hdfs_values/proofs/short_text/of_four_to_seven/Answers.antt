-- What the three copies put in place.
use Rattle.hdfs_values.proofs.Filled.{four_to_seven_are}
use Rattle.hdfs_values.proofs.short_text.of_four_to_seven.Goals as goal

pub returns : goal.returns
returns c =
    rw (c.copy_from_slice-3.ensures.after, c.copy_from_slice-2.ensures.after, c.copy_from_slice.ensures.after, c.behind_four-rest.ensures)
    (four_to_seven_are c.args.bytes.now c.requires.least c.requires.most)
