use Rattle.partial_acl.proofs.Completing.{kept_from}
use Rattle.partial_acl.proofs.completed.kept.Goals as goal

-- src/completed.rt:105:8
pub of_bases-requires : goal.of_bases-requires
of_bases-requires c =
    kept_from c.args.named_mask c.args.old.now c.args.list c.bases_of.result c.unwrap_or-mask.result c.intersection.result c.requires.mask c.bases_of.ensures.entries c.requires.list
    c.bases_of.ensures.user c.bases_of.ensures.group c.bases_of.ensures.others c.unwrap_or-mask.ensures (c.intersection.ensures tt)
