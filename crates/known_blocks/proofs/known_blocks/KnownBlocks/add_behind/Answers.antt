use Rattle.std.proofs.Common.{◌≡◌, ◌∙◌, sym, ap, subst, Option, IfSome}
use Rattle.block_records.specs.Reports.{others_of}
use Rattle.block_records.specs.declared.block_record.BlockRecord.{BlockRecord}
use Rattle.block_tables.specs.Changes.{with_length}
use Rattle.known_blocks.specs.Kept.{AreBelow}
use Rattle.known_blocks.specs.Known.{KnownBlocks, block_of, with_block_changed}
use Rattle.known_blocks.proofs.Behind.{same_block, altered_behind}
use Rattle.known_blocks.proofs.known_blocks.KnownBlocks.add_behind.Goals as goal

pub commit-requires : goal.commit-requires
commit-requires c =
    let below = subst (λ (known : KnownBlocks). AreBelow known.blocks known.next_block) c.self.view_is c.self.invariant.0 in
    subst (λ (found : Option BlockRecord). IfSome found (λ own. c.args.others.now ≡ others_of c.args.last.length own.reports))
    (sym (ap (λ known. block_of known c.args.last.block) c.in_ok-add.ensures.added ∙ same_block c.args.self.now c.args.last.block below c.requires.known c.args.targets c.args.replication))
    c.requires.others

pub returns-clause-added : goal.returns-clause-added
returns-clause-added c =
    let below = subst (λ (known : KnownBlocks). AreBelow known.blocks known.next_block) c.self.view_is c.self.invariant.0 in
    c.commit.ensures
    ∙ (ap (with_block_changed (with_length c.args.last.length) c.args.last.block) c.in_ok-add.ensures.added
    ∙ altered_behind c.args.self.now c.args.last.block below c.requires.known c.args.targets c.args.replication (with_length c.args.last.length))
