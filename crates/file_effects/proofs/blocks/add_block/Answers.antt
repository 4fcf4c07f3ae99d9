use Rattle.file_effects.proofs.BlockChanges.{exact_added, exact_committed}
use Rattle.file_effects.proofs.blocks.add_block.Goals as goal

pub returns-in-Some-clause-exact : goal.returns-in-Some-clause-exact
returns-in-Some-clause-exact c = λ last writers exact.
    exact_committed last c.args.path.now c.in-Some.last.block c.in-Some.last.length c.push_block.new.self c.commit_block.new.self writers c.commit_block.ensures.committed
    (exact_added last c.args.path.now c.args.new.block c.args.tree.now c.push_block.new.self writers c.in-Ok.ensures.ok exact)

pub returns-in_default-last-clause-exact : goal.returns-in_default-last-clause-exact
returns-in_default-last-clause-exact c = λ last writers exact. exact_added last c.args.path.now c.args.new.block c.args.tree.now c.push_block.new.self writers c.in-Ok.ensures.ok exact
