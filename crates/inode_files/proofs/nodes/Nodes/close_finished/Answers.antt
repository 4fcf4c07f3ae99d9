use Rattle.std.proofs.Common.{length, arith, ap, sym, ◌∙◌}
use Rattle.file_table.specs.Finished.{finished_files, with_finished_closed}
use Rattle.file_table.specs.Seen.{seen_rows}
use Rattle.inode_nodes.specs.Node.{rows}
use Rattle.inode_files.proofs.Closings.{seen_closed, kept_all, none_finished, none_left, closed_twice}
use Rattle.inode_files.proofs.nodes.Nodes.close_finished.Goals as goal

pub invariant_of-self : goal.invariant_of-self
invariant_of-self c =
    let all = rows c.self.inside.root in
    kept_all c.args.client.now c.close_at-closed.new.files c.close_beneath.new.files all c.close_beneath.ensures.closed (c.close_at-closed.ensures.kept all c.self.invariant)

pub invariant_of-self-else-closed-number : goal.invariant_of-self-else-closed-number
invariant_of-self-else-closed-number c = c.close_at-closed.ensures.kept (rows c.self.inside.root) c.self.invariant

pub returns-then-closed-number-clause-all : goal.returns-then-closed-number-clause-all
returns-then-closed-number-clause-all c = λ few.
    let all = rows c.self.inside.root in
    seen_closed c.args.client.now c.close_at-closed.new.files c.close_beneath.new.files all c.close_beneath.ensures.closed ∙ c.close_at-closed.ensures.closed all c.self.invariant
    ∙ ap (with_finished_closed c.args.client.now) c.self.view_is

pub returns-else-closed-number-clause-all : goal.returns-else-closed-number-clause-all
returns-else-closed-number-clause-all c = λ few.
    let all = rows c.self.inside.root in
    let before = ap (λ l. length (finished_files c.args.client.now l)) c.self.view_is in
    sym (none_finished c.args.client.now (seen_rows c.close_at-closed.new.files all) (omega (arith, few, before, c.close_at-closed.ensures.count all c.self.invariant, c.if-closed-number.false)))
    ∙ c.close_at-closed.ensures.closed all c.self.invariant ∙ ap (with_finished_closed c.args.client.now) c.self.view_is

pub returns-then-closed-number-clause-no_other : goal.returns-then-closed-number-clause-no_other
returns-then-closed-number-clause-no_other c =
    let all = rows c.self.inside.root in
    ap (with_finished_closed c.args.client.now) (seen_closed c.args.client.now c.close_at-closed.new.files c.close_beneath.new.files all c.close_beneath.ensures.closed)
    ∙ closed_twice c.args.client.now (seen_rows c.close_at-closed.new.files all) ∙ c.close_at-closed.ensures.closed all c.self.invariant ∙ ap (with_finished_closed c.args.client.now) c.self.view_is

pub returns-else-closed-number-clause-no_other : goal.returns-else-closed-number-clause-no_other
returns-else-closed-number-clause-no_other c = c.close_at-closed.ensures.closed (rows c.self.inside.root) c.self.invariant ∙ ap (with_finished_closed c.args.client.now) c.self.view_is

pub returns-then-closed-number-clause-count : goal.returns-then-closed-number-clause-count
returns-then-closed-number-clause-count c = λ few.
    let all = rows c.self.inside.root in
    let before = ap (λ l. length (finished_files c.args.client.now l)) c.self.view_is in
    let here = c.close_at-closed.ensures.count all c.self.invariant in
    let beneath = c.close_beneath.ensures.count all (c.close_at-closed.ensures.kept all c.self.invariant) (omega (arith, few, before, here)) in
    let left =
    ap (λ l. length (finished_files c.args.client.now l)) (seen_closed c.args.client.now c.close_at-closed.new.files c.close_beneath.new.files all c.close_beneath.ensures.closed)
    ∙ none_left c.args.client.now (seen_rows c.close_at-closed.new.files all) in
    omega (arith, few, before, here, beneath, left)

pub returns-else-closed-number-clause-count : goal.returns-else-closed-number-clause-count
returns-else-closed-number-clause-count c = λ few.
    let before = ap (λ l. length (finished_files c.args.client.now l)) c.self.view_is in
    omega (arith, few, before, c.close_at-closed.ensures.count (rows c.self.inside.root) c.self.invariant, c.if-closed-number.false)
