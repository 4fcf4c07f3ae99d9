use Rattle.std.proofs.Common.{◌∙◌, ◌+◌, ◌-◌, [], ◌++◌, Some, None, sym, ap, subst, take, drop, get_or, length}
use Rattle.std.specs.Prelude.{◌==◌}
use Rattle.std.proofs.lemmas.List.{drop_all, take_all, take-append-drop, get_or_default}
use Rattle.file_paths.proofs.Fronts.{front_path}
use Rattle.inode_tree.specs.Tree.{branch_at}
use Rattle.perm_walk.proofs.Descents.{Passed, passed_none, passed_next, rest_on, last_left, stops_missing, stops_held, stops_beneath, stops_at_file, ends_at, ends_held, ends_beneath, ends_clear}
use Rattle.perm_walk.proofs.Traversals.{Left, left_none, left_end, on_next, on_none, on_shut}
use Rattle.perm_walk.proofs.reach.enter.Goals as goal

pub loop-depth-init : goal.loop-depth-init
loop-depth-init c = record {
  passed = subst (λ all. Passed c.args.path.now all [] c.args.path.now (branch_at c.root-last.result) None) c.root-last.ensures.rows (passed_none c.args.path.now (branch_at c.root-last.result));
  left = subst (λ all. Left c.args.asked c.args.caller.now c.args.path.now all [] c.args.path.now (branch_at c.root-last.result)) c.root-last.ensures.rows (left_none c.args.asked c.args.caller.now c.args.path.now (branch_at c.root-last.result));
}

pub new-requires : goal.new-requires
new-requires c = front_path c.args.path.now c.loop-depth.depth c.requires

pub new-requires-in-Some : goal.new-requires-in-Some
new-requires-in-Some c = front_path c.args.path.now c.loop-depth.depth c.requires

pub returns-then-is_shut : goal.returns-then-is_shut
returns-then-is_shut c =
    sym (ap Some c.new.ensures
    ∙ on_shut c.args.asked c.args.caller.now c.args.path.now c.args.tree.now c.loop-depth.depth (branch_at c.loop-depth.last) (get_or c.args.path.now c.loop-depth.depth []) c.loop-depth-test.true (get_or_default c.args.path.now c.loop-depth.depth [] (get_or c.args.path.now c.loop-depth.depth []) c.loop-depth-test.true) c.loop-depth.invariant.left
    (sym c.is_shut.ensures ∙ c.if-is_shut.true))

pub returns-in-None : goal.returns-in-None
returns-in-None c =
    let ns = drop (c.loop-depth.depth + 1) c.args.path.now in
    let rest = rest_on c.args.path.now c.loop-depth.depth c.index-path-depth.result c.loop-depth-test.true c.index-path-depth.is in
    let passed = subst (λ r. Passed c.args.path.now c.args.tree.now (take c.loop-depth.depth c.args.path.now) r (branch_at c.loop-depth.last) c.loop-depth.above) rest c.loop-depth.invariant.passed in
    record {
      granted = sym (on_none c.args.asked c.args.caller.now c.args.path.now c.args.tree.now c.loop-depth.depth (branch_at c.loop-depth.last) c.index-path-depth.result c.loop-depth-test.true c.index-path-depth.is c.loop-depth.invariant.left
          (sym c.is_shut.ensures ∙ c.if-is_shut.false) c.in-None.ensures.part);
      leads = record {
        at = c.stopped.ensures.at ∙ stops_missing c.args.path.now c.args.tree.now (take c.loop-depth.depth c.args.path.now) (branch_at c.loop-depth.last) c.loop-depth.above c.index-path-depth.result ns passed c.in-None.ensures.part;
        parent = c.stopped.ensures.parent
            ∙ stops_held c.args.path.now c.args.tree.now (take c.loop-depth.depth c.args.path.now) (branch_at c.loop-depth.last) c.loop-depth.above c.index-path-depth.result ns passed c.in-None.ensures.part
            (length c.args.path.now - c.loop-depth.depth == 1) (last_left c.args.path.now c.loop-depth.depth c.loop-depth-test.true)
            (ap (λ r. take c.loop-depth.depth c.args.path.now ++ r) (sym rest) ∙ take-append-drop c.loop-depth.depth c.args.path.now);
        ancestor = c.stopped.ensures.ancestor ∙ stops_beneath c.args.path.now c.args.tree.now (take c.loop-depth.depth c.args.path.now) (branch_at c.loop-depth.last) c.loop-depth.above c.index-path-depth.result ns passed c.in-None.ensures.part;
        file = c.stopped.ensures.file ∙ stops_at_file c.args.path.now c.args.tree.now (take c.loop-depth.depth c.args.path.now) (branch_at c.loop-depth.last) c.loop-depth.above c.index-path-depth.result ns passed c.in-None.ensures.part;
        tree = c.root-last.ensures.tree;
        counted = rw c.stopped.ensures.counted tt;
      };
    }

pub loop-depth-preserved : goal.loop-depth-preserved
loop-depth-preserved c = record {
  passed =
      passed_next c.args.path.now c.args.tree.now c.loop-depth.depth c.index-path-depth.result (branch_at c.loop-depth.last) (branch_at c.in-Some.child) c.loop-depth.above c.new-in-Some.result c.loop-depth-test.true c.index-path-depth.is
      c.loop-depth.invariant.passed c.in-Some.ensures.part c.in-Some.ensures.directory c.new-in-Some.ensures;
  left =
      on_next c.args.asked c.args.caller.now c.args.path.now c.args.tree.now c.loop-depth.depth (branch_at c.loop-depth.last) c.index-path-depth.result c.loop-depth-test.true c.index-path-depth.is c.loop-depth.invariant.left
      (branch_at c.in-Some.child) (sym c.is_shut.ensures ∙ c.if-is_shut.false) c.in-Some.ensures.part;
}

pub returns : goal.returns
returns c =
    let nothing = drop_all c.loop-depth.depth c.args.path.now c.loop-depth-test.false in
    let whole = take_all c.loop-depth.depth c.args.path.now c.loop-depth-test.false in
    let passed = subst (λ r. Passed c.args.path.now c.args.tree.now (take c.loop-depth.depth c.args.path.now) r (branch_at c.loop-depth.last) c.loop-depth.above) nothing c.loop-depth.invariant.passed in
    record {
      granted = sym (left_end c.args.asked c.args.caller.now c.args.path.now c.args.tree.now (take c.loop-depth.depth c.args.path.now) (branch_at c.loop-depth.last)
          (subst (λ r. Left c.args.asked c.args.caller.now c.args.path.now c.args.tree.now (take c.loop-depth.depth c.args.path.now) r (branch_at c.loop-depth.last)) nothing c.loop-depth.invariant.left));
      leads = record {
        at = c.ended.ensures.at ∙ ends_at c.args.path.now c.args.tree.now (take c.loop-depth.depth c.args.path.now) (branch_at c.loop-depth.last) c.loop-depth.above passed whole;
        parent = c.ended.ensures.parent ∙ ends_held c.args.path.now c.args.tree.now (take c.loop-depth.depth c.args.path.now) (branch_at c.loop-depth.last) c.loop-depth.above passed whole;
        ancestor = c.ended.ensures.ancestor ∙ ends_beneath c.args.path.now c.args.tree.now (take c.loop-depth.depth c.args.path.now) (branch_at c.loop-depth.last) c.loop-depth.above passed;
        file = c.ended.ensures.file ∙ ends_clear c.args.path.now c.args.tree.now (take c.loop-depth.depth c.args.path.now) (branch_at c.loop-depth.last) c.loop-depth.above passed;
        tree = c.root-last.ensures.tree;
        counted = rw c.ended.ensures.counted tt;
      };
    }
