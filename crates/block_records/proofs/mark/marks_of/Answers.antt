use Rattle.std.proofs.Common.{◌≡◌, ◌≤◌, ◌++◌, ◌∷◌, append-nil, append_assoc, true, refl, sym, ap, ◌∙◌, subst, filter, cond, []}
use Rattle.std.proofs.lemmas.Bool.{eqb-false, not-true, not-false}
use Rattle.std.proofs.lemmas.List.Kept.{IsStrictlySortedBy-filter}
use Rattle.std.proofs.lemmas.Map.Keys.{sorted_tail}
use Rattle.std.specs.List.{AllByRecursion}
use Rattle.std.specs.List.Sorted.{IsStrictlySortedBy}
use Rattle.block_records.specs.Marks.{mark_cmp, is_for, marks_for}
use Rattle.block_records.specs.declared.mark.Mark.{Mark}
use Rattle.block_records.proofs.Taking.{starts, none_behind, from_first, all_from}
use Rattle.block_records.proofs.mark.marks_of.Goals as goal

pub loop-mark-init : goal.loop-mark-init
loop-mark-init c =
    let first : Mark = record { node = c.args.node; block = c.new.result; stamp = c.new-2.result } in
    let ranged : c.into_iter-mark-iterator.result ≡ filter (starts c.args.node first refl c.new.ensures c.new-2.ensures) c.args.ordered.now.keys = c.into_iter-mark-iterator.ensures.into_iter_gives ∙ c.range-mark-items.ensures.between tt in
    record {
      found = ap (λ found. found ++ marks_for c.args.node c.into_iter-mark-iterator.result) c.new-marks.ensures.items ∙ ap (marks_for c.args.node) ranged ∙ from_first c.args.node first refl c.new.ensures c.new-2.ensures c.args.ordered.now.keys;
      sorted = subst (IsStrictlySortedBy mark_cmp) (sym ranged) (IsStrictlySortedBy-filter mark_cmp _ c.args.ordered.now.keys c.range-mark-items.ensures.ordered);
      above = subst (AllByRecursion (λ (mark : Mark). c.args.node ≤ mark.node)) (sym ranged) (all_from c.args.node first refl c.new.ensures c.new-2.ensures c.args.ordered.now.keys);
    }

pub returns-then-ne : goal.returns-then-ne
returns-then-ne c =
    let found = c.loop-mark.marks.items in
    let front : c.loop-mark.mark-iterator ≡ c.in-Some.mark.now ∷ c.next.new.self = c.in-Some.ensures.steps in
    let other = eqb-false c.in-Some.mark.now.node c.args.node (not-true _ (sym c.if-ne.ensures)) in
    let none =
    none_behind c.args.node c.in-Some.mark.now c.next.new.self (subst (IsStrictlySortedBy mark_cmp) front c.loop-mark.invariant.sorted)
    (subst (AllByRecursion (λ (mark : Mark). c.args.node ≤ mark.node)) front c.loop-mark.invariant.above).0 other in
    record {
      marks = sym (append-nil found) ∙ ap (λ l. found ++ l) (sym (ap (marks_for c.args.node) front ∙ none)) ∙ c.loop-mark.invariant.found;
      sorted = c.range-mark-items.ensures.ordered;
    }

pub loop-mark-preserved : goal.loop-mark-preserved
loop-mark-preserved c =
    let found = c.loop-mark.marks.items in
    let mark : Mark = c.in-Some.mark.now in
    let rest = marks_for c.args.node c.next.new.self in
    let front : c.loop-mark.mark-iterator ≡ mark ∷ c.next.new.self = c.in-Some.ensures.steps in
    let own : is_for c.args.node mark ≡ true = not-false _ (sym c.if-ne.ensures) in
    record {
      found =
          ap (λ l. l ++ rest) c.in_ok-push.ensures.items
          ∙ append_assoc found (mark ∷ []) rest
          ∙ ap (λ l. found ++ l) (sym (ap (marks_for c.args.node) front ∙ ap (λ b. cond b (mark ∷ rest) rest) own))
          ∙ c.loop-mark.invariant.found;
      sorted = sorted_tail mark_cmp mark c.next.new.self (subst (IsStrictlySortedBy mark_cmp) front c.loop-mark.invariant.sorted);
      above = (subst (AllByRecursion (λ (mark : Mark). c.args.node ≤ mark.node)) front c.loop-mark.invariant.above).1;
    }
