-- Texts of which two words differ aren't one; where none do, their lengths decide.
use Rattle.std.proofs.Common.{◌≡◌, ◌≢◌, ℕ, false, ◌∙◌, sym, ap, arith}
use Rattle.std.specs.Cmp.{unsigned_ties}
use Rattle.std.specs.Ordering.{is_eq, nat_cmp, ordering_then}
use Rattle.std.specs.declared.cmp.Ordering.{Ordering}
use Rattle.hdfs_values.proofs.ShortTexts.{apart_then, unlike, differ_at, past_at, past_all}
use Rattle.hdfs_values.proofs.short_text.are_alike.Goals as goal

decides : (x y : ℕ) (all lengths : Ordering) → (x ≢ y) → nat_cmp x y ≡ all → false ≡ is_eq (ordering_then all lengths)
decides x y all lengths apart decided = sym (unlike x y apart) ∙ ap is_eq (sym (apart_then x y lengths apart) ∙ ap (λ o. ordering_then o lengths) decided)

pub returns-then-first-others_first : goal.returns-then-first-others_first
returns-then-first-others_first c =
    let differ = differ_at c.args.own.now c.args.others.now c.requires.own c.requires.others c.type_inv.own c.type_inv.others in
    let apart = c.if-first-others_first.true in
    decides _ _ _ _ apart (differ 0 8 _ _ (omega arith) (c.first_eight-first.ensures, c.first_eight-others_first.ensures) apart)

pub returns-then-next-others_next : goal.returns-then-next-others_next
returns-then-next-others_next c =
    let differ = differ_at c.args.own.now c.args.others.now c.requires.own c.requires.others c.type_inv.own c.type_inv.others in
    let past = past_at c.args.own.now c.args.others.now c.requires.own c.requires.others c.type_inv.own c.type_inv.others in
    let apart = c.if-next-others_next.true in
    decides _ _ _ _ apart
    (differ 8 4 _ _ (omega arith) (c.next_four-next.ensures, c.next_four-others_next.ensures) apart
    ∙ past 0 8 _ _ (omega arith) (c.first_eight-first.ensures, c.first_eight-others_first.ensures) c.if-first-others_first.false)

pub returns-then-last-others_last : goal.returns-then-last-others_last
returns-then-last-others_last c =
    let differ = differ_at c.args.own.now c.args.others.now c.requires.own c.requires.others c.type_inv.own c.type_inv.others in
    let past = past_at c.args.own.now c.args.others.now c.requires.own c.requires.others c.type_inv.own c.type_inv.others in
    let apart = c.if-last-others_last.true in
    decides _ _ _ _ apart
    (differ 12 2 _ _ (omega arith) (c.last_two-last.ensures, c.last_two-others_last.ensures) apart
    ∙ past 8 4 _ _ (omega arith) (c.next_four-next.ensures, c.next_four-others_next.ensures) c.if-next-others_next.false
    ∙ past 0 8 _ _ (omega arith) (c.first_eight-first.ensures, c.first_eight-others_first.ensures) c.if-first-others_first.false)

pub returns : goal.returns
returns c =
    let past = past_at c.args.own.now c.args.others.now c.requires.own c.requires.others c.type_inv.own c.type_inv.others in
    let all = past_all c.args.own.now c.args.others.now c.requires.own c.requires.others c.type_inv.own c.type_inv.others in
    let lengths = nat_cmp c.args.own_length c.args.others_length in
    let level = sym all
    ∙ past 12 2 _ _ (omega arith) (c.last_two-last.ensures, c.last_two-others_last.ensures) c.if-last-others_last.false
    ∙ past 8 4 _ _ (omega arith) (c.next_four-next.ensures, c.next_four-others_next.ensures) c.if-next-others_next.false
    ∙ past 0 8 _ _ (omega arith) (c.first_eight-first.ensures, c.first_eight-others_first.ensures) c.if-first-others_first.false in
    unsigned_ties c.args.own_length c.args.others_length ∙ ap (λ o. is_eq (ordering_then o lengths)) level
