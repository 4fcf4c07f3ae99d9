use Rattle.std.proofs.Common.{◌≡◌, ◌+◌, ◌++◌, ◌∷◌, [], take, Some, cond, is_eq, ap, sym, ◌∙◌}
use Rattle.std.proofs.lemmas.List.{take_more}
use Rattle.std.specs.Ordering.{nat_cmp}
use Rattle.flat_rows.specs.Takeover.{stamp_in}
use Rattle.file_takeovers.proofs.TakenFiles.{stamp_more}
use Rattle.file_takeovers.proofs.expiry.stamps_of.Goals as goal

pub loop-recovery-preserved : goal.loop-recovery-preserved
loop-recovery-preserved c = λ block.
    let xs = c.args.begun.now in
    let i = c.loop-recovery.recovery-index in
    let own = c.recovery-item.result in
    let next : take (i + 1) xs ≡ take i xs ++ own ∷ [] = take_more xs i own c.loop-recovery-test.true ∙ ap (λ x. take i xs ++ x ∷ []) (sym c.recovery-item.is) in
    c.in_ok-insert.ensures.updates.0 block
    ∙ (ap (λ rest. cond (is_eq (nat_cmp own.block block)) (Some own.stamp) rest) (c.loop-recovery.invariant block) ∙ (sym (stamp_more (take i xs) own block) ∙ ap (λ some. stamp_in some block) (sym next)))
