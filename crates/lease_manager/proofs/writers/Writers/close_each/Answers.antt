use Rattle.std.proofs.Common.{◌≡◌, ◌+◌, ◌-◌, ◌++◌, ◌∷◌, [], filter, length, take, ap, sym, ◌∙◌, arith}
use Rattle.std.proofs.lemmas.List.{take_more}
use Rattle.hdfs_values.specs.Text.{same}
use Rattle.lease_manager.specs.Writers.{count_of}
use Rattle.lease_manager.proofs.Leasing.{one_more, own_less}
use Rattle.lease_manager.proofs.writers.Writers.close_each.Goals as goal

pub loop-client-preserved : goal.loop-client-preserved
loop-client-preserved c =
    let e = c.client-item.result in
    let xs = c.args.clients.now in
    let i = c.loop-client.client-index in
    let next : take (i + 1) xs ≡ take i xs ++ e ∷ [] = take_more xs i e c.loop-client-test.true ∙ ap (λ x. take i xs ++ x ∷ []) (sym c.client-item.is) in
    record {
      files = λ other.
          one_more other e (take i xs) _ _ _ (c.loop-client.invariant.files other) (c.close.ensures.files other ∙ own_less (count_of c.loop-client.self.files) e other)
          ∙ ap (λ t. count_of c.args.self.now.files other - length (filter (same other) t)) (sym next);
      leased = λ last h. c.close.ensures.leased last (c.loop-client.invariant.leased last h);
      limits = c.close.ensures.limits ∙ c.loop-client.invariant.limits;
      latest = omega (arith, c.close.ensures.latest, c.loop-client.invariant.latest);
    }
