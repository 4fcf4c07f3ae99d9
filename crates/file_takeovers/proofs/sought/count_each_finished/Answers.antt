use Rattle.std.proofs.Common.{◌≡◌, ◌+◌, ◌<◌, ◌++◌, ◌∷◌, [], take, length, ap, sym, ◌∙◌, subst, arith}
use Rattle.std.proofs.lemmas.List.{take_more, length-take-le, length-append}
use Rattle.file_takeovers.specs.Expiry.{AreAtLeast}
use Rattle.file_takeovers.proofs.FinishedFiles.{at_least_more}
use Rattle.file_takeovers.proofs.sought.count_each_finished.Goals as goal

pub loop-client-preserved : goal.loop-client-preserved
loop-client-preserved c =
    let past = c.args.past.now in
    let rows = c.args.tree.now in
    let i = c.loop-client.client-index in
    let numbers = c.loop-client.numbers.items in
    let pushed : c.push.new.self.items ≡ numbers ++ c.in-Some.number ∷ [] = c.in_ok-push.ensures.items in
    let more : take (i + 1) past ≡ take i past ++ c.client-item.result ∷ [] = take_more past i c.client-item.result c.loop-client-test.true ∙ ap (λ x. take i past ++ x ∷ []) (sym c.client-item.is) in
    let short : i < length past = c.loop-client-test.true in
    let long : length numbers ≡ length (take i past) = c.loop-client.invariant.long ∙ sym (length-take-le i past (omega (arith, short))) in
    record {
      long = ap length pushed ∙ (length-append numbers (c.in-Some.number ∷ []) ∙ ap (λ n. n + 1) c.loop-client.invariant.long);
      counted = subst (λ some. AreAtLeast rows some c.push.new.self.items) (sym more) (subst (AreAtLeast rows (take i past ++ c.client-item.result ∷ [])) (sym pushed)
          (at_least_more rows (take i past) numbers c.client-item.result c.in-Some.number long c.in-Some.ensures c.loop-client.invariant.counted));
    }
