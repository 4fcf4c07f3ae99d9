use Rattle.std.proofs.Common.{rules}
use Rattle.std.proofs.lemmas.Iterator.Adapters.{YieldsList-from_rev_slice}
use Rattle.std.proofs.lemmas.Iterator.Consumers.{YieldsList-turn}
use Rattle.file_takeovers.proofs.Expiring.{among_reversed}
use Rattle.file_takeovers.proofs.sought.add_each_held.Goals as goal

pub loop-client-preserved-in-Continue-1 : goal.loop-client-preserved-in-Continue-1
loop-client-preserved-in-Continue-1 c =
    let past = c.args.past.now in
    let turn = YieldsList-turn (YieldsList-from_rev_slice {s = c.into_iter-client-iterator.result} past (search rules))
    c.loop-client.yielded c.loop-client.client-iterator c.loop-client.yielded_by c.next.result c.next.new.self c.in-Some.client c.in-Some.is c.next.ensures.steps in
    record {
      unfinished = λ all. c.in_ok-add_held.ensures.unfinished (c.loop-client.invariant.unfinished all);
      some = λ retry now all.
          c.in_ok-add_held.ensures.some (record { past = past; retry = retry; now = now }) (among_reversed past _ c.in-Some.client.now turn.0 turn.1) (c.loop-client.invariant.some retry now all);
    }
