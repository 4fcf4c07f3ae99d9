use Rattle.std.proofs.Common.{ℕ, List, [], Bor, arith, ◌∙◌}
use Rattle.script_words.proofs.Groups.{whos_step, whos_left}
use Rattle.script_words.proofs.groups_word.groups_in.Goals as goal

pub loop-piece-preserved : goal.loop-piece-preserved
loop-piece-preserved c =
    let d : Bor (List ℕ) = record { ref_ptr = (0, 0); now = [] } in
    let view = λ (x : Bor (List ℕ)). x.now in
    record {
      read = whos_step view c.args.pieces.now c.loop-piece.piece-index d c.in_ok-parse.field-0 _ _ (omega arith) c.in_ok-parse.ensures c.loop-piece.invariant.read c.in_ok-push.ensures.items;
      left = whos_left view c.args.pieces.now c.loop-piece.piece-index d c.in_ok-parse.field-0 (omega arith) c.in_ok-parse.ensures ∙ c.loop-piece.invariant.left;
    }
