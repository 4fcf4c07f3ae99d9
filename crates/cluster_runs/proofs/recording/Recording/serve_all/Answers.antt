use Rattle.std.proofs.Common.{◌≡◌, ℕ, List, [], Bor, refl, subst, map, take, get_or, arith, ◌+◌, ◌<◌, length}
use Rattle.cluster_runs.specs.Output.{State, after_line, behind_lines}
use Rattle.script_runs.proofs.Lines.{fold_step}
use Rattle.cluster_runs.specs.Recorded.{Holds}
use Rattle.cluster_runs.proofs.recording.Recording.serve_all.Goals as goal

one_more : (state : State) (lines : List (Bor (List ℕ))) (i : ℕ) (d : Bor (List ℕ)) → i < length lines
    → after_line (behind_lines state (take i (map (λ line. line.now) lines))) (get_or lines i d).now ≡ behind_lines state (take (i + 1) (map (λ line. line.now) lines))
one_more state lines i d lt = fold_step (λ (line : Bor (List ℕ)). line.now) after_line state _ _ lines i d lt refl refl

pub loop-line-preserved : goal.loop-line-preserved
loop-line-preserved c = λ (state : State) begins.
    let d : Bor (List ℕ) = record { ref_ptr = (0, 0); now = [] } in
    let before : State = behind_lines state (take c.loop-line.line-index (map (λ line. line.now) c.args.lines.now)) in
    let served = c.in_ok-serve.ensures.ok before (c.loop-line.invariant state begins) in
    subst (λ (s : State). Holds s c.serve.new.self) (one_more state c.args.lines.now c.loop-line.line-index d (omega arith)) served
