use Rattle.std.proofs.Common.{arith}
use Rattle.std.proofs.Math.Seq.{take-add}
use Rattle.script_runs.proofs.Known.{Appends-trans}
use Rattle.script_runs.proofs.channel.write_text.Goals as goal

pub loop-turn-preserved : goal.loop-turn-preserved
loop-turn-preserved g c = record {
  within = omega (arith, c.in_ok-at.ensures.within, c.split_at.ensures.back_len);
  written = rw take-add (Appends-trans _ _ _ _ _ c.loop-turn.invariant.written (rw c.split_at.ensures.back at c.in_ok-at.ensures.written));
}
