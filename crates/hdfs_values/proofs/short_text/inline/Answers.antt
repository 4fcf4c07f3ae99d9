-- The array has the bytes of the text, and zeros behind them.
use Rattle.std.proofs.Common.{◌≡◌, ℕ, ◌-◌, ◌∙◌, ap, List, ◌++◌, length, replicate}
use Rattle.std.proofs.Math.Seq.{drop-append_seam, take-append_seam}
use Rattle.hdfs_values.proofs.short_text.inline.Goals as goal

pub invariant_of-result : goal.invariant_of-result
invariant_of-result c =
    let text : List ℕ = c.args.text.now in
    let zeros : List ℕ = replicate {A = ℕ} (14 - length text) 0 in
    let is : c.filled.result ≡ text ++ zeros = c.filled.ensures ∙ ap (λ bytes. bytes ++ replicate {A = ℕ} (14 - length bytes) 0) c.as_bytes.ensures.value in
    rw is (c.requires, drop-append_seam text zeros, ∣ rw (take-append_seam text zeros) c.utf8.text ∣₁)
