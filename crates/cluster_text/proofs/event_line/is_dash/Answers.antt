use Rattle.std.proofs.Common.{◌≡◌, ◌≤◌, List, ℕ, length, codes, subst, arith}
use Rattle.cluster_text.proofs.Lengths.{other_length}
use Rattle.cluster_text.proofs.event_line.is_dash.Goals as goal

pub returns-in_default-2 : goal.returns-in_default-2
returns-in_default-2 c =
    let many : 2 ≤ length c.args.word.now = subst (λ (bytes : List ℕ). 2 ≤ length bytes) c.as_bytes.ensures.value c.in_default.len_at_least in
    other_length c.args.word.now (codes "-") (λ (alike : length c.args.word.now ≡ 1). omega (arith, many, alike))
