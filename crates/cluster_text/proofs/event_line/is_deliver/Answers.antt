use Rattle.std.proofs.Common.{◌≡◌, ◌<◌, ◌≤◌, List, ℕ, length, codes, subst, arith}
use Rattle.cluster_text.proofs.Lengths.{other_length}
use Rattle.cluster_text.proofs.event_line.is_deliver.Goals as goal

pub returns-in_default : goal.returns-in_default
returns-in_default c =
    let few : length c.args.word.now < 7 = subst (λ (bytes : List ℕ). length bytes < 7) c.as_bytes.ensures.value c.in_default.len_below in
    other_length c.args.word.now (codes "deliver") (λ (alike : length c.args.word.now ≡ 7). omega (arith, few, alike))

pub returns-in_default-2 : goal.returns-in_default-2
returns-in_default-2 c =
    let many : 8 ≤ length c.args.word.now = subst (λ (bytes : List ℕ). 8 ≤ length bytes) c.as_bytes.ensures.value c.in_default.len_at_least in
    other_length c.args.word.now (codes "deliver") (λ (alike : length c.args.word.now ≡ 7). omega (arith, many, alike))
