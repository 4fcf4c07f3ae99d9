use Rattle.std.proofs.Common.{◌≡◌, ◌∙◌, ◌-◌, ℕ, List, cond, sym, ap}
use Rattle.std.specs.Option.{unwrap_or}
use Rattle.hdfs_values.specs.Text.{same}
use Rattle.hdfs_values.proofs.Texts.{same_self}
use Rattle.lease_manager.specs.Writers.{count_of}
use Rattle.lease_manager.proofs.Counts.{set_less, count_found, absent_less}
use Rattle.lease_manager.proofs.open_files.OpenFiles.take_some.Goals as goal

pub returns-in_default-clause-left : goal.returns-in_default-clause-left
returns-in_default-clause-left c =
    ap (λ found. unwrap_or found 0) c.in_default.ensures.value
    ∙ sym (ap (λ (counts : List (List ℕ × ℕ)). count_of counts c.args.client.now) (ap (λ counts. counts.entries) c.get_mut.follows.holds-at-none))

pub returns-in_default-clause-counts : goal.returns-in_default-clause-counts
returns-in_default-clause-counts c = λ other.
    absent_less c.args.self.now c.self.inside.counts.entries _ c.args.client.now other c.args.number c.self.view_is c.in_default.ensures.value
    (ap (λ counts. counts.entries) c.get_mut.follows.holds-at-none)

pub returns-clause-left : goal.returns-clause-left
returns-clause-left c =
    let client = c.args.client.now in
    let old = c.args.self.now in
    let kept = c.self.inside.counts.entries in
    let is : c.in-Some.count.now ≡ count_of old client = count_found old kept client c.in-Some.count.now c.self.view_is c.in-Some.ensures.value in
    let left : count_of (c.get_mut.follows.lender c.saturating_sub.result).entries client ≡ cond (same client client) (count_of old client - c.args.number) (count_of old client) =
    set_less old kept _ client client c.args.number c.in-Some.count.now c.saturating_sub.result c.self.view_is is c.saturating_sub.ensures (c.get_mut.follows.holds c.saturating_sub.result).0 in
    c.saturating_sub.ensures ∙ (ap (λ n. n - c.args.number) is ∙ sym (left ∙ ap (λ b. cond b (count_of old client - c.args.number) (count_of old client)) (same_self client)))

pub returns-clause-counts : goal.returns-clause-counts
returns-clause-counts c = λ other.
    set_less c.args.self.now c.self.inside.counts.entries _ c.args.client.now other c.args.number c.in-Some.count.now c.saturating_sub.result c.self.view_is
    (count_found c.args.self.now c.self.inside.counts.entries c.args.client.now c.in-Some.count.now c.self.view_is c.in-Some.ensures.value)
    c.saturating_sub.ensures (c.get_mut.follows.holds c.saturating_sub.result).0
