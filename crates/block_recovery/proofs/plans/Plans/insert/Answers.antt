use Rattle.std.proofs.Common.{◌≡◌, [], refl, subst, OnOk}
use Rattle.std.specs.BTreeMap.{insert_entry}
use Rattle.std.specs.Map.{set_value}
use Rattle.std.specs.Option.{unwrap_or}
use Rattle.std.specs.Ordering.{nat_cmp}
use Rattle.block_records.specs.Numbers.{is_number}
use Rattle.block_recovery.proofs.Tables.{unchanged, inserted}
use Rattle.block_recovery.proofs.plans.Plans.insert.Goals as goal

pub returns-in-Some-clause-ok : goal.returns-in-Some-clause-ok
returns-in-Some-clause-ok c =
    let plans = c.args.self.now in
    let left = set_value (is_number c.args.block) plans c.insert.new.self in
    subst
    (λ found. OnOk c.insert.result (left ≡ insert_entry nat_cmp plans c.args.block (insert_entry nat_cmp (unwrap_or found []) c.args.stamp c.args.plan)))
    c.in-Some.ensures.value
    (inserted c.insert.result c.args.block plans left plans c.in-Some.own.now c.insert.new.self refl c.in-Some.ensures.value refl
    (insert_entry nat_cmp c.in-Some.own.now c.args.stamp c.args.plan) c.of_block_mut.ensures.ascending c.insert.ensures.ok)

pub returns-in-Some-clause-err : goal.returns-in-Some-clause-err
returns-in-Some-clause-err c =
    let plans = c.args.self.now in
    unchanged c.insert.result c.args.block plans (set_value (is_number c.args.block) plans c.insert.new.self) plans c.in-Some.own.now c.insert.new.self refl c.in-Some.ensures.value refl c.insert.ensures.err
