use Rattle.std.proofs.Common.{◌≡◌, ◌∙◌, ap, sym, rules}
use Rattle.std.proofs.lemmas.Map.Steps.{set_value_same}
use Rattle.std.specs.Map.{set_value}
use Rattle.block_records.specs.Numbers.{is_number}
use Rattle.replicas.proofs.replicas.Replicas.append.Goals as goal

pub returns-in_err-append-clause-err : goal.returns-in_err-append-clause-err
returns-in_err-append-clause-err c =
    let blocks = c.self.inside.blocks.entries in
    let kept : (c.get_mut.follows.lender c.append.new.self).entries ≡ c.args.self.now =
    (c.get_mut.follows.holds c.append.new.self).0
    ∙ (ap (set_value (is_number c.args.block) blocks) c.in_err-append.ensures.err
    ∙ (set_value_same (is_number c.args.block) blocks c.in-Some.held.now (sym c.in-Some.ensures.value)
    ∙ c.self.view_is)) in
    search (rules, kept)
