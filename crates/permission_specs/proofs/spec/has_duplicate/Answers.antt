use Rattle.std.proofs.Common.{arith, ◌<◌, ◌≡◌, ◌∙◌, sym, length}
use Rattle.permission_specs.proofs.SpecKeys.{with_key, bare, known, seen_more, new_more, one_alone, repeated}
use Rattle.permission_specs.proofs.spec.has_duplicate.Goals as goal

pub loop-entry-preserved : goal.loop-entry-preserved
loop-entry-preserved c =
    let lt : c.loop-entry.entry-index < length c.args.entries.now = omega arith in
    let with : with_key c.key_of.result ≡ bare c.entry-item.result = known c.key_of.result c.entry-item.result c.key_of.ensures.scope c.key_of.ensures.kind c.key_of.ensures.name in
    let seen = c.loop-entry.invariant.seen in
    record {
      seen = λ key. seen_more c.args.entries.now c.loop-entry.entry-index c.entry-item.result c.key_of.result lt c.entry-item.is with key _ _ (c.in_ok-insert.ensures.updates.0 key) (seen key);
      new = new_more c.args.entries.now c.loop-entry.entry-index c.entry-item.result c.key_of.result lt c.entry-item.is with _ (seen c.key_of.result) (sym c.if-not-branch.false ∙ c.in_ok-insert.ensures.added) c.loop-entry.invariant.new;
    }

pub returns-then-not-branch : goal.returns-then-not-branch
returns-then-not-branch c =
    let lt : c.loop-entry.entry-index < length c.args.entries.now = omega arith in
    let with : with_key c.key_of.result ≡ bare c.entry-item.result = known c.key_of.result c.entry-item.result c.key_of.ensures.scope c.key_of.ensures.kind c.key_of.ensures.name in
    repeated c.args.entries.now c.loop-entry.entry-index c.entry-item.result c.key_of.result lt c.entry-item.is with _ (c.loop-entry.invariant.seen c.key_of.result) (sym c.if-not-branch.true ∙ c.in_ok-insert.ensures.added)

pub returns-then-entries-lt2 : goal.returns-then-entries-lt2
returns-then-entries-lt2 c = one_alone c.args.entries.now (omega arith)
