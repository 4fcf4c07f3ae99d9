use Rattle.std.proofs.Common.{sym, ap, ◌∙◌, arith}
use Rattle.std.specs.List.{slice_get}
use Rattle.partial_acl.proofs.NamedLists.{place_in, is_at, replaced_at, inserted_at, is_at_within}
use Rattle.partial_acl.proofs.named.put.Goals as goal

-- src/named.rt:48:9
pub returns-then-not-is_at : goal.returns-then-not-is_at
returns-then-not-is_at c =
    c.in_ok-insert.ensures.items ∙ inserted_at c.args.new c.args.entries.now.items c.place_of-place.result
    (c.place_of-place.ensures.place ∙ ap (place_in c.args.new.name) c.deref.ensures.value)
    (ap (λ entries. is_at c.args.new.name (slice_get entries c.place_of-place.result)) (sym c.deref-2.ensures.value) ∙ sym c.is_at.ensures ∙ c.if-not-is_at.true)

-- src/named.rt:50:5
pub index_mut-requires : goal.index_mut-requires
index_mut-requires c = omega (arith, c.deref-2.ensures.len, is_at_within c.args.new.name c.deref-2.result.now c.place_of-place.result (sym c.is_at.ensures ∙ c.if-not-is_at.false))

-- src/named.rt:42:1
pub returns : goal.returns
returns c =
    replaced_at c.args.new c.args.entries.now.items c.place_of-place.result
    (c.place_of-place.ensures.place ∙ ap (place_in c.args.new.name) c.deref.ensures.value)
    (ap (λ entries. is_at c.args.new.name (slice_get entries c.place_of-place.result)) (sym c.deref-2.ensures.value) ∙ sym c.is_at.ensures ∙ c.if-not-is_at.false)
