use Rattle.std.proofs.Common.{◌∙◌, ap, ap₂, sym, rules}
use Rattle.std.specs.Cmp.Lexicographic.{texts_ties}
use Rattle.std.specs.Ordering.{is_eq}
use Rattle.hdfs_values.specs.ShortText.{held_bytes}
use Rattle.hdfs_values.specs.Text.{same}
use Rattle.hdfs_values.proofs.ShortTexts.{held_order}
use Rattle.hdfs_values.proofs.short_text.ShortTextPartialEq.eq.Goals as goal

pub returns-in-Inline-Inline : goal.returns-in-Inline-Inline
returns-in-Inline-Inline c =
    let both = c.in-Inline-Inline in
    let own = rw both.is-0 at c.self.invariant in
    let others = rw both.is-1 at c.other.invariant in
    c.are_alike.ensures
    ∙ (ap is_eq (held_order both.length both.others_length both.bytes both.others_bytes (search rules) (search rules) own.0 others.0 own.1 others.1)
    ∙ ap₂ same (sym (ap held_bytes both.is-0) ∙ c.self.view_is) (sym (ap held_bytes both.is-1) ∙ c.other.view_is))

pub returns-in_default : goal.returns-in_default
returns-in_default c = c.eq.ensures ∙ (texts_ties c.as_str.result.now c.as_str-in_default.result.now ∙ ap₂ same c.as_str.ensures c.as_str-in_default.ensures)
