use Rattle.std.proofs.Common.{◌≡◌, List, sym, subst, ap, ◌∙◌, ◌+◌, ◌++◌, [], ◌∷◌, Bool, drop, not}
use Rattle.std.specs.List.{list_any}
use Rattle.hdfs_values.specs.Text.{same}
use Rattle.acl_entries.specs.declared.entry_list.NamedEntry.{NamedEntry}
use Rattle.partial_acl.specs.AclChange.{named_in, entries_without}
use Rattle.partial_acl.proofs.NamedLists.{taken, passed, names_one}
use Rattle.partial_acl.proofs.named.without.Goals as goal
use Rattle.partial_acl.proofs.named.without.Goals.{then-not-names+in_ok-clone+in_ok-push, else-not-names}

pub loop-entry-preserved : goal.loop-entry-preserved
loop-entry-preserved c =
    let others = named_in c.args.scope c.args.kind c.args.spec.now in
    let keeps : NamedEntry → Bool = λ entry. not (list_any (λ other. same other.name entry.name) others) in
    let asked : c.names.result ≡ list_any (λ other. same other.name c.entry-item.result.name) others =
    c.names.ensures ∙ names_one c.args.scope c.args.kind c.entry-item.result.name c.args.spec.now in
    elim c.if-not-names.branch [
      | then-not-names+in_ok-clone+in_ok-push w ↦
          subst (λ (left : List NamedEntry). left ++ entries_without (drop (c.loop-entry.entry-index + 1) c.args.entries.now) others ≡ entries_without c.args.entries.now others)
          (sym (ap (λ left. left.items) w.left-is ∙ w.in_ok-push.ensures.items ∙ ap (λ entry. c.loop-entry.left.items ++ entry ∷ []) w.in_ok-clone.ensures.cases))
          (taken keeps c.args.entries.now c.loop-entry.left.items _ c.loop-entry.entry-index c.entry-item.result c.loop-entry-test.true c.entry-item.is
          c.loop-entry.invariant (ap not (sym asked ∙ w.if-not-names.true)))
      | else-not-names w ↦
          subst (λ (left : List NamedEntry). left ++ entries_without (drop (c.loop-entry.entry-index + 1) c.args.entries.now) others ≡ entries_without c.args.entries.now others)
          (sym (ap (λ left. left.items) w.left-is))
          (passed keeps c.args.entries.now c.loop-entry.left.items _ c.loop-entry.entry-index c.entry-item.result c.loop-entry-test.true c.entry-item.is
          c.loop-entry.invariant (ap not (sym asked ∙ w.if-not-names.false)))
    ]
