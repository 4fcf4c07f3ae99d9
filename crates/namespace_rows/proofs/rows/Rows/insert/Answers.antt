use Rattle.namespace_rows.proofs.Namespaces.{with_sub_tree_namespace}
use Rattle.namespace_rows.proofs.rows.Rows.insert.Goals as goal

pub invariant_of-self : goal.invariant_of-self
invariant_of-self c =
    rw (c.in_ok-self-inside.ensures, c.deref.ensures.value, c.deref-2.ensures.value)
    (with_sub_tree_namespace c.self.inside.list.items c.args.sub_tree.items c.self.invariant (rw c.self.view_is c.requires))
