-- The replicas that DataNodes are still to be told to remove.
-- (HDFS Architecture, "Data Disk Failure, Heartbeats and Re-Replication"; commands leave with the answer to a heartbeat.)
use Rattle.std.specs.Prelude.{ℕ, ◌==◌, Bool, not, List, filter, fold}
use Rattle.std.specs.BTreeSet.{insert_key}
use Rattle.std.specs.BTreeMap.{is_at}
use Rattle.std.specs.Set.{remove_key}
use Rattle.std.specs.Ordering.{nat_cmp, ordering_then}
use Rattle.std.specs.declared.cmp.Ordering.{Ordering}
use Rattle.block_records.specs.declared.mark.Mark.{Mark}

-- by node, then by block, then by stamp
abbrev pub mark_cmp : Mark → Mark → Ordering
mark_cmp mark other = ordering_then (nat_cmp mark.node other.node) (ordering_then (nat_cmp mark.block other.block) (nat_cmp mark.stamp other.stamp))

-- each mark stands once, in the order of marks
abbrev pub with_mark : List Mark → Mark → List Mark
with_mark marks mark = insert_key mark_cmp marks mark

abbrev pub with_marks : List Mark → List Mark → List Mark
with_marks marks more = fold with_mark marks more

-- without this mark, and without these
abbrev pub without_mark : List Mark → Mark → List Mark
without_mark marks mark = remove_key (is_at (mark_cmp mark)) marks

abbrev pub without_marks : List Mark → List Mark → List Mark
without_marks marks gone = fold without_mark marks gone

-- the replicas that a node is to remove
abbrev pub is_for : ℕ → Mark → Bool
is_for node mark = mark.node == node

abbrev pub marks_for : ℕ → List Mark → List Mark
marks_for node marks = filter (is_for node) marks

-- those of all other nodes
abbrev pub marks_but : ℕ → List Mark → List Mark
marks_but node marks = filter (λ mark. not (is_for node mark)) marks
