-- What a branch tells of the rows that it is a part of.
use Rattle.std.specs.Prelude.{◌≡◌, ℕ, Bool, false, List, map, filter, Option}
use Rattle.std.specs.declared.cmp.Ordering.TheVariants.{Less, Greater}
use Rattle.hdfs_values.specs.Text.{text_cmp}
use Rattle.namespace_rows.specs.declared.row.Row.{Row}
use Rattle.namespace_rows.specs.Changes.{rows_under}
use Rattle.inode_nodes.specs.Node.{Node, rows_or, under, row_placed}

-- A test p passes the rows at a name as q passes the rows of its branch, and all rows before it or none, and all behind it or none.
pub record Splits (p q : Row → Bool) (name : List ℕ) (low high : Bool) : Type 0 where
  pub lows : (other : List ℕ) (row : Row) → text_cmp name other ≡ Greater → p (under other row) ≡ low
  pub highs : (other : List ℕ) (row : Row) → text_cmp name other ≡ Less → p (under other row) ≡ high
  pub here : (row : Row) → p (under name row) ≡ q row

-- what a directory's rows have at a name: each test that passes none elsewhere sees the branch's rows
pub record IsPart (name : List ℕ) (beneath : List Row) (part : Option Node) : Type 0 where
  pub seen : (p q : Row → Bool) → Splits p q name false false → filter p beneath ≡ map (under name) (filter q (rows_or part))

-- the rows at and beneath the path are those of the branch, or there is none
abbrev pub IsWhole : List (List ℕ) → List Row → Option Node → Type 0
IsWhole path all part = rows_under path all ≡ map (row_placed path) (rows_or part)
