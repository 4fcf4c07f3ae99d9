-- What is told of the access control list of a file or a directory: its owner, its owning group and the text of its entries.
use Rattle.std.specs.Prelude.{ℕ, List}

pub record AclStatus : Type 0 where
  pub owner : List ℕ
  pub group : List ℕ
  pub spec : List ℕ
