-- Tokens whose codes were found right under the keys that are held. (HADOOP-4359: a DataNode checks a token's code by the key of its serial.)
use Rattle.std.specs.Prelude.{ℕ, List, Vec}
use Rattle.std.specs.declared.alloc.Global.{Global}
use Rattle.std.specs.List.{AllByRecursion}
use Rattle.block_tokens.specs.KeyList.{KeyList}
use Rattle.block_tokens.specs.TokenText.{Body}
use Rattle.block_tokens.specs.TokenTest.{IsVerified}

-- each with its parts
abbrev pub AreVerified : KeyList → List (Vec ℕ Global × Body) → Type 0
AreVerified keys tokens = AllByRecursion (λ token. IsVerified keys token.0.items token.1) tokens
