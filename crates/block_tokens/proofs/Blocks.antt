-- A key as a block.
use Rattle.std.proofs.Common.{◌≡◌, ℕ, ◌≤◌, List, ◌++◌, length, drop, ap}
use Rattle.std.specs.Prelude.{replicate}
use Rattle.std.proofs.lemmas.Bool.{le-ltb}
use Rattle.std.proofs.lemmas.List.{drop-replicate}
use Rattle.block_tokens.specs.Hmac.{block_key}

pub filled : (key : List ℕ) → length key ≤ 64 → key ++ drop (length key) (replicate 64 0) ≡ block_key key
filled key short = rw (le-ltb 64 (length key) short) (ap (λ (zeros : List ℕ). key ++ zeros) (drop-replicate (length key) 64 0))
