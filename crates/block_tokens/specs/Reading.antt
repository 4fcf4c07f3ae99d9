-- A token's text read from left to right: each field is a value and the bytes behind it.
use Rattle.std.specs.Prelude.{◌≡◌, ℕ, ◌+◌, List, [], ◌∷◌, length, take, drop, Option, Some, None, nat_lt, ◌==◌, if◌then◌else◌}
use Rattle.std.specs.Int.{Width, w32, w64, byte_len, from_be_bytes}
use Rattle.permission_bits.specs.Modes.{is_modes}
use Rattle.hdfs_values.specs.Who.{who_of}
use Rattle.block_tokens.specs.TokenText.{Body}

infixl 10 ◌>>=◌
abbrev pub ◌>>=◌ : {A B : Type 0} → Option A → (A → Option B) → Option B
None >>= f = None
(Some x) >>= f = f x

-- what a function returned, as contracts see it
abbrev pub Gives : {X Y : Type 0} → (X → Y) → Option X → Option Y → Type 0
Gives view None read = read ≡ None
Gives view (Some x) read = read ≡ Some (view x)

abbrev pub number_at : Width → List ℕ → Option (ℕ × List ℕ)
number_at w bytes = if nat_lt (length bytes) (byte_len w) then None else Some (from_be_bytes w (take (byte_len w) bytes), drop (byte_len w) bytes)

unfoldable pub modes_at : List ℕ → Option (ℕ × List ℕ)
modes_at [] = None
modes_at (modes ∷ rest) = if is_modes modes then Some (modes, rest) else None

-- the name is as long as the byte before it says, and behind it stand the 20 bytes of the code
unfoldable pub user_at : List ℕ → Option (List ℕ × List ℕ)
user_at [] = None
user_at (size ∷ rest) = do
  name ← who_of (take size rest)
  if length rest == size + 20 then Some (name, drop size rest) else None

-- behind the version
unfoldable pub version_1_at : List ℕ → Option Body
version_1_at bytes = do
  expiry ← number_at w64 bytes
  serial ← number_at w32 expiry.1
  block ← number_at w64 serial.1
  modes ← modes_at block.1
  user ← user_at modes.1
  Some (record { expiry = expiry.0; serial = serial.0; block = block.0; modes = modes.0; user = user.0; code = user.1 })

-- by the first byte
unfoldable pub parts_of : List ℕ → Option Body
parts_of [] = None
parts_of (version ∷ bytes) = if version == 1 then version_1_at bytes else None
