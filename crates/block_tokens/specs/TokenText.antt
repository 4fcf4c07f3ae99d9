-- The text of a block access token, version 1. Numbers stand with their high byte first:
-- the version, 1 byte; the expiry, 8; the serial of the key, 4; the block, 8; the modes, 1; the length of the user's name,
-- 1; the name; and 20 bytes of code, which is that of all bytes before it.
-- (HADOOP-4359 says what a token holds; the layout is this project's own.)
use Rattle.std.specs.Prelude.{◌≡◌, ℕ, ◌-◌, ◌<◌, ◌^◌, List, ◌∷◌, ◌++◌, length, take, IsTrue}
use Rattle.std.specs.Int.{w32, w64, to_be_bytes}
use Rattle.permission_bits.specs.Modes.{is_modes}
use Rattle.hdfs_values.specs.Who.{IsWho}

-- what a token says
pub record Body : Type 0 where
  pub expiry : ℕ
  pub serial : ℕ
  pub block : ℕ
  pub modes : ℕ
  pub user : List ℕ
  pub code : List ℕ

-- the numbers fit their fields, the modes allow something, and the user is the name of one
pub record AreParts (parts : Body) : Type 0 where
  pub expiry : parts.expiry < 2 ^ 64
  pub serial : parts.serial < 2 ^ 32
  pub block : parts.block < 2 ^ 64
  pub modes : IsTrue (is_modes parts.modes)
  pub user : IsWho parts.user
  pub code : length parts.code ≡ 20

-- the bytes behind the version and before the code
unfoldable pub version_1_fields : Body → List ℕ
version_1_fields parts =
    to_be_bytes w64 parts.expiry ++ (to_be_bytes w32 parts.serial ++ (to_be_bytes w64 parts.block ++ (parts.modes ∷ length parts.user ∷ parts.user)))

-- all bytes before the code: what the code is of
abbrev pub coded_bytes : Body → List ℕ
coded_bytes parts = 1 ∷ version_1_fields parts

abbrev pub token_bytes : Body → List ℕ
token_bytes parts = coded_bytes parts ++ parts.code

-- a text of version 1, which its first byte tells
pub record Version1Text (bytes : List ℕ) (parts : Body) : Type 0 where
  pub parts_fit : AreParts parts
  pub spelled : bytes ≡ token_bytes parts

-- the bytes are the text of a token with these parts. Each version is a case of its own, told apart by the first byte; there
-- is one so far.
abbrev pub TokenText : List ℕ → Body → Type 0
TokenText bytes parts = Version1Text bytes parts

-- the bytes before the code of a token
abbrev pub before_code : List ℕ → List ℕ
before_code bytes = take (length bytes - 20) bytes
