-- The test of a token that is presented: the first refusal that applies, or none. (HADOOP-4359: a DataNode checks the code,
-- the expiry, the user, the block and the mode.)
use Rattle.std.specs.Prelude.{◌≡◌, ℕ, Bool, true, List, Option, Some, None, Result, Ok, Err, nat_le, ◌==◌, not, if◌then◌else◌}
use Rattle.permission_bits.specs.Rights.{covers}
use Rattle.hdfs_values.specs.Text.{same}
use Rattle.block_tokens.specs.Hmac.{hmac_sha1}
use Rattle.block_tokens.specs.KeyList.{KeyList, key_with, usable_keys}
use Rattle.block_tokens.specs.Reading.{parts_of}
use Rattle.block_tokens.specs.TokenText.{Body, before_code}
use Rattle.block_answers.specs.declared.key_list.HeldKey.{HeldKey}
use Rattle.block_tokens.specs.declared.refusal.TokenRefusal.{TokenRefusal}
use Rattle.block_tokens.specs.declared.refusal.TokenRefusal.TheVariants.{Malformed, UnknownKey, CodeMismatch, Expired, WrongUser, WrongBlock, WrongMode}

-- what is asked, by whom and when
pub record Access : Type 0 where
  pub now : ℕ
  pub caller : List ℕ
  pub block : ℕ
  pub mode : ℕ

-- the parts against what is asked
abbrev pub access_test : Body → Access → Option TokenRefusal
access_test parts access =
    if nat_le parts.expiry access.now then Some Expired
    else if not (same parts.user access.caller) then Some WrongUser
    else if not (parts.block == access.block) then Some WrongBlock
    else if not (covers parts.modes access.mode) then Some WrongMode
    else None

-- the code is that of all bytes before it
abbrev pub has_code : List ℕ → List ℕ → List ℕ → Bool
has_code key bytes code = same (hmac_sha1 key (before_code bytes)) code

-- under the key with the token's serial
abbrev pub code_test : Option HeldKey → List ℕ → Body → Access → Option TokenRefusal
code_test None bytes parts access = Some UnknownKey
code_test (Some held) bytes parts access = if has_code held.key bytes parts.code then access_test parts access else Some CodeMismatch

abbrev pub parts_test : KeyList → List ℕ → Option Body → Access → Option TokenRefusal
parts_test keys bytes None access = Some Malformed
parts_test keys bytes (Some parts) access = code_test (key_with parts.serial (usable_keys access.now keys)) bytes parts access

unfoldable pub token_test : KeyList → Access → List ℕ → Option TokenRefusal
token_test keys access bytes = parts_test keys bytes (parts_of bytes) access

-- the text of a token with these parts, whose code is that of its other bytes under the key that is held with its serial
pub record IsVerified (keys : KeyList) (bytes : List ℕ) (parts : Body) : Type 0 where
  pub read : parts_of bytes ≡ Some parts
  pub held : HeldKey
  pub known : key_with parts.serial keys ≡ Some held
  pub code : has_code held.key bytes parts.code ≡ true

-- none whose key can still be used
abbrev pub IsUnverified : KeyList → ℕ → List ℕ → Type 0
IsUnverified keys now bytes = (parts : Body) → IsVerified keys bytes parts → key_with parts.serial (usable_keys now keys) ≡ None

-- a token that was verified is tested by its parts
abbrev pub verified_test : Result Body TokenRefusal → Access → Option TokenRefusal
verified_test (Ok parts) access = access_test parts access
verified_test (Err refusal) access = Some refusal

-- what a function answered is what the test says
abbrev pub TellsTokenRefusal : {X : Type 0} → Result X TokenRefusal → Option TokenRefusal → Type 0
TellsTokenRefusal (Ok x) test = test ≡ None
TellsTokenRefusal (Err refusal) test = test ≡ Some refusal
