-- A user or a group: 1 to 255 bytes from 0x21 to 0x7e, none of which is a colon, a comma or a slash.
-- (HDFS Permissions Guide, "User Identity" and "Group Mapping": names are plain strings; these limits are this project's choice.)
use Rattle.std.specs.Prelude.{ℕ, Bool, List, length, nat_lt, nat_le, ◌==◌, ◌&&◌, not, if◌then◌else◌, Option, Some, None, IsTrue}
use Rattle.std.specs.List.{list_all}

abbrev pub is_who_byte : ℕ → Bool
is_who_byte byte = nat_le 33 byte && nat_le byte 126 && not (byte == 58) && not (byte == 44) && not (byte == 47)

abbrev pub is_who : List ℕ → Bool
is_who text = nat_lt 0 (length text) && nat_le (length text) 255 && list_all is_who_byte text

abbrev pub IsWho : List ℕ → Type 0
IsWho text = IsTrue (is_who text)

-- the user or group that a text spells: itself
abbrev pub who_of : List ℕ → Option (List ℕ)
who_of text = if is_who text then Some text else None
