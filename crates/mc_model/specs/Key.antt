-- Keys, after memcached's doc/protocol.txt, "Keys": at most 250 characters, no control characters
-- and no whitespace.
use Rattle.std.specs.Prelude.{ℕ, Bool, ◌&&◌, not, ◌==◌, nat_lt, nat_le, if◌then◌else◌, List, length, Option, Some, None}
use Rattle.std.specs.List.{list_all}
use Rattle.mc_model.specs.declared.key.TheConstants.{KEY_BYTES}

-- a byte that is neither a control character nor a space; bytes from 128 on are accepted
abbrev pub is_key_byte : ℕ → Bool
is_key_byte byte = nat_lt 32 byte && not (byte == 127)

-- 1 to 250 such bytes
abbrev pub is_lawful_key : List ℕ → Bool
is_lawful_key bytes =
    (nat_lt 0 (length bytes) && nat_le (length bytes) KEY_BYTES) && list_all is_key_byte bytes

-- the key of these bytes, if they are a valid key
abbrev pub key_of : List ℕ → Option (List ℕ)
key_of bytes = if is_lawful_key bytes then Some bytes else None
