-- Tenants' names, by which an administrator names them; this project's profile.
use Rattle.std.specs.Prelude.{ℕ, Bool, ◌&&◌, ◌||◌, ◌==◌, nat_eq, nat_lt, nat_le, if◌then◌else◌, List, length, take, Option, Some, None, position}
use Rattle.std.specs.Cmp.Lexicographic.{pointwise}
use Rattle.std.specs.List.{list_all}
use Rattle.mc_model.specs.declared.id.TheConstants.{TENANTS}
use Rattle.mc_model.specs.declared.name.TheConstants.{NAME_BYTES}

-- `a` to `z`, `0` to `9`, `-` or `_`
abbrev pub is_name_byte : ℕ → Bool
is_name_byte byte =
    ((nat_le 97 byte && nat_le byte 122) || (nat_le 48 byte && nat_le byte 57))
    || (byte == 45 || byte == 95)

-- 1 to 32 such bytes
abbrev pub is_lawful_name : List ℕ → Bool
is_lawful_name bytes =
    (nat_lt 0 (length bytes) && nat_le (length bytes) NAME_BYTES) && list_all is_name_byte bytes

-- the name of these bytes, if they are a valid name
abbrev pub name_of : List ℕ → Option (List ℕ)
name_of bytes = if is_lawful_name bytes then Some bytes else None

-- the number of the tenant with this name: its first position among the first 64 names, counted
-- from 0
abbrev pub tenant_named : List (List ℕ) → List ℕ → Option ℕ
tenant_named names name = position (λ other. pointwise nat_eq other name) (take TENANTS names)
