-- What a tenant's word says on wfmc's command line, `NAME=ADDR,ITEMS,BYTES`; this project's
-- profile. An address is written as std's `SocketAddrV4` is, and a number as an option's.
use Rattle.std.specs.Net.Grammar.{IsSocketV4Text}
use Rattle.std.specs.Prelude.{◌≡◌, ◌≢◌, ℕ, All, Some, IsTrue, ◌++◌, codes}
use Rattle.std.specs.declared.net.socket_addr.SocketAddrV4.{SocketAddrV4}
use Rattle.clap.specs.Walk.{Text}
use Rattle.mc_model.specs.Name.{is_lawful_name}
use Rattle.mc_model.specs.declared.settings.Limits.{Limits}
use Rattle.mc_programs.specs.Words.{u64_of}
use Rattle.mc_server.specs.declared.tenant_word.Tenant.{Tenant}

-- a tenant: the name that its listener goes by, the address on which it listens, and its quotas
pub record TenantAsked : Type 0 where
  pub name : Text
  pub address : SocketAddrV4
  pub limits : Limits

-- what contracts see of a tenant
abbrev pub asked_of : Tenant → TenantAsked
asked_of tenant =
    record { name = tenant.name.now; address = tenant.address; limits = tenant.limits }

-- the byte isn't in the text
abbrev pub Lacks : ℕ → Text → Type 0
Lacks byte text = All (λ other. other ≢ byte) text

-- the word made of these parts
abbrev pub tenant_text : Text → Text → Text → Text → Text
tenant_text name address items bytes =
    name ++ (codes "=" ++ (address ++ (codes "," ++ (items ++ (codes "," ++ bytes)))))

-- The word is of the form, and says this tenant. Its quotas need not be within their bounds.
pub record Says (word : Text) (tenant : TenantAsked) : Type 0 where
  pub address : Text
  pub items : Text
  pub bytes : Text
  pub spelled : word ≡ tenant_text tenant.name address items bytes
  pub is_name : IsTrue (is_lawful_name tenant.name)
  pub is_address : IsSocketV4Text address tenant.address
  pub is_items : u64_of items ≡ Some tenant.limits.items
  pub is_bytes : u64_of bytes ≡ Some tenant.limits.bytes

-- The word says this tenant, and no other.
pub record IsOnly (word : Text) (tenant : TenantAsked) : Type 0 where
  pub says : Says word tenant
  pub only : (other : TenantAsked) → Says word other → other ≡ tenant
