-- Fragments of data, joined. They are a "data block" of memcached's doc/protocol.txt, "Storage
-- commands", in parts, each of its own or borrowed from a command; the parts are this project's
-- profile.
use Rattle.std.specs.Option.{option_map, unwrap_or}
use Rattle.std.specs.Prelude.{ℕ, Bool, true, false, List, [], ◌++◌, drop, flat_map}
use Rattle.mc_model.specs.declared.unread.Unread.{Unread}
use Rattle.mc_model.specs.declared.fragments.Fragment.{Fragment}
use Rattle.mc_model.specs.declared.fragments.Fragment.TheVariants as fragment
use Rattle.mc_model.specs.declared.fragments.Pieces.{Pieces}
use Rattle.mc_model.specs.declared.fragments.Pieces.TheVariants as pieces

-- the bytes of one fragment
abbrev pub fragment_bytes : Fragment → List ℕ
fragment_bytes (fragment.Block block) = block.now
fragment_bytes (fragment.Digits digits) = digits
fragment_bytes (fragment.Own block) = block.value

-- the bytes of all fragments, in their order
abbrev pub joined_pieces : Pieces → List ℕ
joined_pieces (pieces.Block block) = block.now
joined_pieces (pieces.Digits digits) = digits
joined_pieces (pieces.Own block) = block.value
joined_pieces (pieces.Many list) = flat_map fragment_bytes list.value.items

-- there is one fragment, which is in no list
abbrev pub is_single : Pieces → Bool
is_single (pieces.Many _) = false
is_single _ = true

-- the fragments that are left in the list, if there is one
abbrev pub fragments_left : Unread → List Fragment
fragments_left unread =
    drop unread.next (unwrap_or (option_map (λ list. list.now.items) unread.list) [])

-- what is left of fragments
abbrev pub unread_bytes : Unread → List ℕ
unread_bytes unread = unread.rest.now ++ flat_map fragment_bytes (fragments_left unread)
