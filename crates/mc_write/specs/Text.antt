-- Reply text, after memcached's doc/protocol.txt, "Storage commands", "Retrieval command",
-- "Deletion", "Increment/Decrement", "Error strings" and, for version and flush_all, "Other
-- commands"; one equation per reply. The texts after CLIENT_ERROR, SERVER_ERROR and VERSION are
-- this project's profile.
use Rattle.std.specs.Prelude.{ℕ, List, [], ◌++◌, length, Option, Some, None, codes, decimal, flat_map}
use Rattle.mc_model.specs.declared.reply.Reply.{Reply}
use Rattle.mc_model.specs.declared.reply.Reply.TheVariants.{Stored, NotStored, Exists, NotFound, Deleted, Ok, Number, Values, Version, Refused}
use Rattle.mc_model.specs.declared.reply.Value.{Value}
use Rattle.mc_model.specs.declared.reply.WireNo.{WireNo}
use Rattle.mc_model.specs.declared.reply.WireNo.TheVariants.{E1, E2, E3, E4, E5, E6, E7, E8, E9, E10, E11}

-- the line of a refusal, without the line's end
abbrev pub refusal_line : WireNo → List ℕ
refusal_line E1 = codes "ERROR"
refusal_line E2 = codes "CLIENT_ERROR bad command line format"
refusal_line E3 = codes "CLIENT_ERROR bad data chunk"
refusal_line E4 = codes "CLIENT_ERROR expiry is not supported"
refusal_line E5 = codes "CLIENT_ERROR line too long"
refusal_line E6 = codes "SERVER_ERROR object too large for cache"
refusal_line E7 = codes "SERVER_ERROR out of memory storing object"
refusal_line E8 = codes "CLIENT_ERROR cannot increment or decrement non-numeric value"
refusal_line E9 = codes "CLIENT_ERROR invalid numeric delta argument"
refusal_line E10 = codes "SERVER_ERROR log full"
refusal_line E11 = codes "SERVER_ERROR out of memory"

-- the unique, if it is shown, after a space
abbrev pub unique_text : Option ℕ → List ℕ
unique_text None = []
unique_text (Some unique) = codes " " ++ decimal unique

-- the line of an item, without the line's end
abbrev pub value_line : Value → List ℕ
value_line value =
    codes "VALUE " ++ value.key ++ codes " " ++ decimal value.flags
    ++ codes " " ++ decimal (length value.block) ++ unique_text value.unique

-- the text of an item
abbrev pub value_text : Value → List ℕ
value_text value = value_line value ++ codes "\r\n" ++ value.block ++ codes "\r\n"

-- the text of a reply
abbrev pub text : Reply → List ℕ
text Stored = codes "STORED\r\n"
text NotStored = codes "NOT_STORED\r\n"
text Exists = codes "EXISTS\r\n"
text NotFound = codes "NOT_FOUND\r\n"
text Deleted = codes "DELETED\r\n"
text Ok = codes "OK\r\n"
text (Number number) = decimal number ++ codes "\r\n"
text (Values values) = flat_map value_text values ++ codes "END\r\n"
text Version = codes "VERSION 1.0.0\r\n"
text (Refused refusal) = refusal_line refusal ++ codes "\r\n"
