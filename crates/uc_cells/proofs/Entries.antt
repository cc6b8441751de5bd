-- What `==` finds equal of a cell's contents is the same.
use Rattle.std.proofs.Common.{Bool, false, not, ◌≡◌, true, Option, Some, None, refl, ap, rules}
use Rattle.std.proofs.lemmas.Bool.{and_parts}
use Rattle.std.proofs.lemmas.Bool.Decides.{Decides-eqb}
use Rattle.std.proofs.lemmas.Slice.Eq.{slice_eq-Decides}
use Rattle.std.specs.Cmp.{booleans_Decides}
use Rattle.std.specs.Cmp.Lexicographic.{bytes_decides}
use Rattle.std.specs.Option.{option_eq}
use Rattle.std.specs.Result.{MatchResult, is_err}
use Rattle.std.specs.declared.result.Result.{Result}
use Rattle.std.specs.declared.result.Result.TheVariants.{Ok, Err}
use Rattle.mc_model.specs.declared.command.Command.{Command}
use Rattle.mc_model.specs.declared.command.Command.TheVariants.{Store, Cas, Get, Delete, Incr, Decr, Flush, Limit}
use Rattle.mc_model.specs.declared.command.Verb.{Verb}
use Rattle.mc_model.specs.declared.command.Verb.TheVariants.{Set, Add, Replace, Append, Prepend}
use Rattle.mc_model.specs.declared.request.Entry.{Entry}
use Rattle.mc_model.specs.Log.{entry_for}
use Rattle.mc_model.specs.contracts.request.EntryPartialEq.TheImpl as entries
use Rattle.mc_model.specs.contracts.command.CommandPartialEq.TheImpl as commands
use Rattle.mc_model.specs.contracts.command.VerbPartialEq.TheImpl as verbs

-- each variant is equal to itself alone
same_verb : (one other : Verb) → verbs.ghosts.eq one other ≡ true → one ≡ other
same_verb Set Set is = refl
same_verb Add Add is = refl
same_verb Replace Replace is = refl
same_verb Append Append is = refl
same_verb Prepend Prepend is = refl
same_verb one other is = absurd (cc)

-- commands of one kind with the same fields are the same
same_command : (one other : Command) → commands.ghosts.eq one other ≡ true → one ≡ other
same_command (Store verb key flags block) (Store verb2 key2 flags2 block2) is =
    let verbs = and_parts _ _ is in
    let keys = and_parts _ _ verbs.1 in
    let flag = and_parts _ _ keys.1 in
    let same_verb = same_verb verb verb2 verbs.0 in
    let same_key = (bytes_decides key key2).0 keys.0 in
    let same_flags = (Decides-eqb flags flags2).0 flag.0 in
    let same_block = (bytes_decides block block2).0 flag.1 in
    λ i. Store (same_verb i) (same_key i) (same_flags i) (same_block i)
same_command (Cas key flags block unique) (Cas key2 flags2 block2 unique2) is =
    let keys = and_parts _ _ is in
    let flag = and_parts _ _ keys.1 in
    let blocks = and_parts _ _ flag.1 in
    let same_key = (bytes_decides key key2).0 keys.0 in
    let same_flags = (Decides-eqb flags flags2).0 flag.0 in
    let same_block = (bytes_decides block block2).0 blocks.0 in
    let same_unique = (Decides-eqb unique unique2).0 blocks.1 in
    λ i. Cas (same_key i) (same_flags i) (same_block i) (same_unique i)
same_command (Get keys uniques) (Get keys2 uniques2) is =
    let parts = and_parts _ _ is in
    let same_keys = (slice_eq-Decides bytes_decides keys keys2 _ refl).0 parts.0 in
    let same_uniques = (booleans_Decides uniques uniques2).0 parts.1 in
    λ i. Get (same_keys i) (same_uniques i)
same_command (Delete key) (Delete key2) is = ap Delete ((bytes_decides key key2).0 is)
same_command (Incr key by) (Incr key2 by2) is =
    let parts = and_parts _ _ is in
    let same_key = (bytes_decides key key2).0 parts.0 in
    let same_by = (Decides-eqb by by2).0 parts.1 in
    λ i. Incr (same_key i) (same_by i)
same_command (Decr key by) (Decr key2 by2) is =
    let parts = and_parts _ _ is in
    let same_key = (bytes_decides key key2).0 parts.0 in
    let same_by = (Decides-eqb by by2).0 parts.1 in
    λ i. Decr (same_key i) (same_by i)
same_command Flush Flush is = refl
same_command (Limit limits) (Limit limits2) is =
    let parts = and_parts _ _ is in
    let same_items = (Decides-eqb limits.items limits2.items).0 parts.0 in
    let same_bytes = (Decides-eqb limits.bytes limits2.bytes).0 parts.1 in
    λ i. Limit (record { items = same_items i; bytes = same_bytes i })
same_command one other is = absurd (cc)

-- as are entries of one ticket, tenant and command
same_entry : (one other : Entry) → entries.ghosts.eq one other ≡ true → one ≡ other
same_entry one other is =
    let tickets = and_parts _ _ is in
    let numbers = and_parts _ _ tickets.0 in
    let tenants = and_parts _ _ tickets.1 in
    let same_worker = (Decides-eqb one.ticket.worker other.ticket.worker).0 numbers.0 in
    let same_number = (Decides-eqb one.ticket.number other.ticket.number).0 numbers.1 in
    let same_tenant = (Decides-eqb one.tenant other.tenant).0 tenants.0 in
    let same_command = same_command one.command other.command tenants.1 in
    λ i. record { ticket = record { worker = same_worker i; number = same_number i }; tenant = same_tenant i; command = same_command i }

-- and what two cells may hold
same_content : (one other : Option Entry) → option_eq entries.eq-value.it one other ≡ true → one ≡ other
same_content None None is = refl
same_content (Some one) (Some other) is = ap (λ (e : Entry). Some e) (same_entry one other is)
same_content one other is = absurd (cc)

-- a test whose opposite fails passes
passes : (test : Bool) → false ≡ not test → test ≡ true
passes true fails = refl
passes false fails = absurd (cc)

-- two contents of a cell are the same if `!=` finds no difference
pub same_unless : (one other : Option Entry) → false ≡ not (option_eq entries.eq-value.it one other) → one ≡ other
same_unless one other fails = same_content one other (passes _ fails)

-- what holds of a result unless it is an error, where it is none
pub was_set : {A E : Type 0} (P : Type 0) (Q : E → Type 0) (result : Result A E) → MatchResult result (λ _. P) Q → false ≡ is_err result → P
was_set P Q (Ok value) holds set = holds
was_set P Q (Err error) holds set = absurd (cc)

-- an entry counts for its own ticket
pub counts_itself : (entry : Entry) → entry_for entry.ticket entry ≡ Some entry
counts_itself entry = search rules
