-- Worked rows, tried on the definitions: what stands at the front of a stream.
use Rattle.std.specs.Prelude.{codes}
use Rattle.std.proofs.Common.{◌≡◌, true, false, [], ◌∷◌, None, refl}
use Rattle.mc_model.specs.declared.command.Command.TheVariants.{Cas, Decr, Delete, Flush, Get, Store}
use Rattle.mc_model.specs.declared.command.Verb.TheVariants.{Append, Set}
use Rattle.mc_model.specs.declared.reply.Reply.TheVariants.{Version}
use Rattle.mc_model.specs.declared.reply.TheConstants.WireNo.{BAD_BLOCK, BAD_DELTA, BAD_FORMAT, NO_EXPIRY, UNKNOWN_COMMAND}
use Rattle.mc_model.specs.declared.request.Request.TheVariants.{Limit, Local, Logged, Quit}
use Rattle.mc_read.specs.Administering.{asked_by_admin}
use Rattle.mc_read.specs.First.{first_request, found}
use Rattle.mc_read.specs.Line.{asked, refused}

-- a set with its block, and what follows
set_with_its_block : first_request asked (codes "set a 5 0 3\r\nabc\r\nget a\r\n")
    ≡ found (Logged (Store Set (codes "a") 5 (codes "abc")) false) (codes "get a\r\n")
set_with_its_block = refl

get_of_two_keys : first_request asked (codes "get  b a \n")
    ≡ found (Logged (Get (codes "b" ∷ codes "a" ∷ []) false) false) []
get_of_two_keys = refl

-- line ends inside a block don't end it
block_holds_line_ends : first_request asked (codes "set k 0 0 7\r\n\r\nEND\r\n\r\nget k\r\n")
    ≡ found (Logged (Store Set (codes "k") 0 (codes "\r\nEND\r\n")) false) (codes "get k\r\n")
block_holds_line_ends = refl

-- no request before the block and its end have come
input_ends_inside_block : first_request asked (codes "set a 0 0 3\r\nab") ≡ None
input_ends_inside_block = refl

-- a refused block goes with its line, and so do the two bytes after it
bad_data_chunk : first_request asked (codes "set a 0 0 2\r\nabcde\r\n") ≡ found (refused BAD_BLOCK false) (codes "e\r\n")
bad_data_chunk = refl

quiet_expiry : first_request asked (codes "set a 0 9 1 noreply\r\nx\r\nget a\r\n") ≡ found (refused NO_EXPIRY true) (codes "get a\r\n")
quiet_expiry = refl

bad_flags_are_answered : first_request asked (codes "set a x 0 1 noreply\r\ny\r\n") ≡ found (refused BAD_FORMAT false) []
bad_flags_are_answered = refl

-- without a readable length the line goes alone
unreadable_length : first_request asked (codes "set a 0 0 x\r\nabc\r\n") ≡ found (refused BAD_FORMAT false) (codes "abc\r\n")
unreadable_length = refl

-- names count in lower case alone
upper_case : first_request asked (codes "GET a\r\n") ≡ found (refused UNKNOWN_COMMAND false) []
upper_case = refl

-- append ignores the value of its exptime, and not its spelling
append_ignores_expiry : first_request asked (codes "append a 9 60 1\r\ny\r\n") ≡ found (Logged (Store Append (codes "a") 9 (codes "y")) false) []
append_ignores_expiry = refl

append_with_bad_expiry : first_request asked (codes "append a 9 x 1\r\ny\r\n") ≡ found (refused BAD_FORMAT false) []
append_with_bad_expiry = refl

check_and_set : first_request asked (codes "cas a 0 0 1 7 noreply\r\ny\r\n") ≡ found (Logged (Cas (codes "a") 0 (codes "y") 7) true) []
check_and_set = refl

-- the sixth word is the unique, and the block goes with the line
noreply_for_unique : first_request asked (codes "cas a 0 0 1 noreply\r\ny\r\nquit\r\n") ≡ found (refused BAD_FORMAT false) (codes "quit\r\n")
noreply_for_unique = refl

gets_shows_uniques : first_request asked (codes "gets a a\r\n") ≡ found (Logged (Get (codes "a" ∷ codes "a" ∷ []) true) false) []
gets_shows_uniques = refl

delete_with_zero : first_request asked (codes "delete a 0 noreply\r\n") ≡ found (Logged (Delete (codes "a")) true) []
delete_with_zero = refl

delete_with_time : first_request asked (codes "delete a 1\r\n") ≡ found (refused BAD_FORMAT false) []
delete_with_time = refl

bad_delta_is_answered : first_request asked (codes "incr n x noreply\r\n") ≡ found (refused BAD_DELTA false) []
bad_delta_is_answered = refl

decrement : first_request asked (codes "decr n 009\r\n") ≡ found (Logged (Decr (codes "n") 9) false) []
decrement = refl

flush_without_reply : first_request asked (codes "flush_all noreply\r\n") ≡ found (Logged Flush true) []
flush_without_reply = refl

quiet_flush_with_time : first_request asked (codes "flush_all 5 noreply\r\n") ≡ found (refused NO_EXPIRY true) []
quiet_flush_with_time = refl

version_alone : first_request asked (codes "version\r\nversion now\r\n") ≡ found (Local Version false) (codes "version now\r\n")
version_alone = refl

quit_alone : first_request asked (codes "quit\r\nget a\r\n") ≡ found Quit (codes "get a\r\n")
quit_alone = refl

quit_with_a_word : first_request asked (codes "quit now\r\n") ≡ found (refused UNKNOWN_COMMAND false) []
quit_with_a_word = refl

-- an administrator sets the quotas of a tenant by its name
limit_by_name : first_request asked_by_admin (codes "limit a 2 100\r\nlimit x 1 1\r\n")
    ≡ found (Limit (codes "a") (record { items = 2; bytes = 100 }) false) (codes "limit x 1 1\r\n")
limit_by_name = refl

quiet_limit : first_request asked_by_admin (codes "limit a-b_0 1048576 1073741824 noreply\r\n")
    ≡ found (Limit (codes "a-b_0") (record { items = 1048576; bytes = 1073741824 }) true) []
quiet_limit = refl

limit_out_of_range_is_answered : first_request asked_by_admin (codes "limit a 0 1 noreply\r\n") ≡ found (refused BAD_FORMAT false) []
limit_out_of_range_is_answered = refl

limit_of_five_arguments : first_request asked_by_admin (codes "limit a 1 1 noreply x\r\n") ≡ found (refused UNKNOWN_COMMAND false) []
limit_of_five_arguments = refl

-- an administrator has no command on a table, and a tenant none that sets quotas
get_of_an_administrator : first_request asked_by_admin (codes "get a\r\nquit\r\n") ≡ found (refused UNKNOWN_COMMAND false) (codes "quit\r\n")
get_of_an_administrator = refl

limit_of_a_tenant : first_request asked (codes "limit a 2 100\r\n") ≡ found (refused UNKNOWN_COMMAND false) []
limit_of_a_tenant = refl
