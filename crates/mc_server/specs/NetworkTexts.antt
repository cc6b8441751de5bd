-- What wfmc prints about its listeners and at its end; this project's profile.
use Rattle.std.specs.Net.Text.{socket_v4_text}
use Rattle.std.specs.Prelude.{ℕ, ◌==◌, if◌then◌else◌, List, ◌++◌, codes, decimal, flat_map}
use Rattle.std.specs.declared.net.socket_addr.SocketAddrV4.{SocketAddrV4}
use Rattle.clap.specs.Walk.{Text}
use Rattle.mc_programs.specs.Faults.{program_line}
use Rattle.mc_server.specs.declared.network_texts.Listening.{Listening}

-- the address to print for a listener that was bound to an address: if that has port 0, the port
-- that the listener was given is printed instead
abbrev pub told_address : SocketAddrV4 → ℕ → SocketAddrV4
told_address address given = if address.port == 0 then record address { port = given } else address

-- the line for a listener, of a tenant or of administrators
abbrev pub listening_line : Text → SocketAddrV4 → List ℕ
listening_line name address =
    codes "listening " ++ (name ++ (codes " " ++ (socket_v4_text address ++ codes "\n")))

-- the lines for all listeners, in their order, and the line that ends them
abbrev pub ready_text : List Listening → List ℕ
ready_text listening =
    flat_map (λ one. listening_line one.name.now one.address) listening ++ codes "ready\n"

-- the line with how many places of all logs were used, once all connections were served
abbrev pub done_line : ℕ → List ℕ
done_line places = codes "done " ++ (decimal places ++ codes "\n")

-- the line for a listener whose address can't be listened on
abbrev pub cannot_listen_line : Text → List ℕ
cannot_listen_line name = program_line (codes "wfmc") (codes "cannot listen " ++ name)
