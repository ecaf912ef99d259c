-- The address of the machine's own.
use Rattle.std.specs.Prelude.{◌≡◌, ℕ, [], ◌∷◌}
use Rattle.std.specs.declared.net.socket_addr.SocketAddr.{SocketAddr}
use Rattle.std.specs.declared.net.socket_addr.SocketAddr.TheVariants.{V4, V6}
use Rattle.std.specs.Net.Addr.{ipv4_octets}
use Rattle.std.specs.Net.Socket.{v4_ip, v4_port}

-- 127.0.0.1, which no other machine reaches, with this port
abbrev pub IsHere : ℕ → SocketAddr → Type 0
IsHere port (V4 address) = (ipv4_octets (v4_ip address) ≡ 127 ∷ 0 ∷ 0 ∷ 1 ∷ []) × (v4_port address ≡ port)
IsHere port (V6 address) = ⊥
