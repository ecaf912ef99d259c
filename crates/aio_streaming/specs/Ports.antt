-- Ports as a request names them.
use Rattle.std.specs.Prelude.{ℕ, ℤ, pos, negsuc, ◌&&◌, Option, Some, None, nat_lt, if◌then◌else◌}

-- a number from 1 to 65,535
abbrev pub port_in : ℤ → Option ℕ
port_in (pos number) = if nat_lt 0 number && nat_lt number 65536 then Some number else None
port_in (negsuc before) = None
