-- What contracts see of a poller and of a launcher. What is not told is `None`, and then nothing is promised of it.
use Rattle.std.specs.Prelude.{ℕ, ◌+◌, ◌-◌, ◌^◌, ℤ, pos, negsuc, Bool, true, false, ◌&&◌, List, ◌++◌, Option, Some, None, min, nat_le}
use Rattle.model_wire.specs.Call.{Call, Answer}
use Rattle.model_wire.specs.declared.call.Call.TheVariants as call

-- Where it tells them: the calls that it was asked, and the answers that it gave. Always: how often it failed.
pub record PollerSeen : Type 0 where
  pub asked : Option (List Call)
  pub answers : Option (List Answer)
  pub faults : ℕ

-- how many children were started, and the words and the number of the last
pub record Launches : Type 0 where
  pub count : ℕ
  pub words : List (List ℕ)
  pub child : ℕ

-- how many kills there were, and the child of the last
pub record Kills : Type 0 where
  pub count : ℕ
  pub child : ℕ

-- where it tells them: the children that it started, and those that it killed. Always: how often it failed
pub record LauncherSeen : Type 0 where
  pub launches : Option Launches
  pub kills : Option Kills
  pub faults : ℕ

-- what is told once these came after what was there
abbrev pub told_with : {A : Type 0} → List A → Option (List A) → Option (List A)
told_with more None = None
told_with more (Some told) = Some (told ++ more)

-- a count that is one more, or stands at its last value
abbrev pub one_more : ℕ → ℕ
one_more count = min (count + 1) (2 ^ 64 - 1)

abbrev pub with_launch : List (List ℕ) → ℕ → Option Launches → Option Launches
with_launch words child None = None
with_launch words child (Some told) = Some (record { count = one_more told.count; words = words; child = child })

abbrev pub with_kill : ℕ → Option Kills → Option Kills
with_kill child None = None
with_kill child (Some told) = Some (record { count = one_more told.count; child = child })

-- the codes of added requests on endpoints of datagrams: 400 opens one, 401 sends, 402 is what comes, 403 closes
abbrev pub is_datagram : ℤ → Bool
is_datagram (pos code) = nat_le 400 code && nat_le code 403
is_datagram (negsuc before) = false

-- a call on a listener, a connection or an endpoint of datagrams
abbrev pub is_socket : Call → Bool
is_socket (call.Select wait watched) = false
is_socket (call.Listen port) = true
is_socket (call.Accept server) = true
is_socket (call.Connect port) = true
is_socket (call.Recv conn) = true
is_socket (call.Send conn bytes) = true
is_socket (call.Feed child bytes) = false
is_socket (call.Shut conn) = true
is_socket (call.Close conn) = true
is_socket (call.CloseServer server) = true
is_socket (call.End child) = false
is_socket (call.Kill child) = false
is_socket (call.Launch words) = false
is_socket (call.Extra code bytes) = is_datagram code
