-- Ports as listen and connect name them.
use Rattle.std.proofs.Common.{◌≡◌, ℕ, ℤ, pos, negsuc, Bool, true, false, ◌&&◌, Some, None, nat_lt, if◌then◌else◌, refl, ap, subst, ◌∙◌}
use Rattle.model_value.specs.Value.{Value}
use Rattle.model_value.specs.declared.request.Request.TheVariants as request
use Rattle.model_stream.specs.Streams.{may_connect, may_listen}
use Rattle.model_machine.specs.Arguments.{as_int}
use Rattle.model_machine.specs.Extra.{Extra}
use Rattle.model_machine.specs.Replies as plain
use Rattle.model_machine.specs.Replies.{bad_port, connects, listens, reply}
use Rattle.model_machine.specs.State.{State}
use Rattle.refine_streams.proofs.Meaning.{connect_above, connect_below, connect_means, listen_above, listen_below, listen_means}
use Rattle.aio_streaming.specs.Ports.{port_in}

abbrev fits : ℕ → Bool
fits number = nat_lt 0 number && nat_lt number 65536

same_port : (one other : ℕ) → Some one ≡ Some other → one ≡ other
same_port one other e = cc

-- where there is a port, the number is that one
pub port_some : (number : ℤ) (port : ℕ) → port_in number ≡ Some port → (number ≡ pos port) × ((nat_lt 0 port && nat_lt port 65536) ≡ true)
port_some (negsuc before) port e = absurd (cc)
port_some (pos number) port e = at (fits number) refl e
  where
    at : (b : Bool) → fits number ≡ b → (if b then Some number else None) ≡ Some port → (pos number ≡ pos port) × (fits port ≡ true)
    at true is same = let one = same_port number port same in (ap pos one, subst (λ n. fits n ≡ true) one is)
    at false is same = absurd (cc)

no_port : (number : ℕ) → port_in (pos number) ≡ None → fits number ≡ false
no_port number e = at (fits number) refl e
  where
    at : (b : Bool) → fits number ≡ b → (if b then Some number else None) ≡ None → fits number ≡ false
    at true is same = absurd (cc)
    at false is same = is

module _ {S : Type 0} (added : Extra S) (task : ℕ) (s : State S) (value : Value) (number : ℤ) (is : as_int value ≡ Some number) where
  pub listens_at : (handler port : ℕ) → may_listen s.streams ≡ true → port_in number ≡ Some port
      → reply added task (request.Listen value handler) s ≡ listens handler port s
  listens_at handler port may e =
      let it = port_some number port e in listen_means added task s value handler port (is ∙ ap Some it.0) may it.1

  pub listens_nowhere : (handler : ℕ) → may_listen s.streams ≡ true → port_in number ≡ None
      → reply added task (request.Listen value handler) s ≡ plain.Raises bad_port s
  listens_nowhere handler may e = at number is e
    where
      at : (n : ℤ) → as_int value ≡ Some n → port_in n ≡ None → reply added task (request.Listen value handler) s ≡ plain.Raises bad_port s
      at (negsuc before) same none = listen_below added task s value handler before same may
      at (pos n) same none = listen_above added task s value handler n same may (no_port n none)

  pub connects_to : (port : ℕ) → may_connect s.streams ≡ true → port_in number ≡ Some port
      → reply added task (request.Connect value) s ≡ connects task port s
  connects_to port may e = let it = port_some number port e in connect_means added task s value port (is ∙ ap Some it.0) may it.1

  pub connects_nowhere : may_connect s.streams ≡ true → port_in number ≡ None → reply added task (request.Connect value) s ≡ plain.Raises bad_port s
  connects_nowhere may e = at number is e
    where
      at : (n : ℤ) → as_int value ≡ Some n → port_in n ≡ None → reply added task (request.Connect value) s ≡ plain.Raises bad_port s
      at (negsuc before) same none = connect_below added task s value before same may
      at (pos n) same none = connect_above added task s value n same may (no_port n none)
