-- What is kept of streams as a tree of numbers. By it proofs tell states apart.
use Rattle.std.specs.Prelude.{◌≡◌, ℕ, Bool, true, false, List, refl}
use Rattle.std.specs.Coded.{Coded, code_by, coded×, coded_ℕ, coded_bool, coded_list}
use Rattle.model_stream.specs.Connections.{Connection}
use Rattle.model_stream.specs.Listeners.{Server}
use Rattle.model_stream.specs.Streams.{Opened, OpenedServer, OpenedConn, OpenedChild}
use Rattle.aio_connection.specs.Code.{coded_connection}
use Rattle.aio_stream.specs.contracts.server.Server as server
use Rattle.aio_stream.specs.Kept.{Kept}

abbrev opened_code : Opened → Bool × (Bool × ℕ)
opened_code (OpenedServer id) = (false, (false, id))
opened_code (OpenedConn id) = (false, (true, id))
opened_code (OpenedChild id) = (true, (false, id))

abbrev opened_from : Bool × (Bool × ℕ) → Opened
opened_from (false, (false, id)) = OpenedServer id
opened_from (false, (true, id)) = OpenedConn id
opened_from (true, (b, id)) = OpenedChild id

abbrev opened_back : (it : Opened) → opened_from (opened_code it) ≡ it
opened_back (OpenedServer id) = refl
opened_back (OpenedConn id) = refl
opened_back (OpenedChild id) = refl

abbrev pub coded_opened : Coded Opened
coded_opened = code_by (Bool × (Bool × ℕ)) (coded× coded_bool (coded× coded_bool coded_ℕ)) opened_code opened_from opened_back

abbrev pub coded_kept : Coded Kept
coded_kept =
    code_by (List Server × (List Connection × (List Opened × ℕ)))
    (coded× (coded_list server.the_row.coded) (coded× (coded_list coded_connection) (coded× (coded_list coded_opened) coded_ℕ)))
    (λ k. (k.servers, (k.connections, (k.opened, k.most))))
    (λ p. record { servers = p.0; connections = p.1.0; opened = p.1.1.0; most = p.1.1.1 })
    (λ _. refl)
