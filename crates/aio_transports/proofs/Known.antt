-- What is known of what is kept is known of the streams that it stands for.
use Rattle.std.proofs.Common.{◌≡◌, ℕ, Option, Some, None, length, nat_lt, slice_get, ◌∙◌, refl, sym, ap, subst}
use Rattle.std.specs.Option.{option_and_then, option_map}
use Rattle.model_wire.specs.declared.event.Handed.TheVariants as to
use Rattle.model_stream.specs.Children.{Child}
use Rattle.model_stream.specs.Connections.{Connection}
use Rattle.model_stream.specs.Requests.{closed_future, returncode}
use Rattle.model_stream.specs.Senders.{Sender}
use Rattle.model_stream.specs.Streams as plain
use Rattle.model_stream.specs.Streams.{Streams}
use Rattle.aio_children.specs.Kept.{Kept as Children}
use Rattle.aio_stream.specs.Kept as streams
use Rattle.aio_stream.specs.Kept.{Kept as Conns}
use Rattle.aio_transports.specs.Kept.{Kept, Remaining, kept_all}
use Rattle.aio_transports.specs.Standing.{TransportsStandFor}

closed_conn : (it : Option Connection) → option_map (λ (c : Connection). c.sender.closed_future) it
    ≡ option_map (λ (sender : Sender). sender.closed_future) (option_map (λ (c : Connection). c.sender) it)
closed_conn None = refl
closed_conn (Some c) = refl

closed_child : (it : Option Child) → option_map (λ (p : Child). p.stdin.closed_future) it
    ≡ option_map (λ (sender : Sender). sender.closed_future) (option_map (λ (p : Child). p.stdin) it)
closed_child None = refl
closed_child (Some p) = refl

module _ (c : Conns) (p : Children) (rest : Remaining) (k : Kept) (is : kept_all c p rest ≡ k) (s : Streams) (stands : TransportsStandFor k s) where
  pub both_stand : TransportsStandFor (kept_all c p rest) s
  both_stand = subst (λ (k : Kept). TransportsStandFor k s) (sym is) stands

  pub closed_of_conn : (id : ℕ)
      → option_map (λ (c : Connection). c.sender.closed_future) (slice_get c.connections id) ≡ closed_future (to.Conn id) s
  closed_of_conn id =
      closed_conn (slice_get c.connections id)
      ∙ ap (λ xs. option_map (λ (sender : Sender). sender.closed_future) (option_map (λ (c : Connection). c.sender)
      (slice_get xs id)))
      (sym both_stand.streams.connections)

  pub closed_of_child : (id : ℕ)
      → option_map (λ (p : Child). p.stdin.closed_future) (slice_get p.children id) ≡ closed_future (to.Child id) s
  closed_of_child id =
      closed_child (slice_get p.children id)
      ∙ ap (λ xs. option_map (λ (sender : Sender). sender.closed_future) (option_map (λ (p : Child). p.stdin) (slice_get xs id)))
      (sym both_stand.children.children)

  pub code_of_child : (id : ℕ) → option_and_then (λ (p : Child). p.code) (slice_get p.children id) ≡ returncode id s
  code_of_child id = ap (λ xs. option_and_then (λ (p : Child). p.code) (slice_get xs id)) (sym both_stand.children.children)

  pub servers_few : streams.may_listen c ≡ plain.may_listen s
  servers_few =
      sym (ap (λ n. nat_lt n s.most) (ap length both_stand.streams.servers) ∙ ap (λ most. nat_lt
      (length c.servers) most) both_stand.streams.most)

  pub connections_few : streams.may_connect c ≡ plain.may_connect s
  connections_few =
      sym (ap (λ n. nat_lt n s.most) (ap length both_stand.streams.connections)
      ∙ ap (λ most. nat_lt (length c.connections) most) both_stand.streams.most)

  pub children_few : nat_lt (length p.children) p.most ≡ plain.may_launch s
  children_few =
      sym (ap (λ n. nat_lt n s.most) (ap length both_stand.children.children)
      ∙ ap (λ most. nat_lt (length p.children) most) both_stand.children.most)

  pub numbers_server : (id : ℕ) → nat_lt id (length c.servers) ≡ nat_lt id (length s.servers)
  numbers_server id = ap (λ xs. nat_lt id (length xs)) (sym both_stand.streams.servers)

  pub numbers_conn : (id : ℕ) → nat_lt id (length c.connections) ≡ nat_lt id (length s.connections)
  numbers_conn id = ap (λ xs. nat_lt id (length xs)) (sym both_stand.streams.connections)

  pub numbers_child : (id : ℕ) → nat_lt id (length p.children) ≡ nat_lt id (length s.children)
  numbers_child id = ap (λ xs. nat_lt id (length xs)) (sym both_stand.children.children)
