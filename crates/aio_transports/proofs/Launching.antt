-- What a launch comes to, once the child is put into the order of opening.
use Rattle.std.proofs.Common.{◌≡◌, ℕ, List, [], ◌∷◌, ◌++◌, Option, Some, None, Result, Ok, Err, ◌∙◌, refl, sym, ap, subst}
use Rattle.model_stream.specs.Doing.{Doing}
use Rattle.model_stream.specs.Streams.{OpenedChild, Streams, launch}
use Rattle.aio_wire.specs.Outside.{Outside}
use Rattle.aio_wire.specs.declared.stop.Stop.{Stop}
use Rattle.aio_wire.specs.declared.stop.Stop.TheVariants as stop
use Rattle.aio_exchange.specs.Exchanged.{Exchanged, Last, All, Met, Starved}
use Rattle.aio_exchange.specs.Follows.{EndsBy, Follows, Reach, UnlessStarved}
use Rattle.aio_exchange.specs.Ways.{Leads, changed_on, had_on}
use Rattle.aio_exchange.proofs.Following.{follows_on, follows_starved}
use Rattle.aio_task.specs.View.{View}
use Rattle.aio_change.specs.Seen.{seen_changed}
use Rattle.aio_change.proofs.Owning.{went_keeps}
use Rattle.aio_children.specs.Kept.{Kept as Children}
use Rattle.aio_children.specs.Owned.{OwnsChildren}
use Rattle.aio_children.specs.Standing.{Launches}
use Rattle.aio_stream.specs.Kept.{Kept as Conns, with_child}
use Rattle.aio_stream.specs.Owned.{OwnsStreams}
use Rattle.aio_transports.specs.Kept.{Remaining, kept_all, with_launched}
use Rattle.aio_transports.specs.Owned.{OwnsTransports}
use Rattle.aio_transports.specs.Standing.{Answers}
use Rattle.aio_transports.proofs.Lifting.{beside_streams, own_streams, stands_with, streams_with}
use Rattle.aio_transports.proofs.Lasting.{Lasts, LastsWith, launch_keeps}
use Rattle.aio_transports.proofs.Numbering.{follows_in}
use Rattle.aio_transports.proofs.Remaining.{still_remains}

-- memory was refused after all was done
starved_after : {A W : Type 0} (o : Outside W) (doing : Doing A) (old new : Reach View W) (result : A)
    → Follows o seen_changed doing old new (Ok result) → Follows o seen_changed doing old new (Err stop.Memory)
starved_after {A} o doing old new result f = at f.last f.left f.leads f.exchanged f.parts f.ends
  where
    at : (last : Last) (left : Doing A) → Leads doing f.way left → Exchanged o (had_on f.way) last old.port new.port
        → UnlessStarved (new.parts ≡ changed_on seen_changed f.way old.parts) last
        → EndsBy last left new.port.events.answers (Ok result)
        → Follows o seen_changed doing old new (Err stop.Memory)
    at All left leads exchanged parts ends =
        follows_on o seen_changed doing left f.way old new new (Err stop.Memory) leads exchanged parts
        (follows_starved o seen_changed left new new refl)
    at (Met call said) left leads exchanged parts ends = absurd ends
    at Starved left leads exchanged parts ends = absurd ends

module _ {W : Type 0} (o : Outside W) (words : List (List ℕ)) (n : ℕ) (c : Conns) (p : Children)
    (rest : Remaining) (next : Children) (old new : Reach View W) where
  abbrev Launched : Result (Option ℕ) Stop → Type 0
  Launched result = Launches o (launch words n) p next old new result

  abbrev ComesTo : Conns → Result (Option ℕ) Stop → Type 0
  ComesTo after result = Answers o (launch words n) (kept_all c p rest) (kept_all after next rest) old new result

  it_lasts : (s : Streams) (after : Streams) (said : Option ℕ)
      → Follows o seen_changed (launch words n s) old new (Ok (after, said)) → Lasts s after
  it_lasts s after said f =
      follows_in (LastsWith {R = Option ℕ} s) seen_changed (launch words n s) (launch_keeps words n s) o old new (after, said) f

  -- it was stopped before
  pub launch_stops : (after : Conns) (why : Stop) → Launched (Err why) → ComesTo after (Err why)
  launch_stops after why it s h = let done = it s h.children in (done.0, (done.1.0, tt))

  refused : Launched (Ok None) → ComesTo c (Ok None)
  refused it s h =
      let done = it s h.children in
      (done.0, (done.1.0, beside_streams c p rest s h done.0 (it_lasts s done.0 None done.1.0) next done.1.1))

  started : (id : ℕ) → Launched (Ok (Some id)) → ComesTo (with_child id c) (Ok (Some id))
  started id it s h =
      let done = it s h.children in
      let lasts : Lasts s done.0 = it_lasts s done.0 (Some id) done.1.0 in
      let beside = done.1.1.1 in (
        done.0,
        (
          done.1.0,
          (
            record {
              streams = record {
                servers = beside.servers ∙ h.streams.servers;
                connections = beside.connections ∙ h.streams.connections;
                opened = beside.opened ∙ ap (λ those. those ++ OpenedChild id ∷ []) h.streams.opened;
                most = lasts.most ∙ h.streams.most;
              };
              children = done.1.1.0;
              remaining = still_remains rest s done.0 lasts h.remaining;
            },
            lasts.most,
          ),
        ),
      )

  comes_with : (said : Option ℕ) → Launched (Ok said) → ComesTo (with_launched said c) (Ok said)
  comes_with None it = refused it
  comes_with (Some id) it = started id it

  pub launch_goes : (said : Option ℕ) (after : Conns) → after ≡ with_launched said c → Launched (Ok said)
      → ComesTo after (Ok said)
  launch_goes said after is it = subst (λ (a : Conns). ComesTo a (Ok said)) (sym is) (comes_with said it)

  -- there was no memory to put it into the order
  pub launch_starves : (said : Option ℕ) (after : Conns) → Launched (Ok said) → ComesTo after (Err stop.Memory)
  launch_starves said after it s h =
      let done = it s h.children in
      (done.0, (starved_after o (launch words n s) old new (done.0, said) done.1.0, tt))

  kept_after : (said : Option ℕ) → Launched (Ok said) → OwnsStreams old.parts c → OwnsStreams new.parts c
  kept_after said it own =
      let done = it (streams_with p) (stands_with p) in
      own_streams old.parts new.parts (went_keeps o (launch words n (streams_with p)) old new (done.0, said) done.1.0) c own

  same_connections : (said : Option ℕ) → OwnsStreams new.parts c → OwnsStreams new.parts (with_launched said c)
  same_connections None own = own
  same_connections (Some id) own = own

  pub own_launched : (said : Option ℕ) (after : Conns) → after ≡ with_launched said c → Launched (Ok said)
      → OwnsChildren new.parts next
      → OwnsTransports old.parts (kept_all c p rest) → OwnsTransports new.parts (kept_all after next rest)
  own_launched said after is it owns own =
      subst (λ (a : Conns). OwnsTransports new.parts (kept_all a next rest)) (sym is) (
        same_connections said
            (kept_after said it own.0),
        owns,
      )
