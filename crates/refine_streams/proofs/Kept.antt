-- Where some streams stand for what is kept, those do where nothing was written.
use Rattle.std.proofs.Common.{◌≡◌, ℕ, not, List, length, slice_get, take, ◌∙◌, refl, sym, ap}
use Rattle.std.proofs.Math.Logic.{∥∥₁_elim}
use Rattle.std.proofs.Props.{props}
use Rattle.std.proofs.lemmas.List.Elements.{filter_agree}
use Rattle.std.specs.Coded.{Coded-set, coded_list}
use Rattle.model_stream.specs.Streams.{Opened, OpenedServer, OpenedConn, OpenedChild, Streams}
use Rattle.law_over.specs.Gone.{holds_at, is_closed, is_gone, is_over, is_over_child}
use Rattle.aio_transports.specs.Code.{coded_opened}
use Rattle.aio_transports.specs.Kept.{Kept}
use Rattle.aio_transports.specs.Standing.{not_gone, TransportsStandFor}
use Rattle.refine_streams.specs.Streams.{HasStreams, streams_of}

same_number : (a b : ℕ) → IsProp (a ≡ b)
same_number a b = hlevel props

same_opened : (those these : List Opened) → IsProp (those ≡ these)
same_opened those these = Coded-set (coded_list coded_opened) those these

module _ (k : Kept) where
  abbrev so : Streams
  so = streams_of k

  module _ (s : Streams) (h : TransportsStandFor k s) where
    gone_alike : (one : Opened) → is_gone one s ≡ is_gone one so
    gone_alike (OpenedServer id) = ap (λ xs. holds_at is_closed (slice_get xs id)) h.streams.servers
    gone_alike (OpenedConn id) = ap (λ xs. holds_at is_over (slice_get xs id)) h.streams.connections
    gone_alike (OpenedChild id) = ap (λ xs. holds_at is_over_child (slice_get xs id)) h.children.children

    left_alike : (those : List Opened) → not_gone s those ≡ not_gone so those
    left_alike = filter_agree (λ one. not (is_gone one s)) (λ one. not (is_gone one so)) (λ one. ap not (gone_alike one))

    seen_so : length (take k.remaining.seen so.opened) ≡ k.remaining.seen
    seen_so = ap (λ xs. length (take k.remaining.seen xs)) (sym h.streams.opened) ∙ h.remaining.seen

    left_so : not_gone so k.remaining.those ≡ not_gone so (take k.remaining.seen so.opened)
    left_so =
        sym (left_alike k.remaining.those) ∙ h.remaining.left ∙ left_alike (take k.remaining.seen s.opened)
        ∙ ap (λ xs. not_gone so (take k.remaining.seen xs)) h.streams.opened

  pub streams_stand : ∥ ((s : Streams) × TransportsStandFor k s) ∥₁ → HasStreams k
  streams_stand some =
      record {
        streams = record { servers = refl; connections = refl; opened = refl; most = refl };
        children = record {
          children = refl;
          most =
              ∥∥₁_elim some (same_number k.streams.most k.children.most) (λ w. sym w.1.streams.most ∙ w.1.children.most);
        };
        remaining = record {
          seen = ∥∥₁_elim some (same_number (length (take k.remaining.seen so.opened)) k.remaining.seen) (λ w. seen_so w.0 w.1);
          left =
              ∥∥₁_elim some (same_opened (not_gone so k.remaining.those) (not_gone so (take k.remaining.seen so.opened)))
              (λ w. left_so w.0 w.1);
        };
      }
