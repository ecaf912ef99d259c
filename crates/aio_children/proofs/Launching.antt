-- What a launch comes to, by the tree.
use Rattle.std.proofs.Common.{◌≡◌, ℕ, true, false, if◌then◌else◌, List, [], ◌∷◌, ◌++◌, Option, Some, None, Ok, Err, length}
use Rattle.std.proofs.Common.{◌∙◌, refl, sym, ap, subst}
use Rattle.std.specs.List.{AllByRecursion as Each}
use Rattle.model_wire.specs.declared.call.Call.TheVariants as call
use Rattle.model_wire.specs.Call.{Answer}
use Rattle.model_stream.specs.Answers.{is_child}
use Rattle.model_stream.specs.Children.{Child, new_child}
use Rattle.model_stream.specs.Doing.{Doing, Ends, Changes, MakeFuture}
use Rattle.model_stream.specs.Streams.{OpenedChild, Streams, add_child, launch, launched}
use Rattle.aio_wire.specs.Outside.{Outside}
use Rattle.aio_wire.specs.declared.stop.Stop.{Stop}
use Rattle.aio_wire.specs.declared.stop.Stop.TheVariants as stop
use Rattle.aio_exchange.specs.Exchanged.{AsksOne}
use Rattle.aio_exchange.specs.Follows.{Follows, Reach}
use Rattle.aio_exchange.proofs.Following.{follows_ends}
use Rattle.aio_exchange.proofs.Telling.{tells_changed, tells_end, tells_where}
use Rattle.aio_task.specs.View.{View}
use Rattle.aio_change.specs.Owned.{IsOwn}
use Rattle.aio_change.specs.Seen.{seen_changed}
use Rattle.aio_change.proofs.AfterAsking.{asks_met, asks_on, asks_starved, asks_told}
use Rattle.aio_change.proofs.Owning.{own_changed, own_made}
use Rattle.aio_child.specs.Owned.{OwnsChild}
use Rattle.aio_children.specs.Kept.{Kept}
use Rattle.aio_children.specs.Owned.{OwnsChildren}
use Rattle.aio_children.specs.Standing.{Launches}
use Rattle.aio_children.proofs.Placing.{kept_children}

module _ {W : Type 0} (o : Outside W) (words : List (List ℕ)) (next : ℕ) (k : Kept) where
  -- no answer came that fits
  pub launch_met : (after : Kept) (why : Stop) (old new : Reach View W) → AsksOne o (call.Launch words) old.port new.port (Err why)
      → new.parts ≡ old.parts → Launches o (launch words next) k after old new (Err why)
  launch_met after why old new one parts s h =
      (s, (asks_met o (call.Launch words) (call.Launch words) (launched next s) refl why old new one parts, tt))

  -- one came, and then memory was refused
  pub launch_starved : (after : Kept) (came : Answer) (old mid new : Reach View W) → AsksOne o (call.Launch words) old.port mid.port (Ok came)
      → mid.parts ≡ old.parts → new.port ≡ mid.port → Launches o (launch words next) k after old new (Err stop.Memory)
  launch_starved after came old mid new one parts port s h =
      (s, (asks_starved o (call.Launch words) (call.Launch words) (launched next s) refl came old mid new one parts port, tt))

  -- the outside refused
  pub launch_refused : (came : Answer) (old new : Reach View W) → AsksOne o (call.Launch words) old.port new.port (Ok came)
      → new.parts ≡ old.parts → is_child came ≡ false → Launches o (launch words next) k k old new (Ok None)
  launch_refused came old new one parts refused s h = (
    s,
    (
      asks_on o (call.Launch words) (call.Launch words) (launched next s) refl came old new new (Ok (s, None)) one parts
          (subst (λ (d : Doing (Streams × Option ℕ)). Follows o seen_changed d new new (Ok (s, None)))
          (ap (λ b. if b then Changes MakeFuture (Ends (add_child (new_child next) s, Some (length s.children))) else Ends (s, None)) (sym refused))
          (follows_ends o seen_changed {A = Streams × Option ℕ} (s, None) new)),
      (h, record { servers = refl; connections = refl; opened = refl }),
    ),
  )

  -- a child was started
  abbrev pub with_one : Kept
  with_one = record k { children = k.children ++ new_child next ∷ [] }

  pub launch_started : (id : ℕ) (after : Kept) (came : Answer) (old mid new : Reach View W) → AsksOne o (call.Launch words) old.port mid.port (Ok came)
      → mid.parts ≡ old.parts → is_child came ≡ true → new.parts ≡ seen_changed MakeFuture mid.parts → new.port ≡ mid.port
      → id ≡ length k.children → after ≡ with_one → Launches o (launch words next) k after old new (Ok (Some id))
  launch_started id after came old mid new one parts started made port number is s h =
      let it : Streams = add_child (new_child next) s in
      let same : id ≡ length s.children = number ∙ ap length (sym h.children) in (
        it,
        (
          asks_told o (call.Launch words) (call.Launch words) (launched next s) refl came old mid new (it, Some id) one parts port
              (tells_where seen_changed (is_child came) (Changes MakeFuture (Ends (it, Some (length s.children)))) (Ends (s, None)) mid.parts new.parts
              (it, Some id) started
              (tells_changed seen_changed MakeFuture (Ends (it, Some (length s.children))) mid.parts new.parts new.parts (it, Some id) made
              (tells_end seen_changed {A = Streams × Option ℕ} (it, Some (length s.children)) (it, Some id) new.parts (ap (λ n. (it, Some n)) same)))),
          (
            record {
              children = ap (λ ps. ps ++ new_child next ∷ []) h.children ∙ sym (ap (λ (n : Kept). n.children) is);
              most = h.most ∙ sym (ap (λ (n : Kept). n.most) is);
            },
            record { servers = refl; connections = refl; opened = ap (λ n. s.opened ++ OpenedChild n ∷ []) (sym same) },
          ),
        ),
      )

-- one more child, whose future was made, is no task's
module _ (old new : View) (next : ℕ) (k after : Kept) where
  pub own_launched : new ≡ seen_changed MakeFuture old → next ≡ length old.futures
      → after ≡ record k { children = k.children ++ new_child next ∷ [] } → OwnsChildren old k → OwnsChildren new after
  own_launched made number is own =
      subst (OwnsChildren new) (sym is) (pushed k.children (kept_children old new keeps k.children own))
    where
      keeps : (future : ℕ) → IsOwn old future → IsOwn new future
      keeps future it = subst (λ (v : View). IsOwn v future) (sym made) (own_changed MakeFuture old future it)

      one : IsOwn new next
      one = subst (λ (v : View). IsOwn v next) (sym made) (subst (IsOwn (seen_changed MakeFuture old)) (sym number) (own_made old))

      pushed : (ps : List Child) → Each (OwnsChild new) ps → Each (OwnsChild new) (ps ++ new_child next ∷ [])
      pushed [] these = (record { stdin = (one, tt); out = tt; errs = tt; waits = tt }, tt)
      pushed (p ∷ ps) these = (these.0, pushed ps these.1)
