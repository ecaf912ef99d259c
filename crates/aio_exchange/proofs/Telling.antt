-- Calls that ask nothing, one after another; and such a call as one that may ask.
use Rattle.std.proofs.Common.{◌≡◌, Bool, true, false, if◌then◌else◌, List, [], ◌∷◌, ◌++◌, Ok, ◌∙◌, refl, sym, ap, subst}
use Rattle.model_stream.specs.Doing.{Change, Doing, Ends, Changes, and_then}
use Rattle.aio_wire.specs.Outside.{Outside}
use Rattle.aio_wire.specs.Port.{Ported}
use Rattle.aio_exchange.specs.Exchanged.{All, Exchange, Exchanged}
use Rattle.aio_exchange.proofs.Exchanging.{exchanged_none}
use Rattle.aio_exchange.specs.Follows.{Follows, Reach}
use Rattle.aio_exchange.specs.Tells.{Tells}
use Rattle.aio_exchange.specs.Ways.{Did, had_on, changed_on}
use Rattle.aio_exchange.proofs.Leading.{changed-append, had-append, leads_on, leads_then}

module _ {V : Type 0} (change : Change → V → V) where
  pub tells_ends : {A : Type 0} (result : A) (at : V) → Tells change (Ends result) at at result
  tells_ends result at = record { way = []; asks_none = refl; leads = refl; parts = refl }

  pub tells_end : {A : Type 0} (goal result : A) (at : V) → result ≡ goal → Tells change (Ends goal) at at result
  tells_end goal result at is = subst (λ r. Tells change (Ends goal) at at r) (sym is) (tells_ends goal at)

  pub tells_changed : {A : Type 0} (it : Change) (rest : Doing A) (old between new : V) (result : A) → between ≡ change it old
      → Tells change rest between new result → Tells change (Changes it rest) old new result
  tells_changed it rest old between new result is f = record {
    way = Did it ∷ f.way;
    asks_none = f.asks_none;
    leads = (refl, f.leads);
    parts = f.parts ∙ ap (changed_on change f.way) is;
  }

  pub tells_then : {A B : Type 0} (doing : Doing A) (next : A → Doing B) (a : A) (old between new : V) (result : B)
      → Tells change doing old between a → Tells change (next a) between new result → Tells change (and_then doing next) old new result
  tells_then doing next a old between new result f g = record {
    way = f.way ++ g.way;
    asks_none = had-append f.way g.way ∙ ap (λ (es : List Exchange). es ++ had_on g.way) f.asks_none ∙ g.asks_none;
    leads =
        leads_on f.way g.way (and_then doing next) (next a) (Ends result) (leads_then f.way doing (Ends a) next f.leads) g.leads;
    parts = g.parts ∙ ap (changed_on change g.way) f.parts ∙ sym (changed-append change f.way g.way old);
  }

  -- one of two trees
  pub tells_where : {A : Type 0} (b : Bool) (x y : Doing A) (old new : V) (result : A) → b ≡ true → Tells change x old new result
      → Tells change (if b then x else y) old new result
  tells_where b x y old new result is f = subst (λ it. Tells change (if it then x else y) old new result) (sym is) f

  pub tells_unless : {A : Type 0} (b : Bool) (x y : Doing A) (old new : V) (result : A) → b ≡ false → Tells change y old new result
      → Tells change (if b then x else y) old new result
  tells_unless b x y old new result is f = subst (λ it. Tells change (if it then x else y) old new result) (sym is) f

  -- it is one that may ask
  pub tells_follow : {A W : Type 0} (o : Outside W) (doing : Doing A) (old new : Reach V W) (result : A)
      → Tells change doing old.parts new.parts result → new.port ≡ old.port → Follows o change doing old new (Ok result)
  tells_follow {A} {W} o doing old new result h same = record {
    way = h.way;
    left = Ends result;
    last = All;
    leads = h.leads;
    exchanged =
        subst (λ (es : List Exchange). Exchanged o es All old.port new.port) (sym h.asks_none)
        (subst (λ (p : Ported W). Exchanged o [] All old.port p) (sym same) (exchanged_none o old.port));
    parts = h.parts;
    ends = refl;
  }
