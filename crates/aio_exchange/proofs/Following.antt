-- Calls in code that do what trees say, one after another.
use Rattle.std.proofs.Common.{◌≡◌, Bool, true, false, if◌then◌else◌, List, [], ◌∷◌, ◌++◌, Result, Ok, Err}
use Rattle.std.proofs.Common.{◌∙◌, refl, sym, ap, subst}
use Rattle.model_wire.specs.Call.{Call, Answer}
use Rattle.model_stream.specs.Doing.{Change, Doing, Ends, Changes, Asks, and_then}
use Rattle.aio_wire.specs.Outside.{Outside}
use Rattle.aio_wire.specs.Port.{Ported}
use Rattle.aio_wire.specs.declared.stop.Stop.{Stop}
use Rattle.aio_wire.specs.declared.stop.Stop.TheVariants as stop
use Rattle.aio_exchange.specs.Exchanged.{AsksOne, Exchange, Exchanged, Last, All, Met, Starved, IsOf, StopsAs}
use Rattle.aio_exchange.proofs.Exchanging.{exchanged_none, exchanged_then, exchanged_starved}
use Rattle.aio_exchange.specs.Ways.{Move, Did, Heard, Leads, had_on, changed_on}
use Rattle.aio_exchange.specs.Follows.{EndsBy, Follows, Reach, UnlessStarved}
use Rattle.aio_exchange.proofs.Leading.{changed-append, had-append, leads_on, leads_then}

module _ {V W : Type 0} (o : Outside W) (change : Change → V → V) where
  -- ---- one piece of a tree
  pub follows_ends : {A : Type 0} (result : A) (at : Reach V W) → Follows o change (Ends result) at at (Ok result)
  follows_ends result at = record {
    way = [];
    left = Ends result;
    last = All;
    leads = refl;
    exchanged = exchanged_none o at.port;
    parts = refl;
    ends = refl;
  }

  pub follows_end : {A : Type 0} (goal result : A) (at : Reach V W) → result ≡ goal → Follows o change (Ends goal) at at (Ok result)
  follows_end goal result at is = subst (λ r. Follows o change (Ends goal) at at (Ok r)) (sym is) (follows_ends goal at)

  -- one of two trees
  pub follows_where : {A : Type 0} (b : Bool) (x y : Doing A) (old new : Reach V W) (result : Result A Stop) → b ≡ true
      → Follows o change x old new result → Follows o change (if b then x else y) old new result
  follows_where b x y old new result is f = subst (λ it. Follows o change (if it then x else y) old new result) (sym is) f

  pub follows_unless : {A : Type 0} (b : Bool) (x y : Doing A) (old new : Reach V W) (result : Result A Stop) → b ≡ false
      → Follows o change y old new result → Follows o change (if b then x else y) old new result
  follows_unless b x y old new result is f = subst (λ it. Follows o change (if it then x else y) old new result) (sym is) f

  -- memory was refused, after nothing was asked
  pub follows_starved : {A : Type 0} (doing : Doing A) (old new : Reach V W) → new.port ≡ old.port → Follows o change doing old new (Err stop.Memory)
  follows_starved doing old new same = record {
    way = [];
    left = doing;
    last = Starved;
    leads = refl;
    exchanged =
        subst (λ (p : Ported W). Exchanged o [] Starved old.port p) (sym same)
        (exchanged_starved o [] old.port old.port (exchanged_none o old.port));
    parts = tt;
    ends = refl;
  }

  -- ---- a way, and then the rest
  module _ {A : Type 0} (doing between : Doing A) (xs : List Move) (old mid new : Reach V W) (result : Result A Stop) where
    parts_on : (last : Last) (ys : List Move) → mid.parts ≡ changed_on change xs old.parts
        → UnlessStarved (new.parts ≡ changed_on change ys mid.parts) last
        → UnlessStarved (new.parts ≡ changed_on change (xs ++ ys) old.parts) last
    parts_on All ys a b = b ∙ ap (changed_on change ys) a ∙ sym (changed-append change xs ys old.parts)
    parts_on (Met call said) ys a b = b ∙ ap (changed_on change ys) a ∙ sym (changed-append change xs ys old.parts)
    parts_on Starved ys a b = tt

    pub follows_on : Leads doing xs between → Exchanged o (had_on xs) All old.port mid.port → mid.parts ≡ changed_on change xs old.parts
        → Follows o change between mid new result → Follows o change doing old new result
    follows_on leads exchanged parts f = record {
      way = xs ++ f.way;
      left = f.left;
      last = f.last;
      leads = leads_on xs f.way doing between f.left leads f.leads;
      exchanged =
          subst (λ (es : List Exchange). Exchanged o es f.last old.port new.port) (sym (had-append xs f.way))
          (exchanged_then o (had_on xs) (had_on f.way) old.port mid.port new.port exchanged f.last f.exchanged);
      parts = parts_on f.last f.way parts f.parts;
      ends = f.ends;
    }

  pub follows_changed : {A : Type 0} (it : Change) (rest : Doing A) (old mid new : Reach V W) (result : Result A Stop)
      → mid.parts ≡ change it old.parts → mid.port ≡ old.port
      → Follows o change rest mid new result → Follows o change (Changes it rest) old new result
  follows_changed it rest old mid new result parts port f =
      follows_on (Changes it rest) rest (Did it ∷ []) old mid new result (refl, refl)
      (subst (λ (p : Ported W). Exchanged o [] All old.port p) (sym port) (exchanged_none o old.port)) parts f

  pub follows_asked : {A : Type 0} (call : Call) (answer : Answer) (rest : Answer → Doing A) (old mid new : Reach V W) (result : Result A Stop)
      → AsksOne o call old.port mid.port (Ok answer) → mid.parts ≡ old.parts
      → Follows o change (rest answer) mid new result → Follows o change (Asks call rest) old new result
  follows_asked call answer rest old mid new result asked parts f =
      follows_on (Asks call rest) (rest answer) (Heard call answer ∷ []) old mid new result (refl, refl) asked parts f

  pub follows_met : {A : Type 0} (call : Call) (why : Stop) (rest : Answer → Doing A) (old new : Reach V W)
      → AsksOne o call old.port new.port (Err why) → new.parts ≡ old.parts → Follows o change (Asks call rest) old new (Err why)
  follows_met {A} call why rest old new (last, (of, so, exchanged)) parts = at last of so exchanged
    where
      at : (last : Last) → IsOf call last → StopsAs last new.port.events.answers why → Exchanged o [] last old.port new.port
          → Follows o change (Asks call rest) old new (Err why)
      at All of so exchanged = absurd of
      at (Met other said) of so exchanged = record {
        way = [];
        left = Asks call rest;
        last = Met other said;
        leads = refl;
        exchanged = exchanged;
        parts = parts;
        ends = ((rest, ap (λ c. Asks c rest) (sym of)), so);
      }
      at Starved of so exchanged = record {
        way = [];
        left = Asks call rest;
        last = Starved;
        leads = refl;
        exchanged = exchanged;
        parts = tt;
        ends = so;
      }

  -- ---- one call after another
  module _ {A B : Type 0} (doing : Doing A) (next : A → Doing B) where
    pub follows_then : (a : A) (old mid new : Reach V W) (result : Result B Stop) → Follows o change doing old mid (Ok a)
        → Follows o change (next a) mid new result → Follows o change (and_then doing next) old new result
    follows_then a old mid new result f g = at f.last f.left f.leads f.exchanged f.parts f.ends
      where
        at : (last : Last) (left : Doing A) → Leads doing f.way left → Exchanged o (had_on f.way) last old.port mid.port
            → UnlessStarved (mid.parts ≡ changed_on change f.way old.parts) last → EndsBy last left mid.port.events.answers (Ok a)
            → Follows o change (and_then doing next) old new result
        at All left leads exchanged parts ends =
            follows_on (and_then doing next) (next a) f.way old mid new result
            (subst (λ d. Leads (and_then doing next) f.way (and_then d next)) ends (leads_then f.way doing left next leads)) exchanged parts g
        at (Met call said) left leads exchanged parts ends = absurd ends
        at Starved left leads exchanged parts ends = absurd ends

    pub follows_stopped : (why : Stop) (old new : Reach V W) → Follows o change doing old new (Err why)
        → Follows o change (and_then doing next) old new (Err why)
    follows_stopped why old new f = at f.last f.left f.leads f.exchanged f.parts f.ends
      where
        at : (last : Last) (left : Doing A) → Leads doing f.way left → Exchanged o (had_on f.way) last old.port new.port
            → UnlessStarved (new.parts ≡ changed_on change f.way old.parts) last → EndsBy last left new.port.events.answers (Err why)
            → Follows o change (and_then doing next) old new (Err why)
        at All left leads exchanged parts ends = absurd ends
        at (Met call said) left leads exchanged parts ends = record {
          way = f.way;
          left = and_then left next;
          last = Met call said;
          leads = leads_then f.way doing left next leads;
          exchanged = exchanged;
          parts = parts;
          ends = (((λ answer. and_then (ends.0.0 answer) next), ap (λ d. and_then d next) ends.0.1), ends.1);
        }
        at Starved left leads exchanged parts ends = record {
          way = f.way;
          left = and_then left next;
          last = Starved;
          leads = leads_then f.way doing left next leads;
          exchanged = exchanged;
          parts = tt;
          ends = ends;
        }
