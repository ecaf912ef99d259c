-- What happened stays: the events of each state begin with those of each before.
use Rattle.std.proofs.Common.{List, [], ◌∷◌, ◌++◌, sym, ap, ◌∙◌}
use Rattle.std.proofs.lemmas.List.{append-nil, append_assoc}
use Rattle.model_wire.specs.declared.event.Event.TheVariants as event
use Rattle.model_wire.specs.Event.{Event}
use Rattle.model_loop.specs.Parts.{Parts}
use Rattle.model_stream.specs.Doing.{Doing, Ends, Changes, Asks}
use Rattle.model_stream.specs.Requests.{write, drain, limits, write_eof, close, drop_connect, read, read_all, wait, kill}
use Rattle.model_stream.specs.Streams.{Streams, act, listen, connect, launch, close_server}
use Rattle.model_machine.specs.State.{State}
use Rattle.law_stream.specs.Ways.{Move, Always}
use Rattle.law_walk.specs.Walks.{AreTrees, BeginWith, Doer, GoesOn, In, Walks}

-- anything goes on
abbrev AnyParts : Parts → Parts → Type 0
AnyParts p q = Unit {0}

abbrev AnyStreams : Doer → Streams → List Move → Streams → Type 0
AnyStreams who s moves after = Unit {0}

always_any : {A : Type 0} (doing : Doing A) → Always (λ moves result. Unit {0}) doing
always_any (Ends result) = tt
always_any (Changes change rest) = always_any rest
always_any (Asks call rest) = λ answer fit. always_any (rest answer)

any_parts : GoesOn AnyParts
any_parts = record { same = λ p. tt; next = λ p q r first second. tt; change = λ change p may. tt }

any_trees : AreTrees AnyStreams
any_trees =
    record {
      acts = λ next returned it s. always_any (act next returned it s);
      listens = λ port handler s. always_any (listen port handler s);
      closes_server = λ id s. always_any (close_server id s);
      connects = λ port next s. always_any (connect port next s);
      launches = λ words next s. always_any (launch words next s);
      writes = λ whom piece s. always_any (write whom piece s);
      ends = λ id s. always_any (write_eof id s);
      drains = λ yielded next whom s. always_any (drain yielded next whom s);
      limits_keep = λ high low whom s. always_any (limits high low whom s);
      closes = λ whom s. always_any (close whom s);
      drops = λ id s. always_any (drop_connect id s);
      reads = λ next op from s. always_any (read next op from s);
      reads_all = λ next from s. always_any (read_all next from s);
      gives_up = λ on from s. tt;
      waits = λ next id s. always_any (wait next id s);
      kills = λ id s. always_any (kill id s);
    }

more_begin : (first events more : List Event) (s after : Streams) (p q : Parts) → BeginWith first s events p → BeginWith first after (events ++ more) q
more_begin first events more s after p q it = (it.0 ++ more, ap (λ all. all ++ more) it.1 ∙ append_assoc first it.0 more)

pub begins_walk : (first : List Event) → Walks AnyParts AnyStreams (BeginWith first) (λ bar left. BeginWith first)
begins_walk first =
    record {
      goes_on = any_parts;
      trees = any_trees;
      here = λ bar left.
          record {
            tells = λ s events p it. it;
            beside = λ s events more p is it. more_begin first events more s s p p it;
            loops = λ s events p q follows it. it;
            tree = λ s events p moves after keeps it. more_begin first events _ s after p p it;
            drops = λ conn s events p moves after began keeps it. more_begin first events _ s after p p it;
          };
      wakes = λ s events p time extra came fit it. more_begin first events _ s s p p it;
      taken = λ bar left s events p handle rest head dead it. it;
      runs = λ bar left s events p handle rest it head live is other begins. more_begin first events _ s s p p begins;
      acts = λ bar left s events p handle rest it moves after head live is keeps begins.
          more_begin first (events ++ event.Ran it ∷ []) _ s after p p (more_begin first events _ s s p p begins);
      empty = λ bar left s events p none it. it;
      stops = λ bar left s events p handle rest head behind it. it;
      ends = λ bar s events p it. it;
    }

pub begins_here : {S : Type 0} (s : State S) → In (BeginWith s.events) s
begins_here s = ([], sym (append-nil s.events))
