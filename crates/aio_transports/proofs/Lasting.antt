-- However a callback or a request ends, as many of each kind can be numbered as before, what was opened stays, in order, and what
-- was gone is gone.
use Rattle.std.proofs.Common.{◌≡◌, ℕ, ℤ, Bool, true, List, Option}
use Rattle.model_value.specs.Action.{Action}
use Rattle.model_wire.specs.declared.event.Handed.{Handed}
use Rattle.model_stream.specs.declared.answers.ChildWait.{ChildWait}
use Rattle.model_stream.specs.declared.answers.Wrote.{Wrote}
use Rattle.model_stream.specs.declared.put.Limited.{Limited}
use Rattle.model_stream.specs.Doing.{Doing, Ends, Changes, Asks}
use Rattle.model_stream.specs.Reading.{ReadOp}
use Rattle.model_stream.specs.Receivers.{AllGot, StreamGot}
use Rattle.model_stream.specs.Requests as requests
use Rattle.model_stream.specs.Requests.{StreamReader}
use Rattle.model_stream.specs.Senders.{Drain}
use Rattle.model_stream.specs.Streams as plain
use Rattle.model_stream.specs.Streams.{Opened, Streams}
use Rattle.law_over.specs.AllEnds.{AllEnds}
use Rattle.law_over.specs.Gone.{is_gone}
use Rattle.law_over.specs.Grown.{Grown}
use Rattle.law_over.proofs.Growing as growing
use Rattle.law_over.proofs.Staying as staying
use Rattle.aio_transports.proofs.Numbering as numbering
use Rattle.aio_transports.proofs.Numbering.{AsMany, EndsIn}

pub record Lasts (before after : Streams) : Type 0 where
  pub most : after.most ≡ before.most
  pub grown : Grown before after
  pub gone : (one : Opened) → is_gone one before ≡ true → is_gone one after ≡ true

abbrev pub LastsWith : {R : Type 0} → (before : Streams) → Streams × R → Type 0
LastsWith before done = Lasts before done.0

-- ---- put together from what is known of the ends of a tree
module _ {A : Type 0} (as_streams : A → Streams) (s : Streams) where
  ends_lasting : (doing : Doing A) → EndsIn (λ done. AsMany s (as_streams done)) doing
      → AllEnds (λ done. Grown s (as_streams done)) doing
      → ((one : Opened) → is_gone one s ≡ true → AllEnds (λ done. is_gone one (as_streams done) ≡ true) doing)
      → EndsIn (λ done. Lasts s (as_streams done)) doing
  ends_lasting (Ends done) many grown gone = record { most = many; grown = grown; gone = gone }
  ends_lasting (Changes change more) many grown gone = ends_lasting more many grown gone
  ends_lasting (Asks call more) many grown gone =
      λ answer. ends_lasting (more answer) (many answer) (grown answer) (λ one e. gone one e answer)

lasting : (s : Streams) (doing : Doing Streams) → EndsIn (AsMany s) doing → AllEnds (Grown s) doing
    → ((one : Opened) → is_gone one s ≡ true → AllEnds (λ after. is_gone one after ≡ true) doing) → EndsIn (Lasts s) doing
lasting s doing many grown gone = ends_lasting (λ after. after) s doing many grown gone

lasting_with : {R : Type 0} (s : Streams) (doing : Doing (Streams × R)) → EndsIn (λ done. AsMany s done.0) doing
    → AllEnds (λ done. Grown s done.0) doing
    → ((one : Opened) → is_gone one s ≡ true → AllEnds (λ done. is_gone one done.0 ≡ true) doing) → EndsIn (LastsWith s) doing
lasting_with s doing many grown gone = ends_lasting (λ done. done.0) s doing many grown gone

-- ---- requests
pub write_keeps : (piece : List ℕ) (whom : Handed) (s : Streams) → EndsIn (LastsWith {R = Wrote} s) (requests.write whom piece s)
write_keeps piece whom s =
    lasting_with s (requests.write whom piece s) (numbering.write_keeps piece whom s) (growing.grows_writing whom piece s)
    (λ one e. staying.gone_writes whom piece one s e)

pub drain_keeps : (yielded : Bool) (next : ℕ) (whom : Handed) (s : Streams)
    → EndsIn (LastsWith {R = Drain} s) (requests.drain yielded next whom s)
drain_keeps yielded next whom s =
    lasting_with s (requests.drain yielded next whom s) (numbering.drain_keeps yielded next whom s)
    (growing.grows_draining yielded next whom s) (λ one e. staying.gone_drains yielded next whom one s e)

pub limits_keep : (high low : Option ℤ) (whom : Handed) (s : Streams)
    → EndsIn (LastsWith {R = Limited} s) (requests.limits high low whom s)
limits_keep high low whom s =
    lasting_with s (requests.limits high low whom s) (numbering.limits_keep high low whom s)
    (growing.grows_limiting high low whom s)
    (λ one e. staying.gone_limits high low whom one s e)

pub write_eof_keeps : (id : ℕ) (s : Streams) → EndsIn (Lasts s) (requests.write_eof id s)
write_eof_keeps id s =
    lasting s (requests.write_eof id s) (numbering.write_eof_keeps id s) (growing.grows_ending id s)
    (λ one e. staying.gone_writes_eof id one s e)

pub close_keeps : (whom : Handed) (s : Streams) → EndsIn (Lasts s) (requests.close whom s)
close_keeps whom s =
    lasting s (requests.close whom s) (numbering.close_keeps whom s) (growing.grows_closing_one whom s)
    (λ one e. staying.gone_closes whom one s e)

pub drop_connect_keeps : (id : ℕ) (s : Streams) → EndsIn (Lasts s) (requests.drop_connect id s)
drop_connect_keeps id s =
    lasting s (requests.drop_connect id s) (numbering.drop_connect_keeps id s) (growing.grows_dropping id s)
    (λ one e. staying.gone_drops_connect id one s e)

pub read_keeps : (next : ℕ) (op : ReadOp) (from : StreamReader) (s : Streams)
    → EndsIn (LastsWith {R = StreamGot} s) (requests.read next op from s)
read_keeps next op from s =
    lasting_with s (requests.read next op from s) (numbering.read_keeps next op from s) (growing.grows_reading next op from s)
    (λ one e. staying.gone_reads next op from one s e)

pub read_all_keeps : (next : ℕ) (from : StreamReader) (s : Streams)
    → EndsIn (LastsWith {R = AllGot} s) (requests.read_all next from s)
read_all_keeps next from s =
    lasting_with s (requests.read_all next from s) (numbering.read_all_keeps next from s) (growing.grows_reading_all next from s)
    (λ one e. staying.gone_reads_all next from one s e)

pub give_up_keeps : (on : ℕ) (from : StreamReader) (s : Streams) → Lasts s (requests.give_up_read on from s)
give_up_keeps on from s =
    record {
      most = numbering.give_up_keeps on from s;
      grown = growing.grows_giving_up on from s;
      gone = λ one e. staying.gone_gives_up on from one s e;
    }

pub wait_keeps : (next id : ℕ) (s : Streams) → EndsIn (LastsWith {R = ChildWait} s) (requests.wait next id s)
wait_keeps next id s =
    lasting_with s (requests.wait next id s) (numbering.wait_keeps next id s) (growing.grows_waiting next id s)
    (λ one e. staying.gone_waits next id one s e)

pub kill_keeps : (id : ℕ) (s : Streams) → EndsIn (Lasts s) (requests.kill id s)
kill_keeps id s =
    lasting s (requests.kill id s) (numbering.kill_keeps id s) (growing.grows_killing id s)
    (λ one e. staying.gone_kills id one s e)

-- ---- what opens one, and what closes a listener
pub listen_keeps : (port handler : ℕ) (s : Streams) → EndsIn (LastsWith {R = Option ℕ} s) (plain.listen port handler s)
listen_keeps port handler s =
    lasting_with s (plain.listen port handler s) (numbering.listen_keeps port handler s) (growing.grows_listening port handler s)
    (λ one e. staying.gone_listens port handler one s e)

pub connect_keeps : (port next : ℕ) (s : Streams) → EndsIn (LastsWith {R = Option (ℕ × ℕ)} s) (plain.connect port next s)
connect_keeps port next s =
    lasting_with s (plain.connect port next s) (numbering.connect_keeps port next s) (growing.grows_connecting port next s)
    (λ one e. staying.gone_connects port next one s e)

pub launch_keeps : (words : List (List ℕ)) (next : ℕ) (s : Streams)
    → EndsIn (LastsWith {R = Option ℕ} s) (plain.launch words next s)
launch_keeps words next s =
    lasting_with s (plain.launch words next s) (numbering.launch_keeps words next s) (growing.grows_launching words next s)
    (λ one e. staying.gone_launches words next one s e)

pub close_server_keeps : (id : ℕ) (s : Streams) → EndsIn (Lasts s) (plain.close_server id s)
close_server_keeps id s =
    lasting s (plain.close_server id s) (numbering.close_server_keeps id s) (growing.grows_closing id s)
    (λ one e. staying.gone_closes_server id one s e)

-- ---- callbacks
pub act_keeps : (next : ℕ) (returned : Bool) (it : Action) (s : Streams) → EndsIn (Lasts s) (plain.act next returned it s)
act_keeps next returned it s =
    lasting s (plain.act next returned it s) (numbering.act_keeps next returned it s) (growing.grows_acting next returned it s)
    (λ one e. staying.gone_acts next returned it one s e)
