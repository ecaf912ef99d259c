use Rattle.std.proofs.Common.{◌≡◌, Some, None, refl, sym, ap, ◌∙◌}
use Rattle.std.proofs.lemmas.Result.{IfOk-weaker}
use Rattle.model_sync.specs.Synced.{waiting_at}
use Rattle.aio_task.specs.View.{parts}
use Rattle.aio_sync.specs.Seen.{kept_of}
use Rattle.aio_sync.proofs.Again.{woken_acquires, woken_awaits, woken_gets, woken_puts}
use Rattle.aio_sync.proofs.requests.Sync.woken.Goals as goal

pub returns-in-Acquires : goal.returns-in-Acquires
returns-in-Acquires c =
    let a = c.args in
    let x = kept_of a.self.now in
    woken_acquires x (kept_of c.acquired.new.self) a.parts.now c.acquired.new.parts a.key a.place a.input c.acquired.result (parts a.parts.now)
    (waiting_at a.place x) c.in-Acquires.lock c.in-Acquires.on (sym c.find.ensures ∙ c.in-Acquires.is) c.acquired.ensures

pub returns-in-Awaits : goal.returns-in-Awaits
returns-in-Awaits c =
    let a = c.args in
    let x = kept_of a.self.now in
    woken_awaits x (kept_of c.waited.new.self) a.parts.now a.parts.now a.key a.place a.input c.waited.result (parts a.parts.now)
    (waiting_at a.place x) c.in-Awaits.event c.in-Awaits.on (sym c.find.ensures ∙ c.in-Awaits.is) c.waited.ensures

pub returns-in-Puts : goal.returns-in-Puts
returns-in-Puts c =
    let a = c.args in
    let x = kept_of a.self.now in
    IfOk-weaker c.putting.result _ _
    (λ asked seen. woken_puts x (kept_of c.putting.new.self) a.parts.now c.putting.new.parts a.key a.place a.input asked (parts a.parts.now)
    (waiting_at a.place x) c.in-Puts.queue c.in-Puts.on (sym c.find.ensures ∙ c.in-Puts.is) (λ value e. seen value e)) c.putting.ensures

pub returns-in-Gets : goal.returns-in-Gets
returns-in-Gets c =
    let a = c.args in
    let x = kept_of a.self.now in
    IfOk-weaker c.getting.result _ _
    (λ asked seen. woken_gets x (kept_of c.getting.new.self) a.parts.now c.getting.new.parts a.key a.place a.input asked (parts a.parts.now)
    (waiting_at a.place x) c.in-Gets.queue c.in-Gets.on (sym c.find.ensures ∙ c.in-Gets.is) (λ e. seen e)) c.getting.ensures
