-- What happens of datagrams, one thing after another, and what is noted of it.
use Rattle.std.specs.Prelude.{ℕ, ◌==◌, ℤ, pos, negsuc, List, [], ◌∷◌, ◌++◌, Option, Some, None, codes, if◌then◌else◌}
use Rattle.model_value.specs.Input.{Input}
use Rattle.model_value.specs.Value.{Value}
use Rattle.model_value.specs.declared.input.Input.TheVariants.{Send, Throw}
use Rattle.model_loop.specs.Parts.{Parts}
use Rattle.model_machine.specs.Extra as extra
use Rattle.model_machine.specs.Extra.{ExtraAnswer, ExtraSaid}
use Rattle.model_reach.specs.Part.{place_of}
use Rattle.model_dgram.specs.Texts.{Came, came_in}
use Rattle.model_dgram.specs.Endpoints as endpoints
use Rattle.model_dgram.specs.Endpoints.{Endpoints, Waiting, dgram_part, waiting_at}
use Rattle.model_dgram.specs.Sending.{is_answer}
use Rattle.model_dgram.specs.Serving.{Receive, SendTo, Wanted, asked_for, told, wanted_of, woken}
use Rattle.law_datagrams.specs.Notes.{Answers, Comes, Gives, Note, Offers, Raises, Sent, Wants}

-- A task asks; a request goes on, under its key, with what the outside answered or with what its wait came to; there are news.
pub data Try : Type 0 where
  Asks : (code : ℤ) (arguments : List Value) (p : Parts) → Try
  GoesOn : (key : ℕ) (input : Input) (p : Parts) → Try
  HasNews : (code : ℤ) (bytes : List ℕ) → Try

-- ---- what the definitions say of it
abbrev pub asked_at : (code : ℤ) → List Value → Parts → Endpoints → ExtraSaid Endpoints
asked_at code arguments p kept = asked_for code (wanted_of code arguments) p kept

abbrev pub woken_at : (key : ℕ) → Input → Parts → Endpoints → ExtraSaid Endpoints
woken_at key input p kept = let place = place_of dgram_part key in woken (waiting_at place kept) key place input p kept

-- what is kept then
abbrev pub now_of : Try → Endpoints → Endpoints
now_of (Asks code arguments p) kept = (asked_at code arguments p kept).call.state
now_of (GoesOn key input p) kept = (woken_at key input p kept).call.state
now_of (HasNews code bytes) kept = (told code bytes kept).state

abbrev pub kept_after : List Try → Endpoints → Endpoints
kept_after [] kept = kept
kept_after (it ∷ tries) kept = kept_after tries (now_of it kept)

-- ---- what is noted of it
-- A send that waits stands in line, and so does one for which the outside is asked.
abbrev pub line_note : (endpoint port : ℕ) → List ℕ → ExtraAnswer → (request : ℕ) → List Note
line_note endpoint port bytes (extra.Answers value) request = []
line_note endpoint port bytes (extra.Raises exception) request = []
line_note endpoint port bytes (extra.Waits on key) request = Wants request endpoint (record { port = port; bytes = bytes }) ∷ []
line_note endpoint port bytes (extra.Asks code text key) request =
    Wants request endpoint (record { port = port; bytes = bytes }) ∷ Offers request text ∷ []

-- a receive that answers gives
abbrev pub gives_note : (endpoint : ℕ) → ExtraAnswer → List Note
gives_note endpoint (extra.Answers value) = Gives endpoint value ∷ []
gives_note endpoint (extra.Raises exception) = []
gives_note endpoint (extra.Waits on key) = []
gives_note endpoint (extra.Asks code text key) = []

abbrev pub wanted_note : Wanted → ExtraAnswer → (request : ℕ) → List Note
wanted_note (SendTo (pos endpoint) (pos port) bytes) answer request = line_note endpoint port bytes answer request
wanted_note (Receive (pos endpoint)) answer request = gives_note endpoint answer
wanted_note _ answer request = []

abbrev pub asked_note : Option (Option Wanted) → ExtraAnswer → (request : ℕ) → List Note
asked_note (Some (Some it)) answer request = wanted_note it answer request
asked_note _ answer request = []

-- a send goes on
abbrev pub gone_note : (request : ℕ) → ExtraAnswer → List Note
gone_note request (extra.Answers value) = Answers request value ∷ []
gone_note request (extra.Raises exception) = Raises request exception ∷ []
gone_note request (extra.Waits on key) = []
gone_note request (extra.Asks code text key) = Offers request text ∷ []

abbrev pub sent_note : (request endpoint : ℕ) → Input → List Note
sent_note request endpoint (Throw exception) = []
sent_note request endpoint (Send value) = if is_answer value (codes "sent") then Sent request endpoint ∷ [] else []

abbrev pub woken_note : Option Waiting → (request : ℕ) → Input → ExtraAnswer → List Note
woken_note (Some (endpoints.Offers endpoint it)) request input answer = sent_note request endpoint input ++ gone_note request answer
woken_note (Some (endpoints.Sends endpoint it on)) request input answer = gone_note request answer
woken_note (Some (endpoints.Receives endpoint on)) request input answer = gives_note endpoint answer
woken_note _ request input answer = []

abbrev pub came_note : Option Came → List Note
came_note None = []
came_note (Some it) = Comes it.endpoint it.datagram ∷ []

abbrev pub news_note : ℤ → List ℕ → List Note
news_note (pos code) bytes = if code == 401 then [] else (if code == 402 then came_note (came_in bytes) else [])
news_note (negsuc before) bytes = []

abbrev pub noted : Try → Endpoints → List Note
noted (Asks code arguments p) kept = asked_note (wanted_of code arguments) (asked_at code arguments p kept).answer kept.drawn
noted (GoesOn key input p) kept =
    let place = place_of dgram_part key in woken_note (waiting_at place kept) place input (woken_at key input p kept).answer
noted (HasNews code bytes) kept = news_note code bytes

-- all of them, in order
abbrev pub notes : List Try → Endpoints → List Note
notes [] kept = []
notes (it ∷ tries) kept = noted it kept ++ notes tries (now_of it kept)
