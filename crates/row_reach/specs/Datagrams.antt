-- Scripts that send and receive datagrams.
use Rattle.std.specs.Prelude.{ℕ, pos, List, [], ◌∷◌, None, codes}
use Rattle.model_value.specs.Value.{Nothing, Bytes, Int, Items, values}
use Rattle.model_wire.specs.declared.answer.Answer.TheVariants as answer
use Rattle.model_wire.specs.declared.item.Item.TheVariants as item
use Rattle.model_wire.specs.declared.call.Call.TheVariants as call
use Rattle.model_wire.specs.declared.watch.Watch.TheVariants as watch
use Rattle.model_wire.specs.declared.event.End.TheVariants.{Returned}
use Rattle.model_wire.specs.Call.{Call}
use Rattle.model_wire.specs.Journal.{Entry, Answered}
use Rattle.row_reach.specs.Jobs.{Asked, selects}
use Rattle.row_reach.specs.Reading.{prints, text}
use Rattle.std.specs.Prelude.{Some}

abbrev pub opens : Call
opens = call.Extra (pos 400) (codes "9")

-- a turn in which the outside tells of what is added too
abbrev pub selects_told : Call
selects_told = call.Select (Some 0) (watch.Extra ∷ [])

abbrev pub waits_told : Call
waits_told = call.Select None (watch.Extra ∷ [])

-- ---- there and back
abbrev pub back_text : List ℕ
back_text =
    text
    (codes "def main()"
    ∷ codes "  d = yield from extra(400, [9])"
    ∷ codes "  yield from extra(401, [d, 10, b\"ab\"])"
    ∷ codes "  r = yield from extra(402, [d])"
    ∷ codes "  print r"
    ∷ codes "  yield from extra(403, [d])"
    ∷ codes "end" ∷ [])

abbrev pub back_journal : List Entry
back_journal =
    Answered (answer.Turn 0 [])
    ∷ Answered (answer.Extra (codes "0"))
    ∷ Answered (answer.Extra (codes "sent"))
    ∷ Answered (answer.Turn 0 (item.Extra (pos 402) (codes "0 10 xy") ∷ []))
    ∷ Answered (answer.Turn 0 [])
    ∷ Answered (answer.Extra [])
    ∷ Answered (answer.Turn 0 []) ∷ []

abbrev pub back_asked : Asked
back_asked =
    record {
      lines = prints 0 (Items (values (Int (pos 10) ∷ Bytes (codes "xy") ∷ [])) ∷ []) ∷ [];
      calls =
          selects
          ∷ opens
          ∷ call.Extra (pos 401) (codes "0 10 ab")
          ∷ waits_told
          ∷ selects_told
          ∷ call.Extra (pos 403) (codes "0")
          ∷ selects ∷ [];
      end = Returned Nothing;
    }

-- ---- sent again, as there is room
abbrev pub again_text : List ℕ
again_text =
    text
    (codes "def main()"
    ∷ codes "  d = yield from extra(400, [9])"
    ∷ codes "  yield from extra(401, [d, 10, b\"a\"])"
    ∷ codes "end" ∷ [])

abbrev pub again_journal : List Entry
again_journal =
    Answered (answer.Turn 0 [])
    ∷ Answered (answer.Extra (codes "0"))
    ∷ Answered (answer.Extra (codes "again"))
    ∷ Answered (answer.Turn 1 (item.Extra (pos 401) (codes "0") ∷ []))
    ∷ Answered (answer.Turn 1 [])
    ∷ Answered (answer.Extra (codes "sent"))
    ∷ Answered (answer.Turn 1 []) ∷ []

abbrev pub again_asked : Asked
again_asked =
    record {
      lines = [];
      calls =
          selects
          ∷ opens
          ∷ call.Extra (pos 401) (codes "0 10 a")
          ∷ waits_told
          ∷ selects_told
          ∷ call.Extra (pos 401) (codes "0 10 a")
          ∷ selects_told ∷ [];
      end = Returned Nothing;
    }
