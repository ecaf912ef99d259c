-- Calls with answers, worked out by hand.
use Rattle.std.specs.Prelude.{pos, negsuc, true, false, List, [], ◌∷◌, Some, None, codes}
use Rattle.model_value.specs.declared.action.ChildItem.TheVariants as news
use Rattle.model_wire.specs.declared.watch.Watch.{Watch}
use Rattle.model_wire.specs.declared.watch.Watch.TheVariants as watch
use Rattle.model_wire.specs.declared.item.Item.TheVariants as item
use Rattle.model_wire.specs.declared.item.Readiness.TheVariants as ready
use Rattle.model_wire.specs.declared.answer.Answer.TheVariants as answer
use Rattle.model_wire.specs.declared.call.Call.TheVariants as call
use Rattle.row_wire.specs.Rows.{FittingRow, pair, turn_to}

-- a listener, a connection that is made, two that stand, and a child with every letter
abbrev pub all : List Watch
all =
    watch.Server 0 ∷ watch.Making 0 ∷ watch.Conn 1 true true ∷ watch.Conn 2 true false ∷ watch.Child 0 true true true true true
    ∷ watch.Child 1 false true false false true ∷ watch.Extra ∷ []

abbrev pub turns : List FittingRow
turns =
    turn_to [] [] true
    ∷ turn_to [] (item.ReadableServer 0 ∷ []) false
    ∷ turn_to all (item.ReadableServer 0 ∷ item.Up 0 ∷ item.Ready 1 ready.Both ∷ item.Ready 2 ready.Read ∷ []) true
    ∷ turn_to all (item.Ready 2 ready.Read ∷ item.ReadableServer 0 ∷ []) true
    ∷ turn_to all (item.ReadableServer 1 ∷ []) false
    ∷ turn_to all (item.Ready 0 ready.Read ∷ []) false
    ∷ turn_to all (item.Ready 2 ready.Both ∷ []) false
    ∷ turn_to all (item.Ready 2 ready.Write ∷ []) false
    ∷ turn_to all (item.Up 1 ∷ []) false
    ∷ turn_to all (item.Down 0 ∷ []) true
    ∷ turn_to all (item.Up 0 ∷ item.Down 0 ∷ []) false
    ∷ turn_to all (item.Ready 1 ready.Read ∷ item.Ready 1 ready.Write ∷ []) false
    ∷ turn_to all (item.ReadableServer 0 ∷ item.ReadableServer 0 ∷ []) false
    ∷ turn_to all (item.WritableChild 0 ∷ item.Child 0 news.Broken ∷ item.Child 0 (news.Out (codes "o")) ∷ item.Child 0 (news.Errs (codes "e"))
    ∷ item.Child 0 (news.Exit (pos 0)) ∷ item.Child 1 news.Broken ∷ item.Child 1 (news.Exit (negsuc 8)) ∷ []) true
    ∷ turn_to all (item.Child 0 (news.Out (codes "o")) ∷ item.Child 0 news.OutEnd ∷ []) false
    ∷ turn_to all (item.Child 0 news.ErrsEnd ∷ item.Child 0 (news.Errs (codes "e")) ∷ []) false
    ∷ turn_to all (item.Child 0 (news.Out []) ∷ []) false
    ∷ turn_to all (item.WritableChild 1 ∷ []) false
    ∷ turn_to all (item.Child 1 news.OutEnd ∷ []) false
    ∷ turn_to all (item.Child 2 news.OutEnd ∷ []) false
    ∷ turn_to all (item.Extra (pos 1) [] ∷ item.Extra (pos 1) [] ∷ []) true
    ∷ turn_to (watch.Server 0 ∷ []) (item.Extra (pos 1) [] ∷ []) false
    ∷ pair (call.Select (Some 3) []) (answer.Turn 9223372036854775807 []) true
    ∷ pair (call.Select (Some 3) []) (answer.Turn 9223372036854775808 []) false
    ∷ []

-- a call with every answer but a turn that its kind may have
abbrev pub answers : List FittingRow
answers =
    pair (call.Select None []) answer.Done false
    ∷ pair (call.Listen 9) answer.Done true
    ∷ pair (call.Listen 9) answer.Refused true
    ∷ pair (call.Listen 9) answer.Again false
    ∷ pair (call.Listen 9) (answer.Turn 0 []) false
    ∷ pair (call.Accept 0) answer.Conn true
    ∷ pair (call.Accept 0) answer.Again true
    ∷ pair (call.Accept 0) answer.Broken true
    ∷ pair (call.Accept 0) answer.Refused false
    ∷ pair (call.Connect 9) answer.Conn true
    ∷ pair (call.Connect 9) answer.Refused true
    ∷ pair (call.Connect 9) answer.Done false
    ∷ pair (call.Connect 9) (answer.Turn 0 []) false
    ∷ pair (call.Recv 0) (answer.Data (codes "a")) true
    ∷ pair (call.Recv 0) (answer.Data []) false
    ∷ pair (call.Recv 0) answer.Eof true
    ∷ pair (call.Recv 0) answer.Again true
    ∷ pair (call.Recv 0) answer.Broken true
    ∷ pair (call.Recv 0) (answer.Extra (codes "a")) false
    ∷ pair (call.Send 0 (codes "12345678")) (answer.Took 8) true
    ∷ pair (call.Send 0 (codes "12345678")) (answer.Took 9) false
    ∷ pair (call.Send 0 (codes "12345678")) (answer.Took 0) false
    ∷ pair (call.Send 0 (codes "12345678")) answer.Eof false
    ∷ pair (call.Send 0 []) answer.Again true
    ∷ pair (call.Feed 0 (codes "ab")) (answer.Took 1) true
    ∷ pair (call.Feed 0 (codes "ab")) (answer.Took 3) false
    ∷ pair (call.Feed 0 (codes "ab")) answer.Broken true
    ∷ pair (call.Shut 0) answer.Done true
    ∷ pair (call.Shut 0) answer.Broken false
    ∷ pair (call.Close 0) answer.Done true
    ∷ pair (call.CloseServer 0) answer.Done true
    ∷ pair (call.End 0) answer.Done true
    ∷ pair (call.Kill 0) answer.Done true
    ∷ pair (call.Kill 0) answer.Refused false
    ∷ pair (call.Launch (codes "cat" ∷ [])) answer.Child true
    ∷ pair (call.Launch (codes "cat" ∷ [])) answer.Refused true
    ∷ pair (call.Launch (codes "cat" ∷ [])) answer.Done false
    ∷ pair (call.Extra (pos 1) []) (answer.Extra []) true
    ∷ pair (call.Extra (pos 1) []) answer.Refused true
    ∷ pair (call.Extra (pos 1) []) (answer.Data (codes "a")) false
    ∷ []
