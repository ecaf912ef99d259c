-- Scripts of the tape rows, each with its text, and the inputs and exceptions that the rows name.
use Rattle.std.specs.Prelude.{ℕ, true, false, [], ◌∷◌}
use Rattle.model_value.specs.declared.input.Input.TheVariants.{Send, Throw}
use Rattle.model_value.specs.declared.kind.Kind.TheVariants.{BaseException, CancelledError, Exception, LookupError, RuntimeError, RecursionError, TimeoutError}
use Rattle.model_value.specs.declared.kind.Kind.TheVariants.{ValueError, ZeroDivisionError}
use Rattle.model_value.specs.Value.{Value, Nothing, Exc, exception_of}
use Rattle.model_tree.specs.declared.function.Function.TheVariants.{Message}
use Rattle.model_tree.specs.declared.request_name.RequestName.TheVariants.{Sleep}
use Rattle.model_tree.specs.Syntax.{Apply, MakeError, Yield, Raise, Pass, If, statements, branch, Program}
use Rattle.model_says.specs.Tape.{Resumed}
use Rattle.row_says.specs.Written.{none, yes, int, text, var, list, ◌plus◌, ◌less◌, ◌over◌, ◌below◌, ◌equals◌, ◌:=◌, ◌:=from◌, yield_from, call, ask, print}
use Rattle.row_says.specs.Written.{return, when, while, try, try_finally, except, except_as, with_timeout, with_group, def, script}

-- the first input of a step: none, and an exception
abbrev pub first : Resumed
first = record { input = Send Nothing; fresh = true }

abbrev pub thrown : Exc → Resumed
thrown fault = record { input = Throw fault; fresh = true }

-- what the loop answers within a step
abbrev pub answered : Value → Resumed
answered value = record { input = Send value; fresh = false }

abbrev pub refused : Exc → Resumed
refused fault = record { input = Throw fault; fresh = false }

abbrev pub done : Resumed
done = answered Nothing

abbrev pub cancelled : Exc
cancelled = exception_of CancelledError []

abbrev pub timed_out : Exc
timed_out = exception_of TimeoutError []

-- def main()
--   i = 0
--   while i < 3
--     print i
--     i = i + 1
--   end
-- end
abbrev pub counting : Program
counting =
    script (def "main" [] (
    "i" := int 0
    ∷ while (var "i" below int 3) (
    print (var "i" ∷ [])
    ∷ "i" := var "i" plus int 1
    ∷ [])
    ∷ []) ∷ [])

-- def main()
--   try
--     yield from outer("x")
--   except CancelledError as e
--     print e
--     raise e
--   end
-- end
-- def outer(name)
--   yield from inner()
--   print "never"
-- end
-- def inner()
--   try
--     yield from sleep(1000)
--   finally
--     print "inner"
--   end
-- end
abbrev pub cleaning : Program
cleaning =
    script (
    def "main" [] (
    try (yield_from (call "outer" (text "x" ∷ [])) ∷ []) (
    except_as CancelledError "e" (print (var "e" ∷ []) ∷ Raise (var "e") ∷ [])
    ∷ [])
    ∷ [])
    ∷ def "outer" ("name" ∷ []) (
    yield_from (call "inner" [])
    ∷ print (text "never" ∷ [])
    ∷ [])
    ∷ def "inner" [] (
    try_finally (yield_from (ask Sleep (int 1000 ∷ [])) ∷ []) (print (text "inner" ∷ []) ∷ [])
    ∷ [])
    ∷ [])

-- def main()
--   try
--     try
--       raise error(ValueError, "first")
--     except LookupError
--       print "other"
--     except Exception as e
--       print e
--       raise error(RuntimeError, message(e))
--     end
--   except RuntimeError as f
--     print f
--     raise f
--   end
-- end
abbrev pub handling : Program
handling =
    script (def "main" [] (
    try (
    try (Raise (MakeError ValueError (text "first")) ∷ []) (
    except LookupError (print (text "other" ∷ []) ∷ [])
    ∷ except_as Exception "e" (
    print (var "e" ∷ [])
    ∷ Raise (MakeError RuntimeError (Apply Message (var "e")))
    ∷ [])
    ∷ [])
    ∷ []) (
    except_as RuntimeError "f" (print (var "f" ∷ []) ∷ Raise (var "f") ∷ [])
    ∷ [])
    ∷ []) ∷ [])

-- def main(fails)
--   try
--     return 1
--   finally
--     print "leaving"
--     if fails
--       raise error(ValueError, "finally")
--     end
--   end
-- end
abbrev pub leaving : Program
leaving =
    script (def "main" ("fails" ∷ []) (
    try_finally (return (int 1) ∷ []) (
    print (text "leaving" ∷ [])
    ∷ when (var "fails") (Raise (MakeError ValueError (text "finally")) ∷ [])
    ∷ [])
    ∷ []) ∷ [])

-- def main(n, quotient)
--   try
--     m = yield from main(n + 1, 8 // (k - n))
--     return m
--   except RecursionError
--     return n
--   end
-- end
abbrev pub descending : ℕ → Program
descending k =
    script (def "main" ("n" ∷ "quotient" ∷ []) (
    try (
    "m" :=from call "main" (var "n" plus int 1 ∷ int 8 over (int k less var "n") ∷ [])
    ∷ return (var "m")
    ∷ []) (
    except RecursionError (return (var "n") ∷ [])
    ∷ [])
    ∷ []) ∷ [])

-- def main()
--   try
--     with timeout(10) as t
--       yield from sleep(20)
--     end
--   except TimeoutError as e
--     print e
--   end
--   return t
-- end
abbrev pub timing : Program
timing =
    script (def "main" [] (
    try (with_timeout (int 10) "t" (yield_from (ask Sleep (int 20 ∷ [])) ∷ []) ∷ []) (
    except_as TimeoutError "e" (print (var "e" ∷ []) ∷ [])
    ∷ [])
    ∷ return (var "t")
    ∷ []) ∷ [])

-- def main()
--   while True
--     try
--       try
--         return 1
--       finally
--         print "inner"
--       end
--     finally
--       print "outer"
--     end
--   end
-- end
abbrev pub returning : Program
returning =
    script (def "main" [] (
    while yes (
    try_finally (
    try_finally (return (int 1) ∷ []) (print (text "inner" ∷ []) ∷ [])
    ∷ []) (print (text "outer" ∷ []) ∷ [])
    ∷ [])
    ∷ []) ∷ [])

-- def main()
--   try
--     raise error(ValueError, "body")
--   finally
--     print "finally"
--     raise error(RuntimeError, "finally")
--   end
-- end
abbrev pub replacing : Program
replacing =
    script (def "main" [] (
    try_finally (Raise (MakeError ValueError (text "body")) ∷ []) (
    print (text "finally" ∷ [])
    ∷ Raise (MakeError RuntimeError (text "finally"))
    ∷ [])
    ∷ []) ∷ [])

-- def main()
--   try
--     e = yield from main()
--   except BaseException as e
--     pass
--   end
--   return e
-- end
abbrev pub catching : Program
catching =
    script (def "main" [] (
    try ("e" :=from call "main" [] ∷ []) (except_as BaseException "e" (Pass ∷ []) ∷ [])
    ∷ return (var "e")
    ∷ []) ∷ [])

-- def main()
--   i = 1
--   try
--     while 1 // i == 1
--       print i
--       i = i - 1
--     end
--     print "never"
--   except ZeroDivisionError
--     return i
--   end
-- end
abbrev pub dividing : Program
dividing =
    script (def "main" [] (
    "i" := int 1
    ∷ try (
    while (int 1 over var "i" equals int 1) (
    print (var "i" ∷ [])
    ∷ "i" := var "i" less int 1
    ∷ [])
    ∷ print (text "never" ∷ [])
    ∷ []) (except ZeroDivisionError (return (var "i") ∷ []) ∷ [])
    ∷ []) ∷ [])

-- def main()
--   with group as g
--     with timeout(None) as t
--       return [g, t]
--     end
--   end
-- end
abbrev pub grouping : Program
grouping =
    script (def "main" [] (
    with_group "g" (
    with_timeout none "t" (return (list (var "g" ∷ var "t" ∷ [])) ∷ [])
    ∷ [])
    ∷ []) ∷ [])

-- One line of each kind that counts, eleven with those of the call:
-- def main()
--   x = 1
--   try
--     pass
--   finally
--     pass
--   end
--   if True
--     print x
--   else
--     pass
--   end
--   with timeout(None) as t
--     yield
--   end
--   y = yield from f(x)
--   return y
-- end
-- def f(a)
--   return a
-- end
abbrev pub counted : Program
counted =
    script (
    def "main" [] (
    "x" := int 1
    ∷ try_finally (Pass ∷ []) (Pass ∷ [])
    ∷ If yes (statements (print (var "x" ∷ []) ∷ [])) (branch (statements (Pass ∷ [])))
    ∷ with_timeout none "t" (Yield ∷ [])
    ∷ "y" :=from call "f" (var "x" ∷ [])
    ∷ return (var "y")
    ∷ [])
    ∷ def "f" ("a" ∷ []) (return (var "a") ∷ [])
    ∷ [])

-- def main()
--   while True
--     yield
--   end
-- end
abbrev pub pausing : Program
pausing = script (def "main" [] (while yes (Yield ∷ []) ∷ []) ∷ [])

-- def main(n)
--   i = 0
--   while i < n
--     i = i + 1
--   end
-- end
abbrev pub spinning : Program
spinning =
    script (def "main" ("n" ∷ []) (
    "i" := int 0
    ∷ while (var "i" below var "n") ("i" := var "i" plus int 1 ∷ [])
    ∷ []) ∷ [])
