-- Texts with their first fault, worked out by hand.
use Rattle.std.specs.Prelude.{ℕ, List, [], ◌∷◌, ◌++◌, codes, map}
use Rattle.std.specs.List.{repeat}
use Prim.Native.String.{String}
use Rattle.model_text.specs.declared.cause.Cause.TheVariants.{Token, Form, Nesting, Name, Arity, NoMain, Profile}
use Rattle.row_text.specs.Rows.{text, FaultRow, refused, accepted, at, in_main}

abbrev pub stored : List FaultRow
stored =
    refused [] 1 NoMain
    ∷ at 2 Arity ("def main()" ∷ "yield from sleep()" ∷ "end" ∷ [])
    ∷ at 4 Nesting ("def main()" ∷ "if True" ∷ "end" ∷ [])
    ∷ at 2 Name ("def main()" ∷ "print q" ∷ "end" ∷ [])
    ∷ at 2 Token ("def main()" ∷ "x = 9223372036854775808" ∷ "end" ∷ [])
    ∷ []

-- lines whose bytes are no tokens, and what ends lines
abbrev pub tokens : List FaultRow
tokens =
    in_main Token "x = \"a"
    ∷ in_main Token "pass # \t"
    ∷ in_main Token "x = 1a"
    ∷ in_main Token "x = 'a'"
    ∷ in_main Token "x = \"\\q\""
    ∷ in_main Token "x = \"\\x80\""
    ∷ in_main Token "pass !"
    ∷ refused (codes "def main()\nend\r") 2 Token
    ∷ refused (codes "def main()\r\r\nend\n") 1 Token
    ∷ accepted (codes "def main()\r\n\r\n  # all ignored\r\nend")
    ∷ accepted (codes "\n\ndef main()\nend")
    ∷ []

-- lines in `main` that are no form, or may not stand there
abbrev pub forms : List FaultRow
forms = map (in_main Form)
    ("yield 1" ∷ "x = yield" ∷ "yield from" ∷ "yield from 1" ∷ "yield from (x)" ∷ "x = yield from y z" ∷ "print" ∷ "print 1," ∷ "return 1, 2"
    ∷ "raise" ∷ "pass 1" ∷ "if" ∷ "while" ∷ "try 1" ∷ "else x" ∷ "end x" ∷ "finally x" ∷ "except" ∷ "except (ValueError)" ∷ "except ValueError as" ∷ "except if"
    ∷ "with group" ∷ "with group as end" ∷ "with group as 1" ∷ "with timeout() as o" ∷ "with timeout(1, 2) as o" ∷ "with timeout 1 as o" ∷ "with timeout(1 as o"
    ∷ "x =" ∷ "1 = x" ∷ "if = 1" ∷ "x == 1" ∷ "x 1" ∷ "x" ∷ "sleep(1)" ∷ "from x" ∷ "= 1" ∷ "def f()" ∷ "profile 1" ∷ "def" ∷ "group = 1" ∷ [])

-- expressions that are none
abbrev pub expressions : List FaultRow
expressions = map (in_main Form)
    ("x = 1 < 2 < 3" ∷ "x = 1 == not 1" ∷ "x = 1 + not 1" ∷ "x = (1" ∷ "x = 1)" ∷ "x = [1)" ∷ "x = ([1)]" ∷ "x = len(1)(2)" ∷ "x = (len)(1)" ∷ "x = [1,]"
    ∷ "x = [,1]"
    ∷ "x = 1 2" ∷ "x = 1 +" ∷ "x = * 1" ∷ "x = or 1" ∷ "x = 1 or" ∷ "x = not" ∷ "x = -" ∷ "x = + 1" ∷ "x = ()" ∷ "x = x[]"
    ∷ "x = x[1" ∷ "x = x[1, 2]" ∷ "x = 1, 2"
    ∷ "x = group" ∷ "x = len(1,)" ∷ "x = error(1, \"t\")" ∷ "x = error((ValueError), \"t\")" ∷ "x = error(if, \"t\")" ∷ "x = a = b" ∷ "x = ] 1 [" ∷ [])

-- where a request takes a coroutine's name, and other places of forms
abbrev pub places : List FaultRow
places =
    in_main Form "yield from spawn(1)"
    ∷ in_main Form "yield from spawn((main))"
    ∷ in_main Form "yield from create(1, main())"
    ∷ in_main Form "yield from listen(1, \"main\")"
    ∷ in_main Form "yield from spawn(if)"
    ∷ at 1 Form ("pass" ∷ "def main()" ∷ "end" ∷ [])
    ∷ at 3 Form ("def main()" ∷ "end" ∷ "x = 1" ∷ [])
    ∷ at 1 Form ("def main(a,)" ∷ "end" ∷ [])
    ∷ at 1 Form ("def main" ∷ "end" ∷ [])
    ∷ at 1 Form ("def main() x" ∷ "end" ∷ [])
    ∷ at 1 Form ("def if()" ∷ "end" ∷ [])
    ∷ at 1 Form ("profile" ∷ [])
    ∷ at 1 Form ("profile x" ∷ [])
    ∷ at 2 Form ("profile 1" ∷ "profile 3" ∷ "def main()" ∷ "end" ∷ [])
    ∷ at 3 Form ("def main()" ∷ "end" ∷ "profile 1" ∷ [])
    ∷ at 4 Form ("def main()" ∷ "try" ∷ "finally" ∷ "return" ∷ "end" ∷ "end" ∷ [])
    ∷ at 6 Form ("def main()" ∷ "try" ∷ "finally" ∷ "try" ∷ "while True" ∷ "return 1" ∷ "end" ∷ "finally" ∷ "end" ∷ "end" ∷ "end" ∷ [])
    ∷ accepted (text ("def main()" ∷ "try" ∷ "return" ∷ "except ValueError" ∷ "return" ∷ "finally" ∷ "end" ∷ "return" ∷ "end" ∷ []))
    ∷ []

abbrev nested : ℕ → List ℕ
nested count = codes "def main()\n" ++ repeat count (codes "if True\n") ++ repeat count (codes "end\n") ++ codes "end\n"

abbrev negated : ℕ → List ℕ
negated count = codes "def main()\nx = " ++ repeat count (codes "-") ++ codes "1\nend\n"

abbrev listed : ℕ → List ℕ
listed count =
    codes "def main()\nprint " ++ repeat count (codes "[") ++ codes "1" ++ repeat count (codes "]") ++ codes "\nend\n"

-- blocks that don't fit, or are too deep
abbrev pub nesting : List FaultRow
nesting =
    in_main Nesting "else"
    ∷ in_main Nesting "except ValueError"
    ∷ in_main Nesting "finally"
    ∷ at 3 Nesting ("def main()" ∷ "end" ∷ "end" ∷ [])
    ∷ at 1 Nesting ("end" ∷ [])
    ∷ at 1 Nesting ("else" ∷ [])
    ∷ at 4 Nesting ("def main()" ∷ "if True" ∷ "else" ∷ "else" ∷ "end" ∷ "end" ∷ [])
    ∷ at 3 Nesting ("def main()" ∷ "while True" ∷ "else" ∷ "end" ∷ "end" ∷ [])
    ∷ at 3 Nesting ("def main()" ∷ "if True" ∷ "finally" ∷ "end" ∷ "end" ∷ [])
    ∷ at 3 Nesting ("def main()" ∷ "with group as g" ∷ "except ValueError" ∷ "end" ∷ "end" ∷ [])
    ∷ at 3 Nesting ("def main()" ∷ "try" ∷ "else" ∷ "end" ∷ "end" ∷ [])
    ∷ at 4 Nesting ("def main()" ∷ "try" ∷ "finally" ∷ "except ValueError" ∷ "end" ∷ "end" ∷ [])
    ∷ at 4 Nesting ("def main()" ∷ "try" ∷ "finally" ∷ "finally" ∷ "end" ∷ "end" ∷ [])
    ∷ at 3 Nesting ("def main()" ∷ "try" ∷ "end" ∷ "end" ∷ [])
    ∷ at 2 Nesting ("def main()" ∷ [])
    ∷ refused (codes "def main()") 2 Nesting
    ∷ accepted (nested 31)
    ∷ refused (nested 32) 33 Nesting
    ∷ accepted (negated 31)
    ∷ refused (negated 32) 2 Nesting
    ∷ accepted (listed 31)
    ∷ refused (listed 32) 2 Nesting
    ∷ []

abbrev in_coroutines : String → List ℕ
in_coroutines line =
    text ("def main()" ∷ "g = None" ∷ line ∷ "end" ∷ "def one(a)" ∷ "end" ∷ "def two(a, b)" ∷ "end" ∷ [])

abbrev named : String → FaultRow
named line = refused (in_coroutines line) 3 Name

abbrev counted : String → FaultRow
counted line = refused (in_coroutines line) 3 Arity

abbrev meant : String → FaultRow
meant line = accepted (in_coroutines line)

-- names that mean nothing in a line
abbrev pub names : List FaultRow
names = map named
    ("print q" ∷ "print [1, [q]]" ∷ "print g[q]" ∷ "yield from q" ∷ "yield from one" ∷ "yield from three(1)" ∷ "yield from len(g)" ∷ "yield from error(1)"
    ∷ "x = spawn(1)"
    ∷ "x = sleep(1)" ∷ "x = one(1)" ∷ "x = q(1)" ∷ "yield from spawn(three)" ∷ "yield from create(g, three)" ∷ "yield from listen(1, three)"
    ∷ "yield from spawn(g)"
    ∷ "x = error(Wrong, \"t\")" ∷ "x = error(Wrong)" ∷ "x = error(BaseException, \"t\")" ∷ "x = error(ExceptionGroup, \"t\")" ∷ "len = 1" ∷ "sleep = 1"
    ∷ "spawn = 1" ∷ "ValueError = 1" ∷ "error = 1"
    ∷ "len = yield from time()" ∷ "print len" ∷ "print ValueError" ∷ "print one" ∷ [])

-- wrong numbers of arguments
abbrev pub counts : List FaultRow
counts = map counted
    ("x = len()" ∷ "x = len(1, 2)" ∷ "x = error()" ∷ "x = error(ValueError)" ∷ "x = error(ValueError, \"a\", \"b\")" ∷ "yield from future(1)"
    ∷ "yield from sleep(1, 2)" ∷ "yield from limits(g, 1)" ∷ "yield from one()" ∷ "yield from two(1)" ∷ "yield from main(1)" ∷ "yield from spawn()"
    ∷ "yield from spawn(one)"
    ∷ "yield from spawn(main, 1)" ∷ "yield from create()" ∷ "yield from create(g)" ∷ "yield from create(g, two, 1)" ∷ "yield from listen()"
    ∷ "yield from listen(1)"
    ∷ "yield from listen(1, main)" ∷ "yield from listen(1, two)" ∷ "yield from listen(1, one, 2)" ∷ [])

-- names and counts that are right
abbrev pub meanings : List FaultRow
meanings = map meant
    ("x = len(x)" ∷ "x = error(ValueError, \"t\")" ∷ "yield from one(1)" ∷ "x = yield from spawn(two, 1, 2)" ∷ "x = yield from create(g, main)"
    ∷ "x = yield from listen(1, one)"
    ∷ "one = one" ∷ "yield from extra(1, [])" ∷ "yield from g" ∷ [])

-- several lines: names of coroutines and parameters, `main`, profiles, and which of two faults counts
abbrev pub faults : List FaultRow
faults =
    at 3 NoMain ("def other()" ∷ "end" ∷ [])
    ∷ at 3 NoMain ("def main(a)" ∷ "end" ∷ [])
    ∷ refused (codes "def other()\nend") 3 NoMain
    ∷ refused (codes "\n") 2 NoMain
    ∷ at 2 NoMain ("profile 1" ∷ [])
    ∷ at 1 Name ("def len()" ∷ "end" ∷ [])
    ∷ at 1 Name ("def spawn()" ∷ "end" ∷ [])
    ∷ at 1 Name ("def OSError()" ∷ "end" ∷ [])
    ∷ at 1 Name ("def main(a, a)" ∷ "end" ∷ [])
    ∷ at 1 Name ("def main(time)" ∷ "end" ∷ [])
    ∷ at 3 Name ("def main()" ∷ "end" ∷ "def main()" ∷ "end" ∷ [])
    ∷ at 3 Arity ("def main()" ∷ "end" ∷ "def f(a, b, c, d, e, f, g, h, i, j, k, l, m, n, o, p, q)" ∷ "end" ∷ [])
    ∷ accepted (text ("def main()" ∷ "end" ∷ "def f(a, b, c, d, e, f, g, h, i, j, k, l, m, n, o, p)" ∷ "end" ∷ []))
    ∷ at 1 Profile ("profile 3" ∷ "def main()" ∷ "end" ∷ [])
    ∷ at 2 Profile ("" ∷ "profile 0" ∷ "def main()" ∷ "end" ∷ [])
    ∷ accepted (text ("# first" ∷ "profile 01" ∷ "def main()" ∷ "end" ∷ []))
    ∷ accepted (text ("# first" ∷ "profile 2" ∷ "def main()" ∷ "end" ∷ []))
    ∷ at 2 Form ("profile 2" ∷ "profile 2" ∷ "def main()" ∷ "end" ∷ [])
    ∷ at 2 NoMain ("profile 2" ∷ [])
    ∷ at 3 Form ("def main()" ∷ "print q" ∷ "pass 1" ∷ "end" ∷ [])
    ∷ at 2 Form ("def main()" ∷ "def f(-1)" ∷ "x = \"" ∷ "end" ∷ [])
    ∷ at 2 Token ("def main()" ∷ "pass 1 \"" ∷ "else" ∷ "end" ∷ [])
    ∷ at 2 Name ("def main()" ∷ "print q" ∷ "print len()" ∷ "end" ∷ [])
    ∷ at 2 Arity ("def main()" ∷ "print len()" ∷ "print q" ∷ "end" ∷ [])
    ∷ at 2 Name ("def main()" ∷ "print len(), q" ∷ "end" ∷ [])
    ∷ at 2 Name ("def main()" ∷ "yield from three(len())" ∷ "end" ∷ [])
    ∷ at 2 Name ("def main()" ∷ "len = len()" ∷ "end" ∷ [])
    ∷ at 2 Arity ("def main(a)" ∷ "yield from main()" ∷ "end" ∷ [])
    ∷ at 4 Name ("def main()" ∷ "try" ∷ "pass" ∷ "except Wrong" ∷ "end" ∷ "end" ∷ [])
    ∷ at 4 Name ("def main()" ∷ "try" ∷ "pass" ∷ "except ValueError as read" ∷ "end" ∷ "end" ∷ [])
    ∷ at 2 Name ("def main()" ∷ "with group as kill" ∷ "end" ∷ "end" ∷ [])
    ∷ at 2 Name ("def main()" ∷ "with timeout(q) as o" ∷ "end" ∷ "end" ∷ [])
    ∷ at 5 Name ("def main()" ∷ "x = 1" ∷ "end" ∷ "def other()" ∷ "print x" ∷ "end" ∷ [])
    ∷ accepted
    (text ("def main()" ∷ "print a, b, c, d, e" ∷ "if False" ∷ "a = 1" ∷ "end" ∷ "b = yield from time()" ∷ "try" ∷ "except OSError as c" ∷ "end"
    ∷ "with group as d" ∷ "end" ∷ "with timeout(None) as e" ∷ "end" ∷ "end" ∷ []))
    ∷ []
