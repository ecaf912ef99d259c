-- Texts that spell scripts, with their canonical texts, worked out by hand.
use Rattle.std.specs.Prelude.{List, [], ◌∷◌}
use Prim.Native.String.{String}
use Rattle.row_text.specs.Rows.{CanonicalPair, spells}

abbrev line : String → String → CanonicalPair
line before after = spells ("def main()" ∷ before ∷ "end" ∷ []) ("def main()" ∷ after ∷ "end" ∷ [])

-- one line of `main`
abbrev pub lines : List CanonicalPair
lines =
    spells ("def main()" ∷ " x=1+2*3 # sum" ∷ "end" ∷ []) ("def main()" ∷ "  x = 1 + (2 * 3)" ∷ "end" ∷ [])
    ∷ line "x=1-2-3" "  x = (1 - 2) - 3"
    ∷ line "x=2*3%4//5" "  x = ((2 * 3) % 4) // 5"
    ∷ line "x = - 1 - - 2" "  x = (-1) - (-2)"
    ∷ line "x = -(1)*2" "  x = (-1) * 2"
    ∷ line "x = - - 1" "  x = -(-1)"
    ∷ line "x = not not True" "  x = not (not True)"
    ∷ line "x = not 1 == 2" "  x = not (1 == 2)"
    ∷ line "x = True or False and not None" "  x = True or (False and (not None))"
    ∷ line "x = True and False or True and True" "  x = (True and False) or (True and True)"
    ∷ line "x = True or (False or True)" "  x = True or (False or True)"
    ∷ line "x = 1+2 <= 3*-4" "  x = (1 + 2) <= (3 * (-4))"
    ∷ line "x = (1 < 2) != (3 >= 4)" "  x = (1 < 2) != (3 >= 4)"
    ∷ line "x = -x[1][2]" "  x = -x[1][2]"
    ∷ line "x = (-x)[1+1]" "  x = (-x)[1 + 1]"
    ∷ line "x = [ ] [0]" "  x = [][0]"
    ∷ line "x = [1,[2],(3)]" "  x = [1, [2], 3]"
    ∷ line "x = len([1])+len(\"a\")" "  x = len([1]) + len(\"a\")"
    ∷ line "x = ((x))" "  x = x"
    ∷ line "x=error(OSError,str(1))" "  x = error(OSError, str(1))"
    ∷ []

-- every form
abbrev pub whole : List CanonicalPair
whole =
    spells ("profile 1" ∷ "def main ( )" ∷ "yield" ∷ "yield from x" ∷ "x=yield from sleep(5)" ∷ "x = yield from f(1,2)" ∷ "print 1,x"
    ∷ "raise error(ValueError,\"t\")" ∷ "return" ∷ "return x"
    ∷ "pass" ∷ "if x" ∷ "pass" ∷ "else" ∷ "end" ∷ "while x" ∷ "if x" ∷ "end" ∷ "end" ∷ "try" ∷ "except BaseException" ∷ "pass" ∷ "except ExceptionGroup as e"
    ∷ "finally" ∷ "pass" ∷ "end"
    ∷ "with group as g" ∷ "x = yield from create ( g , f , 1 , 2 )" ∷ "end" ∷ "with timeout(10) as o" ∷ "x = yield from spawn(main)"
    ∷ "yield from listen(80, h)" ∷ "end" ∷ "end"
    ∷ "def f(a,b)" ∷ "end" ∷ "" ∷ "def h(c) # handler" ∷ "end" ∷ [])
    ("def main()" ∷ "  yield" ∷ "  yield from x" ∷ "  x = yield from sleep(5)" ∷ "  x = yield from f(1, 2)" ∷ "  print 1, x"
    ∷ "  raise error(ValueError, \"t\")" ∷ "  return" ∷ "  return x"
    ∷ "  pass" ∷ "  if x" ∷ "    pass" ∷ "  else" ∷ "  end" ∷ "  while x" ∷ "    if x" ∷ "    end" ∷ "  end" ∷ "  try" ∷ "  except BaseException" ∷ "    pass"
    ∷ "  except ExceptionGroup as e" ∷ "  finally" ∷ "    pass" ∷ "  end"
    ∷ "  with group as g" ∷ "    x = yield from create(g, f, 1, 2)" ∷ "  end" ∷ "  with timeout(10) as o" ∷ "    x = yield from spawn(main)"
    ∷ "    yield from listen(80, h)" ∷ "  end" ∷ "end"
    ∷ "def f(a, b)" ∷ "end" ∷ "def h(c)" ∷ "end" ∷ [])
    ∷ spells ("def main()" ∷ "print \"a\\x0a\\\"\\\\\\x7f\", b\"\\xFF\\t\\x00~\", 007, None" ∷ "end" ∷ [])
    ("def main()" ∷ "  print \"a\\n\\\"\\\\\\x7f\", b\"\\xff\\t\\x00~\", 7, None" ∷ "end" ∷ [])
    ∷ spells ("" ∷ " profile  002 # the other" ∷ "def main()" ∷ "yield" ∷ "end" ∷ []) ("profile 2" ∷ "def main()" ∷ "  yield" ∷ "end" ∷ [])
    ∷ []
