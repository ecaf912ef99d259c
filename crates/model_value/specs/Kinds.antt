-- The tree of kinds: each kind with its ancestors, and their names.
-- Source: the library reference, "Built-in Exceptions", "Exception hierarchy"; `asyncio.exceptions` for asyncio's own.
use denote.Enum.Bare.{sameb}
use Rattle.std.specs.Prelude.{ℕ, Bool, List, [], ◌∷◌}
use Rattle.std.specs.List.{list_any}
use lib.Chars.{codes}
use Rattle.model_value.specs.contracts.kind.Kind.{the_type}
use Rattle.model_value.specs.declared.kind.Kind.{Kind}
use Rattle.model_value.specs.declared.kind.Kind.TheVariants.{BaseException, CancelledError, Exception, ArithmeticError, LookupError, OSError, RuntimeError}
use Rattle.model_value.specs.declared.kind.Kind.TheVariants.{TypeError, ValueError, NameError, EOFError, LimitOverrunError, InvalidStateError, ExceptionGroup}
use Rattle.model_value.specs.declared.kind.Kind.TheVariants.{OverflowError, ZeroDivisionError, IndexError, RecursionError, IncompleteReadError, TimeoutError}
use Rattle.model_value.specs.declared.kind.Kind.TheVariants.{ConnectionError, ConnectionResetError, ConnectionRefusedError, BrokenPipeError}

-- every kind, in the order of their declaration
abbrev pub kinds : List Kind
kinds =
    BaseException ∷ CancelledError ∷ Exception ∷ ArithmeticError ∷ LookupError ∷ OSError ∷ RuntimeError ∷ TypeError ∷ ValueError ∷ NameError ∷ EOFError
    ∷ LimitOverrunError
    ∷ InvalidStateError ∷ ExceptionGroup ∷ OverflowError ∷ ZeroDivisionError ∷ IndexError ∷ RecursionError ∷ IncompleteReadError ∷ TimeoutError
    ∷ ConnectionError
    ∷ ConnectionResetError ∷ ConnectionRefusedError ∷ BrokenPipeError ∷ []

-- the kind, its parent, and so on up to the root
abbrev pub lineage : Kind → List Kind
lineage BaseException = BaseException ∷ []
lineage CancelledError = CancelledError ∷ BaseException ∷ []
lineage Exception = Exception ∷ BaseException ∷ []
lineage ArithmeticError = ArithmeticError ∷ Exception ∷ BaseException ∷ []
lineage LookupError = LookupError ∷ Exception ∷ BaseException ∷ []
lineage OSError = OSError ∷ Exception ∷ BaseException ∷ []
lineage RuntimeError = RuntimeError ∷ Exception ∷ BaseException ∷ []
lineage TypeError = TypeError ∷ Exception ∷ BaseException ∷ []
lineage ValueError = ValueError ∷ Exception ∷ BaseException ∷ []
lineage NameError = NameError ∷ Exception ∷ BaseException ∷ []
lineage EOFError = EOFError ∷ Exception ∷ BaseException ∷ []
lineage LimitOverrunError = LimitOverrunError ∷ Exception ∷ BaseException ∷ []
lineage InvalidStateError = InvalidStateError ∷ Exception ∷ BaseException ∷ []
lineage ExceptionGroup = ExceptionGroup ∷ Exception ∷ BaseException ∷ []
lineage OverflowError = OverflowError ∷ ArithmeticError ∷ Exception ∷ BaseException ∷ []
lineage ZeroDivisionError = ZeroDivisionError ∷ ArithmeticError ∷ Exception ∷ BaseException ∷ []
lineage IndexError = IndexError ∷ LookupError ∷ Exception ∷ BaseException ∷ []
lineage RecursionError = RecursionError ∷ RuntimeError ∷ Exception ∷ BaseException ∷ []
lineage IncompleteReadError = IncompleteReadError ∷ EOFError ∷ Exception ∷ BaseException ∷ []
lineage TimeoutError = TimeoutError ∷ OSError ∷ Exception ∷ BaseException ∷ []
lineage ConnectionError = ConnectionError ∷ OSError ∷ Exception ∷ BaseException ∷ []
lineage ConnectionResetError = ConnectionResetError ∷ ConnectionError ∷ OSError ∷ Exception ∷ BaseException ∷ []
lineage ConnectionRefusedError = ConnectionRefusedError ∷ ConnectionError ∷ OSError ∷ Exception ∷ BaseException ∷ []
lineage BrokenPipeError = BrokenPipeError ∷ ConnectionError ∷ OSError ∷ Exception ∷ BaseException ∷ []

-- the two kinds are one
abbrev pub same_kind : Kind → Kind → Bool
same_kind = sameb the_type

-- `except k` takes an exception of kind e: k is e or one of its ancestors
abbrev pub matches : (k e : Kind) → Bool
matches k e = list_any (λ ancestor. same_kind ancestor k) (lineage e)

abbrev pub kind_name : Kind → List ℕ
kind_name BaseException = codes "BaseException"
kind_name CancelledError = codes "CancelledError"
kind_name Exception = codes "Exception"
kind_name ArithmeticError = codes "ArithmeticError"
kind_name LookupError = codes "LookupError"
kind_name OSError = codes "OSError"
kind_name RuntimeError = codes "RuntimeError"
kind_name TypeError = codes "TypeError"
kind_name ValueError = codes "ValueError"
kind_name NameError = codes "NameError"
kind_name EOFError = codes "EOFError"
kind_name LimitOverrunError = codes "LimitOverrunError"
kind_name InvalidStateError = codes "InvalidStateError"
kind_name ExceptionGroup = codes "ExceptionGroup"
kind_name OverflowError = codes "OverflowError"
kind_name ZeroDivisionError = codes "ZeroDivisionError"
kind_name IndexError = codes "IndexError"
kind_name RecursionError = codes "RecursionError"
kind_name IncompleteReadError = codes "IncompleteReadError"
kind_name TimeoutError = codes "TimeoutError"
kind_name ConnectionError = codes "ConnectionError"
kind_name ConnectionResetError = codes "ConnectionResetError"
kind_name ConnectionRefusedError = codes "ConnectionRefusedError"
kind_name BrokenPipeError = codes "BrokenPipeError"
