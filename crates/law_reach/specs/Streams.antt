-- What streams and children change of the loop (`Doing`), as changes of its parts.
use Rattle.model_loop.specs.Parts.{Plain}
use Rattle.model_stream.specs.Doing as doing
use Rattle.law_changes.specs.Changes.{PartsChange, CallsSoon, MakesFuture, Settles}

abbrev pub of_doing : doing.Change → PartsChange
of_doing doing.MakeFuture = MakesFuture Plain
of_doing (doing.CallSoon action) = CallsSoon action
of_doing (doing.Settle future outcome) = Settles future outcome
