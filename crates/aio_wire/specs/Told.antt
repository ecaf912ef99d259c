-- Code's faults of a journal, as the definitions have them.
use Rattle.model_wire.specs.Journal.{Entry, Refused}
use Rattle.aio_wire.specs.declared.wire.JournalFault.{JournalFault}

abbrev pub refused_of : JournalFault → Entry
refused_of fault = Refused fault.line fault.cause
