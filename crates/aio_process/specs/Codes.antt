-- What is told of how a child ended.
use Rattle.std.specs.Prelude.{ℤ, negsuc, neg_ℤ, unwrap_or, option_map}
use Rattle.std.specs.Process.{exit_code, exit_signal}
use Rattle.std.specs.declared.process.status.ExitStatus.{ExitStatus}

-- its own code, or minus the number of the signal that ended it; -128 of one that ended by neither
abbrev pub code_of : ExitStatus → ℤ
code_of status = unwrap_or (exit_code status) (unwrap_or (option_map neg_ℤ (exit_signal status)) (negsuc 127))
