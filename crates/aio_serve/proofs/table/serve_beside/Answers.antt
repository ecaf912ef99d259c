use Rattle.std.proofs.Common.{◌∙◌, sym}
use Rattle.std.proofs.lemmas.Bool.{true≢false}
use Rattle.aio_serve.proofs.Owning.{is_of_loop}
use Rattle.aio_serve.proofs.Serving.{alone, asks}
use Rattle.aio_serve.proofs.table.serve_beside.Goals as goal

pub extra-requires : goal.extra-requires
extra-requires g c = asks c.in-Extra.is c.requires.asked

pub returns-in-Extra : goal.returns-in-Extra
returns-in-Extra g c = rw c.in-Extra.is c.extra.ensures

pub listen-requires : goal.listen-requires
listen-requires g c = asks c.in-Listen.is c.requires.asked

pub returns-in-Listen : goal.returns-in-Listen
returns-in-Listen g c = rw c.in-Listen.is c.listen.ensures.comes

pub connect-requires : goal.connect-requires
connect-requires g c = asks c.in-Connect.is c.requires.asked

pub returns-in-Connect : goal.returns-in-Connect
returns-in-Connect g c = rw c.in-Connect.is c.connect.ensures.comes

pub launch-requires : goal.launch-requires
launch-requires g c = asks c.in-Launch.is c.requires.asked

pub returns-in-Launch : goal.returns-in-Launch
returns-in-Launch g c = rw c.in-Launch.is c.launch.ensures.comes

pub write-requires : goal.write-requires
write-requires g c = asks c.in-Write.is c.requires.asked

pub returns-in-Write : goal.returns-in-Write
returns-in-Write g c = rw c.in-Write.is c.write.ensures.comes

pub write_eof-requires : goal.write_eof-requires
write_eof-requires g c = asks c.in-WriteEof.is c.requires.asked

pub returns-in-WriteEof : goal.returns-in-WriteEof
returns-in-WriteEof g c = rw c.in-WriteEof.is c.write_eof.ensures.comes

pub close-requires : goal.close-requires
close-requires g c = asks c.in-Close.is c.requires.asked

pub returns-in-Close : goal.returns-in-Close
returns-in-Close g c = rw c.in-Close.is c.close.ensures.comes

pub kill-requires : goal.kill-requires
kill-requires g c = asks c.in-Kill.is c.requires.asked

pub returns-in-Kill : goal.returns-in-Kill
returns-in-Kill g c = rw c.in-Kill.is c.kill.ensures.comes

-- ---- those that ask nothing
pub wait_closed-requires : goal.wait_closed-requires
wait_closed-requires g c = asks c.in-WaitClosed.is c.requires.asked

pub returns-in-WaitClosed : goal.returns-in-WaitClosed
returns-in-WaitClosed g c = alone c.wait_closed.result c.in-WaitClosed.is c.wait_closed.ensures c.or_stop.ensures

pub drain-requires : goal.drain-requires
drain-requires g c = asks c.in-Drain.is c.requires.asked

pub returns-in-Drain : goal.returns-in-Drain
returns-in-Drain g c = alone c.drain.result c.in-Drain.is c.drain.ensures c.or_stop-in-Drain.ensures

pub limits-requires : goal.limits-requires
limits-requires g c = asks c.in-Limits.is c.requires.asked

pub returns-in-Limits : goal.returns-in-Limits
returns-in-Limits g c = alone c.limits.result c.in-Limits.is c.limits.ensures c.or_stop-in-Limits.ensures

pub read-requires : goal.read-requires
read-requires g c = asks c.in-Read.is c.requires.asked

pub returns-in-Read : goal.returns-in-Read
returns-in-Read g c = alone c.read.result c.in-Read.is c.read.ensures c.or_stop-in-Read.ensures

pub read_exactly-requires : goal.read_exactly-requires
read_exactly-requires g c = asks c.in-ReadExactly.is c.requires.asked

pub returns-in-ReadExactly : goal.returns-in-ReadExactly
returns-in-ReadExactly g c = alone c.read_exactly.result c.in-ReadExactly.is c.read_exactly.ensures c.or_stop-in-ReadExactly.ensures

pub read_until-requires : goal.read_until-requires
read_until-requires g c = asks c.in-ReadUntil.is c.requires.asked

pub returns-in-ReadUntil : goal.returns-in-ReadUntil
returns-in-ReadUntil g c = alone c.read_until.result c.in-ReadUntil.is c.read_until.ensures c.or_stop-in-ReadUntil.ensures

pub read_line-requires : goal.read_line-requires
read_line-requires g c = asks c.in-ReadLine.is c.requires.asked

pub returns-in-ReadLine : goal.returns-in-ReadLine
returns-in-ReadLine g c = alone c.read_line.result c.in-ReadLine.is c.read_line.ensures c.or_stop-in-ReadLine.ensures

pub standard_error-requires : goal.standard_error-requires
standard_error-requires g c = asks c.in-StandardError.is c.requires.asked

pub returns-in-StandardError : goal.returns-in-StandardError
returns-in-StandardError g c = alone c.standard_error.result c.in-StandardError.is c.standard_error.ensures c.or_stop-in-StandardError.ensures

pub wait_child-requires : goal.wait_child-requires
wait_child-requires g c = asks c.in-WaitChild.is c.requires.asked

pub returns-in-WaitChild : goal.returns-in-WaitChild
returns-in-WaitChild g c = alone c.wait_child.result c.in-WaitChild.is c.wait_child.ensures c.or_stop-in-WaitChild.ensures

pub returncode-requires : goal.returncode-requires
returncode-requires g c = asks c.in-ReturnCode.is c.requires.asked

pub returns-in-ReturnCode : goal.returns-in-ReturnCode
returns-in-ReturnCode g c = alone c.returncode.result c.in-ReturnCode.is c.returncode.ensures c.or_stop-in-ReturnCode.ensures

-- ---- the loop's own never come here
pub unreachable-requires : goal.unreachable-requires
unreachable-requires g c =
    true≢false (sym (is_of_loop c.args.request.now c.in_default.not-Extra c.in_default.not-Listen c.in_default.not-Connect c.in_default.not-Launch
    c.in_default.not-Write c.in_default.not-WriteEof c.in_default.not-Close c.in_default.not-Kill
    c.in_default.not-WaitClosed c.in_default.not-Drain c.in_default.not-Limits c.in_default.not-Read
    c.in_default.not-ReadExactly c.in_default.not-ReadUntil c.in_default.not-ReadLine c.in_default.not-StandardError
    c.in_default.not-WaitChild c.in_default.not-ReturnCode) ∙ c.requires.frame)
