use Rattle.srt_log.proofs.writing.put_event.Goals as goal

pub returns-in-Refused : goal.returns-in-Refused
returns-in-Refused c = rw c.in-Refused.is c.put_refused.ensures

pub returns-in-SocketFaults : goal.returns-in-SocketFaults
returns-in-SocketFaults c = rw c.in-SocketFaults.is c.put_count.ensures
