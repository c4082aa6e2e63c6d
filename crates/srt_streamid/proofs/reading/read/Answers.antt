use Rattle.std.proofs.Common.{◌≡◌, List, ℕ, ◌+◌, ◌≤◌, length, Result, Ok, Err, IfOk, sym}
use Rattle.srt_streamid.specs.declared.reading.Ask.{Ask}
use Rattle.srt_streamid.specs.declared.reading.AskFault.{AskFault}
use Rattle.srt_streamid.specs.Reading.{ask_in}
use Rattle.srt_streamid.proofs.Exact.{ask_is_read, fault_is_read, name_is_inside}
use Rattle.srt_streamid.proofs.reading.read.Goals as goal

inside_if : (bytes : List ℕ) (read : Result Ask AskFault) → read ≡ ask_in bytes → IfOk read (λ ask. ask.start + ask.len ≤ length bytes)
inside_if bytes (Ok ask) e = (name_is_inside bytes ask (sym e)).1
inside_if bytes (Err fault) e = tt

pub returns-clause-asks : goal.returns-clause-asks
returns-clause-asks c = λ ask. rw c.ask_of.ensures (ask_is_read c.args.bytes.now ask)

pub returns-clause-fault : goal.returns-clause-fault
returns-clause-fault c = λ fault. rw c.ask_of.ensures (fault_is_read c.args.bytes.now fault)

pub returns-clause-inside : goal.returns-clause-inside
returns-clause-inside c = inside_if c.args.bytes.now c.ask_of.result c.ask_of.ensures
