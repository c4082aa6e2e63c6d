use Rattle.std.proofs.Common.{◌≡◌, take, length}
use Rattle.std.specs.Prelude.{min}
use Rattle.srt_poller.proofs.Scripted.{bytes_given}
use Rattle.srt_poller.proofs.scripts.ScriptDatagram.copy_to.Goals as goal

pub returns-clause-bytes : goal.returns-clause-bytes
returns-clause-bytes c =
    let after : c.copy_from_slice.new.self ≡ take c.min-len.result c.args.self.now.bytes.items =
    rw (← c.as_slice-bytes.ensures.value) c.copy_from_slice.ensures.after in
    let len : c.min-len.result ≡ min (length c.args.self.now.bytes.items) 2048 = rw (← c.as_slice-bytes.ensures.value) c.min-len.ensures in
    bytes_given c.args.self.now.bytes.items c.copy_from_slice.new.self _ c.min-len.result after len
