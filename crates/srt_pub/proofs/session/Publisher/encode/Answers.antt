use Rattle.srt_pub.proofs.session.Publisher.encode.Goals as goal
use Rattle.std.proofs.Common.{ℕ, ◌%◌, ◌^◌, ap, ◌∙◌}
use Rattle.srt_packet.specs.Text.{text}
use Rattle.srt_pub.specs.Says.{body_bytes}

pub returns-clause-bytes : goal.returns-clause-bytes
unfolding body_bytes
returns-clause-bytes c caller e = c.write.ensures.written ∙ ap (λ (d : ℕ). text (record { stamp = c.args.time % 2 ^ 32; dest = d; body = c.args.body })) e
