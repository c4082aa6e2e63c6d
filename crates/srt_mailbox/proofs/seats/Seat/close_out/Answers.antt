use Rattle.srt_mailbox.proofs.seats.Seat.close_out.Goals as goal

pub returns-in-Ok-clause-settled : goal.returns-in-Ok-clause-settled
returns-in-Ok-clause-settled g c = (
  record { route = c.in-Ok.route; bears = c.in-Ok.ensures.route; replays = c.settle.ensures.replays; account = c.settle.ensures.account },
  c.show.ensures,
)
