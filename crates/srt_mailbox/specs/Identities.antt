-- The identity of a cell's route.
use Rattle.srt_mailbox.specs.declared.cells.RouteCell.{RouteCell}
use Rattle.srt_mailbox.specs.Cells.{CellIdentity}

-- the identity of the cell's route, and of the two queues that it is between
abbrev pub identity_in : RouteCell → CellIdentity
identity_in cell = cell.slot
