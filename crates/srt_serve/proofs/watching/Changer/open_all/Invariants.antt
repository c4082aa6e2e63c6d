use Rattle.std.proofs.Common.{◌≡◌, length, map, take}
use Rattle.srt_types.specs.Terms.{terms_of}
use Rattle.srt_mailbox.specs.Identities.{identity_in}
use Rattle.srt_serve.specs.Opened.{terms_in}
use Rattle.srt_serve.specs.inside.Changing.{HasIndexAt}
use Rattle.srt_serve.specs.inside.UpTo.{UpTo}
use Rattle.srt_serve.proofs.watching.Changer.open_all.Given as goal

abbrev pub invariant-loop-entry : goal.invariant-loop-entry
invariant-loop-entry g l = record {
  terms : terms_in (map (λ s. identity_in s.cell) l.seats.items) ≡ map terms_of (take l.entry-index l.entries);
  many : length l.seats.items ≡ l.entry-index;
  indexes : UpTo (HasIndexAt (λ s. (identity_in s.cell).index) l.self.routes l.seats.items) l.entry-index;
}
