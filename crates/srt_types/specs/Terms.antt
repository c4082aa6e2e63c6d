-- The configuration of one route, as plain values.
use Rattle.std.specs.Prelude.{ℕ, List, string_bytes}
use Rattle.srt_types.specs.declared.shared.Mode.{Mode}
use Rattle.srt_types.specs.declared.shared.Entry.{Entry}
use Rattle.srt_types.specs.declared.shared.Rules.{Rules}
use Rattle.srt_types.specs.Access.{AccessTerms, access_of}

-- the configuration of a route; the fields have the units and limits of `Entry` in `src/shared.rt`
pub record Terms : Type 0 where
  pub name : List ℕ
  pub mode : Mode
  pub latency_ms : ℕ
  pub buffer : ℕ
  pub sessions : ℕ
  pub inbox : ℕ
  pub outbox : ℕ
  pub access : AccessTerms
  pub rules : Rules

-- the configuration that a value of the code represents
abbrev pub terms_of : Entry → Terms
terms_of e = record {
  name = string_bytes e.name;
  mode = e.mode;
  latency_ms = e.latency_ms;
  buffer = e.buffer;
  sessions = e.sessions;
  inbox = e.inbox;
  outbox = e.outbox;
  access = access_of e.access;
  rules = e.rules;
}
