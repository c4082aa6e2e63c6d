-- The parts of an address, as plain values.
use Rattle.std.specs.Prelude.{ℕ, List}
use Rattle.srt_config.specs.declared.splitting.Parts.{Parts}
use Rattle.srt_config.specs.declared.config.address.Octet.{Octet}
use Rattle.srt_config.specs.declared.config.address.BindAddress.{BindAddress}
use Rattle.srt_config.specs.Address.{Address}

abbrev pub both : Parts → List ℕ × List ℕ
both parts = (parts.before.now, parts.behind.now)

abbrev pub octet_seen : Octet → ℕ × List ℕ
octet_seen octet = (octet.octet, octet.behind.now)

abbrev pub address_of : BindAddress → Address
address_of bind = record { ip = bind.ip; port = bind.port }
