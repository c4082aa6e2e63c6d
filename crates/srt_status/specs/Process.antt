-- The metrics of the process, under the names that Prometheus' own clients give them.
use Rattle.std.specs.Prelude.{ℕ, List, [], ◌∷◌, codes, Option, None, Some}
use Rattle.srt_status.specs.declared.gateway.GatewayStatus.{GatewayStatus}
use Rattle.srt_status.specs.declared.figures.Amount.{Amount}
use Rattle.srt_status.specs.declared.figures.Amount.TheVariants.{Number, Micros}
use Rattle.srt_status.specs.declared.process.ProcessFigure.{ProcessFigure}
use Rattle.srt_status.specs.declared.process.ProcessFigure.TheVariants as figures

-- the name of what is said of the process; it has no prefix
abbrev pub process_name : ProcessFigure → List ℕ
process_name figures.ProcessorTime = codes "process_cpu_seconds_total"
process_name figures.ResidentMemory = codes "process_resident_memory_bytes"
process_name figures.OpenDescriptors = codes "process_open_fds"
process_name figures.MostDescriptors = codes "process_max_fds"
process_name figures.StartTime = codes "process_start_time_seconds"

-- its help
abbrev pub process_help : ProcessFigure → List ℕ
process_help figures.ProcessorTime = codes "Processor time of the process, user and system."
process_help figures.ResidentMemory = codes "Resident memory of the process."
process_help figures.OpenDescriptors = codes "Open file descriptors."
process_help figures.MostDescriptors = codes "The most file descriptors that may be open."
process_help figures.StartTime = codes "The start of the process, since 1970."

-- its type
abbrev pub process_kind : ProcessFigure → List ℕ
process_kind figures.ProcessorTime = codes "counter"
process_kind _ = codes "gauge"

abbrev pub number_if : Option ℕ → Option Amount
number_if None = None
number_if (Some value) = Some (Number value)

abbrev pub micros_if : Option ℕ → Option Amount
micros_if None = None
micros_if (Some value) = Some (Micros value)

-- this of the process
abbrev pub process_amount : ProcessFigure → GatewayStatus → Option Amount
process_amount figures.ProcessorTime gateway = micros_if gateway.process.cpu_micros
process_amount figures.ResidentMemory gateway = number_if gateway.resident_bytes
process_amount figures.OpenDescriptors gateway = number_if gateway.process.open_descriptors
process_amount figures.MostDescriptors gateway = number_if gateway.process.most_descriptors
process_amount figures.StartTime gateway = micros_if gateway.process.started_micros

-- all of it, in the order in which it is shown
abbrev pub all_process : List ProcessFigure
all_process =
    figures.ProcessorTime ∷ figures.ResidentMemory ∷ figures.OpenDescriptors ∷ figures.MostDescriptors ∷ figures.StartTime ∷ []
