-- The lines of a configuration's faults, as a command prints them.
use Rattle.std.specs.Prelude.{ℕ, ◌==◌, List, [], ◌∷◌, ◌++◌, codes, decimal, Option, None, Some, if◌then◌else◌}
use Rattle.std.specs.Fmt.{◌++?◌}
use Rattle.srt_explain.specs.declared.explanation.Explanation.{Explanation}
use Rattle.srt_explain.specs.declared.explanation.Faults.{Faults}
use Rattle.srt_explain.specs.FaultTexts.{explanation_text}

-- the line of one fault, with the path of the configuration's file
abbrev pub fault_line : (path : List ℕ) → Explanation → Option (List ℕ)
fault_line path it = Some (codes "srtgw: ") ++? Some path ++? Some (codes ": ") ++? explanation_text it ++? Some (codes "\n")

-- the lines of all of these, in order
abbrev pub fault_lines : (path : List ℕ) → List Explanation → Option (List ℕ)
fault_lines path [] = Some []
fault_lines path (it ∷ rest) = fault_line path it ++? fault_lines path rest

-- how many aren't explained, if there are any
abbrev pub more_line : (path : List ℕ) → (more : ℕ) → List ℕ
more_line path more = if more == 0 then [] else codes "srtgw: " ++ path ++ codes ": and " ++ decimal more ++ codes " more\n"

-- the lines of a configuration's faults: the first, the next ones, and how many others there are
abbrev pub all_lines : (path : List ℕ) → Faults → Option (List ℕ)
all_lines path faults = fault_line path faults.first ++? fault_lines path faults.others.items ++? Some (more_line path faults.more)
