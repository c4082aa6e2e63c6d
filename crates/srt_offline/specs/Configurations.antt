-- The line of a configuration, and the warning about its file's mode (our choice).
use Rattle.std.specs.Prelude.{◌≡◌, ℕ, List, ◌++◌, map, codes, decimal, Result, Ok, Err}
use Rattle.std.specs.Fs.{metadata_mode}
use Rattle.std.specs.declared.fs.attrs.Metadata.{Metadata}
use Rattle.std.specs.declared.io.Error.{Error}
use Rattle.srt_types.specs.Terms.{terms_of}
use Rattle.srt_explain.specs.declared.explaining.Explained.{Explained}
use Rattle.srt_explain.specs.FileMode.{file_warnings}

-- the line of a configuration: the number of its routes
unfoldable pub routes_line : (routes : ℕ) → List ℕ
routes_line routes = codes "routes " ++ decimal routes ++ codes "\n"

-- the warning about the mode that the system told, if it told one, is behind the others
abbrev pub WarnsOfFile : Result Metadata Error → (old new : Explained) → Type 0
WarnsOfFile (Ok found) old new =
    new.warnings.items ≡ old.warnings.items ++ file_warnings (metadata_mode found) (map terms_of old.config.entries.items)
WarnsOfFile (Err error) old new = new.warnings ≡ old.warnings
