-- What a configuration's file in memory says.
use Rattle.std.specs.Prelude.{ℕ, List, Option, Result}
use Rattle.std.specs.declared.fmt.InlineText.{InlineText}
use Rattle.srt_watch.specs.declared.config_file.FileStamp.{FileStamp}

-- what reading a file returns: its content, or why it can't be read
abbrev pub Content : Type 0
Content = Result (List ℕ) (InlineText 896)

-- its stamp, if it is known, and its content
pub record FileState : Type 0 where
  pub stamp : Option FileStamp
  pub content : Content
