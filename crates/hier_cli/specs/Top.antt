-- What the program does, from its words to its status.
use Rattle.std.specs.Prelude.{List, Result, map, string_bytes, String}
use Rattle.std.specs.declared.alloc.Global.{Global}
use Rattle.sim_words.specs.declared.request.Request.{Request}
use Rattle.sim_words.specs.declared.request.WordsFault.{WordsFault}
use Rattle.hier_types.specs.Streams.{Stream}
use Rattle.run_report.specs.declared.end.End.{End}
use Rattle.hier_cli.specs.declared.notice.Notice.{Notice}
use Rattle.hier_cli.specs.Files.{Outside}
use Rattle.hier_cli.specs.Notices.{NotesNotice}
use Rattle.hier_cli.specs.Requests.{Answered, AskFor, settings_of}

-- The words are read, what they ask for is done, and the note tells of it.
pub record Finishes (words : List (String Global)) (out : Outside) (note : Stream) (end : End) : Type 0 where
  pub request : Result Request WordsFault
  pub asked : AskFor (map string_bytes words) request
  pub notice : Notice
  pub answered : Answered request out notice
  pub noted : NotesNotice (settings_of request) notice note end
