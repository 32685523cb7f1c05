-- What the crate's values represent.
use Rattle.std.specs.Prelude.{option_map, string_bytes}
use Rattle.answers.specs.declared.watch_from.WatchFrom.{WatchFrom as TheWatchFrom}
use Rattle.answers.specs.WatchFrom.{WatchFrom}

abbrev pub watch_from : TheWatchFrom → WatchFrom
watch_from f = record {
  kind = f.kind;
  namespace = option_map string_bytes f.namespace;
  requirements = f.selector;
  position = f.position;
  initial = f.initial;
  bookmarks = f.bookmarks;
  timeout = f.timeout;
}
