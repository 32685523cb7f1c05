-- What is set aside of a list.
use Rattle.std.specs.Prelude.{List, map}
use Rattle.indexer.specs.Objects.{Stored, shared_of}
use Rattle.reflector.specs.declared.paged_list.PagedList.{PagedList}

abbrev pub paged_list_of : PagedList → List Stored
paged_list_of a = map shared_of a.objects.items
