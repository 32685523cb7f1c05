use Rattle.history.proofs.Paging.{first_page, listed_first, listed_past, next_page, wanted_first, wanted_past, whole_list}
use Rattle.history.proofs.page_laws.pages_make_the_list.Goals as goal

pub returns : goal.returns
returns c = record { first = first_page; next = next_page; whole = whole_list; rows = listed_first; rows_past = listed_past; wanted = wanted_first; wanted_past = wanted_past }
