-- The table of routes.
use Rattle.matchit.proofs.OnLiterals.{matchit_on_literals}
use Rattle.std.proofs.Common.{refl}
use Rattle.std.specs.Str.{IsAscii}
use Rattle.api_request.specs.Admit.{all_path, collection_path, object_path, routes, status_path}
use Rattle.api_request.proofs.Ascii.{ascii_all}
use Rattle.api_request.proofs.Found.{AllRows}

pub routes_ascii : AllRows (λ r. IsAscii r.text) routes
unfolding routes matchit_on_literals
routes_ascii = (ascii_all status_path refl, (ascii_all object_path refl, (ascii_all collection_path refl, (ascii_all all_path refl, tt))))
