use Rattle.reflector.proofs.Eventful.{run_right}
use Rattle.reflector.proofs.laws.mirrors_the_server.Goals as goal

pub returns : goal.returns
returns c = λ wanted server events lawful. run_right wanted server events lawful
