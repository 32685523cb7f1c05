use Rattle.params.specs.Views.{token_view}
use Rattle.params.proofs.Tokens.{reads_back}
use Rattle.params.proofs.params.Token.text.Goals as goal

pub returns-clause-reads_back : goal.returns-clause-reads_back
returns-clause-reads_back c = reads_back (token_view c.args.self.now)
