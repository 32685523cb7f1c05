use Rattle.lists.proofs.Tokens.{query_is_read, token_is_read}
use Rattle.lists.proofs.token_laws.tokens_are_read.Goals as goal

pub returns : goal.returns
returns c = record { token = token_is_read; query = query_is_read }
