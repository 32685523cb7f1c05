use Rattle.api_validation.proofs.Readings.{others_are_read_by_words, words_are_read_on_each}
use Rattle.api_validation.proofs.parameters.words_are_read.Goals as goal

pub returns-clause-others : goal.returns-clause-others
returns-clause-others c = others_are_read_by_words

pub returns-clause-each : goal.returns-clause-each
returns-clause-each c = words_are_read_on_each
