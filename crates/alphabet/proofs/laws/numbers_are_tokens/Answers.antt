use Rattle.alphabet.proofs.Numbers.{numbers}
use Rattle.alphabet.proofs.laws.numbers_are_tokens.Goals as goal

pub returns : goal.returns
returns c = numbers
