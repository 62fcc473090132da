-- What the state of a run goes by, and what it holds. Assumes nothing.
use Rattle.alphabet.specs.declared.Alphabet.{Ghosts}
use Rattle.alphabet.specs.Meaning.{Meaning}
use Rattle.pattern.specs.declared.pattern.Pattern.{Pattern}
use Rattle.run.specs.declared.state.State.{State}
use Rattle.run.specs.Inner.{Inner, inner}

module _ {A S : Type 0} {kind : Ghosts A S} where
  -- its pattern
  abbrev pub state_pattern : State A S kind → Pattern
  state_pattern c = c.reader.grammar.pattern.now

  -- its alphabet
  abbrev pub state_alphabet : State A S kind → A
  state_alphabet c = c.reader.grammar.alphabet.now

  -- what its alphabet means
  abbrev pub state_meaning : State A S kind → Meaning S
  state_meaning c = kind.meaning (state_alphabet c)

  -- what it holds of the reading
  abbrev pub state_held : State A S kind → Inner
  state_held c = inner c.reader.core c.reader.stop c.book
