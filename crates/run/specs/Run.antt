-- What a run goes by, and what it holds. Assumes nothing.
use Rattle.alphabet.specs.declared.Alphabet.{Ghosts}
use Rattle.alphabet.specs.Meaning.{Meaning}
use Rattle.pattern.specs.declared.pattern.Pattern.{Pattern}
use Rattle.run.specs.declared.run.Run.{Run}
use Rattle.run.specs.Inner.{Inner}
use Rattle.run.specs.State.{state_pattern, state_alphabet, state_meaning, state_held}

module _ {A S : Type 0} {kind : Ghosts A S} where
  -- its pattern
  abbrev pub pattern_of : Run A S kind → Pattern
  pattern_of r = state_pattern r.state

  -- its alphabet
  abbrev pub alphabet_of : Run A S kind → A
  alphabet_of r = state_alphabet r.state

  -- what its alphabet means
  abbrev pub meaning_of : Run A S kind → Meaning S
  meaning_of r = state_meaning r.state

  -- what it holds
  abbrev pub held_by : Run A S kind → Inner
  held_by r = state_held r.state
