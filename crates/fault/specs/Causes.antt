-- The number, the layer and the words of each cause of a refusal. Assumes nothing.
use Rattle.std.specs.Prelude.{ℕ, List, codes}
use Rattle.fault.specs.declared.layer.Layer.{Layer}
use Rattle.fault.specs.declared.layer.Layer.TheVariants.{Pattern, Reading, Sink}
use Rattle.fault.specs.declared.cause.Cause.{Cause}
use Rattle.fault.specs.declared.cause.Cause.TheVariants.{UnreadableNumber, Malformed, PatternLimit, UnknownClass, DeadSymbol, NotAccepted, TreeFull, LengthLimit, NotExpected, ChannelFull, NotAWalk, NoChannel, ShortBuffer}

abbrev pub number : Cause → ℕ
number UnreadableNumber = 1
number Malformed = 2
number PatternLimit = 3
number UnknownClass = 4
number DeadSymbol = 5
number NotAccepted = 6
number TreeFull = 7
number LengthLimit = 8
number NotExpected = 9
number ChannelFull = 10
number NotAWalk = 11
number NoChannel = 12
number ShortBuffer = 13

abbrev pub layer : Cause → Layer
layer UnreadableNumber = Pattern
layer Malformed = Pattern
layer PatternLimit = Pattern
layer UnknownClass = Reading
layer DeadSymbol = Reading
layer NotAccepted = Reading
layer TreeFull = Reading
layer LengthLimit = Reading
layer NotExpected = Sink
layer ChannelFull = Sink
layer NotAWalk = Reading
layer NoChannel = Sink
layer ShortBuffer = Sink

abbrev pub layer_number : Layer → ℕ
layer_number Pattern = 1
layer_number Reading = 2
layer_number Sink = 3

-- each cause in words, as bytes
abbrev pub words : Cause → List ℕ
words UnreadableNumber = codes "a number is unreadable or above 65,535"
words Malformed = codes "an operation is unknown, a text is cut, an expression is missing, or the final count of expressions is not one"
words PatternLimit = codes "a limit of patterns is passed"
words UnknownClass = codes "the pattern reads a class that the alphabet does not have"
words DeadSymbol = codes "dead symbol: no live walk would be left"
words NotAccepted = codes "the input is not accepted"
words TreeFull = codes "the tree of undecided items would count above its limit"
words LengthLimit = codes "4,294,967,295 symbols are read already"
words NotExpected = codes "the item is not expected"
words ChannelFull = codes "a channel is full"
words NotAWalk = codes "the bits are no allowed walk"
words NoChannel = codes "there is no such channel"
words ShortBuffer = codes "the buffer is shorter than the stock"
