-- Each arm's text is the one that the definition gives the arm's cause.
use Rattle.std.proofs.Common.{sym, ap}
use Rattle.fault.specs.Causes.{words}
use Rattle.fault.proofs.cause.Cause.words.Goals as goal

pub returns-in-UnreadableNumber : goal.returns-in-UnreadableNumber
returns-in-UnreadableNumber c = sym (ap words c.in-UnreadableNumber.is)

pub returns-in-Malformed : goal.returns-in-Malformed
returns-in-Malformed c = sym (ap words c.in-Malformed.is)

pub returns-in-PatternLimit : goal.returns-in-PatternLimit
returns-in-PatternLimit c = sym (ap words c.in-PatternLimit.is)

pub returns-in-UnknownClass : goal.returns-in-UnknownClass
returns-in-UnknownClass c = sym (ap words c.in-UnknownClass.is)

pub returns-in-DeadSymbol : goal.returns-in-DeadSymbol
returns-in-DeadSymbol c = sym (ap words c.in-DeadSymbol.is)

pub returns-in-NotAccepted : goal.returns-in-NotAccepted
returns-in-NotAccepted c = sym (ap words c.in-NotAccepted.is)

pub returns-in-TreeFull : goal.returns-in-TreeFull
returns-in-TreeFull c = sym (ap words c.in-TreeFull.is)

pub returns-in-LengthLimit : goal.returns-in-LengthLimit
returns-in-LengthLimit c = sym (ap words c.in-LengthLimit.is)

pub returns-in-NotExpected : goal.returns-in-NotExpected
returns-in-NotExpected c = sym (ap words c.in-NotExpected.is)

pub returns-in-ChannelFull : goal.returns-in-ChannelFull
returns-in-ChannelFull c = sym (ap words c.in-ChannelFull.is)

pub returns-in-NotAWalk : goal.returns-in-NotAWalk
returns-in-NotAWalk c = sym (ap words c.in-NotAWalk.is)

pub returns-in-NoChannel : goal.returns-in-NoChannel
returns-in-NoChannel c = sym (ap words c.in-NoChannel.is)

pub returns-in-ShortBuffer : goal.returns-in-ShortBuffer
returns-in-ShortBuffer c = sym (ap words c.in-ShortBuffer.is)
