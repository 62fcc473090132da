-- The cause for which a symbol is refused that a reader does not read. Assumes nothing.
use Rattle.fault.specs.declared.cause.Cause.{Cause}
use Rattle.fault.specs.declared.cause.Cause.TheVariants as cause
use Rattle.reader.specs.declared.stop.Stop.{Stop}
use Rattle.reader.specs.declared.stop.Stop.TheVariants as stop

abbrev pub cause_of : Stop → Cause
cause_of stop.Dead = cause.DeadSymbol
cause_of stop.TreeFull = cause.TreeFull
