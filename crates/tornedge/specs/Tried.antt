-- What trying a way came to: nothing where it doesn't open, or what its split came to. Definitions only.
use Rattle.std.specs.Prelude.{Option}
use Rattle.work.specs.Ran.{Ran}

abbrev pub Tried : Type 0
Tried = Option Ran
