-- What ends a line early.
use Rattle.std.specs.Prelude.{◌≡◌}
use Rattle.std.specs.IoError.{error_kind}
use Rattle.std.specs.declared.io.Error.{Error}
use Rattle.std.specs.declared.io.ErrorKind.TheVariants.{OutOfMemory}
use Rattle.notation.specs.declared.fault.Fault.{Fault}
use Rattle.notation.specs.declared.fault.Fault.TheVariants.{Malformed, Failed}

-- the program lacks memory
abbrev pub IsNoMemory : Error → Type 0
IsNoMemory e = error_kind e ≡ OutOfMemory

-- the line ends early since the program lacks memory
abbrev pub IsOfMemory : Fault → Type 0
IsOfMemory (Failed e) = IsNoMemory e
IsOfMemory Malformed = ⊥
