-- Which readings are refused. Definitions only.
use Rattle.std.specs.Prelude.{Bool, true, false, Ok, Err}
use Rattle.params.specs.Header.{Reading}
use Rattle.params.specs.declared.read.Stop.TheVariants.{Done, Raw}

-- all but one that is done: a raw entry is refused too, its samples aren't here
abbrev pub refused_is : Reading → Bool
refused_is (Ok (Done next)) = false
refused_is (Ok (Raw kind next)) = true
refused_is (Err fault) = true
