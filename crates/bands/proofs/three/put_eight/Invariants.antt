-- `three::put_eight`: the first i of eight numbers are laid (`Scattering`). Assumes nothing.
use Rattle.bands.proofs.Tables.{Scattering}
use Rattle.bands.proofs.three.put_eight.Given as goal

abbrev pub invariant-loop-i : goal.invariant-loop-i
invariant-loop-i l = Scattering l.initial.all l.at l.j l.l l.all l.i
