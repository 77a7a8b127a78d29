-- The lengths come from a law, not by counting.
use lib.ListN.{length-replicate}
use Rattle.std.proofs.Common.{ℕ, ℤ, pos, sym}
use Rattle.row_cases.proofs.with_buffer.Goals as goal

pub slice_bounds-run_all-end : goal.slice_bounds-run_all-end
slice_bounds-run_all-end g c = sym (length-replicate {0} {A = ℤ} 394752 (pos 0))

pub slice_bounds-run_all-end-2 : goal.slice_bounds-run_all-end-2
slice_bounds-run_all-end-2 g c = sym (length-replicate {0} {A = ℕ} 4500000 0)
