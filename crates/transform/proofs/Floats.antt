-- What differs from itself, in code that has to know before it takes a float's bits. Assumes nothing.
use mathlib.Core.Path.{◌≡◌}
use mathlib.Core.Bool.{false, not, true≢false}
use lib.Dec.{T}
use lib.Ieee.{Float, nan, inf, fin, is_nan, ne}

-- what does not is no NaN
pub same_is_number : (x : Float) → ne x x ≡ false → T (not (is_nan x))
unfolding ne is_nan
same_is_number nan e = absurd (true≢false e)
same_is_number (inf s) e = tt
same_is_number (fin s m d) e = tt
