-- Document 01's P10 to P13, on the definitions, each a theorem that one table can cite. Assumes nothing.
use mathlib.Core.Path.{◌≡◌, refl}
use mathlib.Core.Bool.{true, false}
use mathlib.Core.List.{List}
use lib.Dec.{lit<}
use lib.IntN.{pos, negsuc}
use lib.ListN.{get_or}
use lib.Ieee.{Float, nan, fin, mul, of_int, le, ne, round}
use Rattle.transform.specs.Kinds.{width_of, height_of, area_of, places_of}
use Rattle.bitstream.specs.Half.{half}
use Rattle.matrix.specs.Mirror.{straight_place, transposed_place, turned, mirror}
use Rattle.matrix.specs.Raw.{weight_of, refused}
use Rattle.bands.proofs.TableLaws.{get_d_tab}

-- 99,959,104 is 1,561,861 x 2 ^ 6, and 99,999,992 is 12,499,999 x 2 ^ 3
pub p10 : (weight_of (half 0x7bff) (pos 1526) ≡ fin false 1561861 (pos 6)) × (refused (weight_of (half 0x7bff) (pos 1526)) ≡ false) × (refused (weight_of (half 0x7bff) (pos 1527)) ≡ true)
unfolding weight_of refused half round mul of_int le ne
p10 = (refl, refl, refl)

pub p11 : (weight_of (half 0x3c00) (pos 99999995) ≡ fin false 12499999 (pos 3)) × (refused (weight_of (half 0x3c00) (pos 99999995)) ≡ false) × (refused (weight_of (half 0x3c00) (pos 99999996)) ≡ true)
unfolding weight_of refused half round mul of_int le ne
p11 = (refl, refl, refl)

-- 257 / 2 ^ 15
pub p12 : (weight_of (half 0x1004) (pos 16) ≡ fin false 257 (negsuc 14)) × (refused (weight_of (half 0x1004) (pos 16)) ≡ false)
unfolding weight_of refused half round mul of_int le ne
p12 = (refl, refl)

-- of kind 6, 16 wide and 8 high: row 1, column 1 and row 0, column 1
pub p13_places : (straight_place 6 0 1 1 ≡ 17) × (transposed_place 6 0 1 1 ≡ 9) × (straight_place 6 0 0 1 ≡ 1) × (transposed_place 6 0 0 1 ≡ 8)
unfolding width_of height_of area_of
p13_places = (refl, refl, refl, refl)

-- whatever weights kind 6 has
pub p13 : (ws : List Float) → (get_or (mirror 6 ws) 9 nan ≡ get_or ws 17 nan) × (get_or (mirror 6 ws) 8 nan ≡ get_or ws 1 nan)
unfolding mirror turned places_of width_of height_of
p13 ws = (
  get_d_tab 384 (λ p. get_or ws (turned 16 8 p) nan) 9 nan (lit< tt),
  get_d_tab 384 (λ p. get_or ws (turned 16 8 p) nan) 8 nan (lit< tt),
)
