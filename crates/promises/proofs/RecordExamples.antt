-- The definitions at some texts, computed. Assumes nothing.
use mathlib.Core.Path.{◌≡◌, refl}
use lib.IntN.{negsuc}
use Rattle.record.specs.Format.{got, bad}
use Rattle.record.specs.Text.{bytes}
use Rattle.record.specs.Number.{digits, signed}
use Rattle.record.specs.Half.{half}

-- 2147483648 is refused at its last digit, with a minus it is not; no -0, no leading zero, no plus
samples_1 : (signed 44).read (bytes "2147483648,") ≡ bad 9
unfolding digits
samples_1 = refl

samples_2 : (signed 44).read (bytes "-2147483648,") ≡ got (negsuc 2147483647) 12
unfolding digits
samples_2 = refl

samples_3 : (signed 44).read (bytes "-0,") ≡ bad 1
samples_3 = refl

samples_4 : (signed 44).read (bytes "01,") ≡ bad 1
samples_4 = refl

samples_5 : (signed 44).read (bytes "+1,") ≡ bad 0
samples_5 = refl

-- 7bff is 31743; 7c00 is refused at its second digit, and so is fc00; upper case is refused
halves_1 : (half 10).read (bytes "7bff\n") ≡ got 31743 5
halves_1 = refl

halves_2 : (half 10).read (bytes "7c00\n") ≡ bad 1
halves_2 = refl

halves_3 : (half 10).read (bytes "fc00\n") ≡ bad 1
halves_3 = refl

halves_4 : (half 10).read (bytes "3C00\n") ≡ bad 1
halves_4 = refl
