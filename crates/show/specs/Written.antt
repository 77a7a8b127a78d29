-- What the lines are that programs write, as bytes: numbers in decimal, those of a row in hexadecimal.
use Rattle.std.specs.Prelude.{ℕ, zero, suc, List, [], ◌++◌, false, cond, eqb, get_or, length, codes, decimal, Ok, Err}
use Rattle.std.specs.Fmt.{digits}
use Rattle.params.specs.Header.{Reading}
use Rattle.params.specs.declared.read.Stop.TheVariants.{Done, Raw}
use Rattle.params.specs.declared.read.HeaderError.TheVariants.{Lent, Short, Mode, Float}

-- a number behind a blank
abbrev pub next_of : ℕ → List ℕ
next_of n = codes " " ++ decimal n

-- a name, a number and a line end
abbrev pub line_of : List ℕ → ℕ → List ℕ
line_of name n = name ++ decimal n ++ codes "\n"

-- a reply's number, a kind and a bit
abbrev pub reply_of_two : ℕ → ℕ → ℕ → List ℕ
reply_of_two number kind bit = decimal number ++ next_of kind ++ next_of bit

-- the numbers of a reading's reply
abbrev pub reading_of : Reading → List ℕ
reading_of (Ok (Done q)) = decimal 0 ++ next_of q
reading_of (Err Lent) = decimal 1
reading_of (Err (Short k p l)) = reply_of_two 2 k p ++ next_of l
reading_of (Err (Mode k p)) = reply_of_two 3 k p
reading_of (Err (Float k p)) = reply_of_two 4 k p
reading_of (Ok (Raw k q)) = reply_of_two 5 k q

-- the lines of a refusal: its number, the kind and the bit
abbrev pub refused_of_two : ℕ → ℕ → ℕ → List ℕ
refused_of_two number kind bit = line_of (codes "refused=") number ++ line_of (codes "kind=") kind ++ line_of (codes "bit=") bit

-- the lines of a refused reading, and none of one that is done
abbrev pub refusal_of : Reading → List ℕ
refusal_of (Ok (Done q)) = []
refusal_of (Err Lent) = line_of (codes "refused=") 1
refusal_of (Err (Short k p l)) = refused_of_two 2 k p ++ line_of (codes "lacks=") l
refusal_of (Err (Mode k p)) = refused_of_two 3 k p
refusal_of (Err (Float k p)) = refused_of_two 4 k p
refusal_of (Ok (Raw k q)) = refused_of_two 5 k q

-- how many of the first n numbers of a row are written: the zeros at the end are not, but the first number always is
unfoldable pub used_of : List ℕ → ℕ → ℕ
used_of row zero = zero
used_of row (suc zero) = suc zero
used_of row (suc (suc n)) = cond (eqb (get_or row (suc n) 0) 0) (used_of row (suc n)) (suc (suc n))

-- a number of a row, a comma before each but the first
abbrev pub item_of : ℕ → ℕ → List ℕ
item_of i x = cond (eqb i 0) [] (codes ",") ++ digits 16 false x

-- the first n numbers of a row
unfoldable pub items_of : List ℕ → ℕ → List ℕ
items_of row zero = []
items_of row (suc n) = items_of row n ++ item_of n (get_or row n 0)

-- the line of a row
abbrev pub row_of : ℕ → List ℕ → List ℕ
row_of kind row = codes "row." ++ decimal kind ++ codes "=" ++ items_of row (used_of row (length row)) ++ codes "\n"
