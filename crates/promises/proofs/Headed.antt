-- A set of a first row and 16 of another behind it: where each row stands, and when the set passes ROW. Assumes nothing.
use mathlib.Core.Path.{◌≡◌, refl, sym, ap, ◌∙◌}
use mathlib.Core.Bool.{true}
use mathlib.Core.List.{List, [], ◌∷◌, ◌++◌}
use Prim.Native.Nat.{ℕ, zero, suc, ◌+◌, ◌*◌, ◌<◌}
use native.Mathlib.Nat.{le_of_suc-le-suc, not-suc-le-zero}
use native.Mathlib.Omega.{arith}
use lib.ListN.{length, take, drop, replicate, length-append}
use lib.Seq.{take_at, drop_at, drop-drop}
use Rattle.params.specs.Allowed.{entry_row, row_at, check_rows, check_reply}
use Rattle.promises.proofs.RowRule.{zero_row}
use Rattle.promises.proofs.RowsChecked.{entries_pass}

-- n rows, one after the other, all the same
abbrev many : ℕ → List ℕ → List ℕ
many zero row = []
many (suc n) row = row ++ many n row

-- they are 128 numbers each
many_length : (n : ℕ) (row : List ℕ) → length row ≡ 128 → length (many n row) ≡ n * 128
many_length zero row l = refl
many_length (suc n) row l = omega (arith, length-append row (many n row), many_length n row l)

-- the row behind a first one
behind : (first l : List ℕ) (k : ℕ) → length first ≡ 128 → row_at (first ++ l) (suc k) ≡ row_at l k
behind first l k e =
    let next : suc k * 128 ≡ 128 + k * 128 = omega arith in
    ap (take 128) (ap (λ (a : ℕ). drop a (first ++ l)) next ∙ sym (drop-drop (k * 128) 128 (first ++ l)) ∙ ap (drop (k * 128)) (drop_at first l 128 e))

-- each of them is that row
many_row : (n k : ℕ) (row : List ℕ) → length row ≡ 128 → k < n → row_at (many n row) k ≡ row
many_row zero k row l h = absurd (not-suc-le-zero h)
many_row (suc n) zero row l h = take_at row (many n row) 128 l
many_row (suc n) (suc k) row l h = behind row (many n row) k l ∙ many_row n k row l (le_of_suc-le-suc h)

-- a first row, and 16 of another behind it
abbrev pub headed : List ℕ → List ℕ → List ℕ
headed first rest = first ++ many 16 rest

module _ (first rest : List ℕ) (long : length first ≡ 128) (same : length rest ≡ 128) where
  pub headed_length : length (headed first rest) ≡ 2176
  headed_length = omega (arith, length-append first (many 16 rest), many_length 16 rest same)

  pub headed_first : row_at (headed first rest) 0 ≡ first
  headed_first = take_at first (many 16 rest) 128 long

  pub headed_row : (k : ℕ) → suc k < 17 → row_at (headed first rest) (suc k) ≡ rest
  headed_row k h = behind first (many 16 rest) k long ∙ many_row 16 k rest same (le_of_suc-le-suc h)

  -- it passes ROW where the rows are ones that entries of their kinds write
  pub headed_passes : entry_row 0 first ≡ true → ((k : ℕ) → suc k < 17 → entry_row (suc k) rest ≡ true) → check_reply (check_rows (headed first rest)) ≡ 0 ∷ []
  headed_passes e f = entries_pass (headed first rest) headed_length each
    where
      each : (k : ℕ) → k < 17 → entry_row k (row_at (headed first rest) k) ≡ true
      each zero h = ap (entry_row 0) headed_first ∙ e
      each (suc k) h = ap (entry_row (suc k)) (headed_row k h) ∙ f k h

-- 17 rows of zeros
pub zero_rows : (k : ℕ) → k < 17 → row_at (replicate 2176 0) k ≡ zero_row
zero_rows k h = many_row 17 k zero_row refl h
