-- A row written into a set: it stands there, and the rows before it and behind it stay. Assumes nothing.
use mathlib.Core.Path.{◌≡◌, sym, ap, ◌∙◌}
use mathlib.Core.List.{List, ◌++◌, append_assoc}
use Prim.Native.Nat.{ℕ, ◌+◌, ◌-◌, ◌*◌, ◌≤◌, ◌<◌}
use native.Mathlib.Omega.{arith}
use lib.ListN.{length, take, drop, length-drop, take-append-drop}
use lib.Seq.{length-paste, drop-paste, length-take-le, take-append-le, drop-append-le, drop-drop, take_at, drop_at, take_all}
use Rattle.params.specs.Header.{put_row}
use Rattle.params.specs.Allowed.{row_at}

-- a row lies in a list's beginning
row_front : (a b : List ℕ) (k : ℕ) → k * 128 + 128 ≤ length a → row_at (a ++ b) k ≡ row_at a k
row_front a b k h =
    ap (take 128) (drop-append-le (k * 128) a b (omega arith))
    ∙ take-append-le 128 (drop (k * 128) a) b (omega (arith, length-drop (k * 128) a))

module _ (rows row : List ℕ) (long : length row ≡ 128) (j : ℕ) (fits : j * 128 + 128 ≤ length rows) where
  spread : put_row rows j row ≡ take (j * 128) rows ++ (take 128 row ++ drop (j * 128 + 128) rows)
  spread = append_assoc (take (j * 128) rows) (take 128 row) (drop (j * 128 + 128) rows)

  -- what is written is there
  pub put_same : row_at (put_row rows j row) j ≡ row
  put_same =
      ap (λ (l : List ℕ). row_at l j) spread
      ∙ ap (take 128) (drop_at (take (j * 128) rows) (take 128 row ++ drop (j * 128 + 128) rows) (j * 128) (length-take-le (j * 128) rows (omega arith)))
      ∙ take_at (take 128 row) (drop (j * 128 + 128) rows) 128 (length-take-le 128 row (omega arith))
      ∙ take_all 128 row (omega arith)

  -- the rows before it stay
  pub put_other : (k : ℕ) → k < j → row_at (put_row rows j row) k ≡ row_at rows k
  put_other k h =
      let front : k * 128 + 128 ≤ length (take (j * 128) rows) = omega (arith, length-take-le (j * 128) rows (omega arith)) in
      ap (λ (l : List ℕ). row_at l k) spread
      ∙ row_front (take (j * 128) rows) (take 128 row ++ drop (j * 128 + 128) rows) k front
      ∙ sym (row_front (take (j * 128) rows) (drop (j * 128) rows) k front)
      ∙ ap (λ (l : List ℕ). row_at l k) (take-append-drop (j * 128) rows)

  -- and those behind it
  pub put_behind : (k : ℕ) → j < k → row_at (put_row rows j row) k ≡ row_at rows k
  put_behind k h =
      let n : ℕ = k * 128 - (j * 128 + 128) in
      let z : j * 128 + 128 + n ≡ k * 128 = omega arith in
      ap (λ (i : ℕ). take 128 (drop i (put_row rows j row))) (sym z)
      ∙ ap (take 128) (sym (drop-drop n (j * 128 + 128) (put_row rows j row)) ∙ ap (drop n) (drop-paste rows (j * 128) row 128 (omega arith) (omega arith)) ∙ drop-drop n (j * 128 + 128) rows)
      ∙ ap (λ (i : ℕ). take 128 (drop i rows)) z

  pub put_long : length (put_row rows j row) ≡ length rows
  put_long = length-paste rows (j * 128) row 128 fits (omega arith)
