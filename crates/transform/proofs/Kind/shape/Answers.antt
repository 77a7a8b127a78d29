-- `Kind::shape` meets its contract: the table's columns are the widths and the heights, and the running sums, by one computed test; past it there is nothing. Assumes nothing.
use mathlib.Core.Path.{◌≡◌, sym, ap, ◌∙◌}
use mathlib.Core.Logic.{⊎_elim}
use mathlib.Core.Bool.{Bool}
use mathlib.Core.List.{List, map}
use Prim.Native.Nat.{ℕ, ◌≤◌, ◌<◌}
use lib.Dec.{eqb, eqb→eq}
use lib.ListN.{get_or, get_or-map, get_or-eq_default}
use borrow.Author.Rules.{rules}
use Rattle.std.proofs.lemmas.List.{get_or_default}
use Rattle.transform.specs.declared.Shape.{Shape}
use Rattle.transform.specs.declared.TheConstants.{SHAPES}
use Rattle.transform.specs.Kinds.{width_of, height_of, start_of}
use Rattle.transform.proofs.Laws.{at, side, total}
use Rattle.transform.proofs.Kind.shape.Goals as goal

abbrev pub starts : List ℕ
starts = map (λ (r : ℕ × ℕ × ℕ). r.2) SHAPES

right : ℕ → Bool
right k = eqb (get_or starts k 0) (start_of k)

-- the table's starts are the running sums
pub starts_sum : (k : ℕ) → k < 17 → get_or starts k 0 ≡ start_of k
unfolding right start_of
starts_sum k h = eqb→eq _ _ (at right 17 tt k h)

-- what stands past the table
abbrev past : ℕ × ℕ × ℕ
past = (0, 0, 394752)

-- a row of it
abbrev row : ℕ → ℕ × ℕ × ℕ
row k = get_or SHAPES k past

row_width : (k : ℕ) → (row k).0 ≡ width_of k
unfolding width_of
row_width k = sym (get_or-map (λ (r : ℕ × ℕ × ℕ). r.0) SHAPES k past)

row_height : (k : ℕ) → (row k).1 ≡ height_of k
unfolding height_of
row_height k = sym (get_or-map (λ (r : ℕ × ℕ × ℕ). r.1) SHAPES k past)

row_start : (k : ℕ) → (row k).2 ≡ start_of k
row_start k =
    ⊎_elim
    (λ (l : k < 17). sym (get_or-map (λ (r : ℕ × ℕ × ℕ). r.2) SHAPES k past) ∙ get_or_default starts k 394752 0 l ∙ starts_sum k l)
    (λ (l : 17 ≤ k). ap (λ (r : ℕ × ℕ × ℕ). r.2) (get_or-eq_default SHAPES past l) ∙ sym (total k l))
    (side k 17)

made : (r : ℕ × ℕ × ℕ) (w h s : ℕ) → r.0 ≡ w → r.1 ≡ h → r.2 ≡ s → ◌≡◌ {A = Shape} (record { width = r.0; height = r.1; start = r.2 }) (record { width = w; height = h; start = s })
made r w h s a b c = rw (a, b, c)

pub returns : goal.returns
returns c =
    let k = c.args.self.no in
    let e : c.unwrap_or-width.result ≡ row k = search rules in
    rw e (made (row k) (width_of k) (height_of k) (start_of k) (row_width k) (row_height k) (row_start k))
