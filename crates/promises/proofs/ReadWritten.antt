-- A kind's entry is read exactly where a written row's fields are spelt: both ways.
use mathlib.Core.Path.{◌≡◌, refl, sym, ap, ◌∙◌, subst}
use mathlib.Core.Bool.{Bool, true, false, cond}
use mathlib.Core.List.{List, [], ◌∷◌, ◌++◌}
use Prim.Native.Nat.{ℕ, zero, suc, ◌+◌, ◌-◌, ◌*◌, ◌≤◌}
use native.Mathlib.Omega.{arith}
use lib.ListN.{length, set, replicate, length-append}
use Rattle.bitstream.specs.Bits.{found, read_bits}
use Rattle.std.specs.Prelude.{Result, Ok, Err}
use Rattle.bitstream.specs.declared.Found.{Found}
use Rattle.bitstream.specs.declared.Short.{Short}
use Rattle.bitstream.proofs.Laws.{value_next}
use Rattle.params.specs.Row.{Hand, on, short, mode, float, numbers, band_list, band_lists, fixed, lists, allowed, entry_is, entry}
use Rattle.params.proofs.Written.{Field, bits, span, Spells, numbers_of, Written, plain, one, two}
use Rattle.params.proofs.RowLaws.{shape_fits, entry_on}
use Rattle.promises.proofs.Shape.{shaped, numbers_found, numbers_spelt, list_found, list_spelt, list_inner, spells_append, spells_left, spells_right, span_append, span_numbers}

-- what a reading that is not refused has read
pub record Read (b : List ℕ) (kind p q : ℕ) (row : List ℕ) : Type 0 where
  pub fields : List Field
  pub written : Written kind row fields
  pub spelt : Spells b p fields
  pub ends : q ≡ p + span fields

abbrev bit_of : Hand → ℕ
bit_of (on p s row) = p
bit_of (short p l) = 0
bit_of (mode p) = 0
bit_of (float p) = 0

abbrev row_in : Hand → List ℕ
row_in (on p s row) = row
row_in (short p l) = []
row_in (mode p) = []
row_in (float p) = []

-- the bits of a row with one list, and with two
span_one : (c : ℕ) (a x : List ℕ) → span (numbers_of a ++ bits 4 (c - 1) ∷ numbers_of x) ≡ 16 * length a + (4 + 16 * length x)
span_one c a x = omega (arith, span_append (numbers_of a) (bits 4 (c - 1) ∷ numbers_of x), span_numbers a, span_numbers x)

span_two : (c d : ℕ) (a x y : List ℕ)
    → span (numbers_of a ++ bits 4 (c - 1) ∷ (numbers_of x ++ bits 4 (d - 1) ∷ numbers_of y)) ≡ 16 * length a + (4 + (16 * length x + (4 + 16 * length y)))
span_two c d a x y =
    omega (arith, span_append (numbers_of a) (bits 4 (c - 1) ∷ (numbers_of x ++ bits 4 (d - 1) ∷ numbers_of y)), span_numbers a, span_one d x y)

sums : (p n c d la lx ly t : ℕ) → la ≡ n → lx ≡ 3 * c → ly ≡ 3 * d → t ≡ 16 * la + (4 + (16 * lx + (4 + 16 * ly)))
    → p + 3 + 16 * n + 4 + 16 * (3 * c) + 4 + 16 * (3 * d) ≡ p + (3 + t)
sums p n c d la lx ly t e f g h = omega arith

module _ (b : List ℕ) (kind p m : ℕ) (allow : allowed kind m ≡ true) (r : read_bits b p 3 ≡ found m (p + 3)) where
  abbrev start : Hand
  start = shaped (p + 3) m 0 0 []

  -- no band list
  plain_read : (q s : ℕ) (row : List ℕ) → lists m ≡ 0 → numbers b (fixed m) start ≡ on q s row → Read b kind p q row
  plain_read q s row l e =
      let o = numbers_found b (fixed m) (p + 3) m 0 0 [] q s row (omega (arith, shape_fits m)) e in
      record {
        fields = bits 3 m ∷ numbers_of o.vs;
        written = subst (λ (x : List ℕ). Written kind x (bits 3 m ∷ numbers_of o.vs)) (sym (ap row_in o.is)) (plain m o.vs l (record { allows = allow; count = o.count; fine = o.fine }));
        spelt = (r, o.spelt);
        ends = ap bit_of o.is ∙ omega (arith, span_numbers o.vs, o.count);
      }

  -- one band list
  one_read : (q s : ℕ) (row : List ℕ) → lists m ≡ 1 → band_list b 1 (numbers b (fixed m) start) ≡ on q s row → Read b kind p q row
  one_read q s row l e =
      let (p1, s1, row1, e1) = list_inner b 1 (numbers b (fixed m) start) q s row e in
      let o = numbers_found b (fixed m) (p + 3) m 0 0 [] p1 s1 row1 (omega (arith, shape_fits m)) e1 in
      let k = p + 3 + 16 * fixed m in
      let f = list_found b 1 k m 0 0 o.vs (λ n. n) (λ n. 0) (λ n. refl) (omega (arith, shape_fits m, o.count)) q s row (ap (band_list b 1) (sym (e1 ∙ o.is)) ∙ e) in
      let at : k ≡ p + 3 + span (numbers_of o.vs) = omega (arith, span_numbers o.vs, o.count) in
      record {
        fields = bits 3 m ∷ (numbers_of o.vs ++ bits 4 (f.cnt - 1) ∷ numbers_of f.vs);
        written = subst (λ (x : List ℕ). Written kind x (bits 3 m ∷ (numbers_of o.vs ++ bits 4 (f.cnt - 1) ∷ numbers_of f.vs))) (sym (ap row_in f.is))
            (one m f.cnt o.vs f.vs l (record { allows = allow; count = o.count; fine = o.fine }) f.bands);
        spelt = (r, spells_append b (p + 3) (numbers_of o.vs) (bits 4 (f.cnt - 1) ∷ numbers_of f.vs) o.spelt (subst (λ (z : ℕ). Spells b z (bits 4 (f.cnt - 1) ∷ numbers_of f.vs)) at f.spelt));
        ends = ap bit_of f.is
            ∙ omega (arith, span_append (numbers_of o.vs) (bits 4 (f.cnt - 1) ∷ numbers_of f.vs), span_numbers o.vs, span_numbers f.vs, o.count, f.bands.count);
      }

  -- two band lists
  two_read : (q s : ℕ) (row : List ℕ) → lists m ≡ 2 → band_list b 2 (band_list b 1 (numbers b (fixed m) start)) ≡ on q s row → Read b kind p q row
  two_read q s row l e =
      let (p2, s2, row2, e2) = list_inner b 2 (band_list b 1 (numbers b (fixed m) start)) q s row e in
      let (p1, s1, row1, e1) = list_inner b 1 (numbers b (fixed m) start) p2 s2 row2 e2 in
      let o = numbers_found b (fixed m) (p + 3) m 0 0 [] p1 s1 row1 (omega (arith, shape_fits m)) e1 in
      let k = p + 3 + 16 * fixed m in
      let f = list_found b 1 k m 0 0 o.vs (λ n. n) (λ n. 0) (λ n. refl) (omega (arith, shape_fits m, o.count)) p2 s2 row2 (ap (band_list b 1) (sym (e1 ∙ o.is)) ∙ e2) in
      let j = k + 4 + 16 * (3 * f.cnt) in
      let room : length (o.vs ++ f.vs) + 48 ≤ 125 = rw (length-append o.vs f.vs) (omega (arith, shape_fits m, o.count, f.bands.count, f.bands.few)) in
      let g = list_found b 2 j m f.cnt 0 (o.vs ++ f.vs) (λ n. f.cnt) (λ n. n) (λ n. refl) room q s row (ap (band_list b 2) (sym (e2 ∙ f.is)) ∙ e) in
      let ys : List Field = bits 4 (g.cnt - 1) ∷ numbers_of g.vs in
      let xs : List Field = bits 4 (f.cnt - 1) ∷ numbers_of f.vs in
      let at : k ≡ p + 3 + span (numbers_of o.vs) = omega (arith, span_numbers o.vs, o.count) in
      let on' : j ≡ k + span xs = omega (arith, span_numbers f.vs, f.bands.count) in
      let both : Spells b k (xs ++ ys) = spells_append b k xs ys f.spelt (subst (λ (z : ℕ). Spells b z ys) on' g.spelt) in
      record {
        fields = bits 3 m ∷ (numbers_of o.vs ++ (xs ++ ys));
        written = subst (λ (x : List ℕ). Written kind x (bits 3 m ∷ (numbers_of o.vs ++ (xs ++ ys)))) (sym (ap row_in g.is))
            (two m f.cnt g.cnt o.vs f.vs g.vs l (record { allows = allow; count = o.count; fine = o.fine }) f.bands g.bands);
        spelt = (r, spells_append b (p + 3) (numbers_of o.vs) (xs ++ ys) o.spelt (subst (λ (z : ℕ). Spells b z (xs ++ ys)) at both));
        ends = ap bit_of g.is
            ∙ sums p (fixed m) f.cnt g.cnt (length o.vs) (length f.vs) (length g.vs) _ o.count f.bands.count g.bands.count
            (span_two f.cnt g.cnt o.vs f.vs g.vs);
      }

  lists_read : (n q s : ℕ) (row : List ℕ) → lists m ≡ n → band_lists b n 1 (numbers b (fixed m) start) ≡ on q s row → Read b kind p q row
  unfolding band_lists
  lists_read zero q s row l e = plain_read q s row l e
  lists_read (suc zero) q s row l e = one_read q s row l e
  lists_read (suc (suc zero)) q s row l e = two_read q s row l e
  lists_read (suc (suc (suc n))) q s row l e = absurd (omega (arith, shape_fits m))

-- what is read was spelt
pub entry_read : (b : List ℕ) (kind p q s : ℕ) (row : List ℕ) → entry b kind p ≡ on q s row → Read b kind p q row
unfolding entry
entry_read b kind p q s row e = go (read_bits b p 3) refl e
  where
    pick : (t : Bool) (m k : ℕ) → allowed kind m ≡ t → read_bits b p 3 ≡ found m k
        → cond t (band_lists b (lists m) 1 (numbers b (fixed m) (on k 3 (set (replicate 128 0) 0 m)))) (mode p) ≡ on q s row → Read b kind p q row
    pick true m k a r g =
        let next : k ≡ p + 3 = value_next b p 3 _ r in
        lists_read b kind p m a (rw next at r) (lists m) q s row refl (subst (λ (z : ℕ). band_lists b (lists m) 1 (numbers b (fixed m) (on z 3 (set (replicate 128 0) 0 m))) ≡ on q s row) next g)
    pick false m k a r g = let z : ◌≡◌ {A = ℕ} 0 1 = cc in absurd (omega arith)

    go : (r : Result Found Short) → read_bits b p 3 ≡ r → entry_is b kind p r ≡ on q s row → Read b kind p q row
    go (Err x) r g = let z : ◌≡◌ {A = ℕ} 0 1 = cc in absurd (omega arith)
    go (Ok f) r g = pick (allowed kind f.value) f.value f.next refl r g

-- what is spelt is read
pub entry_spelt : (b : List ℕ) (kind p : ℕ) (row : List ℕ) (fs : List Field) → Written kind row fs → Spells b p fs
    → (s : ℕ) × (entry b kind p ≡ on (p + span fs) s row)
unfolding band_lists
entry_spelt b kind p row fs (plain m a l o) w = (
  3 + length a,
  entry_on b kind p _ w.0 o.allows
      ∙ ap (λ (n : ℕ). band_lists b n 1 (numbers b (fixed m) (shaped (p + 3) m 0 0 []))) l
      ∙ ap (λ (n : ℕ). numbers b n (shaped (p + 3) m 0 0 [])) (sym o.count)
      ∙ numbers_spelt b a (p + 3) m 0 0 [] (omega (arith, shape_fits m, o.count)) o.fine w.1
      ∙ ap (λ (z : ℕ). shaped z m 0 0 a) (omega (arith, span_numbers a)),
)
entry_spelt b kind p row fs (one m c a x l o f) w =
    let k = p + 3 + 16 * length a in
    let at : p + 3 + span (numbers_of a) ≡ k = omega (arith, span_numbers a) in
    let xs : List Field = bits 4 (c - 1) ∷ numbers_of x in
    let rest : Spells b k xs = subst (λ (z : ℕ). Spells b z xs) at (spells_right b (p + 3) (numbers_of a) xs w.1) in (
      3 + length (a ++ x),
      entry_on b kind p _ w.0 o.allows
          ∙ ap (λ (n : ℕ). band_lists b n 1 (numbers b (fixed m) (shaped (p + 3) m 0 0 []))) l
          ∙ ap (λ (n : ℕ). band_list b 1 (numbers b n (shaped (p + 3) m 0 0 []))) (sym o.count)
          ∙ ap (band_list b 1) (numbers_spelt b a (p + 3) m 0 0 [] (omega (arith, shape_fits m, o.count)) o.fine (spells_left b (p + 3) (numbers_of a) xs w.1))
          ∙ list_spelt b 1 k m 0 0 a (λ n. n) (λ n. 0) (λ n. refl) (omega (arith, shape_fits m, o.count)) c x f rest
          ∙ ap (λ (z : ℕ). shaped z m c 0 (a ++ x)) (omega (arith, span_one c a x, f.count)),
    )
entry_spelt b kind p row fs (two m c d a x y l o f g) w =
    let k = p + 3 + 16 * length a in
    let at : p + 3 + span (numbers_of a) ≡ k = omega (arith, span_numbers a) in
    let ys : List Field = bits 4 (d - 1) ∷ numbers_of y in
    let xs : List Field = bits 4 (c - 1) ∷ numbers_of x in
    let rest : Spells b k (xs ++ ys) = subst (λ (z : ℕ). Spells b z (xs ++ ys)) at (spells_right b (p + 3) (numbers_of a) (xs ++ ys) w.1) in
    let j = k + 4 + 16 * (3 * c) in
    let on' : k + span xs ≡ j = omega (arith, span_numbers x, f.count) in
    let last : Spells b j ys = subst (λ (z : ℕ). Spells b z ys) on' (spells_right b k xs ys rest) in
    let room : length (a ++ x) + 48 ≤ 125 = rw length-append (omega (arith, shape_fits m, o.count, f.count, f.few)) in (
      3 + length ((a ++ x) ++ y),
      entry_on b kind p _ w.0 o.allows
          ∙ ap (λ (n : ℕ). band_lists b n 1 (numbers b (fixed m) (shaped (p + 3) m 0 0 []))) l
          ∙ ap (λ (n : ℕ). band_list b 2 (band_list b 1 (numbers b n (shaped (p + 3) m 0 0 [])))) (sym o.count)
          ∙ ap (λ (h : Hand). band_list b 2 (band_list b 1 h)) (numbers_spelt b a (p + 3) m 0 0 [] (omega (arith, shape_fits m, o.count)) o.fine (spells_left b (p + 3) (numbers_of a) (xs ++ ys) w.1))
          ∙ ap (band_list b 2) (list_spelt b 1 k m 0 0 a (λ n. n) (λ n. 0) (λ n. refl) (omega (arith, shape_fits m, o.count)) c x f (spells_left b k xs ys rest))
          ∙ list_spelt b 2 j m c 0 (a ++ x) (λ n. c) (λ n. n) (λ n. refl) room d y g last
          ∙ ap (λ (z : ℕ). shaped z m c d ((a ++ x) ++ y)) (sums p (length a) c d (length a) (length x) (length y) _ refl f.count g.count (span_two c d a x y)),
    )
