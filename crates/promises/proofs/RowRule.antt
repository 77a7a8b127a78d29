-- `entry_row` passes exactly the rows that a kind's entry is read into: what passes has fields that bits can spell, and what is read passes.
use mathlib.Core.Path.{◌≡◌, refl, sym, ap, ◌∙◌}
use mathlib.Core.Bool.{true, false}
use mathlib.Core.List.{List, [], ◌∷◌, ◌++◌}
use Prim.Native.Nat.{ℕ, zero, suc, ◌+◌, ◌-◌, ◌*◌, ◌^◌, ◌≤◌, ◌<◌}
use native.Mathlib.Omega.{arith}
use lib.ListN.{length, get_or, drop, replicate, length-append, get_or-replicate}
use lib.Seq.{get_or-append-add}
use lib.Dec.{lit<}
use Rattle.bitstream.specs.Half.{barred}
use Rattle.params.proofs.Written.{Field, bits, span, Sized, numbers_of, row_of, Written, plain, one, two}
use Rattle.params.specs.Allowed.{entry_row, row_at}
use Rattle.params.proofs.RowLaws.{shape_fits}
use Rattle.promises.proofs.Shape.{span_append, span_numbers}
use Rattle.params.proofs.AllowedLaws.{written_ok, ok_written, ok_long}
use Rattle.params.specs.Row.{on, allowed, entry}
use Rattle.record.specs.Description.{Each}
use Rattle.record.proofs.FlatLaws.{fixed_small}
use Rattle.record.proofs.OkLaws.{each_take, each_drop}
use Rattle.promises.proofs.Readable.{read_written}

-- every element is a 16-bit number, as in a slice of u16
abbrev pub Small : List ℕ → Type 0
Small = Each (λ v. v < 65536)

pub small_same : (n v : ℕ) → v < 65536 → Small (replicate n v)
small_same zero v h = tt
small_same (suc n) v h = (h, small_same n v h)

-- so a row of them
pub small_row : (rows : List ℕ) (k : ℕ) → Small rows → Small (row_at rows k)
small_row rows k s = each_take (λ v. v < 65536) 128 (drop (k * 128) rows) (each_drop (λ v. v < 65536) (k * 128) rows s)

small_left : (a x : List ℕ) → Small (a ++ x) → Small a
small_left [] x s = tt
small_left (v ∷ a) x s = (s.0, small_left a x s.1)

small_right : (a x : List ℕ) → Small (a ++ x) → Small x
small_right [] x s = s
small_right (v ∷ a) x s = small_right a x s.1

pub sized_numbers : (vs : List ℕ) → Small vs → Sized (numbers_of vs)
sized_numbers [] s = tt
sized_numbers (v ∷ vs) s = (s.0, sized_numbers vs s.1)

pub sized_append : (fs gs : List Field) → Sized fs → Sized gs → Sized (fs ++ gs)
sized_append [] gs x y = y
sized_append (f ∷ fs) gs x y = (x.0, sized_append fs gs x.1 y)

count_small : (c : ℕ) → 0 < c → c ≤ 16 → c - 1 < 16
count_small c h k = omega arith

sized : (kind m : ℕ) (row : List ℕ) (fs : List Field) → Written kind row (bits 3 m ∷ fs) → m < 8 → Small row → Sized (bits 3 m ∷ fs)
sized kind m row fs (plain m' a l o) h s = (h, sized_numbers a (small_left a _ s.1.1.1))
sized kind m row fs (one m' c a x l o f) h s =
    let t = small_left (a ++ x) _ s.1.1.1 in
    (h, sized_append (numbers_of a) _ (sized_numbers a (small_left a x t)) (count_small c f.some f.few, sized_numbers x (small_right a x t)))
sized kind m row fs (two m' c d a x y l o f g) h s =
    let t = small_left ((a ++ x) ++ y) _ s.1.1.1 in
    let u = small_left (a ++ x) y t in (
      h,
      sized_append (numbers_of a) _ (sized_numbers a (small_left a x u)) (
        count_small c f.some f.few,
        sized_append (numbers_of x) _ (sized_numbers x (small_right a x u)) (count_small d g.some g.few, sized_numbers y (small_right (a ++ x) y t)),
      ),
    )

short : (kind m : ℕ) (row : List ℕ) (fs : List Field) → Written kind row (bits 3 m ∷ fs) → 64 + span (bits 3 m ∷ fs) < 2 ^ 64
short kind m row fs (plain m' a l o) = omega (arith, span_numbers a, shape_fits m', o.count)
short kind m row fs (one m' c a x l o f) =
    omega (arith, span_append (numbers_of a) (bits 4 (c - 1) ∷ numbers_of x), span_numbers a, span_numbers x, shape_fits m', o.count, f.count, f.few)
short kind m row fs (two m' c d a x y l o f g) =
    omega (arith, span_append (numbers_of a) (bits 4 (c - 1) ∷ (numbers_of x ++ bits 4 (d - 1) ∷ numbers_of y)), span_append (numbers_of x) (bits 4 (d - 1) ∷ numbers_of y), span_numbers a, span_numbers x, span_numbers y, shape_fits m', o.count, f.count, f.few, g.count, g.few)

-- what passes has fields that bits can spell
pub ok_fields : (kind : ℕ) (row : List ℕ) → Small row → entry_row kind row ≡ true → (fs : List Field) × Written kind row fs × Sized fs × (64 + span fs < 2 ^ 64)
ok_fields kind row s e =
    let (m, fs, w, h) = ok_written kind row e in
    (bits 3 m ∷ fs, w, sized kind m row fs w h s, short kind m row fs w)

sized_ok : (kind : ℕ) (row : List ℕ) (fs : List Field) → Written kind row fs → Sized fs → entry_row kind row ≡ true
sized_ok kind row fs (plain m a l o) z = written_ok kind m _ _ (plain m a l o) z.0
sized_ok kind row fs (one m c a x l o f) z = written_ok kind m _ _ (one m c a x l o f) z.0
sized_ok kind row fs (two m c d a x y l o f g) z = written_ok kind m _ _ (two m c d a x y l o f g) z.0

-- what is read passes
pub entry_ok : (b : List ℕ) (kind p q s : ℕ) (row : List ℕ) → entry b kind p ≡ on q s row → entry_row kind row ≡ true
entry_ok b kind p q s row e =
    let w = read_written b kind p q s row e in
    sized_ok kind row w.0 w.1 w.2

-- and has 128 numbers
pub entry_long : (b : List ℕ) (kind p q s : ℕ) (row : List ℕ) → entry b kind p ≡ on q s row → length row ≡ 128
entry_long b kind p q s row e = ok_long kind row (entry_ok b kind p q s row e)

-- ---- slot 126 of a row that an entry writes is 0
behind_zero : (m c d : ℕ) (vs : List ℕ) → length vs ≤ 123 → get_or (row_of m c d vs) 126 0 ≡ 0
behind_zero m c d vs h =
    let q : length vs + (123 - length vs) ≡ 123 = omega arith in
    ap (λ (i : ℕ). get_or (vs ++ replicate (125 - length vs) 0) i 0) (sym q)
    ∙ get_or-append-add vs (replicate (125 - length vs) 0) (123 - length vs) 0
    ∙ get_or-replicate (125 - length vs) (123 - length vs) 0 0 (omega arith)

written_flag : (kind : ℕ) (row : List ℕ) (fs : List Field) → Written kind row fs → get_or row 126 0 ≡ 0
written_flag kind row fs (plain m a l o) = behind_zero m 0 0 a (omega (arith, fixed_small m, o.count))
written_flag kind row fs (one m c a x l o f) = behind_zero m c 0 (a ++ x) (omega (arith, fixed_small m, length-append a x, o.count, f.count, f.few))
written_flag kind row fs (two m c d a x y l o f g) =
    behind_zero m c d ((a ++ x) ++ y) (omega (arith, fixed_small m, length-append (a ++ x) y, length-append a x, o.count, f.count, f.few, g.count, g.few))

pub entry_flag : (kind : ℕ) (row : List ℕ) → entry_row kind row ≡ true → get_or row 126 0 ≡ 0
entry_flag kind row e = let (m, fs, w, h) = ok_written kind row e in written_flag kind row (bits 3 m ∷ fs) w

-- ---- rows of modes that every kind has
-- modes 0, 6 and 7 are for every kind
pub modes_open : (kind : ℕ) → kind < 17 → (allowed kind 0 ≡ true) × (allowed kind 6 ≡ true) × (allowed kind 7 ≡ true)
modes_open kind h = (refl, refl, refl)

-- a row of zeros: an entry of mode 0 writes it
abbrev pub zero_row : List ℕ
zero_row = replicate 128 0

pub zero_written : (kind : ℕ) → kind < 17 → Written kind zero_row (bits 3 0 ∷ [])
zero_written kind h = plain 0 [] refl (record { allows = (modes_open kind h).0; count = refl; fine = tt })

pub zero_entry : (kind : ℕ) → kind < 17 → entry_row kind zero_row ≡ true
zero_entry kind h = written_ok kind 0 zero_row [] (zero_written kind h) (lit< tt)

-- a raw row of a denominator that reading lets pass
abbrev pub raw_row : ℕ → List ℕ
raw_row d = 7 ∷ 0 ∷ 0 ∷ d ∷ replicate 124 0

pub raw_entry : (kind d : ℕ) → kind < 17 → barred d ≡ false → entry_row kind (raw_row d) ≡ true
raw_entry kind d h e = written_ok kind 7 (raw_row d) (numbers_of (d ∷ [])) (plain 7 (d ∷ []) refl (record { allows = (modes_open kind h).2; count = refl; fine = (e, tt) })) (lit< tt)
