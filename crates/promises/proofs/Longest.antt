-- A header without raw takes at most 20,400 bits: each part's bits, added up.
use mathlib.Core.Path.{◌≡◌, refl, ap}
use mathlib.Core.Bool.{Bool, true, false, not, ◌&&◌, ◌||◌, cond}
use mathlib.Core.List.{List, [], ◌∷◌}
use Prim.Native.Nat.{ℕ, zero, suc, ◌+◌, ◌*◌, ◌≤◌, ◌<◌}
use native.Mathlib.Omega.{arith}
use lib.ListN.{length, get_or, set, replicate}
use lib.Dec.{lit≤, leb, eqb}
use Rattle.bitstream.specs.Bits.{read_bits}
use Rattle.bitstream.specs.Half.{barred}
use Rattle.std.specs.Prelude.{Result, Ok, Err}
use Rattle.bitstream.specs.declared.Found.{Found}
use Rattle.bitstream.specs.declared.Short as bits
use Rattle.bitstream.proofs.Laws.{value_next, value_lt}
use Rattle.params.specs.declared.read.Stop.TheVariants.{Done, Raw}
use Rattle.params.specs.declared.read.HeaderError.TheVariants.{Lent}
use Rattle.params.specs.Row.{Hand, on, short, mode, float, number_is, number, numbers, list_is, band_list, band_lists, fixed, lists, allowed, entry_is, entry}
use Rattle.promises.proofs.ByNumber.{read_done}
use Rattle.params.specs.Header.{Reading, reply_of, Outcome, gives, kind_is, after, kinds, flag_is, read_header}

-- the next bit, or 0 after a refusal
abbrev bit_of : Hand → ℕ
bit_of (on p s row) = p
bit_of (short p l) = 0
bit_of (mode p) = 0
bit_of (float p) = 0

number_bits : (b : List ℕ) (h : Hand) → bit_of (number b h) ≤ bit_of h + 16
unfolding number
number_bits b (on p s row) = go (read_bits b p 16) refl
  where
    pick : (t : Bool) (v q : ℕ) → q ≡ p + 16 → bit_of (cond t (float p) (on q (s + 1) (set row s v))) ≤ p + 16
    pick true v q e = omega arith
    pick false v q e = omega arith

    go : (r : Result Found bits.Short) → read_bits b p 16 ≡ r → bit_of (number_is p s row r) ≤ p + 16
    go (Err x) e = omega arith
    go (Ok f) e = pick (barred f.value) f.value f.next (value_next b p 16 f e)
number_bits b (short p l) = omega arith
number_bits b (mode p) = omega arith
number_bits b (float p) = omega arith

numbers_bits : (b : List ℕ) (n : ℕ) (h : Hand) → bit_of (numbers b n h) ≤ bit_of h + 16 * n
unfolding numbers
numbers_bits b zero h = omega arith
numbers_bits b (suc n) h = omega (arith, numbers_bits b n (number b h), number_bits b h)

list_bits : (b : List ℕ) (i : ℕ) (h : Hand) → bit_of (band_list b i h) ≤ bit_of h + 772
unfolding band_list
list_bits b i (on p s row) = go (read_bits b p 4) refl
  where
    go : (r : Result Found bits.Short) → read_bits b p 4 ≡ r → bit_of (list_is b i p s row r) ≤ p + 772
    go (Err x) e = omega arith
    go (Ok f) e =
        omega (arith, value_next b p 4 f e, value_lt b p 4 f e, numbers_bits b (3 * (f.value + 1)) (on f.next s (set row i (f.value + 1))))
list_bits b i (short p l) = omega arith
list_bits b i (mode p) = omega arith
list_bits b i (float p) = omega arith

lists_bits : (b : List ℕ) (n i : ℕ) (h : Hand) → bit_of (band_lists b n i h) ≤ bit_of h + 772 * n
unfolding band_lists
lists_bits b zero i h = omega arith
lists_bits b (suc n) i h = omega (arith, lists_bits b n (i + 1) (band_list b i h), list_bits b i h)

-- the kinds that modes 1 to 5 are for
abbrev pub rich : ℕ → Bool
rich kind = leb kind 3 || (eqb kind 9 || eqb kind 10)

-- they have every mode
pub rich_allowed : (kind m : ℕ) → kind < 17 → m < 8 → rich kind ≡ true → allowed kind m ≡ true
rich_allowed kind m h g e = go (leb 1 m && leb m 5)
  where
    go : (t : Bool) → not t || rich kind ≡ true
    go true = e
    go false = refl

-- how long a kind's entry can be
abbrev longest : ℕ → ℕ
longest kind = cond (rich kind) 1979 775

pub shape_bits : (kind m : ℕ) → allowed kind m ≡ true → 3 + 16 * fixed m + 772 * lists m ≤ cond (rich kind) 1979 775
shape_bits kind m = go (rich kind) m
  where
    go : (t : Bool) (m : ℕ) → not (leb 1 m && leb m 5) || t ≡ true → 3 + 16 * fixed m + 772 * lists m ≤ cond t 1979 775
    go true zero e = lit≤ tt
    go true (suc zero) e = lit≤ tt
    go true (suc (suc zero)) e = lit≤ tt
    go true (suc (suc (suc zero))) e = lit≤ tt
    go true (suc (suc (suc (suc zero)))) e = lit≤ tt
    go true (suc (suc (suc (suc (suc zero))))) e = lit≤ tt
    go true (suc (suc (suc (suc (suc (suc zero)))))) e = lit≤ tt
    go true (suc (suc (suc (suc (suc (suc (suc zero))))))) e = lit≤ tt
    go true (suc (suc (suc (suc (suc (suc (suc (suc m)))))))) e = lit≤ tt
    go false zero e = lit≤ tt
    go false (suc zero) e = let z : ◌≡◌ {A = ℕ} 0 1 = cc in omega arith
    go false (suc (suc zero)) e = let z : ◌≡◌ {A = ℕ} 0 1 = cc in omega arith
    go false (suc (suc (suc zero))) e = let z : ◌≡◌ {A = ℕ} 0 1 = cc in omega arith
    go false (suc (suc (suc (suc zero)))) e = let z : ◌≡◌ {A = ℕ} 0 1 = cc in omega arith
    go false (suc (suc (suc (suc (suc zero))))) e = let z : ◌≡◌ {A = ℕ} 0 1 = cc in omega arith
    go false (suc (suc (suc (suc (suc (suc zero)))))) e = lit≤ tt
    go false (suc (suc (suc (suc (suc (suc (suc zero))))))) e = lit≤ tt
    go false (suc (suc (suc (suc (suc (suc (suc (suc m)))))))) e = lit≤ tt

entry_bits : (b : List ℕ) (kind p : ℕ) → bit_of (entry b kind p) ≤ p + longest kind
unfolding entry
entry_bits b kind p = go (read_bits b p 3) refl
  where
    pick : (t : Bool) (m q : ℕ) → allowed kind m ≡ t → q ≡ p + 3
        → bit_of (cond t (band_lists b (lists m) 1 (numbers b (fixed m) (on q 3 (set (replicate 128 0) 0 m)))) (mode p)) ≤ p + longest kind
    pick true m q a e =
        let h = on q 3 (set (replicate 128 0) 0 m) in
        omega (arith, lists_bits b (lists m) 1 (numbers b (fixed m) h), numbers_bits b (fixed m) h, shape_bits kind m a)
    pick false m q a e = omega arith

    go : (r : Result Found bits.Short) → read_bits b p 3 ≡ r → bit_of (entry_is b kind p r) ≤ p + longest kind
    go (Err x) e = omega arith
    go (Ok f) e = pick (allowed kind f.value) f.value f.next refl (value_next b p 3 f e)

-- the next bit of a reading that is done, or 0
abbrev next_of : Reading → ℕ
next_of (Ok (Done p)) = p
next_of (Ok (Raw k p)) = 0
next_of (Err e) = 0

kind_bits : (kind : ℕ) (rows : List ℕ) (h : Hand) → next_of (kind_is kind rows h).answer ≤ bit_of h
kind_bits kind rows (on p s row) = go (eqb (get_or row 0 0) 7)
  where
    go : (t : Bool) → next_of (Ok (cond t (Raw kind p) (Done p))) ≤ p
    go true = omega arith
    go false = omega arith
kind_bits kind rows (short p l) = omega arith
kind_bits kind rows (mode p) = omega arith
kind_bits kind rows (float p) = omega arith

after_bits : (b : List ℕ) (kind : ℕ) (r : Reading) (rows : List ℕ) → next_of (after b kind r rows).answer ≤ next_of r + longest kind
after_bits b kind (Ok (Done p)) rows = omega (arith, kind_bits kind rows (entry b kind p), entry_bits b kind p)
after_bits b kind (Ok (Raw k p)) rows = omega arith
after_bits b kind (Err e) rows = omega arith

abbrev total : ℕ → ℕ → ℕ
total zero kind = 0
total (suc n) kind = longest kind + total n (kind + 1)

kinds_bits : (b : List ℕ) (n kind : ℕ) (o : Outcome) → next_of (kinds b n kind o).answer ≤ next_of o.answer + total n kind
unfolding kinds
kinds_bits b zero kind o = omega arith
kinds_bits b (suc n) kind o =
    omega (arith, kinds_bits b n (kind + 1) (after b kind o.answer o.rows), after_bits b kind o.answer o.rows)

pub longest_header : (b : List ℕ) (p q : ℕ) (rows : List ℕ) → reply_of (read_header b p 0 rows).answer ≡ 0 ∷ q ∷ [] → q ≤ p + 20400
unfolding read_header
longest_header b p q rows e = omega (arith, ap next_of (read_done (read_header b p 0 rows).answer q e), go (eqb (length rows) 2176))
  where
    pick : (t : Bool) (k : ℕ) → k ≡ p + 1
        → next_of (cond t (gives (Ok (Done k)) (set (replicate 2176 0) 126 1)) (kinds b 17 0 (gives (Ok (Done k)) rows))).answer ≤ p + 20400
    pick true k e = omega arith
    pick false k e = omega (arith, kinds_bits b 17 0 (gives (Ok (Done k)) rows))

    flag : (r : Result Found bits.Short) → read_bits b p 1 ≡ r → next_of (flag_is b p rows r).answer ≤ p + 20400
    flag (Err x) e = omega arith
    flag (Ok f) e = pick (eqb f.value 1) f.next (value_next b p 1 f e)

    go : (t : Bool) → next_of (cond t (flag_is b p rows (read_bits b p 1)) (gives (Err Lent) rows)).answer ≤ p + 20400
    go true = flag (read_bits b p 1) refl
    go false = omega arith
