-- Every description that the record's format allows is an allowed description with some arena. Assumes nothing.
use mathlib.Core.Path.{◌≡◌, refl, sym, ap, ◌∙◌, subst, subst⁻¹}
use mathlib.Core.List.{List, [], ◌∷◌}
use mathlib.Core.Bool.{Bool, true, false}
use Prim.Native.Nat.{ℕ, zero, suc, ◌+◌, ◌*◌, ◌/◌, ◌%◌, ◌≤◌, ◌<◌}
use native.Mathlib.Nat.{add-zero}
use native.Mathlib.Omega.{arith}
use native.Mathlib.Decide.{ℕ_discrete}
use borrow.Author.Tests.{eq-eqb, ne_eqb}
use lib.IntN.{ℤ, pos}
use lib.ListN.{length, get_or, set, take, drop, replicate, length-set, length-replicate}
use lib.Seq.{sets, length-sets, drop-drop}
use lib.Dec.{eqb}
use Rattle.transform.specs.Kinds.{places_of, start_of, part}
use Rattle.transform.specs.First.{before}
use Rattle.transform.proofs.FirstLaws.{before_every}
use Rattle.params.specs.Allowed.{row_at, mode_at, entry_row, flag_row, row_allowed, flag_fault, row_fault}
use Rattle.params.specs.Header.{all_default}
use Rattle.params.proofs.FaultLaws.{allowed_entry, flag_none, fault_rows}
use Rattle.record.specs.Format.{pick, seqs}
use Rattle.record.specs.Record.{header, sample_count}
use Rattle.record.specs.Rows.{Row, row_format, row_formats, all_kinds, kind_lines, rows_format}
use Rattle.record.specs.Flat.{Flat, join_rows, cut_rows, flat_of, flat_format}
use Rattle.params.specs.Raw.{is_raw}
use Rattle.params.proofs.RawLaws.{all_samples}
use Rattle.record.specs.Description.{raw_parts, describe, fits32, Each, Allowed, store_parts}
use Rattle.record.proofs.FlatLaws.{all_good, all_count, flat_rows, joined_length, small_flag}
use Rattle.promises.proofs.RecordRows.{samples_fit_lem, row_bits, row_passes}
use Rattle.promises.proofs.RowRule.{small_same}
use Rattle.record.proofs.KindStores.{ready}
use Rattle.record.proofs.OkLaws.{each_of}
use Rattle.record.proofs.SetStores.{lent_else, each_zeros, row_first}
use Rattle.promises.proofs.RecordParts.{other_part, own_part, store_long}

-- ---- lists of elements

each_set : {A : Type 0} (P : A → Type 0) (l : List A) (i : ℕ) (v : A) → P v → Each P l → Each P (set l i v)
each_set P [] i v p e = tt
each_set P (a ∷ l) zero v p e = (p, e.1)
each_set P (a ∷ l) (suc i) v p e = (e.0, each_set P l i v p e.1)

each_sets : {A : Type 0} (P : A → Type 0) (l : List A) (i : ℕ) (vs : List A) → Each P vs → Each P l → Each P (sets l i vs)
each_sets P l i [] f e = e
each_sets P l i (v ∷ vs) f e = each_sets P (set l i v) (suc i) vs f.1 (each_set P l i v f.0 e)

-- ---- lists of samples by kind

abbrev Sized : ℕ → List (List ℤ) → Type 0
Sized j vs = (i : ℕ) → length (get_or vs i []) ≤ places_of (j + i)

sized_tail : (j : ℕ) (v : List ℤ) (vs : List (List ℤ)) → Sized j (v ∷ vs) → Sized (j + 1) vs
sized_tail j v vs f i = let q : j + suc i ≡ j + 1 + i = omega arith in subst (λ (n : ℕ). length (get_or vs i []) ≤ places_of n) q (f (suc i))

sized_head : (j : ℕ) (v : List ℤ) (vs : List (List ℤ)) → Sized j (v ∷ vs) → length v ≤ places_of j
sized_head j v vs f = subst (λ (n : ℕ). length v ≤ places_of n) (add-zero j) (f 0)

store_before : (j : ℕ) (vs : List (List ℤ)) (arena : List ℤ) → length arena ≡ 394752 → Sized j vs → (k : ℕ) → k < j → part k (store_parts j vs arena) ≡ part k arena
store_before j [] arena l f k h = refl
store_before j (v ∷ vs) arena l f k h =
    store_before (j + 1) vs (sets arena (start_of j) v) (length-sets arena (start_of j) v ∙ l) (sized_tail j v vs f) k (omega arith)
    ∙ other_part arena l j v (sized_head j v vs f) k (λ e. omega arith)

store_own : (j : ℕ) (vs : List (List ℤ)) (arena : List ℤ) → length arena ≡ 394752 → Sized j vs → (i : ℕ) → i < length vs → length (get_or vs i []) ≡ places_of (j + i) → part (j + i) (store_parts j vs arena) ≡ get_or vs i []
store_own j [] arena l f i h e = absurd (omega arith)
store_own j (v ∷ vs) arena l f zero h e =
    ap (λ (k : ℕ). part k (store_parts (j + 1) vs (sets arena (start_of j) v))) (add-zero j)
    ∙ store_before (j + 1) vs (sets arena (start_of j) v) (length-sets arena (start_of j) v ∙ l) (sized_tail j v vs f) j (omega arith)
    ∙ own_part arena l j v (e ∙ ap places_of (add-zero j))
store_own j (v ∷ vs) arena l f (suc i) h e =
    let q : j + suc i ≡ j + 1 + i = omega arith in
    ap (λ (k : ℕ). part k (store_parts (j + 1) vs (sets arena (start_of j) v))) q
    ∙ store_own (j + 1) vs (sets arena (start_of j) v) (length-sets arena (start_of j) v ∙ l) (sized_tail j v vs f) i (omega arith) (e ∙ ap places_of q)

store_fits : (j : ℕ) (vs : List (List ℤ)) (arena : List ℤ) → Each (Each fits32) vs → Each fits32 arena → Each fits32 (store_parts j vs arena)
store_fits j [] arena f e = e
store_fits j (v ∷ vs) arena f e = store_fits (j + 1) vs (sets arena (start_of j) v) f.1 (each_sets fits32 arena (start_of j) v f.0 e)

-- the parts by kind are these lists
raw_lists : (rows : List ℕ) (arena : List ℤ) (vs : List (List ℤ)) (j n : ℕ) → length vs ≡ n → ((i : ℕ) → i < n → pick (is_raw rows (j + i)) (part (j + i) arena) [] ≡ get_or vs i []) → raw_parts rows arena j n ≡ vs
raw_lists rows arena [] j zero e f = refl
raw_lists rows arena (v ∷ vs) j zero e f = absurd (let q : suc (length vs) ≡ 0 = e in omega arith)
raw_lists rows arena [] j (suc n) e f = absurd (let q : 0 ≡ suc n = e in omega arith)
raw_lists rows arena (v ∷ vs) j (suc n) e f =
    let q : suc (length vs) ≡ suc n = e in
    let a : pick (is_raw rows j) (part j arena) [] ≡ v = subst (λ (k : ℕ). pick (is_raw rows k) (part k arena) [] ≡ v) (add-zero j) (f 0 (omega arith)) in
    let b : raw_parts rows arena (j + 1) n ≡ vs = raw_lists rows arena vs (j + 1) n (omega arith) (λ i h. (let p : j + suc i ≡ j + 1 + i = omega arith in subst (λ (k : ℕ). pick (is_raw rows k) (part k arena) [] ≡ get_or vs i []) p (f (suc i) (omega arith)))) in
    λ t. a t ∷ b t

-- ---- the kinds of a set

cut_length : (l : List ℕ) (vs : List (List ℤ)) → length (cut_rows l vs) ≡ length vs
cut_length l [] = refl
cut_length l (v ∷ vs) = ap suc (cut_length (drop 128 l) vs)

nth : (j n : ℕ) (l : List ℕ) (vs : List (List ℤ)) → (seqs ([], []) (row_formats j n)).Ok (cut_rows l vs) → (i : ℕ) → i < n → (row_format (j + i)).Ok (take 128 (drop (i * 128) l), get_or vs i [])
nth j zero l vs o i h = absurd (omega arith)
nth j (suc n) l [] o i h = absurd (let q : suc (length (cut_rows l [])) ≡ 0 = ap length o.1 in omega arith)
nth j (suc n) l (v ∷ vs) o zero h = subst⁻¹ (λ (k : ℕ). (row_format k).Ok (take 128 l, v)) (add-zero j) o.0.0
nth j (suc n) l (v ∷ vs) o (suc i) h =
    let p : j + suc i ≡ j + 1 + i = omega arith in
    let q : 128 + i * 128 ≡ suc i * 128 = omega arith in
    let e : drop (i * 128) (drop 128 l) ≡ drop (suc i * 128) l = drop-drop (i * 128) 128 l ∙ ap (λ (k : ℕ). drop k l) q in
    subst⁻¹ (λ (k : ℕ). (row_format k).Ok (take 128 (drop (suc i * 128) l), get_or vs i [])) p
    (subst (λ (t : List ℕ). (row_format (j + 1 + i)).Ok (take 128 t, get_or vs i [])) e (nth (j + 1) n (drop 128 l) vs o.0.1 i (omega arith)))

each_at : {A : Type 0} (P : A → Type 0) (d : A) → P d → (l : List A) → Each P l → (i : ℕ) → P (get_or l i d)
each_at P d p [] e zero = p
each_at P d p [] e (suc i) = p
each_at P d p (a ∷ l) e zero = e.0
each_at P d p (a ∷ l) e (suc i) = each_at P d p l e.1 i

few_samples : (k m : ℕ) → sample_count k m ≤ places_of k
few_samples k m = go (eqb m 7)
  where
    go : (b : Bool) → pick b (places_of k) 0 ≤ places_of k
    go true = omega arith
    go false = omega arith

empty : (v : List ℤ) → length v ≡ 0 → [] ≡ v
empty [] e = refl
empty (a ∷ v) e = absurd (let q : suc (length v) ≡ 0 = e in omega arith)

abbrev none : List ℤ
none = replicate 394752 (pos 0)

-- the kinds of a set that is not all default
module _ (rows : List ℕ) (vs : List (List ℤ)) (count : length vs ≡ 17) (long : length rows ≡ 2176) (row : (k : ℕ) → k < 17 → (row_format k).Ok (row_at rows k, get_or vs k [])) (f : get_or rows 126 0 ≡ 1 → ⊥) where
  past : (i : ℕ) → 17 ≤ i → get_or vs i [] ≡ []
  past i h = lib.ListN.get_or-eq_default vs [] (omega (arith, count))

  mode_here : (k : ℕ) → get_or (row_at rows k) 0 0 ≡ mode_at rows k
  mode_here k = row_first rows k 0 (omega arith) ∙ ap (λ (i : ℕ). get_or rows i 0) (add-zero (k * 128))

  sized : Sized 0 vs
  sized i = go (native.Mathlib.Decide.dec_lt i 17)
    where
      q : 0 + i ≡ i
      q = omega arith

      go : Dec (i < 17) → length (get_or vs i []) ≤ places_of (0 + i)
      go (yes h) = omega (arith, (ready i (row_at rows i) (get_or vs i []) (row i h)).samples, few_samples i (get_or (row_at rows i) 0 0), ap places_of q)
      go (no h) = omega (arith, ap length (past i (omega arith)))

  abbrev arena : List ℤ
  arena = store_parts 0 vs none

  parts_are : (i : ℕ) → i < 17 → pick (is_raw rows (0 + i)) (part (0 + i) (store_parts 0 vs none)) [] ≡ get_or vs i []
  parts_are i h = go (ℕ_discrete (mode_at rows i) 7)
    where
      q : 0 + i ≡ i
      q = omega arith

      s : length (get_or vs i []) ≡ sample_count i (get_or (row_at rows i) 0 0)
      s = (ready i (row_at rows i) (get_or vs i []) (row i h)).samples

      go : Dec (mode_at rows i ≡ 7) → pick (is_raw rows (0 + i)) (part (0 + i) (store_parts 0 vs none)) [] ≡ get_or vs i []
      go (yes e) =
          let m : sample_count i (get_or (row_at rows i) 0 0) ≡ places_of (0 + i) = rw (eq-eqb (get_or (row_at rows i) 0 0) 7 (mode_here i ∙ e)) (ap places_of (sym q)) in
          ap (λ (b : Bool). pick b (part (0 + i) (store_parts 0 vs none)) []) (ap (is_raw rows) q ∙ eq-eqb (mode_at rows i) 7 e)
          ∙ store_own 0 vs none (length-replicate 394752 (pos 0)) sized i (omega (arith, count)) (s ∙ m)
      go (no e) =
          let m : sample_count i (get_or (row_at rows i) 0 0) ≡ 0 = rw (ne_eqb (get_or (row_at rows i) 0 0) 7 (λ z. e (sym (mode_here i) ∙ z))) in
          ap (λ (b : Bool). pick b (part (0 + i) (store_parts 0 vs none)) []) (ap (is_raw rows) q ∙ ne_eqb (mode_at rows i) 7 e) ∙ empty (get_or vs i []) (s ∙ m)

  pub kinds_describe : describe rows (store_parts 0 vs none) ≡ (rows, vs)
  kinds_describe =
      let a : raw_parts rows (store_parts 0 vs none) 0 17 ≡ vs = raw_lists rows (store_parts 0 vs none) vs 0 17 count parts_are in
      let b : pick (eqb (get_or rows 126 0) 1) [] (raw_parts rows (store_parts 0 vs none) 0 17) ≡ vs = ap (λ (t : Bool). pick t [] (raw_parts rows (store_parts 0 vs none) 0 17)) (ne_eqb (get_or rows 126 0) 1 f) ∙ a in
      λ t. (rows, b t)

  bit : (i : ℕ) → get_or rows i 0 < 65536
  bit i = go (native.Mathlib.Decide.dec_lt i 2176)
    where
      go : Dec (i < 2176) → get_or rows i 0 < 65536
      go (yes h) =
          let k : ℕ = i / 128 in
          let j : ℕ = i % 128 in
          let q : k * 128 + j ≡ i = omega arith in
          let l : j < 128 = omega arith in
          let m : k < 17 = omega arith in
          subst (λ (t : ℕ). t < 65536) (row_first rows k j l ∙ ap (λ (x : ℕ). get_or rows x 0) q)
          (each_at (λ v. v < 65536) 0 (omega arith) (row_at rows k) (row_bits k (row_at rows k) (get_or vs k []) (row k m)) j)
      go (no h) = subst⁻¹ (λ (t : ℕ). t < 65536) (lib.ListN.get_or-eq_default rows 0 (let q : length rows ≤ i = omega (arith, long) in q)) (omega arith)

  fit : (i : ℕ) → Each fits32 (get_or vs i [])
  fit i = go (native.Mathlib.Decide.dec_lt i 17)
    where
      go : Dec (i < 17) → Each fits32 (get_or vs i [])
      go (yes h) = samples_fit_lem i (row_at rows i) (get_or vs i []) (row i h)
      go (no h) = subst⁻¹ (Each fits32) (past i (omega arith)) tt

  pub kinds_allowed : Allowed rows (store_parts 0 vs none)
  kinds_allowed = record {
    bits = each_of (λ v. v < 65536) 0 rows bit;
    fits = store_fits 0 vs none (each_of (Each fits32) [] vs fit) (each_zeros 394752);
    lent = sym (lent_else rows (store_parts 0 vs none) long true (all_samples rows (length (store_parts 0 vs none)) (store_long 0 vs none ∙ length-replicate 394752 (pos 0))));
    row = fault_rows rows (flag_none rows f) ∙ before_every (λ k. row_allowed k (row_at rows k)) 17 (λ k h. sym (allowed_entry k (row_at rows k) (omega arith) (row_passes k (row_at rows k) (get_or vs k []) (row k h))));
  }

-- ---- a whole set

-- an allowed description behind what the format allows
pub record Behind (f : Flat) : Type 0 where
  pub rows : List ℕ
  pub samples : List ℤ
  pub allowed : Allowed rows samples
  pub same : describe rows samples ≡ f

default_fault : row_fault all_default ≡ 17
unfolding row_fault flag_fault before row_allowed entry_row flag_row
default_fault = refl

default_behind : Behind (all_default, [])
default_behind = record {
  rows = all_default;
  samples = none;
  allowed = record {
    bits = each_set (λ v. v < 65536) (replicate 2176 0) 126 1 (omega arith) (small_same 2176 0 (omega arith));
    fits = each_zeros 394752;
    lent = sym (lent_else all_default none (length-set {A = ℕ} (replicate 2176 0) 126 1 ∙ length-replicate {A = ℕ} 2176 0) true (all_samples all_default (length none) (length-replicate 394752 (pos 0))));
    row = default_fault;
  };
  same = refl;
}

module _ (f : Flat) (o : flat_format.Ok f) where
  d : ℕ
  d = get_or f.0 126 0

  first : header.Ok (get_or f.0 126 0)
  unfolding flat_format rows_format
  first = o.0.0

  lines : (kind_lines (get_or f.0 126 0)).Ok (cut_rows f.0 f.1)
  unfolding flat_format rows_format
  lines = o.0.1

  flat : flat_of (get_or f.0 126 0, cut_rows f.0 f.1) ≡ f
  unfolding flat_format
  flat = o.1

  none_lines : get_or f.0 126 0 ≡ 1 → cut_rows f.0 f.1 ≡ []
  unfolding kind_lines
  none_lines e = rw (eq-eqb (get_or f.0 126 0) 1 e) at lines

  all_lines : (get_or f.0 126 0 ≡ 1 → ⊥) → all_kinds.Ok (cut_rows f.0 f.1)
  unfolding kind_lines
  all_lines e = rw (ne_eqb (get_or f.0 126 0) 1 e) at lines

  default_is : get_or f.0 126 0 ≡ 1 → (all_default, []) ≡ f
  default_is e = (λ t. flat_of (sym e t, sym (none_lines e) t)) ∙ flat

  behind_kinds : (get_or f.0 126 0 ≡ 1 → ⊥) → Behind f
  unfolding all_kinds
  behind_kinds e =
      let rs : List Row = cut_rows f.0 f.1 in
      let a : all_kinds.Ok (cut_rows f.0 f.1) = all_lines e in
      let n : length f.1 ≡ 17 = sym (cut_length f.0 f.1) ∙ all_count rs a in
      let z : get_or f.0 126 0 ≡ 0 = (let u : get_or f.0 126 0 ≤ 1 = small_flag (get_or f.0 126 0) first.0.0.0.1 in omega arith) in
      let j : f.0 ≡ join_rows rs = sym (ap (λ (g : Flat). g.0) flat) ∙ flat_rows (get_or f.0 126 0) rs z (all_good rs a) (all_count rs a) in
      let l : length f.0 ≡ 2176 = omega (arith, ap length j, joined_length (all_good rs a), all_count rs a) in
      let row : (k : ℕ) → k < 17 → (row_format k).Ok (row_at f.0 k, get_or f.1 k []) = λ k h. (let q : 0 + k ≡ k = omega arith in subst (λ (i : ℕ). (row_format i).Ok (row_at f.0 k, get_or f.1 k [])) q (nth 0 17 f.0 f.1 a k h)) in
      record { rows = f.0; samples = store_parts 0 f.1 none; allowed = kinds_allowed f.0 f.1 n l row e; same = kinds_describe f.0 f.1 n l row e }

  pub behind : Behind f
  behind = go (ℕ_discrete (get_or f.0 126 0) 1)
    where
      go : Dec (get_or f.0 126 0 ≡ 1) → Behind f
      go (yes e) = subst Behind (default_is e) default_behind
      go (no e) = behind_kinds e
