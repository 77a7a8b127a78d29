-- An allowed description is one that the record's format writes. Assumes nothing.
use mathlib.Core.Path.{◌≡◌, refl, sym, ap, ◌∙◌, subst⁻¹}
use mathlib.Core.List.{List, [], ◌∷◌, ◌++◌}
use mathlib.Core.Bool.{Bool, true, false}
use Prim.Native.Nat.{ℕ, zero, suc, ◌+◌, ◌*◌, ◌-◌, ◌≤◌, ◌<◌}
use native.Mathlib.Omega.{arith}
use native.Mathlib.Decide.{ℕ_discrete}
use borrow.Author.Tests.{eq-eqb, ne_eqb, lt-ltb, le-leb}
use lib.IntN.{ℤ}
use lib.ListN.{length, get_or, set, take, drop, replicate}
use lib.Seq.{take_all, take-add, drop-drop}
use Rattle.transform.specs.Kinds.{places_of, start_of, part}
use Rattle.params.specs.Allowed.{row_at}
use Rattle.record.specs.Format.{pick, seqs}
use Rattle.record.specs.Record.{header}
use Rattle.record.specs.Rows.{Row, row_format, row_formats, all_kinds, kind_lines, rows_format}
use Rattle.record.specs.Flat.{join_rows, samples_of, cut_rows, flat_of, flat_format}
use Rattle.params.specs.Raw.{is_raw}
use Rattle.record.specs.Description.{raw_parts, describe, fits32, Each, Allowed}
use Rattle.record.specs.Stored.{Checked}
use Rattle.record.proofs.FlatLaws.{all_good, all_count, flat_rows}
use Rattle.record.proofs.OkLaws.{each_take, each_drop}
use Rattle.record.proofs.SetStores.{lent_rows, flag_small, kind_ok, part_count}
use Rattle.promises.proofs.RecordDefaults.{rows_default}

flag_ok : (d : ℕ) → d < 2 → header.Ok d
flag_ok d h =
    let q : 48 + d - 48 ≡ d = omega arith in
    (((((tt, (rw (q, le-leb 48 (48 + d) (omega arith), lt-ltb (48 + d) 58 (omega arith), le-leb d 1 (omega arith)) tt, q)), refl), tt), refl))

join_cut : (l : List ℕ) (vs : List (List ℤ)) → join_rows (cut_rows l vs) ≡ take (length vs * 128) l
join_cut l [] = refl
join_cut l (v ∷ vs) =
    let q : 128 + length vs * 128 ≡ suc (length vs) * 128 = omega arith in
    ap (λ (t : List ℕ). take 128 l ++ t) (join_cut (drop 128 l) vs) ∙ sym (take-add 128 (length vs * 128) l) ∙ ap (λ (i : ℕ). take i l) q

samples_cut : (l : List ℕ) (vs : List (List ℤ)) → samples_of (cut_rows l vs) ≡ vs
samples_cut l [] = refl
samples_cut l (v ∷ vs) = ap {B = List (List ℤ)} (λ (t : List (List ℤ)). v ∷ t) (samples_cut (drop 128 l) vs)

parts_count : (rows : List ℕ) (samples : List ℤ) (k n : ℕ) → length (raw_parts rows samples k n) ≡ n
parts_count rows samples k zero = refl
parts_count rows samples k (suc n) = ap suc (parts_count rows samples (k + 1) n)

module _ (rows : List ℕ) (samples : List ℤ) (a : Allowed rows samples) where
  pub checked_of : Checked rows samples
  checked_of = record { bits = a.bits; lent = a.lent; row = a.row }

  fits_part : (k : ℕ) (b : Bool) → Each fits32 (pick b (part k samples) [])
  fits_part k true = each_take fits32 (places_of k) (drop (start_of k) samples) (each_drop fits32 (start_of k) samples a.fits)
  fits_part k false = tt

  module _ (f : get_or rows 126 0 ≡ 1 → ⊥) where
    kind_here : (k : ℕ) → k < 17 → (row_format k).Ok (row_at rows k, pick (is_raw rows k) (part k samples) [])
    kind_here k h = kind_ok rows samples checked_of f k h (pick (is_raw rows k) (part k samples) []) (part_count rows samples checked_of f k h) (fits_part k (is_raw rows k))

    kinds_seq : (k n : ℕ) → k + n ≤ 17 → (seqs ([], []) (row_formats k n)).Ok (cut_rows (drop (k * 128) rows) (raw_parts rows samples k n))
    kinds_seq k zero h = refl
    kinds_seq k (suc n) h =
        let q : k * 128 + 128 ≡ (k + 1) * 128 = omega arith in (
          (
            kind_here k (omega arith),
            subst⁻¹ (λ (l : List ℕ). (seqs ([], []) (row_formats (k + 1) n)).Ok (cut_rows l (raw_parts rows samples (k + 1) n))) (drop-drop 128 (k * 128) rows ∙ ap (λ (i : ℕ). drop i rows) q) (kinds_seq (k + 1) n (omega arith)),
          ),
          refl,
        )

    all_ok : all_kinds.Ok (cut_rows rows (raw_parts rows samples 0 17))
    unfolding all_kinds
    all_ok = kinds_seq 0 17 (omega arith)

    zero_flag : get_or rows 126 0 ≡ 0
    zero_flag = let q : get_or rows 126 0 < 2 = flag_small rows samples checked_of in omega arith

    back : flat_of (get_or rows 126 0, cut_rows rows (raw_parts rows samples 0 17)) ≡ (rows, raw_parts rows samples 0 17)
    back =
        let rs : List Row = cut_rows rows (raw_parts rows samples 0 17) in
        let n : length (raw_parts rows samples 0 17) * 128 ≡ 2176 = ap (λ (i : ℕ). i * 128) (parts_count rows samples 0 17) in
        let long : length rows ≡ 2176 = lent_rows rows samples a.lent in
        let x : (flat_of (get_or rows 126 0, rs)).0 ≡ rows =
        flat_rows (get_or rows 126 0) rs zero_flag (all_good rs all_ok) (all_count rs all_ok) ∙ join_cut rows (raw_parts rows samples 0 17) ∙ take_all (length (raw_parts rows samples 0 17) * 128) rows (omega (arith, n, long)) in
        λ i. (x i, samples_cut rows (raw_parts rows samples 0 17) i)

    pub kinds_ok : flat_format.Ok (describe rows samples)
    unfolding flat_format rows_format kind_lines
    kinds_ok = rw (ne_eqb (get_or rows 126 0) 1 f) ((flag_ok (get_or rows 126 0) (flag_small rows samples checked_of), all_ok), back)

  pub default_ok : get_or rows 126 0 ≡ 1 → flat_format.Ok (describe rows samples)
  unfolding flat_format rows_format kind_lines
  default_ok e = rw (eq-eqb (get_or rows 126 0) 1 e) ((flag_ok (get_or rows 126 0) (omega (arith, e)), refl), λ i. (same i, []))
    where
      same : (flat_of (get_or rows 126 0, [])).0 ≡ rows
      same = ap (set (replicate 2176 0) 126) e ∙ sym (rows_default rows samples (record { bits = a.bits; lent = a.lent; row = a.row }) e)

  -- every allowed description has a record
  pub allowed_ok : flat_format.Ok (describe rows samples)
  allowed_ok = go (ℕ_discrete (get_or rows 126 0) 1)
    where
      go : Dec (get_or rows 126 0 ≡ 1) → flat_format.Ok (describe rows samples)
      go (yes e) = default_ok e
      go (no e) = kinds_ok e
