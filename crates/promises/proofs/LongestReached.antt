-- The bound of `longest-header` is reached: 17 entries with as many numbers as their kinds allow, all 0, take 20,400 bits with the flag.
use mathlib.Core.Path.{◌≡◌, refl, sym, ap, ◌∙◌, subst}
use mathlib.Core.Bool.{Bool, true, false, cond}
use mathlib.Core.List.{List, [], ◌∷◌, ◌++◌}
use Prim.Native.Nat.{ℕ, zero, suc, ◌+◌, ◌*◌, ◌^◌, ◌≤◌, ◌<◌}
use native.Mathlib.Omega.{arith}
use lib.ListN.{length, get_or, replicate}
use lib.Dec.{T, eqb, lit≤}
use lib.Pow.{are_bytes}
use Rattle.bitstream.proofs.Bytes.{bytes_of, length_bytes_of, bytes_of_bytes}
use Rattle.std.specs.Prelude.{Ok}
use Rattle.params.specs.declared.read.Stop.TheVariants.{Done, Raw}
use Rattle.params.specs.Header.{Reading, reply_of, Outcome, gives, put_row, kind_is, after, kinds, read_header}
use Rattle.params.proofs.Written.{Field, bits, span, Spells, Sized, numbers_of, Fine, row_of, Bands, Written, one, two}
use Rattle.promises.proofs.Shape.{spells_left, spells_right, span_append}
use Rattle.params.proofs.SetLaws.{header_all}
use Rattle.promises.proofs.Longest.{rich, rich_allowed}
use Rattle.promises.proofs.ReadWritten.{entry_spelt}
use Rattle.promises.proofs.Readable.{number_of, spelt}
use Rattle.promises.proofs.RowRule.{small_same, modes_open, sized_numbers, sized_append}

-- ---- a header whose entries are all written rows, none raw, is read to its end

-- read to its end, with the next bit
abbrev ended : ℕ → Reading
ended p = Ok (Done p)

-- the fields of n kinds, from one on
abbrev pub fields_from : (ℕ → List Field) → ℕ → ℕ → List Field
fields_from f zero kind = []
fields_from f (suc n) kind = f kind ++ fields_from f n (kind + 1)

module _ (b : List ℕ) (row : ℕ → List ℕ) (f : ℕ → List Field) (w : (kind : ℕ) → kind < 17 → Written kind (row kind) (f kind)) (plain' : (kind : ℕ) → eqb (get_or (row kind) 0 0) 7 ≡ false) where
  pub kinds_spelt : (n kind p : ℕ) (rows : List ℕ) → kind + n ≤ 17 → Spells b p (fields_from f n kind) → (kinds b n kind (gives (ended p) rows)).answer ≡ ended (p + span (fields_from f n kind))
  unfolding kinds
  kinds_spelt zero kind p rows h s = ap ended (omega arith)
  kinds_spelt (suc n) kind p rows h s =
      let e = entry_spelt b kind p (row kind) (f kind) (w kind (omega arith)) (spells_left b p (f kind) (fields_from f n (kind + 1)) s) in
      let q = p + span (f kind) in
      let is : after b kind (ended p) rows ≡ gives (ended q) (put_row rows kind (row kind)) =
      ap (kind_is kind rows) e.1 ∙ ap (λ (t : Bool). gives (Ok (cond t (Raw kind q) (Done q))) (put_row rows kind (row kind))) (plain' kind) in
      ap (λ (o : Outcome). (kinds b n (kind + 1) o).answer) is
      ∙ kinds_spelt n (kind + 1) q (put_row rows kind (row kind)) (omega arith) (spells_right b p (f kind) (fields_from f n (kind + 1)) s)
      ∙ ap ended (omega (arith, span_append (f kind) (fields_from f n (kind + 1))))

  -- a flag of 0 before them, and all of it in n whole bytes
  pub header_spelt : (n : ℕ) → 1 + span (fields_from f 17 0) ≡ 8 * n → 8 * n < 2 ^ 64 → b ≡ bytes_of n (number_of (bits 1 0 ∷ fields_from f 17 0)) → Sized (fields_from f 17 0)
      → (rows : List ℕ) → length rows ≡ 2176 → (read_header b 0 0 rows).answer ≡ ended (8 * n)
  header_spelt n e h i z rows l =
      let fs = fields_from f 17 0 in
      let t = subst (λ (x : List ℕ). Spells x 0 (bits 1 0 ∷ fs)) (sym i) (spelt n (number_of (bits 1 0 ∷ fs)) 0 (bits 1 0 ∷ fs) (lit≤ tt, z) (omega arith) (omega arith) (omega arith)) in
      ap (λ (o : Outcome). o.answer) (header_all b 0 0 rows refl l _ t.0 (λ j. omega arith)) ∙ kinds_spelt 17 0 1 rows (lit≤ tt) t.1 ∙ ap ended e

-- ---- the longest one

fine_zeros : (n : ℕ) → Fine (replicate n 0)
fine_zeros zero = tt
fine_zeros (suc n) = (refl, fine_zeros n)

bands_16 : Bands 16 (replicate 48 0)
bands_16 = record { some = lit≤ tt; few = lit≤ tt; count = refl; fine = fine_zeros 48 }

-- mode 5 with two lists of 16 bands where the kind allows it, and else mode 6 with one
abbrev row_by : Bool → List ℕ
row_by true = row_of 5 16 16 ((replicate 27 0 ++ replicate 48 0) ++ replicate 48 0)
row_by false = row_of 6 16 0 ([] ++ replicate 48 0)

abbrev fields_by : Bool → List Field
fields_by true = bits 3 5 ∷ (numbers_of (replicate 27 0) ++ bits 4 15 ∷ (numbers_of (replicate 48 0) ++ bits 4 15 ∷ numbers_of (replicate 48 0)))
fields_by false = bits 3 6 ∷ (numbers_of [] ++ bits 4 15 ∷ numbers_of (replicate 48 0))

written_by : (kind : ℕ) → kind < 17 → (t : Bool) → rich kind ≡ t → Written kind (row_by t) (fields_by t)
written_by kind h true e = two 5 16 16 (replicate 27 0) (replicate 48 0) (replicate 48 0) refl (record { allows = rich_allowed kind 5 h (lit≤ tt) e; count = refl; fine = fine_zeros 27 }) bands_16 bands_16
written_by kind h false e = one 6 16 [] (replicate 48 0) refl (record { allows = (modes_open kind h).1; count = refl; fine = tt }) bands_16

not_raw : (t : Bool) → eqb (get_or (row_by t) 0 0) 7 ≡ false
not_raw true = refl
not_raw false = refl

sized_by : (t : Bool) → Sized (fields_by t)
sized_by true =
    let n : (k : ℕ) → Sized (numbers_of (replicate k 0)) = λ k. sized_numbers (replicate k 0) (small_same k 0 (lit≤ tt)) in
    let last : Sized (bits 4 15 ∷ numbers_of (replicate 48 0)) = (lit≤ tt, n 48) in
    let lists : Sized (bits 4 15 ∷ (numbers_of (replicate 48 0) ++ bits 4 15 ∷ numbers_of (replicate 48 0))) = (lit≤ tt, sized_append (numbers_of (replicate 48 0)) (bits 4 15 ∷ numbers_of (replicate 48 0)) (n 48) last) in
    (lit≤ tt, sized_append (numbers_of (replicate 27 0)) (bits 4 15 ∷ (numbers_of (replicate 48 0) ++ bits 4 15 ∷ numbers_of (replicate 48 0))) (n 27) lists)
sized_by false = (lit≤ tt, (lit≤ tt, sized_numbers (replicate 48 0) (small_same 48 0 (lit≤ tt))))

sized_from : (n kind : ℕ) → Sized (fields_from (λ k. fields_by (rich k)) n kind)
sized_from zero kind = tt
sized_from (suc n) kind = sized_append (fields_by (rich kind)) _ (sized_by (rich kind)) (sized_from n (kind + 1))

pub longest_bytes : List ℕ
longest_bytes = bytes_of 2550 (number_of (bits 1 0 ∷ fields_from (λ k. fields_by (rich k)) 17 0))

-- they are 2,550 bytes, and a header of 20,400 bits
pub longest_reached : (rows : List ℕ) → length rows ≡ 2176 → (length longest_bytes ≡ 2550) × T (are_bytes longest_bytes) × (reply_of (read_header longest_bytes 0 0 rows).answer ≡ 0 ∷ 20400 ∷ [])
unfolding longest_bytes
longest_reached rows l = (
  length_bytes_of 2550 (number_of (bits 1 0 ∷ fields_from (λ k. fields_by (rich k)) 17 0)),
  bytes_of_bytes 2550 (number_of (bits 1 0 ∷ fields_from (λ k. fields_by (rich k)) 17 0)),
  ap reply_of (header_spelt longest_bytes (λ k. row_by (rich k)) (λ k. fields_by (rich k)) (λ k h. written_by k h (rich k) refl) (λ k. not_raw (rich k)) 2550 refl (lit≤ tt) refl (sized_from 17 0) rows l),
)
