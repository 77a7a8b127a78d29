-- ROW, as document 01 says it: a row passes exactly if some bytes, read at some bit from some kind on, write it. Both ways. Assumes nothing.
use mathlib.Core.Path.{◌≡◌, refl, sym, ap, ◌∙◌, subst⁻¹}
use mathlib.Core.Bool.{Bool, true, false, cond, true≢false}
use mathlib.Core.Logic.{◌↔◌, ◌⊎◌, inl, inr, ⊎_elim}
use mathlib.Core.List.{List, [], ◌∷◌, ◌++◌}
use Prim.Native.Nat.{ℕ, zero, suc, ◌+◌, ◌-◌, ◌*◌, ◌≤◌, ◌<◌}
use native.Mathlib.Decide.{ℕ_discrete, dec_lt}
use native.Mathlib.Nat.{le_of_eq}
use native.Mathlib.Omega.{arith}
use lib.ListN.{length, get_or, set, take, drop, replicate, length-replicate, get_or-replicate, length-drop, take-append-drop}
use lib.Seq.{drop-cons, length-take-le}
use lib.Dec.{T, eqb, lit≤, lit<}
use lib.Pow.{are_bytes}
use borrow.Author.Tests.{eqb-true}
use Rattle.transform.specs.First.{before}
use Rattle.transform.proofs.FirstLaws.{before_each}
use Rattle.bitstream.proofs.Bytes.{bytes_of, bytes_of_bytes}
use Rattle.std.specs.Prelude.{Ok}
use Rattle.params.specs.declared.read.Stop.TheVariants.{Done, Raw}
use Rattle.params.specs.Row.{on, entry}
use Rattle.params.specs.Header.{Outcome, gives, all_default, put_row, kind_is, kinds, read_header}
use Rattle.params.specs.Allowed.{entry_row, flag_row, row_allowed, row_at}
use Rattle.transform.specs.Zeros.{all_zero}
use Rattle.params.proofs.Written.{Field, bits, span, Spells, Sized, Written}
use Rattle.params.proofs.SetLaws.{kind_done, kinds_step, kinds_stays, header_resume, header_default, header_all}
use Rattle.params.proofs.AllowedLaws.{and_true}
use Rattle.transform.proofs.ZeroLaws.{zeros_of}
use Rattle.params.proofs.FaultLaws.{allowed_none, allowed_entry, allowed_other, allowed_flag}
use Rattle.dequant.proofs.Kindwise.{mode_at_lem}
use Rattle.promises.proofs.ReadWritten.{entry_spelt}
use Rattle.promises.proofs.Readable.{number_of, spelt}
use Rattle.promises.proofs.RowRule.{Small, small_same, ok_fields, entry_long, zero_row, zero_written}
use Rattle.promises.proofs.KindLaws.{put_same, put_long}
use Rattle.promises.proofs.ReadLeaves.{Passed, kinds_leave, Ends, lent, flag, some, header_ends}

-- Some bytes, read at some bit from the kind `start` on, write this row at a kind, whatever the 2,176 numbers were before, 16 bits each.
pub record Writes (start kind : ℕ) (row : List ℕ) : Type 0 where
  pub bytes : List ℕ
  pub are : T (are_bytes bytes)
  pub bit : ℕ
  pub writes : (rows : List ℕ) → Small rows → length rows ≡ 2176 → row_at (read_header bytes bit start rows).rows kind ≡ row

-- ---- from a row that passes to bytes

-- an entry that is read whole is there when the kinds behind it are read
row_read : (b : List ℕ) (k p q s : ℕ) (row rows : List ℕ) → k < 17 → length rows ≡ 2176 → entry b k p ≡ on q s row → row_at (kinds b (17 - k) k (gives (Ok (Done p)) rows)).rows k ≡ row
row_read b k p q s row rows named long e =
    ap (λ (o : Outcome). row_at o.rows k) (sym (kinds_step b k p rows (kind_is k rows (on q s row)) named (ap (kind_is k rows) (sym e))))
    ∙ stays (eqb (get_or row 0 0) 7)
    ∙ put_same rows row (entry_long b k p q s row e) k (omega arith)
  where
    stays : (t : Bool) → row_at (kinds b (17 - (k + 1)) (k + 1) (gives (Ok (cond t (Raw k q) (Done q))) (put_row rows k row))).rows k ≡ row_at (put_row rows k row) k
    stays true = ap (λ (o : Outcome). row_at o.rows k) (kinds_stays b (17 - (k + 1)) (k + 1) (Ok (Raw k q)) (put_row rows k row) (λ i. refl))
    stays false = (kinds_leave b (17 - (k + 1)) (k + 1) q (put_row rows k row) (omega (arith, put_long rows row (entry_long b k p q s row e) k (omega arith)))).before k (omega arith)

-- d kinds of mode 0, and then other fields
abbrev skips : ℕ → List Field → List Field
skips zero fs = fs
skips (suc d) fs = bits 3 0 ∷ skips d fs

skips_sized : (d : ℕ) (fs : List Field) → Sized fs → Sized (skips d fs)
skips_sized zero fs z = z
skips_sized (suc d) fs z = (lit≤ tt, skips_sized d fs z)

skips_span : (d : ℕ) (fs : List Field) → span (skips d fs) ≡ 3 * d + span fs
skips_span zero fs = omega arith
skips_span (suc d) fs = omega (arith, skips_span d fs)

-- the kinds from `start` on, where those before `kind` are of mode 0, write the row of `kind`
skipped : (b : List ℕ) (d start kind p : ℕ) (row rows : List ℕ) (fs : List Field) → start + d ≡ kind → kind < 17 → length rows ≡ 2176 → Written kind row fs → Spells b p (skips d fs)
    → row_at (kinds b (17 - start) start (gives (Ok (Done p)) rows)).rows kind ≡ row
skipped b zero start kind p row rows fs e h l w s =
    let z : start ≡ kind = omega arith in
    let x = entry_spelt b kind p row fs w s in
    ap (λ (k : ℕ). row_at (kinds b (17 - k) k (gives (Ok (Done p)) rows)).rows kind) z ∙ row_read b kind p (p + span fs) x.0 row rows h l x.1
skipped b (suc d) start kind p row rows fs e h l w s =
    let x = entry_spelt b start p zero_row (bits 3 0 ∷ []) (zero_written start (omega arith)) (s.0, tt) in
    let put : List ℕ = put_row rows start zero_row in
    let m : length put ≡ length rows = put_long rows zero_row refl start (omega arith) in
    ap (λ (o : Outcome). row_at o.rows kind) (sym (kinds_step b start p rows (gives (Ok (Done (p + 3))) put) (omega arith) (kind_done start rows put _ (p + 3) x.0 zero_row x.1 refl (λ i. omega arith))))
    ∙ skipped b d (start + 1) kind (p + 3) row put fs (omega arith) h (m ∙ l) w s.1

-- what a reading begins with: from kind 0 on, a flag of 0
abbrev opens : ℕ → List Field → List Field
opens zero fs = bits 1 0 ∷ fs
opens (suc j) fs = fs

opens_sized : (start : ℕ) (fs : List Field) → Sized fs → Sized (opens start fs)
opens_sized zero fs z = (lit≤ tt, z)
opens_sized (suc j) fs z = z

opens_span : (start : ℕ) (fs : List Field) → span (opens start fs) ≤ 1 + span fs
opens_span zero fs = omega arith
opens_span (suc j) fs = omega arith

-- and after it the kinds are read
opened : (b : List ℕ) (start : ℕ) (fs : List Field) → start ≤ 16 → Spells b 0 (opens start fs)
    → (p : ℕ) × Spells b p fs × ((rows : List ℕ) → length rows ≡ 2176 → read_header b 0 start rows ≡ kinds b (17 - start) start (gives (Ok (Done p)) rows))
opened b zero fs h t = (1, t.1, λ rows l. header_all b 0 0 rows refl l _ t.0 (λ i. omega arith))
opened b (suc j) fs h t = (0, t, λ rows l. header_resume b 0 (suc j) rows h l (omega arith))

entry_writes : (start kind : ℕ) → start ≤ kind → kind < 17 → (row : List ℕ) → Small row → entry_row kind row ≡ true → Writes start kind row
entry_writes start kind h n row s e =
    let (fs, w, z, k) = ok_fields kind row s e in
    let d : ℕ = kind - start in
    let gs : List Field = opens start (skips d fs) in
    let c : ℕ = span gs in
    let b : List ℕ = bytes_of c (number_of gs) in
    let y = opens_span start (skips d fs) in
    let g = skips_span d fs in
    let t = opened b start (skips d fs) (omega arith) (spelt c (number_of gs) 0 gs (opens_sized start (skips d fs) (skips_sized d fs z)) (omega arith) (omega arith) (omega arith)) in
    record {
      bytes = b;
      are = bytes_of_bytes c (number_of gs);
      bit = 0;
      writes = λ rows small l. ap (λ (o : Outcome). row_at o.rows kind) (t.2 rows l) ∙ skipped b d start kind t.0 row rows fs (omega arith) n l w t.1;
    }

-- the flag's row
default_row : List ℕ
default_row = set (replicate 128 0) 126 1

flag_is : (row : List ℕ) → flag_row row ≡ true → row ≡ default_row
unfolding flag_row default_row
flag_is row e =
    let (l, e1) = and_true (eqb (length row) 128) _ e in
    let (v, e2) = and_true (eqb (get_or row 126 0) 1) _ e1 in
    let (x, y) = and_true (all_zero (take 126 row)) (all_zero (drop 127 row)) e2 in
    let long : length row ≡ 128 = eqb-true (length row) 128 l in
    let front : take 126 row ≡ replicate 126 0 = zeros_of (take 126 row) x ∙ ap (λ (n : ℕ). replicate n 0) (length-take-le 126 row (omega arith)) in
    let n : length (drop 127 row) ≡ 1 = length-drop 127 row ∙ omega arith in
    let last : drop 127 row ≡ 0 ∷ [] = zeros_of (drop 127 row) y ∙ ap (λ (n : ℕ). replicate n 0) n in
    sym (take-append-drop 126 row)
    ∙ ap (λ (u : List ℕ). u ++ drop 126 row) front
    ∙ ap (λ (u : List ℕ). replicate 126 0 ++ u) (drop-cons row 126 0 (omega arith) ∙ ap (λ (v : ℕ). v ∷ drop 127 row) (eqb-true (get_or row 126 0) 1 v) ∙ ap (λ (u : List ℕ). 1 ∷ u) last)

flag_writes : (row : List ℕ) → flag_row row ≡ true → Writes 0 0 row
unfolding default_row
flag_writes row e =
    let t = spelt 1 1 0 (bits 1 1 ∷ []) (lit≤ tt, tt) refl (lit≤ tt) (lit≤ tt) in
    record {
      bytes = bytes_of 1 1;
      are = bytes_of_bytes 1 1;
      bit = 0;
      writes = λ rows small l. ap (λ (o : Outcome). row_at o.rows 0) (header_default (bytes_of 1 1) 0 0 rows refl l _ t.0 refl) ∙ sym (flag_is row e);
    }

-- a row that passes is written by some reading, begun at any one kind up to it
pub allowed_writes : (start kind : ℕ) → start ≤ kind → (row : List ℕ) → Small row → row_allowed kind row ≡ true → Writes start kind row
allowed_writes start kind h row s e = go (dec_lt 16 kind) (entry_row kind row) refl (ℕ_discrete kind 0)
  where
    go : Dec (16 < kind) → (t : Bool) → entry_row kind row ≡ t → Dec (kind ≡ 0) → Writes start kind row
    go (yes n) t f z = absurd (true≢false (sym e ∙ sym (allowed_none kind row n)))
    go (no n) true f z = entry_writes start kind h (omega arith) row s f
    go (no n) false f (yes z) =
        let j : start ≡ 0 = omega arith in
        subst⁻¹ (λ (m : ℕ). Writes start m row) z (subst⁻¹ (λ (m : ℕ). Writes m 0 row) j (flag_writes row (allowed_flag kind row f z ∙ e)))
    go (no n) false f (no z) = absurd (true≢false (sym e ∙ sym (allowed_other kind row (omega arith) f (omega arith))))

-- ---- from bytes to a row that passes

-- the rows that the flag gives pass
defaults : before (λ k. row_allowed k (row_at all_default k)) 17 ≡ 17
unfolding row_allowed entry_row flag_row before
defaults = refl

pub default_allowed : (k : ℕ) → k < 17 → row_allowed k (row_at all_default k) ≡ true
default_allowed = before_each (λ k. row_allowed k (row_at all_default k)) 17 (le_of_eq (sym defaults))

-- a reading leaves a kind's row as it was, or one that passes
row_left : (j : ℕ) (rows : List ℕ) (o : Outcome) (k : ℕ) → k < 17 → Ends j rows o → (row_at o.rows k ≡ row_at rows k) ⊎ (row_allowed k (row_at o.rows k) ≡ true)
row_left j rows o k h lent = inl refl
row_left j rows o k h (flag q z l) = inr (default_allowed k h)
row_left j rows o k h (some o' l x) = go x
  where
    go : {m e : ℕ} → Passed j m e rows o.rows → (row_at o.rows k ≡ row_at rows k) ⊎ (row_allowed k (row_at o.rows k) ≡ true)
    go {e = e} y = by (dec_lt k j) (dec_lt k e)
      where
        by : Dec (k < j) → Dec (k < e) → (row_at o.rows k ≡ row_at rows k) ⊎ (row_allowed k (row_at o.rows k) ≡ true)
        by (yes u) v = inl (y.before k u)
        by (no u) (yes v) = inr (sym (allowed_entry k (row_at o.rows k) (omega arith) (y.pass k (omega arith) v)))
        by (no u) (no v) = inl (y.behind k (omega arith))

-- a row that some reading writes, begun at whatever kind, passes: one that leaves the row as it was would have to leave two different ones
pub writes_allowed : (start kind : ℕ) → kind < 17 → (row : List ℕ) → Writes start kind row → row_allowed kind row ≡ true
writes_allowed start kind h row w = go (look 0 (lit< tt)) (look 1 (lit< tt))
  where
    look : (a : ℕ) → a < 65536 → (get_or row 0 0 ≡ a) ⊎ (row_allowed kind row ≡ true)
    look a small =
        let rows : List ℕ = replicate 2176 a in
        let is : row_at (read_header w.bytes w.bit start rows).rows kind ≡ row = w.writes rows (small_same 2176 a small) (length-replicate 2176 a) in
        ⊎_elim (λ e. inl (ap (λ (r : List ℕ). get_or r 0 0) (sym is ∙ e) ∙ mode_at_lem rows kind ∙ get_or-replicate 2176 (kind * 128) a 0 (omega arith))) (λ e. inr (ap (row_allowed kind) (sym is) ∙ e))
        (row_left start rows (read_header w.bytes w.bit start rows) kind h (header_ends w.bytes w.bit start rows))

    go : (get_or row 0 0 ≡ 0) ⊎ (row_allowed kind row ≡ true) → (get_or row 0 0 ≡ 1) ⊎ (row_allowed kind row ≡ true) → row_allowed kind row ≡ true
    go (inr e) y = e
    go (inl d) (inr e) = e
    go (inl d) (inl e) = absurd (omega arith)

-- so a row of 16-bit numbers fails exactly if no reading, wherever it begins, writes it
pub fails_unwritten : (kind : ℕ) → kind < 17 → (row : List ℕ) → Small row → (row_allowed kind row ≡ false) ↔ ((start : ℕ) → Writes start kind row → ⊥)
fails_unwritten kind named row small = (λ e start w. true≢false (sym (writes_allowed start kind named row w) ∙ e), λ f. go f (row_allowed kind row) refl)
  where
    go : ((start : ℕ) → Writes start kind row → ⊥) → (t : Bool) → row_allowed kind row ≡ t → row_allowed kind row ≡ false
    go f true e = absurd (f kind (allowed_writes kind kind (omega arith) row small e))
    go f false e = e
