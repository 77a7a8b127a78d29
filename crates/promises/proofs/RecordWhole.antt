-- The record's format keeps the laws of a format; what those say of a whole text. Assumes nothing.
use mathlib.Core.Path.{◌≡◌, refl, sym, ap, ◌∙◌, subst}
use mathlib.Core.List.{List, [], ◌∷◌, ◌++◌, append_assoc, append-nil}
use mathlib.Core.Bool.{Bool, true, false}
use Prim.Native.Nat.{ℕ, ◌-◌, ◌≤◌, ◌<◌}
use native.Mathlib.Nat.{le_refl}
use native.Mathlib.Decide.{ℕ_discrete, dec_lt}
use native.Mathlib.Omega.{arith}
use borrow.Author.Tests.{eq-eqb, ne_eqb, ltb-false, le-ltb}
use lib.ListN.{length, get_or, set, take, drop, replicate, length-append, length-replicate, drop_of_length-le}
use lib.Seq.{take_at, drop_at, get_or-set_same, set-get_or}
use lib.Dec.{eqb, ltb}
use Rattle.record.specs.Format.{Answer, got, bad, pick, shared, Format, Lawful, Longest, nothing, Reading, done, text, whole_of, whole}
use Rattle.record.specs.Record.{header}
use Rattle.record.specs.Rows.{Row, all_kinds, Rows, kind_lines, rows_format}
use Rattle.record.specs.Flat.{join_rows, samples_of, cut_rows, flat_of, rows_of, flat_format}
use Rattle.record.proofs.Shared.{shared_le_right, begins}
use Rattle.record.proofs.Laws.{cancel, no_beginning, refused, lit_whole, nothing_lawful, then_lawful, via_lawful}
use Rattle.record.proofs.Records.{header_lawful}
use Rattle.record.proofs.RowLaws.{all_lawful}
use Rattle.record.proofs.FlatLaws.{Goods, none, more, filled, slot_zero, small_flag, all_good}

-- ---- the laws of the whole record

pub kinds_lawful : (d : ℕ) → Lawful (kind_lines d)
unfolding kind_lines
kinds_lawful d = go (eqb d 1)
  where
    go : (v : Bool) → Lawful (pick v (nothing []) all_kinds)
    go true = nothing_lawful []
    go false = all_lawful

pub rows_lawful : Lawful rows_format
unfolding rows_format
rows_lawful = then_lawful header kind_lines header_lawful (λ d o. kinds_lawful d)

-- ---- cutting what was joined

cut_back : {rs : List Row} → Goods rs → (t : List ℕ) → cut_rows (join_rows rs ++ t) (samples_of rs) ≡ rs
cut_back none t = refl
cut_back (more {r = r} {rs = rs} g gs) t =
    let a : r.0 ++ join_rows rs ++ t ≡ r.0 ++ (join_rows rs ++ t) = append_assoc r.0 (join_rows rs) t in
    let x : take 128 (r.0 ++ join_rows rs ++ t) ≡ r.0 = ap (take 128) a ∙ take_at r.0 (join_rows rs ++ t) 128 g.0 in
    let y : cut_rows (drop 128 (r.0 ++ join_rows rs ++ t)) (samples_of rs) ≡ rs =
    ap (λ (z : List ℕ). cut_rows (drop 128 z) (samples_of rs)) a ∙ ap (λ (z : List ℕ). cut_rows z (samples_of rs)) (drop_at r.0 (join_rows rs ++ t) 128 g.0) ∙ cut_back gs t in
    λ i. (x i, r.1) ∷ y i

filled_long : (rs : List Row) → 126 < length (filled rs)
filled_long rs = omega (arith, length-append (join_rows rs) (replicate (2176 - length (join_rows rs)) 0), length-replicate {A = ℕ} (2176 - length (join_rows rs)) 0)

flag_of : (p : Rows) → get_or (flat_of p).0 126 0 ≡ p.0
flag_of p = get_or-set_same (filled p.1) 126 p.0 0 (filled_long p.1)

rows_back : (p : Rows) → p.0 ≤ 1 → (kind_lines p.0).Ok p.1 → cut_rows (flat_of p).0 (samples_of p.1) ≡ p.1
unfolding kind_lines
rows_back p h o = go (ℕ_discrete p.0 1)
  where
    go : Dec (p.0 ≡ 1) → cut_rows (flat_of p).0 (samples_of p.1) ≡ p.1
    go (yes e) =
        let q : p.1 ≡ [] = rw (eq-eqb p.0 1 e) at o in
        ap (λ (rs : List Row). cut_rows (flat_of p).0 (samples_of rs)) q ∙ sym q
    go (no e) =
        let g : Goods p.1 = all_good p.1 (rw (ne_eqb p.0 1 e) at o) in
        let z : p.0 ≡ get_or (filled p.1) 126 0 = (let y : get_or (filled p.1) 126 0 ≡ 0 = slot_zero g in omega (arith, y)) in
        let s : (flat_of p).0 ≡ filled p.1 = ap (set (filled p.1) 126) z ∙ set-get_or (filled p.1) 126 0 in
        ap (λ (l : List ℕ). cut_rows l (samples_of p.1)) s ∙ cut_back g (replicate (2176 - length (join_rows p.1)) 0)

flat_back : (p : Rows) → rows_format.Ok p → rows_of (flat_of p) ≡ p
unfolding rows_format
flat_back p o = λ i. (flag_of p i, rows_back p (small_flag p.0 o.0.0.0.0.1) o.1 i)

pub flat_lawful : Lawful flat_format
unfolding flat_format
flat_lawful = via_lawful flat_of rows_of rows_format flat_back rows_lawful

-- ---- a whole text

module _ {A : Type 0} (F : Format A) (L : Lawful F) where
  -- no two values are written alike
  pub injective : (a b : A) → F.Ok a → F.Ok b → F.write a ≡ F.write b → a ≡ b
  injective a b oa ob e = (cancel F L a b [] [] oa ob (ap (λ (w : List ℕ). w ++ []) e)).0

  -- a text of a value, and no other text, reads as that value
  pub whole_writes : (a : A) → F.Ok a → whole F (F.write a) ≡ done a
  whole_writes a o =
      let e : F.read (F.write a) ≡ got a (length (F.write a)) = ap F.read (sym (append-nil (F.write a))) ∙ L.there a [] o in
      rw (e, le-ltb (length (F.write a)) (length (F.write a)) (le_refl (length (F.write a))))

  -- and a text that reads as a value is the writing of it
  pub whole_done : (s : List ℕ) (a : A) → whole F s ≡ done a → F.Ok a × (s ≡ F.write a)
  whole_done s a e = go (F.read s) refl
    where
      two : (b : A) (n : ℕ) → F.read s ≡ got b n → (v : Bool) → ltb n (length s) ≡ v → whole F s ≡ pick v (text n) (done b) → F.Ok a × (s ≡ F.write a)
      two b n h true k q = absurd (let z : ◌≡◌ {A = ℕ} 0 1 = cc in omega arith)
      two b n h false k q =
          let z : b ≡ a = cc in
          let x : F.Ok b × (s ≡ F.write b ++ drop n s) × (n ≡ length (F.write b)) = L.back s b n h in
          let d : drop n s ≡ [] = drop_of_length-le s (ltb-false n (length s) k) in
          subst (λ (y : A). F.Ok y × (s ≡ F.write y)) z (x.0, x.1 ∙ ap (λ (w : List ℕ). F.write b ++ w) d ∙ append-nil (F.write b))

      go : (r : Answer A) → F.read s ≡ r → F.Ok a × (s ≡ F.write a)
      go (bad n) h = absurd (let q : ◌≡◌ {A = Reading A} (text n) (done a) = sym (ap (whole_of (length s)) h) ∙ e in let z : ◌≡◌ {A = ℕ} 0 1 = cc in omega arith)
      go (got b n) h = two b n h (ltb n (length s)) refl (ap (whole_of (length s)) h)

  -- a writing that is followed by more shares its own length with the text, and no writing shares more
  followed : (s : List ℕ) (b : A) (n : ℕ) → F.read s ≡ got b n → Longest F s n
  followed s b n h =
      let x : F.Ok b × (s ≡ F.write b ++ drop n s) × (n ≡ length (F.write b)) = L.back s b n h in
      record {
        reached = (b, x.0, ap (λ (w : List ℕ). shared w (F.write b)) x.1 ∙ omega (arith, lit_whole (F.write b) (drop n s), shared_le_right (F.write b ++ drop n s) (F.write b), x.2));
        most = λ a o. go x a o (dec_lt n (shared s (F.write a)));
      }
    where
      go : F.Ok b × (s ≡ F.write b ++ drop n s) × (n ≡ length (F.write b)) → (a : A) → F.Ok a → Dec (n < shared s (F.write a)) → shared s (F.write a) ≤ n
      go x a o (no l) = omega arith
      go x a o (yes l) =
          let l2 : n < shared (F.write b ++ drop n s) (F.write a) = subst (λ (w : List ℕ). n < shared w (F.write a)) x.1 l in
          let e : F.write a ≡ F.write b ++ drop (length (F.write b)) (F.write a) = begins (F.write b) (drop n s) (F.write a) (omega (arith, x.2)) in
          let q : b ≡ a = no_beginning F L b a (drop (length (F.write b)) (F.write a)) x.0 o (sym e) in
          omega (arith, shared_le_right s (F.write a), x.2, ap (λ (y : A). length (F.write y)) q)

  -- a refusal: no value is written so, and the number is the longest beginning shared
  pub whole_text : (s : List ℕ) (n : ℕ) → whole F s ≡ text n → Longest F s n × ((a : A) → F.Ok a → F.write a ≡ s → ⊥)
  whole_text s n e = (go (F.read s) refl, λ a o k. (let q : ◌≡◌ {A = Reading A} (text n) (done a) = sym e ∙ ap (whole F) (sym k) ∙ whole_writes a o in let z : ◌≡◌ {A = ℕ} 0 1 = cc in omega arith))
    where
      two : (b : A) (m : ℕ) → F.read s ≡ got b m → (v : Bool) → ltb m (length s) ≡ v → whole F s ≡ pick v (text m) (done b) → Longest F s n
      two b m h true k q = let z : m ≡ n = cc in subst (Longest F s) z (followed s b m h)
      two b m h false k q = absurd (let z : ◌≡◌ {A = ℕ} 0 1 = cc in omega arith)

      go : (r : Answer A) → F.read s ≡ r → Longest F s n
      go (bad m) h = let q : ◌≡◌ {A = Reading A} (text m) (text n) = sym (ap (whole_of (length s)) h) ∙ e in let z : m ≡ n = cc in subst (Longest F s) z (refused F L s m h)
      go (got b m) h = two b m h (ltb m (length s)) refl (ap (whole_of (length s)) h)
