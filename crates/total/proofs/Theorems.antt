-- Totals: those of neighbouring stretches add up, in any grouping and order; a replacement gives what a fresh count gives; no product wraps
-- round; two arenas may share a total. Assumes nothing.
use Rattle.std.proofs.Common.{Ok, Err, ◌≡◌, ℕ, zero, suc, ◌+◌, ◌-◌, ◌*◌, ◌/◌, ◌%◌, ◌^◌, ◌<◌, ◌≤◌, Bool, true, false, cond, ◌&&◌, T, eqb, leb, List, [], ◌∷◌, ◌++◌, length, get_or, take, drop, replicate, pos, sym, refl, ap, ◌∙◌, le_of_eq, mod-lt, arith, lit<, length-drop, length-take-le, take_all, drop-drop, take-add, eq-eqb, eqb-true, leb-true}
use mathlib.Core.List.{Permᴰ}
use native.Mathlib.Nat.{add-mod, mod-add-mod, add-mod-mod, add-mul-mod_self_left, div-add-mod}
use lib.ListN.{length-replicate}
use lib.Ieee.{Float, nan, fin, binary32, fits, to_bits, of_bits}
use lib.Ieee.Bits.{to_bits-lt}
use Rattle.transform.specs.Kinds.{places_of, start_of, part, laid}
use Rattle.transform.proofs.Chain.{left, right}
use Rattle.transform.proofs.PartLaws.{part_length, laid_own, before_length, laid_length}
use Rattle.total.specs.Total.{lent, sum_from, total_from, total_of, total_answer, replaced, replace_answer, replace_arena}
use Rattle.total.specs.Sums.{Grouped, one, both, added, numbers, sum, stretches, Share}
use Rattle.total.proofs.Laws.{product_le, sum_append}
use Rattle.total.proofs.Answers.{counted, right_weights, replace_done, arena_laid}

-- ---- no product of a weight's bits and its place plus 1 wraps round, at any place of an arena
pub no_wrap : (x : Float) (p : ℕ) → T (fits binary32 x) → p < 394752 → to_bits binary32 x * (p + 1) < 2 ^ 64
no_wrap x p f h = let e = product_le (to_bits binary32 x) (p + 1) (to_bits-lt binary32 x f) (omega arith) in omega arith

-- ---- a stretch's total is that of two neighbouring ones that make it up, added with wrap
pub neighbours : (a : List Float) (first m n : ℕ) → first + m ≤ length a → total_of a first (m + n) ≡ (total_of a first m + total_of a (first + m) n) % 2 ^ 64
unfolding total_from
neighbours a first m n h =
    let d = length-drop first a in
    let l : length (take m (drop first a)) ≡ m = length-take-le m (drop first a) (omega arith) in
    ap (λ (x : List Float). sum_from first x % 2 ^ 64) (take-add m n (drop first a))
    ∙ ap (λ (x : ℕ). x % 2 ^ 64)
    (sum_append first (take m (drop first a)) (take n (drop m (drop first a)))
    ∙ ap (λ (i : ℕ). sum_from first (take m (drop first a)) + sum_from (first + i) (take n (drop m (drop first a)))) l
    ∙ ap (λ (x : List Float). sum_from first (take m (drop first a)) + sum_from (first + m) (take n x)) (drop-drop m first a))
    ∙ add-mod (sum_from first (take m (drop first a))) (sum_from (first + m) (take n (drop (first + m) a))) (2 ^ 64)

-- what the answer DONE says
record Counted (a : List Float) (first count t : ℕ) : Type 0 where
  arena : length a ≡ 394752
  within : first + count ≤ 394752
  total : total_of a first count ≡ t

done_counts : (a : List Float) (first count t : ℕ) → total_answer a first count ≡ Ok t → Counted a first count t
unfolding total_answer
done_counts a first count t = go (eqb (length a) 394752 && leb (first + count) 394752) refl
  where
    go : (b : Bool) → (eqb (length a) 394752 && leb (first + count) 394752) ≡ b → cond b (Ok (total_of a first count)) (Err lent) ≡ Ok t → Counted a first count t
    go true e f =
        record {
          arena = eqb-true (length a) 394752 (left (eqb (length a) 394752) (leb (first + count) 394752) e);
          within = leb-true (first + count) 394752 (right (eqb (length a) 394752) (leb (first + count) 394752) e);
          total = cc;
        }
    go false e f = cc

-- the same of the calls: two stretches counted, and the one that they make up
pub neighbours_counted : (a : List Float) (first m n s t : ℕ) → total_answer a first m ≡ Ok s → total_answer a (first + m) n ≡ Ok t → total_answer a first (m + n) ≡ Ok ((s + t) % 2 ^ 64)
neighbours_counted a first m n s t e f =
    let x = done_counts a first m s e in
    let y = done_counts a (first + m) n t f in
    sym
    (counted a first (m + n) ((s + t) % 2 ^ 64) x.arena (omega (arith, y.within))
    (sym (neighbours a first m n (omega (arith, x.within, x.arena)) ∙ ap (λ (i : ℕ). (i + total_of a (first + m) n) % 2 ^ 64) x.total ∙ ap (λ (i : ℕ). (s + i) % 2 ^ 64) y.total)))

-- ---- in any grouping and order
sum_both : (l m : List ℕ) → sum (l ++ m) ≡ sum l + sum m
sum_both [] m = omega arith
sum_both (x ∷ l) m = let e = sum_both l m in omega arith

grouped : (g : Grouped) → added g ≡ sum (numbers g) % 2 ^ 64
grouped (one t) = let e : t ≡ t + 0 = omega arith in ap (λ (x : ℕ). x % 2 ^ 64) e
grouped (both a b) =
    ap (λ (x : ℕ). (x + added b) % 2 ^ 64) (grouped a)
    ∙ ap (λ (x : ℕ). (sum (numbers a) % 2 ^ 64 + x) % 2 ^ 64) (grouped b)
    ∙ sym (add-mod (sum (numbers a)) (sum (numbers b)) (2 ^ 64))
    ∙ ap (λ (x : ℕ). x % 2 ^ 64) (sym (sum_both (numbers a) (numbers b)))

ordered : {l m : List ℕ} → Permᴰ l m → sum l ≡ sum m
ordered Permᴰ.nil = refl
ordered (Permᴰ.cons e o) = let f = ordered o in omega arith
ordered (Permᴰ.swap e f) = omega arith
ordered (Permᴰ.trans o p) = ordered o ∙ ordered p

-- the same numbers, grouped and ordered in another way, add up to the same
pub any_way : (g h : Grouped) → Permᴰ (numbers g) (numbers h) → added g ≡ added h
any_way g h o = grouped g ∙ ap (λ (x : ℕ). x % 2 ^ 64) (ordered o) ∙ sym (grouped h)

cut_up : (a : List Float) (first : ℕ) (ns : List ℕ) → first + sum ns ≤ length a → total_of a first (sum ns) ≡ sum (stretches a first ns) % 2 ^ 64
unfolding total_from sum_from
cut_up a first [] h = refl
cut_up a first (n ∷ ns) h =
    neighbours a first n (sum ns) (omega arith)
    ∙ ap (λ (x : ℕ). (total_of a first n + x) % 2 ^ 64) (cut_up a (first + n) ns (omega arith))
    ∙ add-mod-mod (total_of a first n) (sum (stretches a (first + n) ns)) (2 ^ 64)

-- a stretch cut up anywhere: the totals of its pieces, in any grouping and order, add up to its own
pub stretches_add : (a : List Float) (first : ℕ) (ns : List ℕ) (g : Grouped) → first + sum ns ≤ length a → Permᴰ (numbers g) (stretches a first ns) → added g ≡ total_of a first (sum ns)
stretches_add a first ns g h o = grouped g ∙ ap (λ (x : ℕ). x % 2 ^ 64) (ordered o) ∙ sym (cut_up a first ns h)

-- ---- a replacement
-- of a sum x + (p + c), with wrap, p taken off and q added
exchanged : (m x p c q : ℕ) → 0 < m → (((x + (p + c)) % m + (m - p % m)) % m + q % m) % m ≡ (x + (q + c)) % m
exchanged m x p c q h =
    let l = mod-lt p h in
    let d = div-add-mod p m in
    let e : x + (p + c) + (m - p % m) + q ≡ x + (q + c) + m * (p / m + 1) = omega arith in
    add-mod-mod (((x + (p + c)) % m + (m - p % m)) % m) q m
    ∙ mod-add-mod ((x + (p + c)) % m + (m - p % m)) m q
    ∙ ap (λ (t : ℕ). t % m) (regroup ((x + (p + c)) % m) (m - p % m) q)
    ∙ mod-add-mod (x + (p + c)) m (m - p % m + q)
    ∙ ap (λ (t : ℕ). t % m) (sym (regroup (x + (p + c)) (m - p % m) q) ∙ e)
    ∙ add-mul-mod_self_left (x + (q + c)) m (p / m + 1)
  where
    regroup : (a b c : ℕ) → a + b + c ≡ a + (b + c)
    regroup a b c = omega arith

-- the total of a whole arena
whole : (a : List Float) → length a ≡ 394752 → total_of a 0 394752 ≡ sum_from 0 a % 2 ^ 64
unfolding total_from
whole a e = ap (λ (l : List Float). sum_from 0 l % 2 ^ 64) (take_all 394752 a (le_of_eq e))

module _ (a : List Float) (k : ℕ) (e : length a ≡ 394752) where
  -- the sum over an arena with x in the place of kind k's part
  with_part : (x : List Float) → length x ≡ places_of k
      → sum_from 0 (laid k x a) ≡ sum_from 0 (take (start_of k) a) + (sum_from (start_of k) x + sum_from (start_of k + places_of k) (drop (start_of k + places_of k) a))
  with_part x l =
      let s : 0 + length (take (start_of k) a) ≡ start_of k = (let t = before_length k a e in omega arith) in
      sum_append 0 (take (start_of k) a) (x ++ drop (start_of k + places_of k) a)
      ∙ ap (λ (i : ℕ). sum_from 0 (take (start_of k) a) + sum_from i (x ++ drop (start_of k + places_of k) a)) s
      ∙ ap (λ (i : ℕ). sum_from 0 (take (start_of k) a) + i)
      (sum_append (start_of k) x (drop (start_of k + places_of k) a)
      ∙ ap (λ (i : ℕ). sum_from (start_of k) x + sum_from (start_of k + i) (drop (start_of k + places_of k) a)) l)

  -- the arena's total with one kind's weights replaced is what a fresh count gives
  pub replaced_fresh : (ws : List Float) → length ws ≡ places_of k → replaced (total_of a 0 394752) k (part k a) ws ≡ total_of (laid k ws a) 0 394752
  unfolding replaced total_from
  replaced_fresh ws l =
      let x = sum_from 0 (take (start_of k) a) in
      let c = sum_from (start_of k + places_of k) (drop (start_of k + places_of k) a) in
      let p = sum_from (start_of k) (part k a) in
      let q = sum_from (start_of k) ws in
      let old : total_of a 0 394752 ≡ (x + (p + c)) % 2 ^ 64 = whole a e ∙ ap (λ (i : ℕ). i % 2 ^ 64) (ap (sum_from 0) (sym (laid_own k a)) ∙ with_part (part k a) (part_length k a e)) in
      let new : total_of (laid k ws a) 0 394752 ≡ (x + (q + c)) % 2 ^ 64 = whole (laid k ws a) (laid_length k ws a e l) ∙ ap (λ (i : ℕ). i % 2 ^ 64) (with_part ws l) in
      ap (λ (t : ℕ). ((t + (2 ^ 64 - p % 2 ^ 64)) % 2 ^ 64 + q % 2 ^ 64) % 2 ^ 64) old
      ∙ exchanged (2 ^ 64) x p c q (lit< tt)
      ∙ sym new

  -- of the calls: begun with the arena's total, `replace_kind` says what `stretch_total` then says of the whole arena that it leaves
  pub replaced_counts : (ws : List Float) → k < 17 → length ws ≡ places_of k → replace_answer a (total_of a 0 394752) k ws ≡ total_answer (replace_arena a k ws) 0 394752
  replaced_counts ws h l =
      let r = sym (right_weights (length a) k (length ws) (places_of k) e h refl) ∙ eq-eqb (length ws) (places_of k) l in
      sym (replace_done a k ws (total_of a 0 394752) (total_of (laid k ws a) 0 394752) r (sym (replaced_fresh ws l)))
      ∙ counted (laid k ws a) 0 394752 (total_of (laid k ws a) 0 394752) (laid_length k ws a e l) (omega arith) refl
      ∙ ap (λ (b : List Float). total_answer b 0 394752) (arena_laid a k ws r)

-- ---- two arenas may share a total
abbrev nought : Float
nought = fin false 0 (pos 0)

noughts : (p n : ℕ) → sum_from p (replicate n nought) ≡ 0
unfolding sum_from to_bits
noughts p zero = refl
noughts p (suc n) = omega (arith, noughts (p + 1) n)

share : (n : ℕ) → n + 2 ≡ 394752 → Share (of_bits binary32 2 ∷ nought ∷ replicate n nought) (nought ∷ of_bits binary32 1 ∷ replicate n nought)
unfolding sum_from to_bits of_bits
share n e =
    let l = length-replicate n nought in
    let z = noughts 2 n in
    let f : length (of_bits binary32 2 ∷ nought ∷ replicate n nought) ≡ 394752 = omega arith in
    let g : length (nought ∷ of_bits binary32 1 ∷ replicate n nought) ≡ 394752 = omega arith in
    let s : sum_from 0 (of_bits binary32 2 ∷ nought ∷ replicate n nought) ≡ sum_from 0 (nought ∷ of_bits binary32 1 ∷ replicate n nought) = omega arith in
    record {
      first = f;
      second = g;
      apart = λ h. absurd (omega (arith, ap (λ (a : List Float). to_bits binary32 (get_or a 0 nan)) h));
      total = whole (of_bits binary32 2 ∷ nought ∷ replicate n nought) f ∙ ap (λ (i : ℕ). i % 2 ^ 64) s ∙ sym (whole (nought ∷ of_bits binary32 1 ∷ replicate n nought) g);
    }

-- the bits 2 at the first place count as much as the bits 1 at the second
pub may_share : Share (of_bits binary32 2 ∷ nought ∷ replicate 394750 nought) (nought ∷ of_bits binary32 1 ∷ replicate 394750 nought)
may_share = share 394750 refl
