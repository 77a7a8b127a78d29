-- Eight roots side by side: each lane by itself is one root. Assumes nothing.
use Rattle.std.proofs.Common.{◌≡◌, ℕ, ◌+◌, ◌-◌, ◌*◌, ◌%◌, ◌^◌, ◌<◌, ◌≤◌, cond, ltb, ◌⊎◌, List, length, get_or, set, sym, refl, ◌∙◌, subst, ap₂, inl, inr, zero-le, le_trans, le_of_eq, lt_of_lt_of_le, lt_of_le_of_lt, lt_irrefl, le_antisymm, arith, lit<, lit≤, length-set, get_or-set_other, get_or-set_same, w32, to_z}
use lib.Bits.{bit_or}
use lib.Signed.{lt_z}
use mir.ValLaws.{to_z_pos}
use Rattle.bands.specs.Eights.{Lane, Lanes, Begun, Turning, Turned, Ended}
use Rattle.bands.proofs.ChainLists.{split_lt}
use Rattle.bands.proofs.BringDown.{brings, fourfold, small, come, quad, turn, down_sum, down_all}

-- below 2 ^ 31 the signed compare is the compare
pub signed_less : (t a : ℕ) → t < 2 ^ 31 → a < 2 ^ 31 → lt_z (to_z w32 t) (to_z w32 a) ≡ ltb t a
signed_less t a h g = ap₂ lt_z (to_z_pos w32 t h) (to_z_pos w32 a g)

-- ---- one lane
module _ (N n rem root left : ℕ) (K : 0 < n) (d : Lane N n rem root left) where
  -- the lemma over the lane: a turn leaves one digit less to come
  pub lane_turn : (o g : ℕ)
      → o ≡ cond (ltb (fourfold (2 ^ 32) root) (brings (2 ^ 32) (2 ^ 30) rem left)) (brings (2 ^ 32) (2 ^ 30) rem left - fourfold (2 ^ 32) root - 1) (brings (2 ^ 32) (2 ^ 30) rem left)
      → g ≡ cond (ltb (fourfold (2 ^ 32) root) (brings (2 ^ 32) (2 ^ 30) rem left)) 1 0
      → Lane N (n - 1) o (bit_or (root * 2 % 2 ^ 32) g) (left * 4 % 2 ^ 32)
  lane_turn = turn (2 ^ 32) (2 ^ 30) 28 N n rem root left refl (lit< tt) (lit≤ tt) K d

  -- what it compares is small
  pub lane_small : (fourfold (2 ^ 32) root < 2 ^ 31) × (brings (2 ^ 32) (2 ^ 30) rem left < 2 ^ 31)
  lane_small =
      let s = small (2 ^ 32) (2 ^ 30) 28 N n rem root left refl (lit< tt) (lit≤ tt) K d in (
        lt_of_le_of_lt (le_of_eq (quad (2 ^ 32) (2 ^ 30) 28 N n rem root left refl (lit< tt) (lit≤ tt) K d)) (omega (arith, s)),
        lt_of_le_of_lt (le_of_eq (come (2 ^ 32) (2 ^ 30) 28 N n rem root left refl (lit< tt) (lit≤ tt) K d)) (omega (arith, s, d.less, d.fits)),
      )

-- ---- a turn of eight: the lanes before i have taken theirs since the lists were root₀, rem₀, left₀, and the others are as they were
pub record Passing (root₀ rem₀ left₀ root rem left : List ℕ) (i : ℕ) : Type 0 where
  pub roots : length root ≡ length root₀
  pub rems : length rem ≡ length rem₀
  pub lefts : length left ≡ length left₀
  pub before : (N n k : ℕ) → k < i → k < 8 → 0 < n → Lane N n (get_or rem₀ k 0) (get_or root₀ k 0) (get_or left₀ k 0) → Lane N (n - 1) (get_or rem k 0) (get_or root k 0) (get_or left k 0)
  pub after : (N n k : ℕ) → i ≤ k → k < 8 → Lane N n (get_or rem₀ k 0) (get_or root₀ k 0) (get_or left₀ k 0) → Lane N n (get_or rem k 0) (get_or root k 0) (get_or left k 0)

none : (k : ℕ) → k < 0 → ⊥
none k h = omega arith

pub passing_none : (root rem left : List ℕ) → Passing root rem left root rem left 0
passing_none root rem left = record { roots = refl; rems = refl; lefts = refl; before = λ N n k h g K d. absurd (none k h); after = λ N n k h g d. d }

pub passing_all : (root₀ rem₀ left₀ root rem left : List ℕ) (i : ℕ) → 8 ≤ i → Passing root₀ rem₀ left₀ root rem left i → Turned root₀ rem₀ left₀ root rem left
passing_all root₀ rem₀ left₀ root rem left i h t = record {
  lanes = λ N n K o. record {
    roots = t.roots ∙ o.roots;
    rems = t.rems ∙ o.rems;
    lefts = t.lefts ∙ o.lefts;
    each = λ k g. t.before (N k) n k (lt_of_lt_of_le g h) g K (o.each k g);
  };
}

-- lane i is still as it was
pub passing_lane : (root₀ rem₀ left₀ root rem left : List ℕ) (i : ℕ) → i < 8 → (t : Turning root₀ rem₀ left₀) → Passing root₀ rem₀ left₀ root rem left i → Lane (t.begun.of i) t.n (get_or rem i 0) (get_or root i 0) (get_or left i 0)
passing_lane root₀ rem₀ left₀ root rem left i I t p = p.after (t.begun.of i) t.n i (le_of_eq refl) I (t.begun.lanes.each i I)

pub turning_long : (root₀ rem₀ left₀ root rem left : List ℕ) (i : ℕ) → Turning root₀ rem₀ left₀ → Passing root₀ rem₀ left₀ root rem left i → (length root ≡ 8) × (length rem ≡ 8) × (length left ≡ 8)
turning_long root₀ rem₀ left₀ root rem left i t p = let l = t.begun.lanes in (p.roots ∙ l.roots, p.rems ∙ l.rems, p.lefts ∙ l.lefts)

-- it takes its turn
module _ (root₀ rem₀ left₀ root rem left : List ℕ) (i r o l : ℕ) (I : i < 8) (t : Turning root₀ rem₀ left₀) (p : Passing root₀ rem₀ left₀ root rem left i)
    (d : (N n : ℕ) → 0 < n → Lane N n (get_or rem i 0) (get_or root i 0) (get_or left i 0) → Lane N (n - 1) o r l) where
  inside : (s : List ℕ) → length s ≡ 8 → i < length s
  inside s e = lt_of_lt_of_le I (le_of_eq (sym e))

  other : (N n k : ℕ) → (k ≡ i → ⊥) → Lane N n (get_or rem k 0) (get_or root k 0) (get_or left k 0) → Lane N n (get_or (set rem i o) k 0) (get_or (set root i r) k 0) (get_or (set left i l) k 0)
  other N n k e h =
      subst (λ (z : ℕ). Lane N n z (get_or (set root i r) k 0) (get_or (set left i l) k 0)) (sym (get_or-set_other rem i k o 0 e))
      (subst (λ (z : ℕ). Lane N n (get_or rem k 0) z (get_or (set left i l) k 0)) (sym (get_or-set_other root i k r 0 e))
      (subst (λ (z : ℕ). Lane N n (get_or rem k 0) (get_or root k 0) z) (sym (get_or-set_other left i k l 0 e)) h))

  here : (N n : ℕ) → Lane N n o r l → Lane N n (get_or (set rem i o) i 0) (get_or (set root i r) i 0) (get_or (set left i l) i 0)
  here N n w =
      let e = turning_long root₀ rem₀ left₀ root rem left i t p in
      subst (λ (z : ℕ). Lane N n z (get_or (set root i r) i 0) (get_or (set left i l) i 0)) (sym (get_or-set_same rem i o 0 (inside rem e.1)))
      (subst (λ (z : ℕ). Lane N n o z (get_or (set left i l) i 0)) (sym (get_or-set_same root i r 0 (inside root e.0)))
      (subst (λ (z : ℕ). Lane N n o r z) (sym (get_or-set_same left i l 0 (inside left e.2))) w))

  pub passing_more : Passing root₀ rem₀ left₀ (set root i r) (set rem i o) (set left i l) (i + 1)
  passing_more = record {
    roots = length-set root i r ∙ p.roots;
    rems = length-set rem i o ∙ p.rems;
    lefts = length-set left i l ∙ p.lefts;
    before = λ N n k h g K. go N n k g K (split_lt k i h);
    after = λ N n k h g w. other N n k (λ (e : k ≡ i). lt_irrefl k (lt_of_lt_of_le (below k i e) h)) (p.after N n k (le_trans (up i) h) g w);
  }
    where
      up : (i : ℕ) → i ≤ i + 1
      up i = omega arith

      below : (k i : ℕ) → k ≡ i → k < i + 1
      below k i e = omega arith

      at : (N n : ℕ) → 0 < n → Lane N n (get_or rem₀ i 0) (get_or root₀ i 0) (get_or left₀ i 0) → Lane N (n - 1) (get_or (set rem i o) i 0) (get_or (set root i r) i 0) (get_or (set left i l) i 0)
      at N n K w = here N (n - 1) (d N n K (p.after N n i (le_of_eq refl) I w))

      go : (N n k : ℕ) → k < 8 → 0 < n → (k ≡ i) ⊎ (k < i) → Lane N n (get_or rem₀ k 0) (get_or root₀ k 0) (get_or left₀ k 0) → Lane N (n - 1) (get_or (set rem i o) k 0) (get_or (set root i r) k 0) (get_or (set left i l) k 0)
      go N n k g K (inl e) = subst (λ (j : ℕ). Lane N n (get_or rem₀ j 0) (get_or root₀ j 0) (get_or left₀ j 0) → Lane N (n - 1) (get_or (set rem i o) j 0) (get_or (set root i r) j 0) (get_or (set left i l) j 0)) (sym e) (at N n K)
      go N n k g K (inr h) = λ w. other N (n - 1) k (λ (e : k ≡ i). lt_irrefl i (subst (λ (j : ℕ). j < i) e h)) (p.before N n k h g K w)

-- ---- all digits: of whichever numbers the lanes are, k digits are to come
pub record Coming (n : ℕ) (root₀ rem₀ left₀ root rem left : List ℕ) (k : ℕ) : Type 0 where
  pub lanes : (N : ℕ → ℕ) → Lanes N n root₀ rem₀ left₀ → Lanes N k root rem left

pub coming_none : (n : ℕ) (root rem left : List ℕ) → Coming n root rem left root rem left (n - 0)
coming_none n root rem left = record { lanes = λ N o. let e : n ≡ n - 0 = omega arith in subst (λ (k : ℕ). Lanes N k root rem left) e o }

pub coming_turning : (n : ℕ) (root₀ rem₀ left₀ root rem left : List ℕ) (k : ℕ) → 0 < k → Begun n root₀ rem₀ left₀ → Coming n root₀ rem₀ left₀ root rem left k → Turning root rem left
coming_turning n root₀ rem₀ left₀ root rem left k K b t = record { n = k; more = K; begun = record { of = b.of; lanes = t.lanes b.of b.lanes } }

pub coming_more : (n : ℕ) (root₀ rem₀ left₀ root rem left root' rem' left' : List ℕ) (i : ℕ) → i < n → Coming n root₀ rem₀ left₀ root rem left (n - i) → Turned root rem left root' rem' left' → Coming n root₀ rem₀ left₀ root' rem' left' (n - (i + 1))
coming_more n root₀ rem₀ left₀ root rem left root' rem' left' i I t u = record { lanes = λ N o. let e : n - i - 1 ≡ n - (i + 1) = omega arith in subst (λ (k : ℕ). Lanes N k root' rem' left') e (u.lanes N (n - i) (omega arith) (t.lanes N o)) }

pub coming_all : (n : ℕ) (root₀ rem₀ left₀ root rem left : List ℕ) (k : ℕ) → k ≤ 0 → Coming n root₀ rem₀ left₀ root rem left k → Ended n root₀ rem₀ left₀ root rem
coming_all n root₀ rem₀ left₀ root rem left k z t = record {
  is = λ N o i h. down_all (2 ^ 32) 29 (N i) _ _ _ (last N o i h);
  sum = λ N o i h. down_sum (2 ^ 32) 29 (N i) _ _ _ (last N o i h);
}
  where
    last : (N : ℕ → ℕ) → Lanes N n root₀ rem₀ left₀ → (i : ℕ) → i < 8 → Lane (N i) 0 (get_or rem i 0) (get_or root i 0) (get_or left i 0)
    last N o i h = subst (λ (m : ℕ). Lane (N i) m (get_or rem i 0) (get_or root i 0) (get_or left i 0)) (le_antisymm z zero-le) ((t.lanes N o).each i h)
