-- Three parts of a list, one behind the other, each filled with one value: what stands where. Assumes nothing.
use Rattle.std.proofs.Common.{◌≡◌, ℕ, zero, suc, ◌+◌, ◌-◌, ◌*◌, ◌<◌, List, ◌++◌, length, get_or, take, drop, replicate, sym, ap, ◌∙◌, subst, le_of_eq, le_of_suc-le-suc, not-suc-le-zero, arith, length-append, length-drop, get_or-append-add, get_or-take, refl, lt_of_lt_of_le}
use borrow.Rule.Slice.PartMut.{put_mid, mid_of}
use lib.ListN.{get_or-append, length-replicate, get_or-replicate}
use lib.Seq.{length-take-le}
use lib.Ieee.{Float, nan}
use Rattle.bands.specs.Grids.{Laid}

-- a list whose first part is x
module _ (l x r : List Float) (n : ℕ) (e : l ≡ x ++ r) (long : length x ≡ n) where
  front : (i : ℕ) → i < n → get_or l i nan ≡ get_or x i nan
  front i h = ap (λ (m : List Float). get_or m i nan) e ∙ get_or-append x r nan i (subst (λ (k : ℕ). i < k) (sym long) h)

  behind : (i : ℕ) → get_or l (n + i) nan ≡ get_or r i nan
  behind i = ap (λ (m : List Float). get_or m (n + i) nan) e ∙ ap (λ (k : ℕ). get_or (x ++ r) (k + i) nan) (sym long) ∙ get_or-append-add x r i nan

held : (n : ℕ) (a : Float) (x : List Float) (i : ℕ) → x ≡ replicate n a → i < n → get_or x i nan ≡ a
held n a x i e h = ap (λ (l : List Float). get_or l i nan) e ∙ get_or-replicate n i a nan h

module _ (o x y z : List Float) (s : ℕ) (a b c : Float) (O : length o ≡ 3 * s) (X : x ≡ replicate (length (take s o)) a) where
  abbrev one : List Float
  one = x ++ drop s o

  long_x : length x ≡ s
  long_x = ap length X ∙ length-replicate (length (take s o)) a ∙ length-take-le s o (omega arith)

  long_one : length one ≡ 3 * s
  long_one = let e = length-append x (drop s o) in let f = length-drop s o in omega (arith, long_x)

  module _ (Y : y ≡ replicate (length (mid_of s (s + s - s) one)) b) where
    abbrev two : List Float
    two = put_mid s (s + s - s) one y

    long_y : length y ≡ s
    long_y =
        let d = length-drop s one in
        let t = length-take-le (s + s - s) (drop s one) (omega (arith, d, long_one)) in
        ap length Y ∙ length-replicate (length (mid_of s (s + s - s) one)) b ∙ omega (arith, t)

    long_two : length two ≡ 3 * s
    long_two =
        let p = drop (s + s - s) (drop s one) in
        let t = length-take-le s one (omega (arith, long_one)) in
        omega (arith, length-append (take s one) (y ++ p), length-append y p, length-drop (s + s - s) (drop s one), length-drop s one, t, long_y, long_one)

    module _ (Z : z ≡ replicate (length (mid_of (s + s) (length two - (s + s)) two)) c) where
      abbrev three : List Float
      three = put_mid (s + s) (length two - (s + s)) two z

      long_z : length z ≡ s
      long_z =
          let d = length-drop (s + s) two in
          let t = length-take-le (length two - (s + s)) (drop (s + s) two) (omega (arith, d, long_two)) in
          ap length Z ∙ length-replicate (length (mid_of (s + s) (length two - (s + s)) two)) c ∙ omega (arith, t, long_two)

      long_front : length (take (s + s) two) ≡ s + s
      long_front = length-take-le (s + s) two (omega (arith, long_two))

      long_three : length three ≡ 3 * s
      long_three =
          let p = drop (length two - (s + s)) (drop (s + s) two) in
          omega (arith, length-append (take (s + s) two) (z ++ p), length-append z p, length-drop (length two - (s + s)) (drop (s + s) two), length-drop (s + s) two, long_front, long_z, long_two)

      -- the first two parts stand in front of the third
      early : (i : ℕ) → i < s + s → get_or three i nan ≡ get_or two i nan
      early i h = front three (take (s + s) two) (z ++ drop (length two - (s + s)) (drop (s + s) two)) (s + s) refl long_front i h ∙ get_or-take (s + s) two i nan h

      at_first : (j : ℕ) → j < s → get_or three j nan ≡ a
      at_first j h =
          early j (omega arith)
          ∙ front two (take s one) (y ++ drop (s + s - s) (drop s one)) s refl (length-take-le s one (omega (arith, long_one))) j h
          ∙ get_or-take s one j nan h
          ∙ front one x (drop s o) s refl long_x j h
          ∙ held (length (take s o)) a x j X (lt_of_lt_of_le h (le_of_eq (sym (length-take-le s o (omega arith)))))

      at_second : (j : ℕ) → j < s → get_or three (s + j) nan ≡ b
      at_second j h =
          early (s + j) (omega arith)
          ∙ behind two (take s one) (y ++ drop (s + s - s) (drop s one)) s refl (length-take-le s one (omega (arith, long_one))) j
          ∙ front (y ++ drop (s + s - s) (drop s one)) y (drop (s + s - s) (drop s one)) s refl long_y j h
          ∙ held (length (mid_of s (s + s - s) one)) b y j Y (lt_of_lt_of_le h (le_of_eq (sym long_y ∙ ap length Y ∙ length-replicate (length (mid_of s (s + s - s) one)) b)))

      at_third : (j : ℕ) → j < s → get_or three (s + s + j) nan ≡ c
      at_third j h =
          behind three (take (s + s) two) (z ++ drop (length two - (s + s)) (drop (s + s) two)) (s + s) refl long_front j
          ∙ front (z ++ drop (length two - (s + s)) (drop (s + s) two)) z (drop (length two - (s + s)) (drop (s + s) two)) s refl long_z j h
          ∙ held (length (mid_of (s + s) (length two - (s + s)) two)) c z j Z (lt_of_lt_of_le h (le_of_eq (sym long_z ∙ ap length Z ∙ length-replicate (length (mid_of (s + s) (length two - (s + s)) two)) c)))

      pub fills_laid : (f : ℕ → ℕ → Float) → ((j : ℕ) → a ≡ f 0 j) → ((j : ℕ) → b ≡ f 1 j) → ((j : ℕ) → c ≡ f 2 j) → Laid f s s three
      fills_laid f A B C = record { long = long_three; each = each }
        where
          at : (i j : ℕ) → i ≡ j → get_or three j nan ≡ get_or three i nan
          at i j e = ap (λ (n : ℕ). get_or three n nan) (sym e)

          each : (k j : ℕ) → k < 3 → j < s → get_or three (k * s + j) nan ≡ f k j
          each zero j k h = at j (0 * s + j) (omega arith) ∙ at_first j h ∙ A j
          each (suc zero) j k h = at (s + j) (1 * s + j) (omega arith) ∙ at_second j h ∙ B j
          each (suc (suc zero)) j k h = at (s + s + j) (2 * s + j) (omega arith) ∙ at_third j h ∙ C j
          each (suc (suc (suc i))) j k h = absurd (not-suc-le-zero (le_of_suc-le-suc (le_of_suc-le-suc (le_of_suc-le-suc k))))
