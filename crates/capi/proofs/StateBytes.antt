-- Bytes and states: the way there and back, and that the states which calls leave are bytes. Assumes nothing.
use mathlib.Core.Path.{◌≡◌, refl, sym, ap, ◌∙◌, subst}
use mathlib.Core.Bool.{Bool, true, false, cond, ◌&&◌, and-false}
use mathlib.Core.List.{List, [], ◌∷◌, ◌++◌, append-nil}
use Prim.Native.Nat.{ℕ, zero, suc, ◌+◌, ◌-◌, ◌≤◌, ◌<◌}
use native.Mathlib.Decide.{ℕ_discrete}
use native.Mathlib.Omega.{arith}
use native.Mathlib.Nat.{add-zero, zero-add, not-suc-le-zero, le_of_suc-le-suc}
use borrow.Author.Tests.{eq-eqb, ne_eqb}
use lib.Dec.{eqb, ltb, leb, lit<}
use lib.ListN.{length, get_or, take, drop, set, replicate, length-append, length-drop, length-set, length-take, drop_of_length-le}
use lib.Seq.{paste, take_all, get_or-drop}
use Rattle.transform.specs.Kinds.{places_of}
use Rattle.transform.proofs.Chain.{right}
use Rattle.short_arena.specs.declared.held.State.{State}
use Rattle.std.proofs.Common.{Result, Ok, Err, ext_get_or}
use Rattle.short_arena.specs.declared.arena.Part.{Part}
use Rattle.short_arena.specs.declared.arena.ShortError.{ShortError}
use Rattle.short_arena.specs.declared.arena.ShortError.TheVariants.{Lent, Held, Full, Gone}
use Rattle.short_arena.specs.Held.{held_of, state_of, is_held, places_in, without}
use Rattle.short_arena.specs.Short.{part_at, lent_right, add_answer, add_state, drop_answer, drop_state, leaves}
use Rattle.short_arena.proofs.Lending.{is_right}
use denote.Param.Members.{Mut}
use Rattle.std.proofs.lemmas.List.Edits.{paste_more}
use Rattle.std.specs.Array.{IsFromFnResult, IsFromFnResultFrom}
use Rattle.std.specs.Fn.{Called}
use Rattle.capi.specs.Bytes.{no_state, state_in, bytes_of, add_bytes, drop_bytes}
use Rattle.capi.specs.Said.{Small, put_bytes}

-- ---- by the number of bytes
module _ (b : List ℕ) where
  pub other_state : (length b ≡ 18 → ⊥) → no_state ≡ state_in b
  unfolding state_in
  other_state h = rw (ne_eqb (length b) 18 h)

  pub right_state : length b ≡ 18 → ◌≡◌ {A = State} (record { count = get_or b 0 0; kinds = drop 1 b }) (state_in b)
  unfolding state_in
  right_state h = rw (eq-eqb (length b) 18 h)

  pub other_bytes : (s : State) → (length b ≡ 18 → ⊥) → b ≡ put_bytes b s
  unfolding put_bytes
  other_bytes s h = rw (ne_eqb (length b) 18 h)

  pub right_bytes : (s : State) → length b ≡ 18 → bytes_of s ≡ put_bytes b s
  unfolding put_bytes
  right_bytes s h = rw (eq-eqb (length b) 18 h)

-- another number of bytes is LENT, whatever else is lent
pub other_lent : (n : ℕ) (b : List ℕ) (k : ℕ) → (length b ≡ 18 → ⊥) → lent_right n (state_in b) k ≡ false
unfolding lent_right
other_lent n b k h =
    ap (λ (s : State). lent_right n s k) (sym (other_state b h))
    ∙ ap (λ (x : Bool). ltb k 17 && x) (and-false (leb n 394752)) ∙ and-false (ltb k 17)

-- there and back
bytes_back : (b : List ℕ) → put_bytes b (state_in b) ≡ b
bytes_back b = go (ℕ_discrete (length b) 18)
  where
    whole : (l : List ℕ) → length l ≡ 18 → get_or l 0 0 ∷ drop 1 l ≡ l
    whole [] e = absurd (omega arith)
    whole (x ∷ l) e = refl

    go : Dec (length b ≡ 18) → put_bytes b (state_in b) ≡ b
    go (yes e) = sym (right_bytes b (state_in b) e) ∙ ap bytes_of (sym (right_state b e)) ∙ whole b e
    go (no h) = sym (other_bytes b (state_in b) h)

-- what is put back is what the call leaves: nothing new where it refuses, or where there were no 18 bytes
put_back : {T : Type 0} (b : List ℕ) (r : Result T ShortError) (new : State) → ((length b ≡ 18 → ⊥) → r ≡ Err Lent) → put_bytes b (leaves r new (state_in b)) ≡ leaves r (bytes_of (leaves r new (state_in b))) b
put_back {T} b r new f = go (ℕ_discrete (length b) 18)
  where
    there : (x : Result T ShortError) → length b ≡ 18 → put_bytes b (leaves x new (state_in b)) ≡ leaves x (bytes_of (leaves x new (state_in b))) b
    there (Ok x) e = sym (right_bytes b new e)
    there (Err x) e = bytes_back b

    go : Dec (length b ≡ 18) → put_bytes b (leaves r new (state_in b)) ≡ leaves r (bytes_of (leaves r new (state_in b))) b
    go (yes e) = there r e
    go (no h) = rw (f h) (bytes_back b)

module _ (n : ℕ) (b : List ℕ) (k : ℕ) where
  add_other : (m : ℕ) → (length b ≡ 18 → ⊥) → add_answer n (state_in b) k m ≡ Err Lent
  unfolding add_answer
  add_other m h = rw (other_lent n b k h, and-false (eqb m (places_of k)))

  drop_other : (length b ≡ 18 → ⊥) → drop_answer n (state_in b) k ≡ Err Lent
  unfolding drop_answer
  drop_other h = rw (other_lent n b k h)

  pub add_bytes_lem : (m : ℕ) → put_bytes b (add_state n (state_in b) k m) ≡ add_bytes n b k m
  unfolding add_state
  add_bytes_lem m = put_back b (add_answer n (state_in b) k m) (state_of (held_of (state_in b) ++ k ∷ [])) (add_other m)

  pub drop_bytes_lem : put_bytes b (drop_state n (state_in b) k) ≡ drop_bytes n b k
  unfolding drop_state
  drop_bytes_lem = put_back b (drop_answer n (state_in b) k) (state_of (without (held_of (state_in b)) k)) drop_other

-- one kind more behind the first byte
pub put_more : (b x ks : List ℕ) (n i : ℕ) → length b ≡ 18 → length ks ≡ 17 → i < 17 → x ≡ paste (set b 0 n) 1 ks i → set x (1 + i) (get_or ks i 0) ≡ paste (set b 0 n) 1 ks (i + 1)
put_more b x ks n i e f h g = ap (λ (y : List ℕ). set y (1 + i) (get_or ks i 0)) g ∙ paste_more (set b 0 n) 1 ks i 0 (omega (arith, length-set b 0 n)) (omega arith)

-- the first byte, and then 17 kinds behind it
pub all_put : (b : List ℕ) (s : State) (i : ℕ) → length b ≡ 18 → length s.kinds ≡ 17 → 17 ≤ i → i ≤ 17 → paste (set b 0 s.count) 1 s.kinds i ≡ put_bytes b s
all_put [] s i e f g h = absurd (omega arith)
all_put (x ∷ b) s i e f g h =
    let n : i ≡ 17 = omega arith in
    ap (paste (s.count ∷ b) 1 s.kinds) n
    ∙ ap (λ (l : List ℕ). s.count ∷ (l ++ drop 17 b)) (take_all 17 s.kinds (omega arith))
    ∙ ap (λ (l : List ℕ). s.count ∷ (s.kinds ++ l)) (drop_of_length-le b {i = 17} (omega arith))
    ∙ ap (λ (l : List ℕ). s.count ∷ l) (append-nil s.kinds)
    ∙ right_bytes (x ∷ b) s e

-- an array made by a function of the index that reads the bytes behind the first
module _ {F : Type 0} (g : Mut F (ℕ × Unit {0}) ℕ) (f : F) (ys b : List ℕ) (k : (i y : ℕ) (q : F) → Called g f (i, tt) y q → (q ≡ f) × (y ≡ get_or b (1 + i) 0)) where
  made_at : (n i j : ℕ) → IsFromFnResultFrom g f ys i n → j < n → get_or ys (i + j) 0 ≡ get_or b (1 + (i + j)) 0
  made_at zero i j r l = absurd (not-suc-le-zero l)
  made_at (suc n) i zero r l = subst (λ m. get_or ys m 0 ≡ get_or b (1 + m) 0) (sym (add-zero i)) (r.2.1 0 ∙ (k i r.1 r.0 r.3).1)
  made_at (suc n) i (suc j) r l =
      let e : i + 1 + j ≡ i + suc j = omega arith in
      subst (λ m. get_or ys m 0 ≡ get_or b (1 + m) 0) e (made_at n (i + 1) j (subst (λ p. IsFromFnResultFrom g p ys (i + 1) n) (k i r.1 r.0 r.3).0 r.4) (le_of_suc-le-suc l))

  pub all_made : (n : ℕ) → IsFromFnResult g f ys n → length b ≡ n + 1 → ys ≡ drop 1 b
  all_made n r e = ext_get_or 0 ys (drop 1 b) (omega (arith, r.long, length-drop 1 b)) (λ i l. subst (λ m. get_or ys m 0 ≡ get_or b (1 + m) 0) (zero-add i) (made_at n 0 i r.each (subst (λ m. i < m) r.long l)) ∙ sym (get_or-drop 1 b i 0))

-- ---- numbers that are all below 256
abbrev Bytes : List ℕ → Type 0
Bytes l = (i : ℕ) → get_or l i 0 < 256

all_append : (l m : List ℕ) → Bytes l → Bytes m → Bytes (l ++ m)
all_append [] m f g i = g i
all_append (x ∷ l) m f g zero = f zero
all_append (x ∷ l) m f g (suc i) = all_append l m (λ j. f (suc j)) g i

all_take : (n : ℕ) (l : List ℕ) → Bytes l → Bytes (take n l)
all_take zero l f i = lit< tt
all_take (suc n) [] f i = lit< tt
all_take (suc n) (x ∷ l) f zero = f zero
all_take (suc n) (x ∷ l) f (suc i) = all_take n l (λ j. f (suc j)) i

all_zero_lem : (n : ℕ) → Bytes (replicate n 0)
all_zero_lem zero i = lit< tt
all_zero_lem (suc n) zero = lit< tt
all_zero_lem (suc n) (suc i) = all_zero_lem n i

all_cons : (x : ℕ) (l : List ℕ) → x < 256 → Bytes l → Bytes (x ∷ l)
all_cons x l h f zero = h
all_cons x l h f (suc i) = f i

all_rest : (l : List ℕ) → Bytes l → Bytes (drop 1 l)
all_rest [] f i = lit< tt
all_rest (x ∷ l) f i = f (suc i)

all_without : (l : List ℕ) (k : ℕ) → Bytes l → Bytes (without l k)
unfolding without
all_without [] k f = f
all_without (x ∷ l) k f = go (eqb x k) (all_without l k (λ j. f (suc j)))
  where
    go : (b : Bool) → Bytes (without l k) → Bytes (cond b (without l k) (x ∷ without l k))
    go true r = r
    go false r = all_cons x (without l k) (f zero) r

-- a state in bytes is small
pub in_small : (b : List ℕ) → Bytes b → Small (state_in b)
unfolding state_in
in_small b f = go (eqb (length b) 18)
  where
    go : (x : Bool) → Small (cond x (record { count = get_or b 0 0; kinds = drop 1 b }) no_state)
    go true = record { count = f 0; kinds = all_rest b f }
    go false = record { count = lit< tt; kinds = all_zero_lem 17 }

of_small : (ks : List ℕ) → length ks < 256 → Bytes ks → Small (state_of ks)
of_small ks h f = record { count = h; kinds = all_append ks (replicate (17 - length ks) 0) f (all_zero_lem (17 - length ks)) }

-- ---- the states that calls leave are small
without_short : (l : List ℕ) (k : ℕ) → length (without l k) ≤ length l
unfolding without
without_short [] k = omega arith
without_short (x ∷ l) k = go (eqb x k) (without_short l k)
  where
    go : (b : Bool) → length (without l k) ≤ length l → length (cond b (without l k) (x ∷ without l k)) ≤ suc (length l)
    go true h = omega arith
    go false h = omega arith

module _ (n : ℕ) (s : State) (k : ℕ) (g : Small s) where
  pub add_small : (m : ℕ) → Small (add_state n s k m)
  unfolding add_state add_answer
  add_small m = go (eqb m (places_of k) && lent_right n s k) (is_held (held_of s) k) (ltb (n - places_in (held_of s)) (places_of k)) refl
    where
      P : Result Part ShortError → Type 0
      P r = Small (leaves r (state_of (held_of s ++ k ∷ [])) s)

      go : (x y z : Bool) → (eqb m (places_of k) && lent_right n s k) ≡ x → P (cond x (cond y (Err Held) (cond z (Err Full) (Ok (part_at (places_in (held_of s)) (places_of k))))) (Err Lent))
      go true true z p = g
      go true false true p = g
      go true false false p =
          let r = is_right n s k (right (eqb m (places_of k)) (lent_right n s k) p) in
          let c = r.count in
          let t = length-take s.count s.kinds in
          let l = length-append (held_of s) (k ∷ []) in
          let h = r.kind in
          of_small (held_of s ++ k ∷ []) (omega arith) (all_append (held_of s) (k ∷ []) (all_take s.count s.kinds g.kinds) (all_cons k [] (omega arith) (all_zero_lem 0)))
      go false y z p = g

  pub drop_small : Small (drop_state n s k)
  unfolding drop_state drop_answer
  drop_small = go (lent_right n s k) (is_held (held_of s) k) refl
    where
      P : Result (Unit {0}) ShortError → Type 0
      P r = Small (leaves r (state_of (without (held_of s) k)) s)

      go : (x y : Bool) → lent_right n s k ≡ x → P (cond x (cond y (Ok tt) (Err Gone)) (Err Lent))
      go true true p =
          let c = (is_right n s k p).count in
          let t = length-take s.count s.kinds in
          let w = without_short (held_of s) k in
          of_small (without (held_of s) k) (omega arith) (all_without (held_of s) k (all_take s.count s.kinds g.kinds))
      go true false p = g
      go false y p = g
