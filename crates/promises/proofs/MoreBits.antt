-- Document 02's ticket 2 of a whole header. A reading is SHORT at a field that lacks as many bits as it says (`short_field`), at least 1 and no more than the field has (`short_within`).
-- With more bytes behind it, whatever they are, the header reads as before up to that field. As long as they are fewer bits than it lacks it is SHORT again at the same bit, and
-- lacks the rest (`short_again`); with as many the field is read, and only behind it the reading can be SHORT again (`short_past`).
use mathlib.Core.Path.{◌≡◌, refl, sym, ap, ◌∙◌, subst, subst⁻¹}
use mathlib.Core.Bool.{Bool, true, false, ◌&&◌, cond}
use mathlib.Core.List.{List, [], ◌∷◌, ◌++◌}
use Prim.Native.Nat.{ℕ, zero, suc, ◌+◌, ◌-◌, ◌*◌, ◌≤◌, ◌<◌, max}
use native.Mathlib.Omega.{arith}
use lib.ListN.{length, get_or, set, replicate}
use lib.Dec.{leb, eqb}
use Rattle.bitstream.specs.Bits.{width_of, bit_count, read_bits}
use Rattle.bitstream.specs.Half.{barred}
use Rattle.std.specs.Prelude.{Result, Ok, Err}
use Rattle.bitstream.specs.Bits as bits
use Rattle.bitstream.specs.declared.Found.{Found}
use Rattle.bitstream.specs.declared.Short.{Short}
use Rattle.bitstream.specs.declared.Field.{Field}
use Rattle.bitstream.specs.declared.Field.TheVariants.{Flag, Mode, Count, Number}
use Rattle.bitstream.proofs.Laws.{value_next, short_bit, width_some}
use Rattle.bitstream.proofs.Lacks.{read_within, read_kept, read_fewer, read_filled}
use Rattle.params.specs.declared.read.Stop.TheVariants.{Done, Raw}
use Rattle.params.specs.declared.read.HeaderError.TheVariants as error
use Rattle.params.specs.Row.{Hand, on, short, mode, float, number_is, number, numbers, list_is, band_list, band_lists, fixed, lists, allowed, entry_is, entry}
use Rattle.promises.proofs.ByNumber.{read_short}
use Rattle.params.specs.Header.{Reading, reply_of, Outcome, gives, put_row, kind_is, after, kinds, all_default, flag_is, start_is, read_header}

-- ---- past a bit: reading goes on behind it, or is short behind it, or is refused for what it has read
abbrev Past : ℕ → Hand → Type 0
Past q (on p s row) = q < p
Past q (short p l) = q < p
Past q (mode p) = Unit {0}
Past q (float p) = Unit {0}

module _ (c : List ℕ) (q : ℕ) where
  number_past : (h : Hand) → Past q h → Past q (number c h)
  unfolding number
  number_past (on p s row) t = go (read_bits c p 16) refl
    where
      pick : (u : Bool) (v k : ℕ) → k ≡ p + 16 → Past q (cond u (float p) (on k (s + 1) (set row s v)))
      pick true v k e = tt
      pick false v k e = omega arith

      go : (r : Result Found Short) → read_bits c p 16 ≡ r → Past q (number_is p s row r)
      go (Err x) e = t
      go (Ok f) e = pick (barred f.value) f.value f.next (value_next c p 16 f e)
  number_past (short p l) t = t
  number_past (mode p) t = tt
  number_past (float p) t = tt

  numbers_past : (n : ℕ) (h : Hand) → Past q h → Past q (numbers c n h)
  unfolding numbers
  numbers_past zero h t = t
  numbers_past (suc n) h t = numbers_past n (number c h) (number_past h t)

  list_past : (i : ℕ) (h : Hand) → Past q h → Past q (band_list c i h)
  unfolding band_list
  list_past i (on p s row) t = go (read_bits c p 4) refl
    where
      go : (r : Result Found Short) → read_bits c p 4 ≡ r → Past q (list_is c i p s row r)
      go (Err x) e = t
      go (Ok f) e = numbers_past (3 * (f.value + 1)) (on f.next s (set row i (f.value + 1))) (omega (arith, value_next c p 4 f e))
  list_past i (short p l) t = t
  list_past i (mode p) t = tt
  list_past i (float p) t = tt

  lists_past : (n i : ℕ) (h : Hand) → Past q h → Past q (band_lists c n i h)
  unfolding band_lists
  lists_past zero i h t = t
  lists_past (suc n) i h t = lists_past n (i + 1) (band_list c i h) (list_past i h t)

  -- an entry whose mode is read
  mode_past : (kind p : ℕ) (f : Found) → q < f.next → Past q (entry_is c kind p (Ok f))
  mode_past kind p f t = go (allowed kind m)
    where
      m : ℕ
      m = f.value

      k : ℕ
      k = f.next

      go : (u : Bool) → Past q (cond u (band_lists c (lists m) 1 (numbers c (fixed m) (on k 3 (set (replicate 128 0) 0 m)))) (mode p))
      go true = lists_past (lists m) 1 (numbers c (fixed m) (on k 3 (set (replicate 128 0) 0 m))) (numbers_past (fixed m) (on k 3 (set (replicate 128 0) 0 m)) t)
      go false = tt

  entry_past : (kind p : ℕ) → q < p → Past q (entry c kind p)
  unfolding entry
  entry_past kind p t = go (read_bits c p 3) refl
    where
      go : (r : Result Found Short) → read_bits c p 3 ≡ r → Past q (entry_is c kind p r)
      go (Err x) e = t
      go (Ok f) e = mode_past kind p f (omega (arith, value_next c p 3 f e))

-- the same of an answer
abbrev Behind : ℕ → Reading → Type 0
Behind q (Ok (Done p)) = q < p
Behind q (Ok (Raw k p)) = Unit {0}
Behind q (Err error.Lent) = Unit {0}
Behind q (Err (error.Short k p l)) = q < p
Behind q (Err (error.Mode k p)) = Unit {0}
Behind q (Err (error.Float k p)) = Unit {0}

kind_behind : (q kind : ℕ) (rows : List ℕ) (h : Hand) → Past q h → Behind q (kind_is kind rows h).answer
kind_behind q kind rows (on p s row) t = go (eqb (get_or row 0 0) 7)
  where
    go : (u : Bool) → Behind q (Ok (cond u (Raw kind p) (Done p)))
    go true = tt
    go false = t
kind_behind q kind rows (short p l) t = t
kind_behind q kind rows (mode p) t = tt
kind_behind q kind rows (float p) t = tt

after_behind : (c : List ℕ) (q kind : ℕ) (r : Reading) (rows : List ℕ) → Behind q r → Behind q (after c kind r rows).answer
after_behind c q kind (Ok (Done p)) rows t = kind_behind q kind rows (entry c kind p) (entry_past c q kind p t)
after_behind c q kind (Ok (Raw k p)) rows t = tt
after_behind c q kind (Err e) rows t = t

kinds_behind : (c : List ℕ) (q n kind : ℕ) (o : Outcome) → Behind q o.answer → Behind q (kinds c n kind o).answer
unfolding kinds
kinds_behind c q zero kind o t = t
kinds_behind c q (suc n) kind o t = kinds_behind c q n (kind + 1) (after c kind o.answer o.rows) (after_behind c q kind o.answer o.rows t)

-- a short field is so at its first bit
short_here : (b : List ℕ) (p n : ℕ) (x : Short) → read_bits b p n ≡ Err x → read_bits b p n ≡ bits.short p x.lacks
short_here b p n x e = e ∙ ap (λ (q : ℕ). bits.short q x.lacks) (short_bit b p n x e)

-- ---- two strings side by side: every field that is read in b is read in c
module _ (b c : List ℕ) (same : (p n v q : ℕ) → read_bits b p n ≡ bits.found v q → read_bits c p n ≡ bits.found v q) where
  -- nothing was short
  abbrev There : Hand → Type 0
  There (on p s row) = Unit {0}
  There (short p l) = ⊥
  There (mode p) = Unit {0}
  There (float p) = Unit {0}

  -- a row behind a field at bit q, by what the field is: short, or read
  abbrev Then : ℕ → Hand → Result Found Short → Type 0
  Then q h (Err x) = h ≡ short q x.lacks
  Then q h (Ok f) = Past q h

  -- Nothing was short in b, and c has the same. Or a field is short in b, and c goes on from it by what it is there.
  data Goes : Hand → Hand → Type 0 where
    alike : (h : Hand) → There h → Goes h h
    stops : (q l : ℕ) (f : Field) (h : Hand) → read_bits b q (width_of f) ≡ bits.short q l → Then q h (read_bits c q (width_of f)) → Goes (short q l) h

  -- a field, and what is made of it on either side
  field_goes : (f : Field) (p : ℕ) (x y : Result Found Short → Hand) → ((o : Short) → x (Err o) ≡ short p o.lacks) → ((o : Short) → y (Err o) ≡ short p o.lacks)
      → ((o : Found) → Goes (x (Ok o)) (y (Ok o))) → ((o : Found) → p < o.next → Past p (y (Ok o)))
      → Goes (x (read_bits b p (width_of f))) (y (read_bits c p (width_of f)))
  field_goes f p x y xs ys g t = go (read_bits b p (width_of f)) refl
    where
      then : (r : Result Found Short) → read_bits c p (width_of f) ≡ r → Then p (y r) r
      then (Err o) e = ys o
      then (Ok o) e = t o (omega (arith, value_next c p (width_of f) o e, width_some f))

      go : (r : Result Found Short) → read_bits b p (width_of f) ≡ r → Goes (x (read_bits b p (width_of f))) (y (read_bits c p (width_of f)))
      go (Err o) e =
          subst⁻¹ (λ (h : Hand). Goes h (y (read_bits c p (width_of f)))) (ap x e ∙ xs o)
          (stops p o.lacks f (y (read_bits c p (width_of f))) (short_here b p (width_of f) o e) (then (read_bits c p (width_of f)) refl))
      go (Ok o) e = rw (e, same p (width_of f) o.value o.next e) (g o)

  -- a step that lets what is short stay, and what is past a bit
  step_then : (x : Hand → Hand) → ((q m : ℕ) → x (short q m) ≡ short q m) → ((q : ℕ) (h : Hand) → Past q h → Past q (x h))
      → (q : ℕ) (h : Hand) (r : Result Found Short) → Then q h r → Then q (x h) r
  step_then x s t q h (Err o) e = ap x e ∙ s q o.lacks
  step_then x s t q h (Ok o) e = t q h e

  number_goes : (h h' : Hand) → Goes h h' → Goes (number b h) (number c h')
  unfolding number
  number_goes _ _ (alike (on p s row) w) = field_goes Number p (number_is p s row) (number_is p s row) (λ o. refl) (λ o. refl) (λ o. read o.value o.next (barred o.value)) (λ o t. pick o.value o.next t (barred o.value))
    where
      read : (v k : ℕ) (u : Bool) → Goes (cond u (float p) (on k (s + 1) (set row s v))) (cond u (float p) (on k (s + 1) (set row s v)))
      read v k true = alike (float p) tt
      read v k false = alike (on k (s + 1) (set row s v)) tt

      pick : (v k : ℕ) → p < k → (u : Bool) → Past p (cond u (float p) (on k (s + 1) (set row s v)))
      pick v k t true = tt
      pick v k t false = t
  number_goes _ _ (alike (short p l) w) = absurd w
  number_goes _ _ (alike (mode p) w) = alike (mode p) tt
  number_goes _ _ (alike (float p) w) = alike (float p) tt
  number_goes _ _ (stops q l f h e t) = stops q l f (number c h) e (step_then (number c) (λ p m. refl) (number_past c) q h (read_bits c q (width_of f)) t)

  numbers_goes : (n : ℕ) (h h' : Hand) → Goes h h' → Goes (numbers b n h) (numbers c n h')
  unfolding numbers
  numbers_goes zero h h' g = g
  numbers_goes (suc n) h h' g = numbers_goes n (number b h) (number c h') (number_goes h h' g)

  list_goes : (i : ℕ) (h h' : Hand) → Goes h h' → Goes (band_list b i h) (band_list c i h')
  unfolding band_list
  list_goes i _ _ (alike (on p s row) w) =
      field_goes Count p (list_is b i p s row) (list_is c i p s row) (λ o. refl) (λ o. refl)
      (λ o. numbers_goes (3 * (o.value + 1)) (on o.next s (set row i (o.value + 1))) (on o.next s (set row i (o.value + 1))) (alike (on o.next s (set row i (o.value + 1))) tt))
      (λ o t. numbers_past c p (3 * (o.value + 1)) (on o.next s (set row i (o.value + 1))) t)
  list_goes i _ _ (alike (short p l) w) = absurd w
  list_goes i _ _ (alike (mode p) w) = alike (mode p) tt
  list_goes i _ _ (alike (float p) w) = alike (float p) tt
  list_goes i _ _ (stops q l f h e t) = stops q l f (band_list c i h) e (step_then (band_list c i) (λ p m. refl) (λ k. list_past c k i) q h (read_bits c q (width_of f)) t)

  lists_goes : (n i : ℕ) (h h' : Hand) → Goes h h' → Goes (band_lists b n i h) (band_lists c n i h')
  unfolding band_lists
  lists_goes zero i h h' g = g
  lists_goes (suc n) i h h' g = lists_goes n (i + 1) (band_list b i h) (band_list c i h') (list_goes i h h' g)

  entry_goes : (kind p : ℕ) → Goes (entry b kind p) (entry c kind p)
  unfolding entry
  entry_goes kind p = field_goes Mode p (entry_is b kind p) (entry_is c kind p) (λ o. refl) (λ o. refl) (λ o. read o.value o.next (allowed kind o.value)) (λ o t. mode_past c p kind p o t)
    where
      start : ℕ → ℕ → Hand
      start m k = on k 3 (set (replicate 128 0) 0 m)

      read : (m k : ℕ) (u : Bool)
          → Goes (cond u (band_lists b (lists m) 1 (numbers b (fixed m) (start m k))) (mode p)) (cond u (band_lists c (lists m) 1 (numbers c (fixed m) (start m k))) (mode p))
      read m k true = lists_goes (lists m) 1 (numbers b (fixed m) (start m k)) (numbers c (fixed m) (start m k)) (numbers_goes (fixed m) (start m k) (start m k) (alike (start m k) tt))
      read m k false = alike (mode p) tt

  -- the same of an answer and its rows
  abbrev Gives : ℕ → ℕ → List ℕ → Outcome → Result Found Short → Type 0
  Gives kind q rows o (Err x) = o ≡ gives (Err (error.Short kind q x.lacks)) rows
  Gives kind q rows o (Ok f) = Behind q o.answer

  -- nothing was short
  abbrev Whole : Reading → Type 0
  Whole (Ok s) = Unit {0}
  Whole (Err error.Lent) = Unit {0}
  Whole (Err (error.Short k p l)) = ⊥
  Whole (Err (error.Mode k p)) = Unit {0}
  Whole (Err (error.Float k p)) = Unit {0}

  data Ends : Outcome → Outcome → Type 0 where
    as_before : (o : Outcome) → Whole o.answer → Ends o o
    is_short : (kind q l : ℕ) (f : Field) (rows : List ℕ) (o : Outcome) → read_bits b q (width_of f) ≡ bits.short q l → Gives kind q rows o (read_bits c q (width_of f))
        → Ends (gives (Err (error.Short kind q l)) rows) o

  kind_ends : (kind : ℕ) (rows : List ℕ) (h h' : Hand) → Goes h h' → Ends (kind_is kind rows h) (kind_is kind rows h')
  kind_ends kind rows _ _ (alike (on p s row) w) = go (eqb (get_or row 0 0) 7)
    where
      go : (u : Bool) → Ends (gives (Ok (cond u (Raw kind p) (Done p))) (put_row rows kind row)) (gives (Ok (cond u (Raw kind p) (Done p))) (put_row rows kind row))
      go true = as_before (gives (Ok (Raw kind p)) (put_row rows kind row)) tt
      go false = as_before (gives (Ok (Done p)) (put_row rows kind row)) tt
  kind_ends kind rows _ _ (alike (short p l) w) = absurd w
  kind_ends kind rows _ _ (alike (mode p) w) = as_before (gives (Err (error.Mode kind p)) rows) tt
  kind_ends kind rows _ _ (alike (float p) w) = as_before (gives (Err (error.Float kind p)) rows) tt
  kind_ends kind rows _ _ (stops q l f h e t) = is_short kind q l f rows (kind_is kind rows h) e (go (read_bits c q (width_of f)) t)
    where
      go : (r : Result Found Short) → Then q h r → Gives kind q rows (kind_is kind rows h) r
      go (Err x) i = ap (kind_is kind rows) i
      go (Ok f) i = kind_behind q kind rows h i

  after_ends : (kind : ℕ) (o o' : Outcome) → Ends o o' → Ends (after b kind o.answer o.rows) (after c kind o'.answer o'.rows)
  after_ends kind _ _ (as_before o w) = go o.answer w
    where
      go : (r : Reading) → Whole r → Ends (after b kind r o.rows) (after c kind r o.rows)
      go (Ok (Done p)) i = kind_ends kind o.rows (entry b kind p) (entry c kind p) (entry_goes kind p)
      go (Ok (Raw k p)) i = as_before (gives (Ok (Raw k p)) o.rows) tt
      go (Err e) i = as_before (gives (Err e) o.rows) i
  after_ends kind _ _ (is_short j q l f rows o e t) = is_short j q l f rows (after c kind o.answer o.rows) e (go (read_bits c q (width_of f)) t)
    where
      go : (r : Result Found Short) → Gives j q rows o r → Gives j q rows (after c kind o.answer o.rows) r
      go (Err x) i = ap (λ (x : Outcome). after c kind x.answer x.rows) i
      go (Ok v) i = after_behind c q kind o.answer o.rows i

  kinds_ends : (n kind : ℕ) (o o' : Outcome) → Ends o o' → Ends (kinds b n kind o) (kinds c n kind o')
  unfolding kinds
  kinds_ends zero kind o o' t = t
  kinds_ends (suc n) kind o o' t = kinds_ends n (kind + 1) (after b kind o.answer o.rows) (after c kind o'.answer o'.rows) (after_ends kind o o' t)

  -- all kinds behind a flag of 0, or an all-default set
  flag_ends : (p : ℕ) (rows : List ℕ) → Ends (flag_is b p rows (read_bits b p 1)) (flag_is c p rows (read_bits c p 1))
  flag_ends p rows = go (read_bits b p 1) refl
    where
      all : (v k : ℕ) (u : Bool) → Ends (cond u (gives (Ok (Done k)) all_default) (kinds b 17 0 (gives (Ok (Done k)) rows))) (cond u (gives (Ok (Done k)) all_default) (kinds c 17 0 (gives (Ok (Done k)) rows)))
      all v k true = as_before (gives (Ok (Done k)) all_default) tt
      all v k false = kinds_ends 17 0 (gives (Ok (Done k)) rows) (gives (Ok (Done k)) rows) (as_before (gives (Ok (Done k)) rows) tt)

      behind : (k : ℕ) (u : Bool) → p < k → Behind p (cond u (gives (Ok (Done k)) all_default) (kinds c 17 0 (gives (Ok (Done k)) rows))).answer
      behind k true t = t
      behind k false t = kinds_behind c p 17 0 (gives (Ok (Done k)) rows) t

      then : (r : Result Found Short) → read_bits c p 1 ≡ r → Gives 0 p rows (flag_is c p rows r) r
      then (Err x) e = refl
      then (Ok f) e = behind f.next (eqb f.value 1) (omega (arith, value_next c p 1 f e))

      go : (r : Result Found Short) → read_bits b p 1 ≡ r → Ends (flag_is b p rows (read_bits b p 1)) (flag_is c p rows (read_bits c p 1))
      go (Err x) e =
          subst⁻¹ (λ (r : Result Found Short). Ends (flag_is b p rows r) (flag_is c p rows (read_bits c p 1))) e
          (is_short 0 p x.lacks Flag rows (flag_is c p rows (read_bits c p 1)) (short_here b p 1 x e) (then (read_bits c p 1) refl))
      go (Ok f) e = rw (e, same p 1 f.value f.next e) (all f.value f.next (eqb f.value 1))

  header_ends : (p k : ℕ) (rows : List ℕ) → Ends (read_header b p k rows) (read_header c p k rows)
  unfolding read_header
  header_ends p k rows = go (leb k 16 && eqb (length rows) 2176) k
    where
      go : (u : Bool) (j : ℕ) → Ends (cond u (start_is b p j rows) (gives (Err error.Lent) rows)) (cond u (start_is c p j rows) (gives (Err error.Lent) rows))
      go false j = as_before (gives (Err error.Lent) rows) tt
      go true zero = flag_ends p rows
      go true (suc j) = kinds_ends (17 - suc j) (suc j) (gives (Ok (Done p)) rows) (gives (Ok (Done p)) rows) (as_before (gives (Ok (Done p)) rows) tt)

  short_case : (o o' : Outcome) → Ends o o' → (kind bit l : ℕ) → o.answer ≡ Err (error.Short kind bit l)
      → (f : Field) × (read_bits b bit (width_of f) ≡ bits.short bit l) × Gives kind bit o.rows o' (read_bits c bit (width_of f))
  short_case _ _ (as_before o w) kind bit l e = absurd (subst Whole e w)
  short_case _ _ (is_short j q m f rows o r t) kind bit l e =
      let ej : j ≡ kind = cc in
      let eq : q ≡ bit = cc in
      let em : m ≡ l = cc in
      (f, rw (sym eq, sym em) r, rw (sym ej, sym eq) t)

itself : (b : List ℕ) (p n v q : ℕ) → read_bits b p n ≡ bits.found v q → read_bits b p n ≡ bits.found v q
itself b p n v q e = e

-- how many bits more there are: behind the last one, or, for a field that starts past it, from its first bit on
abbrev pub more : List ℕ → List ℕ → ℕ → ℕ
more b d bit = bit_count (b ++ d) - max bit (bit_count b)

module _ (b : List ℕ) (p k : ℕ) (rows : List ℕ) (kind bit l : ℕ) (e : reply_of (read_header b p k rows).answer ≡ 2 ∷ kind ∷ bit ∷ l ∷ []) where
  is : (read_header b p k rows).answer ≡ Err (error.Short kind bit l)
  is = read_short (read_header b p k rows).answer kind bit l e

  -- the answer's number is that of a field there
  pub short_field : (f : Field) × (read_bits b bit (width_of f) ≡ bits.short bit l)
  short_field =
      let (f, r, t) = short_case b b (itself b) (read_header b p k rows) (read_header b p k rows) (header_ends b b (itself b) p k rows) kind bit l is in
      (f, r)

  pub short_within : (1 ≤ l) × (l ≤ width_of short_field.0)
  short_within = read_within b bit (width_of short_field.0) l short_field.1

  -- with other bytes behind it
  module _ (d : List ℕ) where
    pub short_again : more b d bit < l → read_header (b ++ d) p k rows ≡ gives (Err (error.Short kind bit (l - more b d bit))) (read_header b p k rows).rows
    short_again h =
        let (f, r, t) = short_case b (b ++ d) (read_kept b d) (read_header b p k rows) (read_header (b ++ d) p k rows) (header_ends b (b ++ d) (read_kept b d) p k rows) kind bit l is in
        subst (Gives b (b ++ d) (read_kept b d) kind bit (read_header b p k rows).rows (read_header (b ++ d) p k rows)) (read_fewer b d bit (width_of f) l r h) t

    pub short_past : l ≤ more b d bit → (kind' bit' l' : ℕ) → reply_of (read_header (b ++ d) p k rows).answer ≡ 2 ∷ kind' ∷ bit' ∷ l' ∷ [] → bit < bit'
    short_past h kind' bit' l' e' =
        let (f, r, t) = short_case b (b ++ d) (read_kept b d) (read_header b p k rows) (read_header (b ++ d) p k rows) (header_ends b (b ++ d) (read_kept b d) p k rows) kind bit l is in
        let behind : Behind bit (read_header (b ++ d) p k rows).answer =
        subst (Gives b (b ++ d) (read_kept b d) kind bit (read_header b p k rows).rows (read_header (b ++ d) p k rows)) (read_filled b d bit (width_of f) l r h) t in
        subst (Behind bit) (read_short (read_header (b ++ d) p k rows).answer kind' bit' l' e') behind
