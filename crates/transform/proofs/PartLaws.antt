-- A part as the code cuts it, `at` up to `at + n`; and a kind's part of an arena: its length, and an arena with another part laid in. Assumes nothing.
use mathlib.Core.Path.{◌≡◌, sym, ap, ◌∙◌, subst}
use mathlib.Core.List.{List, ◌++◌}
use Prim.Native.Nat.{ℕ, ◌+◌, ◌-◌, ◌≤◌}
use native.Mathlib.Omega.{arith}
use lib.ListN.{length, take, drop, length-append, length-drop, take-append-drop}
use lib.Seq.{length-take-le, drop-drop}
use Rattle.transform.specs.Kinds.{places_of, start_of, part, spliced, laid}
use Rattle.transform.proofs.Laws.{end_le}

pub part_length : {A : Type 0} (k : ℕ) (l : List A) → length l ≡ 394752 → length (part k l) ≡ places_of k
part_length k l e =
    length-take-le (places_of k) (drop (start_of k) l)
    (subst (λ (n : ℕ). places_of k ≤ n) (sym (length-drop (start_of k) l ∙ ap (λ (n : ℕ). n - start_of k) e)) (rest (start_of k) (places_of k) (end_le k)))
  where
    rest : (s p : ℕ) → s + p ≤ 394752 → p ≤ 394752 - s
    rest s p h = omega arith

-- n elements from a place on
pub cut_at : {A : Type 0} (at n : ℕ) (l : List A) → take (at + n - at) (drop at l) ≡ take n (drop at l)
cut_at at n l = let e : at + n - at ≡ n = omega arith in ap (λ (i : ℕ). take i (drop at l)) e

-- a kind's
pub cut : {A : Type 0} (k st pl : ℕ) (l : List A) → st ≡ start_of k → pl ≡ places_of k → take (st + pl - st) (drop st l) ≡ part k l
cut k st pl l e f = cut_at st pl l ∙ ap (λ (n : ℕ). take n (drop st l)) f ∙ ap (λ (n : ℕ). take (places_of k) (drop n l)) e

-- a part laid in where it stood
pub laid_own : {A : Type 0} (k : ℕ) (l : List A) → laid k (part k l) l ≡ l
laid_own {A} k l =
    ap (λ (y : List A). take (start_of k) l ++ (part k l ++ y)) (sym (drop-drop (places_of k) (start_of k) l))
    ∙ ap (λ (y : List A). take (start_of k) l ++ y) (take-append-drop (places_of k) (drop (start_of k) l))
    ∙ take-append-drop (start_of k) l

-- before the part as many as there are
pub before_length : {A : Type 0} (k : ℕ) (l : List A) → length l ≡ 394752 → length (take (start_of k) l) ≡ start_of k
before_length k l e = length-take-le (start_of k) l (let h = end_le k in omega arith)

-- as many put in as were there
pub spliced_length : {A : Type 0} (at end : ℕ) (ws l : List A) → at + length ws ≡ end → end ≤ length l → length (spliced at end ws l) ≡ length l
spliced_length at end ws l e h =
    let a = length-append (take at l) (ws ++ drop end l) in
    let b = length-append ws (drop end l) in
    let c = length-drop end l in
    let d = length-take-le at l (omega arith) in
    omega arith

pub laid_length : {A : Type 0} (k : ℕ) (ws l : List A) → length l ≡ 394752 → length ws ≡ places_of k → length (laid k ws l) ≡ 394752
laid_length k ws l e f = spliced_length (start_of k) (start_of k + places_of k) ws l (ap (λ (n : ℕ). start_of k + n) f) (subst (λ (n : ℕ). start_of k + places_of k ≤ n) (sym e) (end_le k)) ∙ e
