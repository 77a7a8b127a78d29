-- Cases one by one, for the function that replays them. Assumes nothing.
use Rattle.std.proofs.Common.{◌≡◌, ℕ, suc, ◌+◌, ◌-◌, ◌≤◌, List, ◌++◌, codes, refl, sym, subst, ◌∙◌, arith, Option}
use Rattle.std.proofs.KnownBytes.{Appends-trans}
use Rattle.std.specs.Io.KnownBytes.{Appends}
use Rattle.show.specs.Input.{word_at, named_at}
use Rattle.show.specs.Runs.{Replayed}

-- no case yet
pub replayed_none : (leaves : List ℕ → ℕ → Option (List ℕ) → Option (List ℕ) → Type 0) (s : List ℕ) (a : Option (List ℕ)) → Replayed leaves s 0 a a
unfolding Replayed
replayed_none leaves s a = refl

next_case : (leaves : List ℕ → ℕ → Option (List ℕ) → Option (List ℕ) → Type 0) (s name : List ℕ) (i at : ℕ) (a b c d e : Option (List ℕ)) → Replayed leaves s i a b → at ≡ word_at s (suc i)
    → name ≡ named_at s at 0 → Appends b c name → Appends c d (codes "\n") → leaves s at d e → Replayed leaves s (suc i) a e
unfolding Replayed
next_case leaves s name i at a b c d e r f n p q w =
    let named = subst (λ (bs : List ℕ). Appends b d (bs ++ codes "\n")) n (Appends-trans b c d name (codes "\n") p q) in
    (b, r, d, subst (λ (k : ℕ). Appends b d (named_at s k 0 ++ codes "\n")) f named, subst (λ (k : ℕ). leaves s k d e) f w)

-- one case more, whose bytes t are the input's: the first n are replayed
pub replayed_more : (leaves : List ℕ → ℕ → Option (List ℕ) → Option (List ℕ) → Type 0) (s t name : List ℕ) (i n at : ℕ) (a b c d e : Option (List ℕ)) → Replayed leaves s (i - 1) a b
    → name ≡ named_at t at 0 → Appends b c name → Appends c d (codes "\n") → leaves t at d e → t ≡ s → at ≡ word_at s i → 1 ≤ i → i ≡ n → Replayed leaves s n a e
replayed_more leaves s t name i n at a b c d e r f p q w h k below same =
    let m : i ≡ suc (i - 1) = omega (arith, below) in
    let there : at ≡ word_at s (suc (i - 1)) = subst (λ (j : ℕ). at ≡ word_at s j) m k in
    let all = next_case leaves s name (i - 1) at a b c d e r there (subst (λ (u : List ℕ). name ≡ named_at u at 0) h f) p q (subst (λ (u : List ℕ). leaves u at d e) h w) in
    subst (λ (j : ℕ). Replayed leaves s j a e) (sym m ∙ same) all

-- all of n
pub replayed_all : (leaves : List ℕ → ℕ → Option (List ℕ) → Option (List ℕ) → Type 0) (s : List ℕ) (i n : ℕ) (a b : Option (List ℕ)) → Replayed leaves s (i - 1) a b → i ≡ n + 1 → Replayed leaves s n a b
replayed_all leaves s i n a b r e = let m : i - 1 ≡ n = omega (arith, e) in subst (λ (k : ℕ). Replayed leaves s k a b) m r
