-- An answer by the number of its reply: DONE names one case of each enum, SHORT and RAW one of reading, and DENOM one of expanding. Assumes nothing.
use mathlib.Core.Path.{◌≡◌, refl, ap}
use mathlib.Core.List.{List, [], ◌∷◌}
use Prim.Native.Nat.{ℕ, suc}
use native.Mathlib.Omega.{arith}
use borrow.Author.Tests.{ne_eqb}
use lib.ListN.{get_or}
use Rattle.transform.proofs.Numbered.{differs}
use Rattle.std.specs.Prelude.{Ok, Err}
use Rattle.params.specs.declared.read.Stop.TheVariants as stop
use Rattle.params.specs.declared.read.HeaderError.TheVariants as error
use Rattle.params.specs.Header.{Reading, reply_of as read_reply}
use Rattle.matrix.specs.declared.ExpandError.TheVariants.{Lent, Row, Band, Weight, Denom}
use Rattle.matrix.specs.Expanded.{Expanded, reply_of}
use Rattle.dequant.specs.declared.jpeg.JpegError.TheVariants as jpeg
use Rattle.dequant.specs.Jpeg.{Jpeg, jpeg_numbers}

-- another number is not DONE's
pub other : (n : ℕ) (l m : List ℕ) → suc n ∷ l ≡ 0 ∷ m → ⊥
other n l m e = differs (suc n) 0 l m (ne_eqb (suc n) 0 (λ z. omega arith)) e

-- of expanding
pub done_only : (a : Expanded) → reply_of a ≡ 0 ∷ [] → a ≡ Ok tt
done_only (Ok u) e = refl
done_only (Err Lent) e = absurd (other 0 [] [] e)
done_only (Err (Row k)) e = absurd (other 5 (k ∷ []) [] e)
done_only (Err (Band k c i)) e = absurd (other 6 (k ∷ c ∷ i ∷ []) [] e)
done_only (Err (Weight k c p)) e = absurd (other 7 (k ∷ c ∷ p ∷ []) [] e)
done_only (Err (Denom k)) e = absurd (other 11 (k ∷ []) [] e)

-- and with DENOM's kind
pub denom_only : (a : Expanded) (k : ℕ) → reply_of a ≡ 12 ∷ k ∷ [] → a ≡ Err (Denom k)
denom_only (Ok u) k e = absurd (differs 0 12 [] (k ∷ []) refl e)
denom_only (Err Lent) k e = absurd (differs 1 12 [] (k ∷ []) refl e)
denom_only (Err (Row i)) k e = absurd (differs 6 12 (i ∷ []) (k ∷ []) refl e)
denom_only (Err (Band i c b)) k e = absurd (differs 7 12 (i ∷ c ∷ b ∷ []) (k ∷ []) refl e)
denom_only (Err (Weight i c p)) k e = absurd (differs 8 12 (i ∷ c ∷ p ∷ []) (k ∷ []) refl e)
denom_only (Err (Denom i)) k e = ap (λ (l : List ℕ). Err (Denom (get_or l 1 0))) e

-- of a call for JPEG values
pub jpeg_done : (r : Jpeg) → jpeg_numbers r ≡ 0 ∷ [] → r ≡ Ok tt
jpeg_done (Ok u) e = refl
jpeg_done (Err jpeg.Lent) e = absurd (other 0 [] [] e)
jpeg_done (Err (jpeg.Row k)) e = absurd (other 5 (k ∷ []) [] e)
jpeg_done (Err jpeg.None) e = absurd (other 10 [] [] e)

-- of reading, with the next bit
pub read_done : (r : Reading) (q : ℕ) → read_reply r ≡ 0 ∷ q ∷ [] → r ≡ Ok (stop.Done q)
read_done (Ok (stop.Done p)) q e = ap (λ (l : List ℕ). Ok (stop.Done (get_or l 1 0))) e
read_done (Ok (stop.Raw k p)) q e = absurd (other 4 (k ∷ p ∷ []) (q ∷ []) e)
read_done (Err error.Lent) q e = absurd (other 0 [] (q ∷ []) e)
read_done (Err (error.Short k p l)) q e = absurd (other 1 (k ∷ p ∷ l ∷ []) (q ∷ []) e)
read_done (Err (error.Mode k p)) q e = absurd (other 2 (k ∷ p ∷ []) (q ∷ []) e)
read_done (Err (error.Float k p)) q e = absurd (other 3 (k ∷ p ∷ []) (q ∷ []) e)

-- and with RAW's kind and next bit
pub read_raw : (r : Reading) (k q : ℕ) → read_reply r ≡ 5 ∷ k ∷ q ∷ [] → r ≡ Ok (stop.Raw k q)
read_raw (Ok (stop.Done p)) k q e = absurd (differs 0 5 (p ∷ []) (k ∷ q ∷ []) refl e)
read_raw (Ok (stop.Raw i p)) k q e = ap (λ (l : List ℕ). Ok (stop.Raw (get_or l 1 0) (get_or l 2 0))) e
read_raw (Err error.Lent) k q e = absurd (differs 1 5 [] (k ∷ q ∷ []) refl e)
read_raw (Err (error.Short i p l)) k q e = absurd (differs 2 5 (i ∷ p ∷ l ∷ []) (k ∷ q ∷ []) refl e)
read_raw (Err (error.Mode i p)) k q e = absurd (differs 3 5 (i ∷ p ∷ []) (k ∷ q ∷ []) refl e)
read_raw (Err (error.Float i p)) k q e = absurd (differs 4 5 (i ∷ p ∷ []) (k ∷ q ∷ []) refl e)

-- and with SHORT's kind, bit and how much is lacking
pub read_short : (r : Reading) (k q l : ℕ) → read_reply r ≡ 2 ∷ k ∷ q ∷ l ∷ [] → r ≡ Err (error.Short k q l)
read_short (Ok (stop.Done p)) k q l e = absurd (differs 0 2 (p ∷ []) (k ∷ q ∷ l ∷ []) refl e)
read_short (Ok (stop.Raw i p)) k q l e = absurd (differs 5 2 (i ∷ p ∷ []) (k ∷ q ∷ l ∷ []) refl e)
read_short (Err error.Lent) k q l e = absurd (differs 1 2 [] (k ∷ q ∷ l ∷ []) refl e)
read_short (Err (error.Short i p m)) k q l e = ap (λ (l : List ℕ). Err (error.Short (get_or l 1 0) (get_or l 2 0) (get_or l 3 0))) e
read_short (Err (error.Mode i p)) k q l e = absurd (differs 3 2 (i ∷ p ∷ []) (k ∷ q ∷ l ∷ []) refl e)
read_short (Err (error.Float i p)) k q l e = absurd (differs 4 2 (i ∷ p ∷ []) (k ∷ q ∷ l ∷ []) refl e)
