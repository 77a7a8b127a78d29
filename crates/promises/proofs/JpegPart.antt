-- How the two JPEG calls go together: the part is 64 long where the answer is DONE, and empty with every other answer. Assumes nothing.
use mathlib.Core.Path.{◌≡◌, refl, sym, ap, ◌∙◌, subst}
use mathlib.Core.List.{List, [], ◌∷◌}
use Prim.Native.Nat.{ℕ, ◌+◌, ◌*◌, ◌≤◌, ◌<◌}
use native.Mathlib.Omega.{arith}
use lib.IntN.{ℤ, pos}
use lib.ListN.{length, get_or, take, drop, length-drop}
use lib.Seq.{length-take-le, get_or-take, get_or-drop}
use Rattle.std.specs.Prelude.{Ok, Err}
use Rattle.dequant.specs.Jpeg.{Jpeg, jpeg_numbers, jpeg_answer, given_by, jpeg_values}
use Rattle.dequant.proofs.JpegLaws.{done_says, values_are}
use Rattle.promises.proofs.ByNumber.{jpeg_done}

module _ (rows : List ℕ) (zs : List ℤ) (c : ℕ) where
  -- with DONE, 64 values: those of the samples from the channel's start
  pub done_length : jpeg_numbers (jpeg_answer rows (length zs) c) ≡ 0 ∷ [] → length (jpeg_values rows zs c) ≡ 64
  done_length said =
      let e = jpeg_done (jpeg_answer rows (length zs) c) said in
      let g = done_says rows (length zs) c e in
      let l : length zs ≡ 394752 = g.samples in
      let h : c < 3 = g.channel in
      ap length (sym (values_are rows zs c (Ok tt) (sym e)))
      ∙ length-take-le 64 (drop (c * 64) zs) (subst (λ (n : ℕ). 64 ≤ n) (sym (length-drop (c * 64) zs)) (omega arith))

  pub done_at : jpeg_numbers (jpeg_answer rows (length zs) c) ≡ 0 ∷ [] → (p : ℕ) → p < 64 → get_or (jpeg_values rows zs c) p (pos 0) ≡ get_or zs (c * 64 + p) (pos 0)
  done_at said p h =
      ap (λ (l : List ℤ). get_or l p (pos 0)) (sym (values_are rows zs c (Ok tt) (sym (jpeg_done (jpeg_answer rows (length zs) c) said))))
      ∙ get_or-take 64 (drop (c * 64) zs) p (pos 0) h
      ∙ get_or-drop (c * 64) zs p (pos 0)

  -- a part that is not empty says DONE
  pub some_done : 0 < length (jpeg_values rows zs c) → jpeg_numbers (jpeg_answer rows (length zs) c) ≡ 0 ∷ []
  some_done h = go (jpeg_answer rows (length zs) c) refl
    where
      none : (r : Jpeg) → r ≡ jpeg_answer rows (length zs) c → given_by r (take 64 (drop (c * 64) zs)) ≡ [] → ⊥
      none r e f = let z : length (jpeg_values rows zs c) ≡ 0 = ap length (sym (values_are rows zs c r e) ∙ f) in omega arith

      go : (r : Jpeg) → r ≡ jpeg_answer rows (length zs) c → jpeg_numbers (jpeg_answer rows (length zs) c) ≡ 0 ∷ []
      go (Ok u) e = ap jpeg_numbers (sym e)
      go (Err w) e = absurd (none (Err w) e refl)
