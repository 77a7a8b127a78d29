-- `grid::copied`: up to x the columns of row y are copied (`Copied`). Assumes nothing.
use Rattle.std.proofs.Common.{◌≡◌, ℕ, ◌+◌, ◌*◌, ◌<◌, ◌≤◌, length, sym, ap, ◌∙◌, subst, lt_trans}
use Rattle.bands.proofs.Laid.{put_length}
use Rattle.bands.proofs.Cells.{place_in, area_le}
use Rattle.bands.proofs.Mirror.{copied_more}
use Rattle.bands.proofs.grid.copied.Goals as goal
use Rattle.bands.proofs.grid.copied.Goals.{In-loop-x}

-- what is known inside the loop
inside : (y w h : ℕ) → w ≡ h → y < h → y < w
inside y w h e Y = subst (λ (n : ℕ). y < n) (sym e) Y

known : (x y w h : ℕ) → w ≡ h → y < h → x < y → w ≤ 256 → (x * w + y < w * w) × (y * w + x < w * w) × (w * w ≤ 65536)
known x y w h e Y X W =
    let v = inside y w h e Y in
    let u = lt_trans X v in
    (place_in x y w w v u, place_in y x w w u v, area_le w w W W)

pub loop-x-preserved : goal.loop-x-preserved
loop-x-preserved c =
    let a = c.args in
    let l = c.loop-x in
    let e = c.put.ensures in
    let k = known _ _ _ _ c.if-sides.false c.requires.0 c.loop-x-test.true c.args.sides.wide.1 in (
      ap length e ∙ put_length l.out (a.sides.w * a.sides.w) (a.y * a.sides.w + l.x) _ _ _ k.1 l.invariant.0,
      copied_more a.sides.w a.y l.x _ l.out _ c.loop-x-test.true (inside _ _ _ c.if-sides.false c.requires.0) a.sides.h c.if-sides.false e l.invariant.1,
    )
