-- `root_units` meets its contract: `root_bits` of `proofs/Written.antt`. Assumes nothing.
use Rattle.std.proofs.Common.{◌≡◌, ℕ, ◌^◌, ◌<◌, sym, subst, lt_of_le_of_lt, arith}
use Rattle.bands.specs.Root.{whole_root, IsRoot}
use Rattle.bands.specs.Views.{Lifted}
use Rattle.bands.proofs.Roots.{whole_is, sq_cancel}
use Rattle.bands.proofs.Written.{root_bits}
use Rattle.bands.proofs.root.root_units.Goals as goal

is_root : (m e n h r : ℕ) → Lifted m e n h → r ≡ whole_root n → IsRoot n r
is_root m e n h r l q = subst (IsRoot n) (sym q) (whole_is n)

small : (m e n h r : ℕ) → Lifted m e n h → IsRoot n r → r < 2 ^ 25
small m e n h r l q = sq_cancel r (2 ^ 25) (lt_of_le_of_lt q.low l.most)

pub overflow_add-result : goal.overflow_add-result
overflow_add-result c =
    let l = c.lift-s.ensures in
    let q = is_root c.args.m c.args.e c.lift-s.result.n c.lift-s.result.h c.whole_root.result l c.whole_root.ensures in
    omega (arith, small c.args.m c.args.e c.lift-s.result.n c.lift-s.result.h c.whole_root.result l q)

pub returns : goal.returns
returns c =
    let m = c.args.m in
    let e = c.args.e in
    let n = c.lift-s.result.n in
    let h = c.lift-s.result.h in
    let l = c.lift-s.ensures in
    root_bits m e n h c.whole_root.result l (is_root m e n h c.whole_root.result l c.whole_root.ensures)
