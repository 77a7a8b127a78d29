-- `record::kinds::row_at` meets its contract. Assumes nothing.
use mathlib.Core.Path.{refl}
use native.Mathlib.Omega.{arith}
use lib.ListN.{set, replicate}
use Rattle.record.proofs.Readers.{handed}
use Rattle.record.proofs.PartPlaces.{mode_read, entry_got, entry_bad, row_got, row_bad}
use Rattle.record.proofs.kinds.row_at.Goals as goal

pub overflow_cast-row : goal.overflow_cast-row
overflow_cast-row c = let t = c.args.text.now in record { fits = omega (arith, mode_read t _ c.args.kind c.in_ok-mode.mode t.within c.in_ok-mode.ensures) }

pub parts_at-requires : goal.parts_at-requires
parts_at-requires c = let t = c.args.text.now in (mode_read t _ c.args.kind c.in_ok-mode.mode t.within c.in_ok-mode.ensures, record { long = refl; first = refl; second = refl })

pub returns-in_err-mode : goal.returns-in_err-mode
returns-in_err-mode c =
    let a = c.args in
    row_bad _ _ a.kind a.rows.now a.rows.now (replicate 128 0) a.arena.now a.arena.now _ _ (handed _ _ c.from_residual.ensures.1) (entry_bad _ _ a.kind (replicate 128 0) (replicate 128 0) a.arena.now a.arena.now _ _ refl c.in_err-mode.ensures)

pub returns-in_err-parts_at : goal.returns-in_err-parts_at
returns-in_err-parts_at c =
    let a = c.args in
    row_bad _ _ a.kind a.rows.now a.rows.now _ a.arena.now _ _ _ (handed _ _ c.from_residual-in_err-parts_at.ensures.1)
    (entry_got _ _ a.kind (replicate 128 0) _ a.arena.now _ c.in_ok-mode.mode c.in_ok-mode.ensures (set (replicate 128 0) 0 c.in_ok-mode.mode) refl _ _ c.in_err-parts_at.ensures)

pub returns : goal.returns
returns c =
    let a = c.args in
    row_got _ _ a.kind a.rows.now _ _ a.arena.now _ _ a.text.now.within
    (entry_got _ _ a.kind (replicate 128 0) _ a.arena.now _ c.in_ok-mode.mode c.in_ok-mode.ensures (set (replicate 128 0) 0 c.in_ok-mode.mode) refl _ _ c.in_ok-parts_at.ensures) c.store_all.ensures.items
