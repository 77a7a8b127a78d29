-- `params::read::read_entry` meets its contract: a mode of three bits is below 8, and every mode's numbers fit a row (`shape_fits`). Assumes nothing.
use mathlib.Core.Path.{sym, ap, ◌∙◌}
use native.Mathlib.Omega.{arith}
use borrow.Author.Rules.{rules}
use mathlib.Core.List.{List}
use Prim.Native.Nat.{ℕ}
use lib.ListN.{set}
use Rattle.std.proofs.lemmas.Result.{err_from_is_err_and}
use Rattle.bitstream.proofs.Laws.{value_lt}
use Rattle.params.specs.Row.{on, numbers, band_lists, fixed, lists}
use Rattle.params.proofs.RowLaws.{entry_short, entry_mode, entry_on, lists_fault}
use Rattle.params.proofs.read.read_entry.Goals as goal

pub returns-in_err-found : goal.returns-in_err-found
returns-in_err-found c =
    let p = err_from_is_err_and c.from_residual.result c.from_residual.ensures.1 in
    rw (p.1, p.2) (sym (entry_short _ _ _ _ (search rules)))

pub returns-then-not-mode_allowed : goal.returns-then-not-mode_allowed
returns-then-not-mode_allowed c =
    sym (entry_mode _ _ _ c.in_ok-found.found (search rules) (rw c.from-mode.ensures at (sym c.mode_allowed.ensures ∙ c.if-not-mode_allowed.true)))

pub bounds-mode : goal.bounds-mode
bounds-mode c = omega (arith, c.from-mode.ensures, value_lt c.args.bytes.now c.args.bit 3 c.in_ok-found.found (search rules))

pub returns-in_err-then : goal.returns-in_err-then
returns-in_err-then c =
    let x = c.in_err-then.field-0.0 in
    let p = err_from_is_err_and c.from_residual-in_err-then.result c.from_residual-in_err-then.ensures.1 in
    let f = c.in_ok-found.found in
    let b = c.args.bytes.now in
    let m = c.from-mode.ensures in
    rw (p.1, p.2)
    (sym (lists_fault b (lists f.value) 1 x c.read_numbers.new.row)
    ∙ ap (band_lists b (lists f.value) 1)
    (c.in_err-then.ensures.row_after ∙ ap (λ (k : ℕ). numbers b (fixed k) (on f.next 3 (set c.args.row.now 0 f.value))) m ∙ ap (λ (w : List ℕ). numbers b (fixed f.value) (on f.next 3 (set w 0 f.value))) c.requires)
    ∙ sym (entry_on _ _ _ f (search rules) (rw m at (sym c.mode_allowed.ensures ∙ c.if-not-mode_allowed.false))))

pub bounds-mode-2 : goal.bounds-mode-2
bounds-mode-2 c = omega (arith, c.from-mode.ensures, value_lt c.args.bytes.now c.args.bit 3 c.in_ok-found.found (search rules))

pub returns : goal.returns
returns c =
    let f = c.in_ok-found.found in
    let b = c.args.bytes.now in
    let m = c.from-mode.ensures in
    let then = c.in_ok-then.then in
    c.read_lists.ensures
    ∙ ap (λ (k : ℕ). band_lists b (lists k) 1 (on then.bit then.slot c.read_numbers.new.row)) m
    ∙ ap (band_lists b (lists f.value) 1)
    (c.in_ok-then.ensures.row_after ∙ ap (λ (k : ℕ). numbers b (fixed k) (on f.next 3 (set c.args.row.now 0 f.value))) m ∙ ap (λ (w : List ℕ). numbers b (fixed f.value) (on f.next 3 (set w 0 f.value))) c.requires)
    ∙ sym (entry_on _ _ _ f (search rules) (rw m at (sym c.mode_allowed.ensures ∙ c.if-not-mode_allowed.false)))
