-- `three::rows` meets its contract: of each chain what is left of n gives the product of the definition (`Left`). Assumes nothing.
use Rattle.std.proofs.Common.{◌≡◌, ℕ, ◌+◌, ◌<◌, lt_of_lt_of_le, le_of_lt, arith, pow_pos}
use Rattle.bands.specs.Views.{Starts}
use Rattle.bands.proofs.SetBits.{left_none, left_less}
use Rattle.bands.proofs.Tables.{link_on, link_fits}
use Rattle.bands.proofs.three.rows.Goals as goal
use Rattle.bands.proofs.three.rows.Goals.{In-loop-left}

start_pos : (y : ℕ) → Starts y → 0 < y
start_pos y s = lt_of_lt_of_le (pow_pos 30) s.0

-- where the number for bit j stands in the second chain and in the third
in_second : (at step j : ℕ) → at + 1 + j + step ≡ at + step + (1 + j)
in_second at step j = omega arith

in_third : (at step j : ℕ) → at + 1 + j + step + step ≡ at + step + step + (1 + j)
in_third at step j = omega arith

in_first : (at j : ℕ) → at + 1 + j ≡ at + (1 + j)
in_first at j = omega arith

pub loop-left-smaller : goal.loop-left-smaller
loop-left-smaller c = left_less _ _ _ _ _ c.loop-left.invariant.0 c.loop-left-test.true

pub returns : goal.returns
returns c = let l = c.loop-left-test.false in let i = c.loop-left.invariant in (left_none _ _ _ _ _ l i.0, left_none _ _ _ _ _ l i.1, left_none _ _ _ _ _ l i.2)

pub overflow_mul-a : goal.overflow_mul-a
overflow_mul-a c =
    let a = c.args in
    let y = c.requires.starts.0 in
    record { fits = link_fits a.t.now a.at _ _ _ _ _ (in_first a.at _) c.requires.links.0 c.loop-left.invariant.0 c.loop-left-test.true (start_pos _ y) (le_of_lt y.1) c.ranges.n.fits }

pub overflow_mul-b : goal.overflow_mul-b
overflow_mul-b c =
    let a = c.args in
    let y = c.requires.starts.1 in
    record { fits = link_fits a.t.now (a.at + a.step) _ _ _ _ _ (in_second a.at a.step _) c.requires.links.1 c.loop-left.invariant.1 c.loop-left-test.true (start_pos _ y) (le_of_lt y.1) c.ranges.n.fits }

pub overflow_mul-c : goal.overflow_mul-c
overflow_mul-c c =
    let a = c.args in
    let y = c.requires.starts.2 in
    record { fits = link_fits a.t.now (a.at + a.step + a.step) _ _ _ _ _ (in_third a.at a.step _) c.requires.links.2 c.loop-left.invariant.2 c.loop-left-test.true (start_pos _ y) (le_of_lt y.1) c.ranges.n.fits }

pub loop-left-preserved : goal.loop-left-preserved
loop-left-preserved c =
    let a = c.args in
    let k = c.requires.links in
    let l = c.loop-left-test.true in (
      link_on a.t.now a.at _ _ _ _ _ (in_first a.at _) k.0 c.loop-left.invariant.0 l,
      link_on a.t.now (a.at + a.step) _ _ _ _ _ (in_second a.at a.step _) k.1 c.loop-left.invariant.1 l,
      link_on a.t.now (a.at + a.step + a.step) _ _ _ _ _ (in_third a.at a.step _) k.2 c.loop-left.invariant.2 l,
    )
