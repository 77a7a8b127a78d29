-- `own_power::power` is P: two rows of products from the chain of q, finished. Assumes nothing.
use Rattle.std.proofs.Common.{◌≡◌, ℕ, ◌^◌, ◌<◌, ◌≤◌, T, get_or, sym, ap, ◌∙◌, subst, le_trans, le_of_eq, lt_of_le_of_lt, le_of_lt}
use lib.Ieee.{binary32, fits}
use Rattle.bands.specs.Views.{chain_from, IsChain, start_of, finished, second_row, Starts}
use Rattle.bands.proofs.ChainLists.{first_of}
use Rattle.bands.proofs.PowerLaws.{start_low, start_high, exponent_few, row_starts, second_range, power_is}
use Rattle.bands.proofs.own_power.power.Goals as goal
use Rattle.bands.proofs.own_power.power.Goals.{After-chain-roots, After-row, Start}

held : (c : Start) → T (fits binary32 c.args.q)
held c = subst T (sym c.well_formed.0.1) tt

-- the chain is that of q's start
module _ (c : After-chain-roots) where
  start : get_or c.chain-roots.result 0 0 ≡ start_of c.args.q
  start = first_of _ c.chain-roots.result c.chain-roots.ensures ∙ c.start_of-s.ensures.1

  few : c.start_of-s.result.e < 278
  few = lt_of_le_of_lt (le_of_eq c.start_of-s.ensures.0) (exponent_few c.args.q (held c.before.before))

  low : 2 ^ 31 ≤ get_or c.chain-roots.result 0 0
  low = le_trans (start_low c.args.q (held c.before.before)) (le_of_eq (sym start))

  high : get_or c.chain-roots.result 0 0 ≤ 2 ^ 32
  high = le_trans (le_of_eq start) (le_of_lt (start_high c.args.q (held c.before.before)))

  links : IsChain c.chain-roots.result
  links = record { is = c.chain-roots.ensures ∙ ap (λ (s : ℕ). chain_from s 33) (sym (first_of _ c.chain-roots.result c.chain-roots.ensures)); low = low; high = high }

begins : (c : After-row) → Starts c.row.result
begins c = let d = (goal.at.second-requires c).After-chain-roots in row_starts _ _ _ (low d) (high d) d.ranges.n.fits c.row.ensures

pub second-requires : goal.second-requires
second-requires c = let d = (goal.at.second-requires c).After-chain-roots in (few d, d.ranges.n.fits, begins c)

pub finish-requires : goal.finish-requires
finish-requires c =
    let d = (goal.at.finish-requires c).After-chain-roots in
    let z = second_range _ _ _ _ (begins c.before) c.second.ensures in
    (few d, d.ranges.n.fits, z.0, z.1)

pub returns : goal.returns
returns c =
    let d = (goal.at.returns c).After-chain-roots in
    let a = d.args in
    let e = d.start_of-s.result.e in
    c.finish.ensures
    ∙ ap (λ (y : ℕ). finished e a.n y) (c.second.ensures ∙ ap (second_row e a.n) c.row.ensures)
    ∙ power_is a.q (held d.before.before) _ e a.n (start d) d.start_of-s.ensures.0

pub row-requires-clause-chain : goal.row-requires-clause-chain
row-requires-clause-chain c = links (goal.at.row-requires-clause-chain c).After-chain-roots
