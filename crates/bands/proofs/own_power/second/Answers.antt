-- `own_power::second` is `second_row`. Assumes nothing.
use Rattle.std.proofs.Common.{◌^◌, lit≤}
use Rattle.bands.proofs.ChainLists.{is_chain}
use Rattle.bands.proofs.PowerLaws.{second_is}
use Rattle.bands.proofs.own_power.second.Goals as goal

pub returns : goal.returns
returns c =
    let a = c.args in
    second_is _ a.e a.n _ _ _ c.top_chain.ensures c.turned.ensures c.row.ensures

pub row-requires-clause-chain : goal.row-requires-clause-chain
row-requires-clause-chain c = is_chain (2 ^ 32) _ c.top_chain.ensures (lit≤ tt) (lit≤ tt)
