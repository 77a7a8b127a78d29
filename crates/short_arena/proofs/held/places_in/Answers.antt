-- `short_arena::held::places_in` meets its contract: 17 times the places of the largest kind fit. Assumes nothing.
use Rattle.std.proofs.Common.{◌^◌, ◌∙◌, arith, rules}
use Rattle.std.proofs.lemmas.Iterator.{YieldsList-from_slice, YieldsList-from_map}
use Rattle.std.proofs.lemmas.Iterator.Adapters.{fits_from_length, at_most_from_yields_List}
use Rattle.std.proofs.lemmas.Iterator.Consumers.{sum_by_from_yields_List}
use Rattle.transform.specs.Kinds.{places_of}
use Rattle.transform.proofs.Laws.{places_le}
use Rattle.short_arena.proofs.Turns.{sum_over_is}
use Rattle.short_arena.proofs.held.places_in.Goals as goal

pub sum-requires-clause-fits : goal.sum-requires-clause-fits
sum-requires-clause-fits c = fits_from_length _ _ 17 (2 ^ 64) (at_most_from_yields_List (YieldsList-from_slice c.args.held.now cc) c.requires) c.map.ensures.closure (omega arith) (λ x r q k. grind (arith, places_le))

pub returns : goal.returns
returns c =
    let l = c.args.held.now in
    sum_by_from_yields_List places_of l c.map.result _ c.sum.ensures.ran (YieldsList-from_map _ places_of (YieldsList-from_slice l cc) c.map.ensures.closure (λ x r q k. search rules))
    ∙ sum_over_is places_of l
