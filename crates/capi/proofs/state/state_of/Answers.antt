-- `capi::state::state_of` meets its contract: the kinds are the bytes behind the first. Assumes nothing.
use Rattle.std.proofs.Common.{sym, subst, ◌∙◌, rules}
use Rattle.short_arena.proofs.States.{same_state}
use Rattle.capi.specs.Said.{Small}
use Rattle.capi.proofs.StateBytes.{right_state, all_made, in_small}
use Rattle.capi.proofs.state.state_of.Goals as goal

pub returns-clause-state : goal.returns-clause-state
returns-clause-state c =
    let b = c.args.bytes.now in
    let h = c.if-bytes-ne-BYTES.false in
    same_state _ _ _ _ c.from.ensures (all_made _ _ c.from_fn.result b (λ i y q k. search rules) 17 c.from_fn.ensures.items h) ∙ right_state b h

pub returns-clause-small : goal.returns-clause-small
returns-clause-small c = subst Small (sym (returns-clause-state c)) (in_small c.args.bytes.now (λ i. (c.type_inv.bytes i).fits))
