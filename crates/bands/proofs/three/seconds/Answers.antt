-- `three::seconds` meets its contract: where the exponents agree, one loop has all three. Assumes nothing.
use Rattle.std.proofs.Common.{ℕ, ap, ◌∙◌}
use Rattle.bands.specs.Power.{turns}
use Rattle.bands.proofs.PowerLaws.{second_is}
use Rattle.bands.proofs.Tables.{top_links}
use Rattle.bands.proofs.three.seconds.Goals as goal

pub returns-then-e-2 : goal.returns-then-e-2
returns-then-e-2 c =
    let a = c.args in
    let k = c.top_chain.ensures in
    let t = c.turned.ensures in
    let x = c.if-e.true in
    let y = c.if-e-2.true in
    let r = c.rows.ensures in (
      second_is _ a.e.a a.n _ _ _ k t r.0,
      second_is _ a.e.b a.n _ _ _ k (t ∙ ap (λ (e : ℕ). turns e a.n) x) r.1,
      second_is _ a.e.c a.n _ _ _ k (t ∙ ap (λ (e : ℕ). turns e a.n) (x ∙ y)) r.2,
    )

pub rows-requires-clause-links : goal.rows-requires-clause-links
rows-requires-clause-links c = let l = top_links _ c.top_chain.ensures in (l, l, l)
