-- `freq::numbers_at` is `corner_by` of each channel. Assumes nothing.
use Rattle.std.proofs.Common.{ℕ, sym, ◌∙◌, subst}
use Rattle.bands.specs.Position.{Cut}
use Rattle.bands.proofs.Freqs.{freq_cut}
use Rattle.bands.proofs.freq.numbers_at.Goals as goal

pub weigh_three-requires : goal.weigh_three-requires
weigh_three-requires c =
    let h = c.requires in
    let p = freq_cut c.args.k h.0 (sym c.has_number.ensures ∙ c.if-has_number.true) in
    subst (λ (n : ℕ). Cut n c.freq_position.result) (sym h.1) (subst (Cut 4) (sym c.freq_position.ensures) p)
