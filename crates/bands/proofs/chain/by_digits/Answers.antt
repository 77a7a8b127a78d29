-- `chain::by_digits`: each of the eight roots gets its last digits. Assumes nothing.
use Rattle.std.proofs.Common.{◌+◌, ◌*◌, get_or, ap, ◌∙◌, rules, tests}
use Rattle.bands.specs.Root.{whole_root}
use Rattle.bands.proofs.TableLaws.{makes_each}
use Rattle.bands.proofs.chain.by_digits.Goals as goal

pub returns : goal.returns
returns c =
    let b = c.begun-most in
    let m = b.result in
    record {
      each = λ k h.
          makes_each _ (λ i. whole_root ((get_or m.rem i 0 + get_or m.root i 0 * get_or m.root i 0) * 64)) _ _ (λ x y q r. search (rules, tests)) 8 c.from_fn.ensures.items k h
          ∙ ap whole_root (b.ensures.same k h);
    }
