-- What a call leaves where the reply's slice has three places.
-- Assumes nothing.
use mathlib.Core.Path.{◌≡◌, sym, ap}
use mathlib.Core.Bool.{Bool, cond}
use mathlib.Core.List.{List}
use Prim.Native.Nat.{ℕ}
use borrow.Author.Tests.{eq-eqb}
use lib.ListN.{length}
use Rattle.capi.specs.Reply.{kept}

module _ {A : Type 0} (reply : List ℕ) (new old : List A) where
  pub kept_right : length reply ≡ 3 → new ≡ kept reply new old
  kept_right right = sym (ap (λ (t : Bool). cond t new old) (eq-eqb (length reply) 3 right))
