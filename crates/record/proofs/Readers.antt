-- What the readers of a text go by, one after the other: each leaves the text where it stands for the next. Assumes nothing.
use mathlib.Core.Path.{◌≡◌, refl, sym, ap, ◌∙◌, subst}
use mathlib.Core.List.{List}
use Prim.Native.Nat.{ℕ, ◌≤◌}
use native.Mathlib.Omega.{arith}
use lib.ListN.{length}
use Rattle.std.specs.Prelude.{Option, Some, None, Result, Ok, Err, IsErrAnd}
use Rattle.std.specs.Option.{ok_or}
use Rattle.std.proofs.lemmas.Result.{err_from_is_err_and}
use Rattle.record.specs.declared.Bad.{Bad}
use Rattle.record.specs.declared.Text.{Text}
use Rattle.record.specs.Format.{Answer, got, bad, Format, Lawful, lit, ◌▷◌, map_answer, via, after}
use Rattle.record.specs.Answers.{read_at, answered, reached, Read, Reads}
use Rattle.record.proofs.Laws.{got_bad}
use Rattle.record.proofs.Positions.{first_refuses, second_refuses, both_read, read_via, read_within}

-- ---- a `?`

-- the error that it hands on
pub handed : {T : Type 0} (r : Result T Bad) (b : Bad) → IsErrAnd r (λ y. y ≡ b) → r ≡ Err b
handed r b h = let p : (y : Bad) × (r ≡ Err y) × (y ≡ b) = err_from_is_err_and r h in p.1 ∙ ap Err p.2

-- what `ok_or` passed on was some, and what it refused was none
pub some_of : {T : Type 0} (o : Option T) (d : Bad) (x : T) → Ok x ≡ ok_or o d → o ≡ Some x
some_of None d x e = absurd (let z : ◌≡◌ {A = ℕ} 0 1 = cc in omega arith)
some_of (Some y) d x e = let z : x ≡ y = cc in ap Some (sym z)

pub none_of : {T : Type 0} (o : Option T) (d b : Bad) → Err b ≡ ok_or o d → (o ≡ None) × (d ≡ b)
none_of None d b e = let y : d ≡ b = cc in (refl, y)
none_of (Some x) d b e = absurd (let z : ◌≡◌ {A = ℕ} 0 1 = cc in omega arith)

-- ---- a reader of values

-- a reader's debt, by the answer
pub read_bad : {A : Type 0} (F : Format A) (t u : Text) (r : Result A Bad) (b : Bad) → r ≡ Err b → bad b.at ≡ read_at F t.bytes.now t.at → u.bytes ≡ t.bytes → Read F t u r
read_bad F t u r b j e h = record { answer = ap (λ (x : Result _ Bad). answered x u.at) j ∙ e; same = h }

-- ---- a reader that stores the value

module _ {A : Type 0} (F : Format A) (t u : Text) (P : A → Type 0) where
  pub reads_bad : (r : Result (Unit {0}) Bad) (b : Bad) → r ≡ Err b → bad b.at ≡ read_at F t.bytes.now t.at → u.bytes ≡ t.bytes → Reads F t u r P
  reads_bad r b j e h = record { answer = ap (λ (x : Result _ Bad). answered x u.at) j ∙ ap reached e; stored = λ a q g. absurd (got_bad (sym g ∙ sym e)); same = h }

  pub reads_got : (a : A) → got a u.at ≡ read_at F t.bytes.now t.at → u.bytes ≡ t.bytes → P a → Reads F t u (Ok tt) P
  reads_got a e h p = record {
    answer = ap reached e;
    stored = λ b q g. (let z : got a u.at ≡ got b q = e ∙ g in let y : a ≡ b = cc in subst P y p);
    same = h;
  }

  -- the value that was stored; the refusal
  pub value_of : Reads F t u (Ok tt) P → (a : A) × (got a u.at ≡ read_at F t.bytes.now t.at) × P a
  value_of x = go (read_at F t.bytes.now t.at) refl x.answer
    where
      go : (y : Answer A) → read_at F t.bytes.now t.at ≡ y → got tt u.at ≡ reached y → (a : A) × (got a u.at ≡ read_at F t.bytes.now t.at) × P a
      go (got a q) h e = let z : u.at ≡ q = cc in (a, ap (got a) z ∙ sym h, x.stored a q h)
      go (bad q) h e = absurd (got_bad e)

  pub refusal_of : (b : Bad) → Reads F t u (Err b) P → bad b.at ≡ read_at F t.bytes.now t.at
  refusal_of b x = go (read_at F t.bytes.now t.at) refl x.answer
    where
      go : (y : Answer A) → read_at F t.bytes.now t.at ≡ y → ◌≡◌ {A = Answer (Unit {0})} (bad b.at) (reached y) → bad b.at ≡ read_at F t.bytes.now t.at
      go (got a q) h e = absurd (got_bad (sym e))
      go (bad q) h e = let z : b.at ≡ q = cc in ap bad z ∙ sym h

-- ---- another format that answers alike

pub reads_via : {A B : Type 0} (to : A → B) (from : B → A) (F : Format A) (t u : Text) (r : Result (Unit {0}) Bad) (P : A → Type 0) (Q : B → Type 0)
    → Reads F t u r P → ((a : A) (q : ℕ) → read_at F t.bytes.now t.at ≡ got a q → P a → Q (to a)) → Reads (via to from F) t u r Q
reads_via {A} {B} to from F t u r P Q x f = go (read_at F t.bytes.now t.at) refl
  where
    go : (y : Answer A) → read_at F t.bytes.now t.at ≡ y → Reads (via to from F) t u r Q
    go (got a q) h =
        let w : read_at (via to from F) t.bytes.now t.at ≡ got (to a) q = read_via to from F t.bytes.now t.at ∙ ap (map_answer to) h in
        record {
          answer = x.answer ∙ ap reached h ∙ ap reached (sym w);
          stored = λ b n g. (let z : got (to a) q ≡ got b n = sym w ∙ g in let y : to a ≡ b = cc in subst Q y (f a q h (x.stored a q h)));
          same = x.same;
        }
    go (bad q) h =
        let w : read_at (via to from F) t.bytes.now t.at ≡ bad q = read_via to from F t.bytes.now t.at ∙ ap (map_answer to) h in
        record { answer = x.answer ∙ ap reached h ∙ ap reached (sym w); stored = λ b n g. absurd (got_bad (sym g ∙ w)); same = x.same }

-- ---- one after the other

module _ {A B : Type 0} (F : Format A) (G : A → Format B) (t u : Text) (Q : A × B → Type 0) (h : u.bytes ≡ t.bytes) where
  pub reads_stop : (r : Result (Unit {0}) Bad) (b : Bad) → r ≡ Err b → bad b.at ≡ read_at F t.bytes.now t.at → Reads (F ▷ G) t u r Q
  reads_stop r b j e = reads_bad (F ▷ G) t u Q r b j (sym (first_refuses F G t.bytes.now t.at b.at (sym e))) h

  pub reads_second : (v : Text) (a : A) (r : Result (Unit {0}) Bad) (P : B → Type 0) → got a u.at ≡ read_at F t.bytes.now t.at → Reads (G a) u v r P → ((b : B) → P b → Q (a, b)) → Reads (F ▷ G) t v r Q
  reads_second v a r P e x f = go (read_at (G a) t.bytes.now u.at) refl
    where
      moved : read_at (G a) u.bytes.now u.at ≡ read_at (G a) t.bytes.now u.at
      moved = λ i. read_at (G a) (h i).now u.at

      go : (y : Answer B) → read_at (G a) t.bytes.now u.at ≡ y → Reads (F ▷ G) t v r Q
      go (got b q) k =
          let w : read_at (F ▷ G) t.bytes.now t.at ≡ got (a, b) q = both_read F G t.bytes.now t.at a b u.at q (sym e) k in
          let p : Q (a, b) = f b (x.stored b q (moved ∙ k)) in
          record {
            answer = x.answer ∙ ap reached (moved ∙ k) ∙ ap reached (sym w);
            stored = λ c n g. (let z : got (a, b) q ≡ got c n = sym w ∙ g in let y : ◌≡◌ {A = A × B} (a, b) c = cc in subst Q y p);
            same = x.same ∙ h;
          }
      go (bad q) k =
          let w : read_at (F ▷ G) t.bytes.now t.at ≡ bad q = second_refuses F G t.bytes.now t.at a u.at q (sym e) k in
          record { answer = x.answer ∙ ap reached (moved ∙ k) ∙ ap reached (sym w); stored = λ c n g. absurd (got_bad (sym g ∙ w)); same = x.same ∙ h }

-- behind fixed bytes
module _ {A : Type 0} (w : List ℕ) (F : Format A) (t u : Text) (P : A → Type 0) where
  pub after_stop : (r : Result (Unit {0}) Bad) (b : Bad) → r ≡ Err b → Read (lit w) t u (Err b) → Reads (after w F) t u r P
  after_stop r b j x = reads_via (λ p. p.1) (λ a. (tt, a)) (lit w ▷ λ u. F) t u r (λ p. P p.1) P (reads_stop (lit w) (λ u. F) t u (λ p. P p.1) x.same r b j x.answer) (λ p q g y. y)

  pub after_reads : (v : Text) (r : Result (Unit {0}) Bad) → Read (lit w) t u (Ok tt) → Reads F u v r P → Reads (after w F) t v r P
  after_reads v r x y =
      reads_via (λ p. p.1) (λ a. (tt, a)) (lit w ▷ λ u. F) t v r (λ p. P p.1) P (reads_second (lit w) (λ u. F) t u (λ p. P p.1) x.same v tt r P x.answer y (λ b p. p)) (λ p q g y. y)

-- ---- within the text

pub inside_text : {A : Type 0} (F : Format A) → Lawful F → (s : List ℕ) (at : ℕ) (v : A) (q : ℕ) → at ≤ length s → got v q ≡ read_at F s at → (F.Ok v) × (q ≤ length s)
inside_text F L s at v q h e = read_within F L s at v q h (sym e)
