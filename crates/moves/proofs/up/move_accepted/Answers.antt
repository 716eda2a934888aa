use Rattle.std.proofs.Common.{Err}
use Rattle.refusals.specs.Answers.{Amount}
use Prim.Native.Nat.{ℕ}
use mathlib.Core.Path.{◌≡◌, sym, ap, ◌∙◌}
use mathlib.Core.Bool.{true, false}
use mathlib.Core.List.{List}
use borrow.Author.Tests.{eq-eqb, ne_eqb}
use lib.ListN.{length}
use Rattle.refusals.specs.declared.Refusal.TheVariants.{CompaccessHolders, MoveLimits}
use Rattle.header.proofs.Inside.{header-inside}
use Rattle.moves.specs.declared.target.Move.TheVariants.{Up}
use Rattle.moves.specs.Moved.{new_image}
use Rattle.moves.specs.Holders.{holders}
use Rattle.buffers.specs.Filling.{written_to}
use Rattle.moves.specs.Moving.{move_limits_rule, move_accepted}
use Rattle.moves.proofs.HolderCount.{holder-count}
use Rattle.moves.proofs.up.move_accepted.Goals as goal

-- ---- the answer
module _ (im b : List ℕ) where
  answer-limits : move_limits_rule im ≡ false → (Err MoveLimits, b) ≡ move_accepted im b
  answer-limits e = rw e

  answer-held : (n : ℕ) → n ≡ length (holders im) → move_limits_rule im ≡ true → (n ≡ 0 → ⊥) → (Err (CompaccessHolders n), b) ≡ move_accepted im b
  answer-held n is e some = rw (e, ne_eqb (length (holders im)) 0 (λ q. some (is ∙ q))) (ap (λ (k : ℕ). (Err (CompaccessHolders k), b)) is)

  answer-written : (n : ℕ) → n ≡ length (holders im) → move_limits_rule im ≡ true → n ≡ 0 → {answer : Amount × List ℕ}
      → answer ≡ written_to b (new_image Up im) → answer ≡ move_accepted im b
  answer-written n is e none q = rw (e, eq-eqb (length (holders im)) 0 (sym is ∙ none)) q

pub limits_ok-requires : goal.limits_ok-requires
limits_ok-requires c = header-inside _ c.requires.0.fitted

pub returns-then-not-limits_ok : goal.returns-then-not-limits_ok
returns-then-not-limits_ok c = answer-limits _ _ (sym c.limits_ok.ensures ∙ c.if-not-limits_ok.true)

pub returns-then-count-ne0 : goal.returns-then-count-ne0
returns-then-count-ne0 c =
    answer-held _ _ _ (holder-count _ c.holder_count-count.ensures) (sym c.limits_ok.ensures ∙ c.if-not-limits_ok.false) c.if-count-ne0.true

pub returns : goal.returns
returns c =
    let count = holder-count _ c.holder_count-count.ensures in
    let limits = sym c.limits_ok.ensures ∙ c.if-not-limits_ok.false in
    answer-written c.args.image.now c.args.buffer.now _ count limits c.if-count-ne0.false c.write_image.ensures
