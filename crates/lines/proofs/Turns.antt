-- The lines of a user that are left, and the loop that fills a buffer with them. Assumes nothing.
use Prim.Native.Nat.{ℕ, suc, ◌+◌, ◌-◌, ◌≤◌, ◌<◌}
use mathlib.Core.Path.{◌≡◌, sym, ap, ◌∙◌}
use mathlib.Core.List.{List, [], ◌++◌, append_assoc}
use native.Mathlib.Numerals.{add-one}
use native.Mathlib.Omega.{arith}
use lib.ListN.{length, take}
use Rattle.buffers.specs.Pasting.{Written}
use Rattle.buffers.proofs.Left.{written-long, written-taken}
use Rattle.header.specs.Layout.{users, labels}
use Rattle.image.specs.Check.{IsAccepted}
use Rattle.lines.specs.Lines.{line_at, lines_from}
use Rattle.lines.specs.Parts.{user_rest, FilledFrom}
use Rattle.lines.proofs.Joined.{line-short}

module _ (im : List ℕ) (u : ℕ) where
  -- a line, and the rest
  pub rest-line : (k : ℕ) → k < labels im → user_rest im u k ≡ line_at im u k ++ user_rest im u (k + 1)
  unfolding user_rest lines_from
  rest-line k h =
      let n : labels im - k ≡ suc (labels im - suc k) = omega arith in
      ap (λ (m : ℕ). lines_from im u m k) n
      ∙ ap (λ (j : ℕ). line_at im u k ++ lines_from im u (labels im - j) j) (sym (add-one k))

  pub rest-none : (k : ℕ) → labels im ≤ k → user_rest im u k ≡ []
  unfolding user_rest lines_from
  rest-none k h =
      let n : labels im - k ≡ 0 = omega arith in
      ap (λ (m : ℕ). lines_from im u m k) n

-- the loop that fills a buffer: the lines from the k-th label record up to `next` are written
pub record Filling (im : List ℕ) (u k : ℕ) (b₀ b : List ℕ) (next end : ℕ) : Type 0 where
  pub from : k ≤ next
  pub long : length b ≡ length b₀
  pub inside : end ≤ length b₀
  pub begun : 0 < end → k < next
  pub joined : take end b ++ user_rest im u next ≡ user_rest im u k

module _ (im : List ℕ) (u k : ℕ) (b₀ : List ℕ) where
  module _ {b : List ℕ} {next end : ℕ} (f : Filling im u k b₀ b next end) where
    pub filling-turn : IsAccepted im → u < users im → next < labels im → end + 43 ≤ length b → {after : List ℕ} {r : ℕ}
        → Written b end (line_at im u next) after r → Filling im u k b₀ after (next + 1) r
    filling-turn acc here there room {after} {r} w =
        let short = line-short im acc u next here there in
        let fits : end + length (line_at im u next) ≤ length b = omega arith in
        let l = written-long fits w in
        record {
          from = omega (arith, f.from);
          long = l ∙ f.long;
          inside = omega (arith, w.stop, f.long);
          begun = λ h. omega (arith, f.from);
          joined =
              ap (λ (t : List ℕ). t ++ user_rest im u (next + 1)) (written-taken fits w)
              ∙ append_assoc (take end b) (line_at im u next) (user_rest im u (next + 1))
              ∙ ap (λ (t : List ℕ). take end b ++ t) (sym (rest-line im u next there))
              ∙ f.joined;
        }

    -- it stops where no line is left, which is so at any later record too, or where a line may lack room
    pub filling-end : labels im ≤ next → {stop : ℕ} → labels im ≤ stop → k ≤ stop → FilledFrom im u k b₀ b stop end
    filling-end h {stop} past from =
        record {
          from = from;
          inside = omega (arith, f.inside, f.long);
          joined = ap (λ (t : List ℕ). take end b ++ t) (rest-none im u stop past ∙ sym (rest-none im u next h)) ∙ f.joined;
          some = λ l room. omega arith;
        }

    pub filling-full : length b - end < 43 → FilledFrom im u k b₀ b next end
    filling-full h =
        record {
          from = f.from;
          inside = omega (arith, f.inside, f.long);
          joined = f.joined;
          some = λ l room. f.begun (omega (arith, f.long));
        }
