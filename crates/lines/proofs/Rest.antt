-- What is left of the report at a cursor, the parts that are written from it on, and the parts of a run joined. Assumes nothing.
use Rattle.std.proofs.Common.{Err, Some, None}
use Prim.Native.Nat.{ℕ, zero, suc, zero-le, ◌+◌, ◌-◌, ◌*◌, ◌≤◌, ◌<◌}
use mathlib.Core.Path.{◌≡◌, refl, sym, ap, ◌∙◌}
use mathlib.Core.Bool.{true≢false}
use mathlib.Core.List.{List, [], ◌++◌, flatten, append_assoc, append-nil}
use native.Mathlib.Nat.{suc-mul, sub-zero}
use native.Mathlib.Numerals.{add-one}
use native.Mathlib.Omega.{arith}
use lib.ListN.{length, take}
use Rattle.buffers.specs.Pasting.{Written}
use Rattle.buffers.proofs.Left.{written-long, written-taken}
use Rattle.header.specs.Layout.{users, labels}
use Rattle.hierarchy.specs.Below.{Tabled}
use Rattle.image.specs.Check.{check_of, IsAccepted}
use Rattle.refusals.specs.declared.Refusal.{Refusal}
use Rattle.refusals.specs.declared.Refusal.TheVariants.{ImageLength}
use Rattle.lines.specs.declared.parts.Cursor.{Cursor}
use Rattle.lines.specs.Lines.{users_from, report_of, refused_line, output_of}
use Rattle.lines.specs.Parts.{user_rest, rest_from, rest_of, start, steps_at, NextPart, FirstPart, LongOutput, PartsOf, last, and_then, FilledFrom}
use Rattle.lines.proofs.Turns.{rest-none}
use Rattle.lines.proofs.Saying.{past-buffer}

-- ---- what is left
module _ (im : List ℕ) where
  -- from the first record of a user on: all lines of that user and those after
  from-user : (n u : ℕ) → rest_from im n u 0 ≡ users_from im n u
  unfolding rest_from users_from user_rest
  from-user zero u = refl
  from-user (suc n) u = rw sub-zero

  pub rest-start : rest_of im start ≡ report_of im
  unfolding rest_of report_of
  rest-start = rw sub-zero (from-user (users im) 0)

  pub rest_end : (c : Cursor) → users im ≤ c.user → rest_of im c ≡ []
  unfolding rest_of rest_from
  rest_end c h =
      let n : users im - c.user ≡ 0 = omega arith in
      ap (λ (m : ℕ). rest_from im m c.user c.label) n

  -- the users after u
  abbrev after : ℕ → List ℕ
  after u = users_from im (users im - suc u) (suc u)

  rest-user : (c : Cursor) → c.user < users im → rest_of im c ≡ user_rest im c.user c.label ++ after c.user
  unfolding rest_of rest_from
  rest-user c h =
      let n : users im - c.user ≡ suc (users im - suc c.user) = omega arith in
      ap (λ (m : ℕ). rest_from im m c.user c.label) n

  -- the cursor after a user's last line
  abbrev past : ℕ → Cursor
  past u = record { user = u + 1; label = 0 }

  rest-past : (u : ℕ) → rest_of im (past u) ≡ after u
  unfolding rest_of
  rest-past u = ap (λ (j : ℕ). rest_from im (users im - j) j 0) (add-one u) ∙ from-user (users im - suc u) (suc u)

  no-after : (u : ℕ) → users im ≤ u + 1 → [] ≡ after u
  unfolding users_from
  no-after u l =
      let n : users im - suc u ≡ 0 = omega arith in
      sym (ap (λ (m : ℕ). users_from im m (suc u)) n)

  -- ---- a part
  module _ (from : Cursor) where
    pub part_none : (b : List ℕ) → users im ≤ from.user → NextPart im from b b (record { length = 0; next = None })
    part_none b h = record { part = record { inside = zero-le; joined = sym (rest_end from h) }; fewer = λ room. zero-le }

    -- fewer steps are left after the user's last line
    fewer-past : from.user < users im → steps_at im (past from.user) < steps_at im from
    unfolding steps_at
    fewer-past here =
        let n : users im - from.user ≡ suc (users im - (from.user + 1)) = omega arith in
        let m = ap (λ (j : ℕ). j * suc (labels im)) n ∙ suc-mul (users im - (from.user + 1)) (suc (labels im)) in
        omega arith

    module _ {b text : List ℕ} {next end : ℕ} (here : from.user < users im) (f : FilledFrom im from.user from.label b text next end) where
      -- the user has more lines
      pub part-inside : next < labels im
          → NextPart im from b text (record { length = end; next = Some (record { user = from.user; label = next }) })
      unfolding steps_at
      part-inside l =
          let c : Cursor = record { user = from.user; label = next } in
          record {
            part =
                record {
                  inside = f.inside;
                  joined =
                      ap (λ (t : List ℕ). take end text ++ t) (rest-user c here)
                      ∙ sym (append_assoc (take end text) (user_rest im from.user next) (after from.user))
                      ∙ ap (λ (t : List ℕ). t ++ after from.user) f.joined
                      ∙ sym (rest-user from here);
                };
            fewer = λ room. omega (arith, f.some (omega (arith, f.from)) room);
          }

      -- it has none: the text that was written is the user's
      user-whole : labels im ≤ next → {rest : List ℕ} → rest ≡ after from.user → take end text ++ rest ≡ rest_of im from
      user-whole l {rest} e =
          let all : take end text ≡ user_rest im from.user from.label =
          sym (append-nil (take end text)) ∙ ap (λ (t : List ℕ). take end text ++ t) (sym (rest-none im from.user next l)) ∙ f.joined in
          ap (λ (t : List ℕ). take end text ++ t) e ∙ ap (λ (t : List ℕ). t ++ after from.user) all ∙ sym (rest-user from here)

      -- another user comes
      pub part-user : labels im ≤ next → NextPart im from b text (record { length = end; next = Some (past from.user) })
      part-user l =
          record {
            part = record { inside = f.inside; joined = user-whole l (rest-past from.user) };
            fewer = λ room. fewer-past here;
          }

      -- it was the last user
      pub part-last : labels im ≤ next → users im ≤ from.user + 1 → NextPart im from b text (record { length = end; next = None })
      part-last l none =
          record { part = record { inside = f.inside; joined = user-whole l (no-after from.user none) }; fewer = λ room. zero-le }

-- ---- the first part
-- a refusal's line that was written stands at the buffer's front
refused-front : (r : Refusal) (b : List ℕ) → 64 ≤ length b → {after : List ℕ} {n : ℕ} → Written b 0 (refused_line r) after n → n ≤ 64
    → (n ≤ length after) × (take n after ≡ refused_line r)
refused-front r b room w short =
    let fits : 0 + length (refused_line r) ≤ length b = omega (arith, w.stop) in
    let long = written-long fits w in
    (omega arith, written-taken fits w)

module _ (im table : List ℕ) where
  pub first-accepted : IsAccepted im → Tabled im table → (after : List ℕ) → FirstPart im table after (record { length = 0; next = Some start })
  unfolding output_of
  first-accepted acc tabled after =
      record { part = record { inside = zero-le; joined = rw acc (rest-start im) }; going = λ some. (acc, tabled) }

  pub first-refused : (r : Refusal) → check_of im ≡ Err r → (b : List ℕ) → 64 ≤ length b → {after : List ℕ} {n : ℕ}
      → Written b 0 (refused_line r) after n → n ≤ 64 → FirstPart im table after (record { length = n; next = None })
  unfolding output_of
  first-refused r refused b room {after} {n} w short =
      let front = refused-front r b room w short in
      record {
        part = record { inside = front.0; joined = rw refused (append-nil (take n after) ∙ front.1) };
        going = λ some. absurd (true≢false (sym some));
      }

-- an input that is longer than an image may be
pub long-output : (b : List ℕ) → 64 ≤ length b → {after : List ℕ} {n : ℕ} → Written b 0 (refused_line ImageLength) after n → n ≤ 64
    → LongOutput after n
long-output b room w short =
    let front = refused-front ImageLength b room w short in
    record { inside = front.0; whole = λ im long. front.1 ∙ sym (past-buffer im long) }

-- ---- a run
-- its parts joined are the text that they were to write
pub parts-joined : {im text : List ℕ} {parts : List (List ℕ)} → PartsOf im text parts → flatten parts ≡ text
unfolding flatten
parts-joined (last one none) = rw none at one.joined
parts-joined {im} (and_then {text} {after} {p} one next rest) =
    ap (λ (t : List ℕ). take p.length after ++ t) (parts-joined rest) ∙ (rw next at one.joined)

-- so a run that begins with the first part writes the output: the report of an accepted image, or the refusal's line
pub output-joined : {im : List ℕ} {parts : List (List ℕ)} → PartsOf im (output_of im) parts → flatten parts ≡ output_of im
output-joined run = parts-joined run
