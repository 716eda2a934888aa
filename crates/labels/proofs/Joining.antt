-- Reading the parts of a text between its colons, one after the other. Assumes nothing.
use Rattle.std.proofs.Common.{Some, None, Result, Ok}
use Prim.Native.Nat.{ℕ, ◌+◌, ◌-◌, ◌*◌, ◌/◌, ◌%◌, ◌^◌, ◌≤◌, ◌<◌}
use mathlib.Core.Path.{◌≡◌, sym, ap, ◌∙◌}
use mathlib.Core.List.{List, ◌∷◌}
use native.Mathlib.Nat.{sub-zero, lt_of_lt_of_le}
use native.Mathlib.Omega.{arith}
use borrow.Author.Tests.{lt-ltb, le-ltb}
use lib.ListN.{length, take, drop, length-take, length-drop}
use lib.Pow.{pow_mono}
use Rattle.fields.proofs.Laws.{drop-take}
use Rattle.sets.specs.Sets.{none}
use Rattle.sets.specs.Groups.{places_of}
use Rattle.sets.specs.declared.groups.Groups.{Groups}
use Rattle.header.specs.Layout.{compartments}
use Rattle.header.specs.Limits.{Counted}
use Rattle.labels.specs.declared.answers.Reason.{Reason}
use Rattle.labels.specs.Text.{colon, split}
use Rattle.labels.specs.Parse.{read, unknown, then_read, read_list, groups_after, read_sets, read_parts}
use Rattle.labels.specs.Lists.{found_of, until_mark, after_mark, list_of}
use Rattle.labels.proofs.Splitting.{split_from}
use Rattle.labels.proofs.Existing.{list-exists}
use Rattle.labels.proofs.Naming.{found_at, found_nothing}

-- a set read from the compartments' list lies in the first 64 places, however many a set of groups has room for
first_word : (im : List ℕ) → Counted im → (offset : ℕ) (text : List ℕ) (n : Result Groups Reason) (g : Groups) → n ≡ Ok g
    → list_of n ≡ read_list im 2 offset text → places_of g / 2 ^ (64 * 0) % 2 ^ 64 ≡ places_of g
first_word im k offset text n g e d =
    let h : places_of g < 2 ^ compartments im = list-exists im 2 text offset (places_of g) (sym d ∙ ap list_of e) in
    let low : places_of g < 2 ^ 64 = lt_of_lt_of_le h (pow_mono k.compartments_limit) in
    omega arith

-- ---- the part after the one that ends at `end`; it ends at `stop` itself
module _ (im : List ℕ) (text : List ℕ) (level end stop : ℕ) (more : end < length text)
    (ends : stop ≡ end + 1 + until_mark colon (drop (end + 1) text)) (below : stop ≤ length text) where
  part-here : after_mark colon text end ≡ drop (end + 1) (take (stop - 0) (drop 0 text)) ∷ after_mark colon text stop
  part-here =
      let h : end + 1 ≤ length text = omega arith in
      rw (lt-ltb end (length text) more, split_from colon text (end + 1) stop h ends, sub-zero, drop-take (end + 1) stop text)

  abbrev part : List ℕ
  part = drop (end + 1) (take (stop - 0) (drop 0 text))

  part_end : end + 1 + length (drop (end + 1) (take (stop - 0) (drop 0 text))) + 1 ≡ stop + 1
  part_end = simp (length-drop, length-take) (omega arith)

  module _ (n m : Result Groups Reason) (told : n ≡ m) where
    pub groups-told : (compartments : ℕ) → list_of n ≡ read_list im 3 (end + 1) (drop (end + 1) (take (stop - 0) (drop 0 text)))
        → then_read (list_of m) (λ g. read (record { level = level; compartments = compartments; groups = g }))
        ≡ groups_after im level compartments (end + 1) (after_mark colon text end)
    groups-told compartments e = rw (part-here, ← e, told)

    pub sets-told : list_of n ≡ read_list im 2 (end + 1) (drop (end + 1) (take (stop - 0) (drop 0 text)))
        → then_read (list_of m) (λ c. groups_after im level c (stop + 1) (after_mark colon text stop))
        ≡ read_sets im level (end + 1) (after_mark colon text end)
    sets-told e =
        sym (rw part-here
        (ap (λ (o : ℕ). then_read (read_list im 2 (end + 1) part) (λ c. groups_after im level c o (after_mark colon text stop))) part_end
        ∙ rw (← e, told)))

  pub sets-read : Counted im → (n : Result Groups Reason) (g : Groups) → n ≡ Ok g
      → list_of n ≡ read_list im 2 (end + 1) (drop (end + 1) (take (stop - 0) (drop 0 text)))
      → groups_after im level (places_of g / 2 ^ (64 * 0) % 2 ^ 64) (stop + 1) (after_mark colon text stop)
      ≡ read_sets im level (end + 1) (after_mark colon text end)
  sets-read k n g told e = rw (first_word im k (end + 1) part n g told e) (sets-told n (Ok g) told e)

-- ---- a text that ends there has no further part
module _ (im : List ℕ) (text : List ℕ) (level end : ℕ) (done : length text ≤ end) where
  pub groups_none : (compartments : ℕ)
      → read (record { level = level; compartments = compartments; groups = none }) ≡ groups_after im level compartments (end + 1) (after_mark colon text end)
  groups_none compartments = rw (le-ltb end (length text) done)

  pub sets-none : read (record { level = level; compartments = none; groups = none }) ≡ read_sets im level (end + 1) (after_mark colon text end)
  sets-none = rw (le-ltb end (length text) done)

-- ---- the level
module _ (im : List ℕ) (text : List ℕ) (end : ℕ) (ends : end ≡ 0 + until_mark colon (drop 0 text)) (below : end ≤ length text) where
  abbrev name : List ℕ
  name = take (end - 0) (drop 0 text)

  name-first : split colon text ≡ name ∷ after_mark colon text end
  name-first = split_from colon text 0 end (omega arith) ends

  name-end : length name + 1 ≡ end + 1
  name-end = simp (length-take, sub-zero) (omega arith)

  pub level-unknown : found_of im 1 name ≡ None → unknown 0 ≡ read_parts im (split colon text)
  level-unknown e = rw (name-first, found_nothing im 1 name e)

  pub level-found : (p : ℕ) → found_of im 1 name ≡ Some p → read_sets im p (end + 1) (after_mark colon text end) ≡ read_parts im (split colon text)
  level-found p e =
      let f = found_at im 1 name p e in
      rw (name-first, f.0, f.1) (ap (λ (o : ℕ). read_sets im p o (after_mark colon text end)) (sym name-end))
