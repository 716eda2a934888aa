-- The names of a list, with the set of the names before kept as four words. Assumes nothing.
use Rattle.std.proofs.Common.{Some}
use Prim.Native.Nat.{ℕ, ◌+◌, ◌-◌, ◌/◌, ◌%◌, ◌≤◌, ◌<◌}
use mathlib.Core.Path.{◌≡◌, ◌∙◌}
use mathlib.Core.Bool.{true, false}
use mathlib.Core.List.{List}
use native.Mathlib.Omega.{arith}
use lib.ListN.{length, get_or, take, drop, set}
use Rattle.sets.specs.Sets.{has, one, union}
use Rattle.sets.specs.Words.{joined}
use Rattle.sets.proofs.Words.{joined-has}
use Rattle.sets.proofs.EachWord.{joined-with}
use Rattle.header.specs.Limits.{Counted}
use Rattle.labels.specs.Text.{comma, split}
use Rattle.labels.specs.Parse.{repeated, read_names}
use Rattle.labels.specs.Lists.{found_of, until_mark, after_mark}
use Rattle.labels.proofs.Classes.{class-limit}
use Rattle.labels.proofs.Naming.{found_below, list-repeated, list-next}

-- the name from `at` up to `end` is that of place p, and the words have the names before it
module _ (im : List ℕ) (class : ℕ) (text : List ℕ) (at end : ℕ) (words : List ℕ) (inside : at ≤ length text)
    (ends : end ≡ at + until_mark comma (drop at text)) (below : end ≤ length text)
    (p : ℕ) (found : found_of im class (take (end - at) (drop at text)) ≡ Some p) where
  pub words-repeated : has (get_or words (p / 64) 0) (p % 64) ≡ true → repeated at ≡ read_names im class at (joined words) (split comma (drop at text))
  words-repeated h = list-repeated im class text at end (joined words) inside ends below p found (joined-has words p ∙ h)

  module _ (n : Counted im) (four : length words ≡ 4) where
    pub words-room : p / 64 < length words
    words-room = omega (arith, found_below im class (take (end - at) (drop at text)) p found, class-limit im class n, four)

    -- its place is put into the words
    pub words-next : has (get_or words (p / 64) 0) (p % 64) ≡ false → (w : ℕ) → w ≡ union (get_or words (p / 64) 0) (one (p % 64))
        → read_names im class (end + 1) (joined (set words (p / 64) w)) (after_mark comma text end)
        ≡ read_names im class at (joined words) (split comma (drop at text))
    words-next h w e =
        let same : joined (set words (p / 64) w) ≡ union (joined words) (one p) =
        rw e (joined-with words (p / 64) (p % 64) p words-room (omega arith) (omega arith)) in
        rw same (list-next im class text at end (joined words) inside ends below p found (joined-has words p ∙ h))
