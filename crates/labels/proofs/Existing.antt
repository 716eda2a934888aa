-- What the test that a label exists means; the labels of an accepted image exist, and those that are read from a text. Assumes nothing.
use Rattle.std.proofs.Common.{Ok}
use Prim.Native.Nat.{ℕ, ◌+◌, ◌^◌, ◌<◌}
use mathlib.Core.Path.{◌≡◌, refl, subst}
use mathlib.Core.Bool.{Bool, true, false, cond}
use mathlib.Core.List.{List, [], ◌∷◌}
use borrow.Author.Tests.{lt-ltb, ltb-true}
use lib.Dec.{ltb}
use lib.ListN.{length}
use Rattle.sets.specs.Sets.{has, none, one, union}
use Rattle.fields.proofs.Both.{parts}
use Rattle.sets.proofs.Bounds.{none_below, one_below, union-below, within-below, below-within}
use Rattle.records.proofs.MeaningLabels.{exist-holds}
use Rattle.header.specs.Layout.{edition_of, levels, compartments, groups, labels, label_record}
use Rattle.records.specs.Fields.{label_compartments, label_groups}
use Rattle.image.specs.Check.{IsAccepted}
use Rattle.image.proofs.Policy.{label_kept}
use Rattle.labels.specs.Label.{Marks, label_at, label_exists}
use Rattle.labels.specs.Text.{comma, colon, split}
use Rattle.labels.specs.Parse.{class_count, place_of_name, Reading, read, unknown, repeated}
use Rattle.labels.specs.Parse.{read_names, read_list, groups_after, read_sets, read_parts, parse_of}
use Rattle.labels.proofs.Tells.{refused-not-read, read-tells, then-read, text-parts, parsed-read}

-- every component that the label names is one of the policy
pub record Exists (im : List ℕ) (m : Marks) : Type 0 where
  pub level : m.level < levels im
  pub compartments : m.compartments < 2 ^ compartments im
  pub groups : m.groups < 2 ^ groups im

pub exists-means : (im : List ℕ) (m : Marks) → label_exists im m ≡ true → Exists im m
unfolding label_exists
exists-means im m e =
    let q2 = parts _ _ e in
    let q1 = parts _ _ q2.0 in
    record {
      level = ltb-true _ _ q1.0;
      compartments = within-below m.compartments (compartments im) q1.1;
      groups = within-below m.groups (groups im) q2.1;
    }

pub means-exists : (im : List ℕ) (m : Marks) → Exists im m → label_exists im m ≡ true
unfolding label_exists
means-exists im m x =
    rw (
      lt-ltb m.level (levels im) x.level,
      below-within m.compartments (compartments im) x.compartments,
      below-within m.groups (groups im) x.groups,
    )

-- ---- the labels of an accepted image exist
pub record-exists : (im : List ℕ) → IsAccepted im → (k : ℕ) → k < labels im → label_exists im (label_at im k) ≡ true
unfolding label_at
record-exists im acc k h =
    let kept = label_kept im acc k h in
    means-exists im (label_at im k)
    (record {
      level = kept.level_exists;
      compartments = within-below _ (compartments im) (exist-holds (label_compartments (label_record im k)) (compartments im) kept.compartments_exist);
      groups = within-below _ (groups im) (exist-holds (label_groups (edition_of im) (label_record im k)) (groups im) kept.groups_exist);
    })

-- ---- a list
module _ (im : List ℕ) (class : ℕ) where
  names-exist : (parts : List (List ℕ)) (offset set s : ℕ) → set < 2 ^ class_count im class → read_names im class offset set parts ≡ read s
      → s < 2 ^ class_count im class
  unfolding read_names
  names-exist [] offset set s h e = subst (λ (x : ℕ). x < 2 ^ class_count im class) (read-tells set s e) h
  names-exist (name ∷ rest) offset set s h e =
      at (ltb p (class_count im class)) refl (has set p) e (names-exist rest (offset + length name + 1) (union set (one p)) s)
    where
      p : ℕ
      p = place_of_name im class name

      later : Reading ℕ
      later = read_names im class (offset + length name + 1) (union set (one p)) rest

      at : (t : Bool) → ltb p (class_count im class) ≡ t → (u : Bool) → cond t (cond u (repeated offset) later) (unknown offset) ≡ read s
          → (union set (one p) < 2 ^ class_count im class → later ≡ read s → s < 2 ^ class_count im class) → s < 2 ^ class_count im class
      at true d true f go = absurd (refused-not-read _ s f)
      at true d false f go =
          go (union-below set (one p) (class_count im class) h (one_below p (class_count im class) (ltb-true p (class_count im class) d))) f
      at false d u f go = absurd (refused-not-read _ s f)

  pub list-exists : (text : List ℕ) (offset s : ℕ) → read_list im class offset text ≡ read s → s < 2 ^ class_count im class
  list-exists [] offset s e = subst (λ (x : ℕ). x < 2 ^ class_count im class) (read-tells none s e) (none_below (class_count im class))
  list-exists (x ∷ xs) offset s e = names-exist (split comma (x ∷ xs)) offset none s (none_below (class_count im class)) e

-- ---- a label
module _ (im : List ℕ) where
  exists : (l c g : ℕ) (m : Marks) → l < levels im → c < 2 ^ compartments im → g < 2 ^ groups im
      → read (record { level = l; compartments = c; groups = g }) ≡ read m → Exists im m
  exists l c g m hl hc hg e =
      subst (λ (x : Marks). Exists im x) (read-tells (record { level = l; compartments = c; groups = g }) m e)
      (record { level = hl; compartments = hc; groups = hg })

  groups-exist : (parts : List (List ℕ)) (l c offset : ℕ) (m : Marks) → l < levels im → c < 2 ^ compartments im
      → groups_after im l c offset parts ≡ read m → Exists im m
  groups-exist [] l c offset m hl hc e = exists l c none m hl hc (none_below (groups im)) e
  groups-exist (part ∷ more) l c offset m hl hc e =
      let g = then-read (read_list im 3 offset part) _ m e in
      exists l c g.0 m hl hc (list-exists im 3 part offset g.0 g.1.0) g.1.1

  sets-exist : (parts : List (List ℕ)) (l offset : ℕ) (m : Marks) → l < levels im → read_sets im l offset parts ≡ read m → Exists im m
  sets-exist [] l offset m h e = groups-exist [] l none offset m h (none_below (compartments im)) e
  sets-exist (part ∷ more) l offset m h e =
      let c = then-read (read_list im 2 offset part) _ m e in
      groups-exist more l c.0 (offset + length part + 1) m h (list-exists im 2 part offset c.0 c.1.0) c.1.1

  parts-exist : (parts : List (List ℕ)) (m : Marks) → read_parts im parts ≡ read m → Exists im m
  parts-exist [] m e = absurd (refused-not-read _ m e)
  parts-exist (name ∷ rest) m e = at (ltb (place_of_name im 1 name) (levels im)) refl e
    where
      at : (t : Bool) → ltb (place_of_name im 1 name) (levels im) ≡ t
          → cond t (read_sets im (place_of_name im 1 name) (length name + 1) rest) (unknown 0) ≡ read m → Exists im m
      at true d f = sets-exist rest (place_of_name im 1 name) (length name + 1) m (ltb-true _ _ d) f
      at false d f = absurd (refused-not-read _ m f)

  pub parsed-exists : (text : List ℕ) (m : Marks) → parse_of im text ≡ Ok m → Exists im m
  parsed-exists text m e = parts-exist (split colon text) m (text-parts im text m (parsed-read im text (read m) e).1)
