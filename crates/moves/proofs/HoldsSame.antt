-- What the image that a move writes holds: the same components, labels and users, with the privileges that the move leaves. Assumes nothing.
use Prim.Native.Nat.{ℕ, ◌+◌, ◌≤◌, ◌<◌}
use mathlib.Core.Path.{◌≡◌, refl, sym, ap, ap₂, ◌∙◌}
use mathlib.Core.Bool.{Bool, true, false, cond}
use mathlib.Core.List.{List}
use native.Mathlib.Omega.{arith}
use borrow.Author.Tests.{eqb-true, ltb-true, le-ltb}
use lib.Dec.{eqb, ltb}
use Rattle.header.specs.declared.edition.Edition.{Edition}
use Rattle.header.specs.declared.edition.Edition.TheVariants.{One}
use Rattle.header.specs.declared.layout.Kind.TheVariants.{Component, Label, User}
use Rattle.header.specs.declared.counts.Counts.{Counts}
use Rattle.header.specs.Layout.{edition_of, profile_of, levels, compartments, groups, users, labels, components, class_first}
use Rattle.header.specs.Layout.{component_record, label_record, user_record}
use Rattle.header.specs.Limits.{Counted}
use Rattle.records.specs.Fields.{parent_of, no_parent}
use Rattle.hierarchy.specs.Forest.{has_parent_in}
use Rattle.hierarchy.specs.Below.{parent, has_parent}
use Rattle.hierarchy.proofs.OfImage.{parent-record}
use Rattle.moves.specs.declared.target.Move.{Move}
use Rattle.moves.specs.declared.target.Move.TheVariants.{Up, Clear}
use Rattle.moves.specs.Moved.{edition_after, new_image}
use Rattle.moves.proofs.RecordsAlike.{held_after, ComponentAlike, LabelAlike, UserAlike}
use Rattle.moves.proofs.Alike.{component-alike, label-alike, user-alike}
use Rattle.moves.proofs.NewImage.{old-groups, old-length, moved-edition, moved-counts, moved-count, moved-record}

-- two images, each of its own edition, have the same components, labels and users at the same places; `change` says what became of privileges
pub record HoldsTheSame (change : ℕ → ℕ) (im new : List ℕ) : Type 0 where
  -- the profile, and as many of each
  pub same_profile : profile_of new ≡ profile_of im
  pub same_levels : levels new ≡ levels im
  pub same_compartments : compartments new ≡ compartments im
  pub same_groups : groups new ≡ groups im
  pub same_users : users new ≡ users im
  pub same_labels : labels new ≡ labels im
  -- each component has its class, name, numeric form and parent
  pub component : (i : ℕ) → i < components im
      → ComponentAlike (edition_of im) (edition_of new) (component_record im i) (component_record new i)
  -- so the same groups have a parent, and the same one
  pub parents : (g : ℕ) → g < groups im → has_parent new g ≡ has_parent im g
  pub parent_same : (g : ℕ) → g < groups im → has_parent im g ≡ true → parent new g ≡ parent im g
  -- each label has its tag, level, compartments and groups
  pub label : (k : ℕ) → k < labels im → LabelAlike (edition_of im) (edition_of new) (label_record im k) (label_record new k)
  -- each user has the name, the privileges that `change` leaves, the levels, the compartments and the groups
  pub user : (u : ℕ) → u < users im → UserAlike change (edition_of im) (edition_of new) (user_record im u) (user_record new u)

-- ---- a parent is the same in both editions: 255 is no group of edition 1, nor is 65,535 one of edition 2
module _ (count p : ℕ) (few : count ≤ 255) where
  abbrev parent_after : Move → ℕ
  parent_after which = cond (eqb p 255) (no_parent (edition_after which)) p

  none-far : (which : Move) → 255 ≤ no_parent (edition_after which)
  none-far Up = omega arith
  none-far Clear = omega arith

  wide-has : (which : Move) → ltb (parent_after which) count ≡ ltb p count
  wide-has which = at (eqb p 255) refl
    where
      at : (t : Bool) → eqb p 255 ≡ t → ltb (cond t (no_parent (edition_after which)) p) count ≡ ltb p count
      at true e =
          let q : p ≡ 255 = eqb-true p 255 e in
          le-ltb (no_parent (edition_after which)) count (omega (arith, none-far which)) ∙ sym (le-ltb p count (omega arith))
      at false e = refl

  pub wide-same : (which : Move) → ltb p count ≡ true → parent_after which ≡ p
  wide-same which h = at (eqb p 255) refl
    where
      at : (t : Bool) → eqb p 255 ≡ t → cond t (no_parent (edition_after which)) p ≡ p
      at true e =
          let q : p ≡ 255 = eqb-true p 255 e in
          absurd (omega (arith, ltb-true p count h))
      at false e = refl

module _ (which : Move) (im : List ℕ) (k : Counted im) (old : edition_of im ≡ One) where
  abbrev new : List ℕ
  new = new_image which im

  few-groups : groups im ≤ 255
  few-groups = omega (arith, old-groups im old k.groups_limit)

  groups-same : groups new ≡ groups im
  groups-same = ap (λ (n : Counts). n.groups) (moved-counts which im k.fitted old)

  component-moved : (i : ℕ) → i < components im
      → ComponentAlike (edition_of im) (edition_of new) (component_record im i) (component_record new i)
  component-moved i h =
      rw (old, moved-edition which im k.fitted old, moved-record which im k.fitted old Component i h)
      (component-alike which (component_record im i) (old-length im k.fitted old Component i h))

  parent-moved : (g : ℕ) → g < groups im → parent new g ≡ cond (eqb (parent im g) 255) (no_parent (edition_after which)) (parent im g)
  unfolding class_first components
  parent-moved g h =
      let i : ℕ = levels im + compartments im + g in
      let p : ℕ = parent_of (edition_of im) (component_record im i) in
      let there : g < groups new = omega (arith, groups-same) in
      rw (parent-record new g there, parent-record im g h)
      (ap (λ (n : Counts). parent_of (edition_of new) (component_record new (n.levels + n.compartments + g))) (moved-counts which im k.fitted old)
      ∙ (component-moved i (omega arith)).parent
      ∙ ap₂ (λ (e f : Edition). cond (eqb p (no_parent e)) (no_parent f) p) old (moved-edition which im k.fitted old))

  parents-moved : (g : ℕ) → g < groups im → has_parent new g ≡ has_parent im g
  unfolding has_parent_in
  parents-moved g h = ap₂ ltb (parent-moved g h) groups-same ∙ wide-has (groups im) (parent im g) few-groups which

  parent-same : (g : ℕ) → g < groups im → has_parent im g ≡ true → parent new g ≡ parent im g
  unfolding has_parent_in
  parent-same g h e = parent-moved g h ∙ wide-same (groups im) (parent im g) few-groups which e

  pub moved_holds : HoldsTheSame (held_after which) im new
  moved_holds =
      record {
        same_profile = ap (λ (n : Counts). n.profile) (moved-counts which im k.fitted old);
        same_levels = ap (λ (n : Counts). n.levels) (moved-counts which im k.fitted old);
        same_compartments = ap (λ (n : Counts). n.compartments) (moved-counts which im k.fitted old);
        same_groups = groups-same;
        same_users = moved-count which im k.fitted old User;
        same_labels = moved-count which im k.fitted old Label;
        component = component-moved;
        parents = parents-moved;
        parent_same = parent-same;
        label = λ i h.
            rw (old, moved-edition which im k.fitted old, moved-record which im k.fitted old Label i h)
            (label-alike which (label_record im i) (old-length im k.fitted old Label i h));
        user = λ i h.
            rw (old, moved-edition which im k.fitted old, moved-record which im k.fitted old User i h)
            (user-alike which (user_record im i) (old-length im k.fitted old User i h));
      }
