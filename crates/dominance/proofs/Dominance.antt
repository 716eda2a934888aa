-- Strict dominance is dominance of labels that differ; a label that the policy has dominates itself. Assumes nothing.
use Prim.Native.Nat.{ℕ}
use mathlib.Core.Path.{◌≡◌, refl, sym, ap, ◌∙◌}
use mathlib.Core.Bool.{Bool, true, false, not, ◌&&◌, ◌||◌, true≢false}
use mathlib.Core.List.{List}
use native.Mathlib.Nat.{le_refl}
use borrow.Author.Tests.{eqb-true, eq-eqb, le-leb}
use Rattle.fields.proofs.Both.{parts}
use Rattle.sets.specs.Sets.{empty, within, meets}
use Rattle.sets.proofs.Within.{within-refl, within-trans}
use Rattle.sets.proofs.Meets.{empty-place, place-meets, meets-mono}
use Rattle.header.specs.declared.profile.Profile.{Profile}
use Rattle.header.specs.declared.profile.Profile.TheVariants.{Tree, Release}
use Rattle.header.specs.Layout.{profile_of, by_profile}
use Rattle.hierarchy.specs.Below.{forest_of, below, reach}
use Rattle.hierarchy.proofs.Under.{below_self, below-mono}
use Rattle.labels.specs.Label.{Marks, label_exists}
use Rattle.labels.specs.GroupTest.{group_test}
use Rattle.labels.proofs.Existing.{exists-means}
use Rattle.dominance.specs.TwoLabels.{dominates_level, dominates_compartments, dominates_groups, dominates, same_label, strictly_dominates}

pub same-means : (a b : Marks) → same_label a b ≡ true → a ≡ b
unfolding same_label
same-means a b e =
    let q2 = parts _ _ e in
    let q1 = parts _ _ q2.0 in
    let l : a.level ≡ b.level = eqb-true _ _ q1.0 in
    let c : a.compartments ≡ b.compartments = eqb-true _ _ q1.1 in
    let g : a.groups ≡ b.groups = eqb-true _ _ q2.1 in
    let e : ◌≡◌ {A = Marks} (record { level = a.level; compartments = a.compartments; groups = a.groups })
    (record { level = b.level; compartments = b.compartments; groups = b.groups }) = rw (l, c, g) in
    e

pub same_refl : (a : Marks) → same_label a a ≡ true
unfolding same_label
same_refl a = rw (eq-eqb a.level a.level refl, eq-eqb a.compartments a.compartments refl, eq-eqb a.groups a.groups refl)

pub strictly-means : (im : List ℕ) (a b : Marks) → strictly_dominates im a b ≡ true → (dominates im a b ≡ true) × (a ≡ b → ⊥)
unfolding strictly_dominates
strictly-means im a b e =
    let q = parts _ _ e in
    (q.0, λ (s : a ≡ b). true≢false (sym q.1 ∙ ap not (ap (λ (x : Marks). same_label a x) (sym s) ∙ same_refl a)))

pub means-strictly : (im : List ℕ) (a b : Marks) → dominates im a b ≡ true → (a ≡ b → ⊥) → strictly_dominates im a b ≡ true
unfolding strictly_dominates
means-strictly im a b d n = at (same_label a b) refl
  where
    at : (t : Bool) → same_label a b ≡ t → (dominates im a b && not t) ≡ true
    at true e = absurd (n (same-means a b e))
    at false e = rw d

-- groups among others pass the group test against them
groups-among : (s u : ℕ) → within s u ≡ true → group_test Tree u s ≡ true
unfolding group_test
groups-among s u w = at (empty s) refl
  where
    at : (t : Bool) → empty s ≡ t → (t || meets s u) ≡ true
    at true e = refl
    at false e =
        let p = empty-place s e in
        meets-mono s s s u (within-refl s) w (place-meets s s p.0 p.1 p.1)

-- a holds the groups of b; in the release profile b those of a
abbrev pub GroupsHeld : Profile → Marks → Marks → Type 0
GroupsHeld Tree a b = within b.groups a.groups ≡ true
GroupsHeld Release a b = within a.groups b.groups ≡ true

-- so groups that exist are passed by any that hold them
pub held-groups : (im : List ℕ) (a b : Marks) → label_exists im b ≡ true → GroupsHeld (profile_of im) a b → dominates_groups im a b ≡ true
unfolding dominates_groups reach group_test
held-groups im a b e = at (profile_of im)
  where
    at : (p : Profile) → GroupsHeld p a b → group_test p (by_profile p (below im a.groups) a.groups) b.groups ≡ true
    at Tree w =
        groups-among b.groups (below im a.groups)
        (within-trans b.groups (below im b.groups) (below im a.groups) (below_self (forest_of im) b.groups (exists-means im b e).groups)
        (below-mono (forest_of im) b.groups a.groups w))
    at Release w = w

same-held : (p : Profile) (a : Marks) → GroupsHeld p a a
same-held Tree a = within-refl a.groups
same-held Release a = within-refl a.groups

pub dominates-itself : (im : List ℕ) (a : Marks) → label_exists im a ≡ true → dominates im a a ≡ true
unfolding dominates dominates_level dominates_compartments
dominates-itself im a e =
    rw (le-leb a.level a.level (le_refl a.level), within-refl a.compartments) (held-groups im a a e (same-held (profile_of im) a))
