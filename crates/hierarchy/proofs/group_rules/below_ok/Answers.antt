use Prim.Native.Nat.{ℕ}
use mathlib.Core.Path.{◌≡◌, sym, ap, ◌∙◌}
use mathlib.Core.Bool.{Bool, true, ◌&&◌}
use Rattle.fields.proofs.Both.{both, parts, same_truth}
use Rattle.sets.specs.Sets.{union, within}
use Rattle.sets.specs.Groups.{places_of}
use Rattle.sets.proofs.Within.{within-trans, within-union-left, within-union-right, within-union-both}
use Rattle.records.specs.declared.users.GroupSets.{GroupSets}
use Rattle.hierarchy.specs.Forest.{Forest, below_in, forest_by}
use Rattle.hierarchy.specs.Below.{below_sets}
use Rattle.hierarchy.proofs.Under.{below-mono}
use Rattle.hierarchy.proofs.group_rules.below_ok.Goals as goal

-- two sets lie in a third exactly if their union does
each_within : (a b c : ℕ) → (within a c && within b c) ≡ within (union a b) c
each_within a b c =
    same_truth (within a c && within b c) (within (union a b) c)
    (λ e. let p = parts _ _ e in within-union-both a b c p.0 p.1)
    (λ e. both _ _ (within-trans a (union a b) c (within-union-left a b) e) (within-trans b (union a b) c (within-union-right a b) e))

-- and so are told by the test of their union
asked_together : (f : Forest) (sets : GroupSets) (both : ℕ) (told : Bool) → both ≡ union (places_of sets.write) (places_of sets.default)
    → told ≡ within both (below_in f (places_of sets.read))
    → (within (places_of sets.write) (below_in f (places_of sets.read)) && within (places_of sets.default) (below_in f (places_of sets.read))) ≡ told
asked_together f sets both told is tells =
    let reached : ℕ = below_in f (places_of sets.read) in
    each_within (places_of sets.write) (places_of sets.default) reached ∙ ap (λ (s : ℕ). within s reached) (sym is) ∙ sym tells

-- what lies below a set lies below a larger one too
either-below : (f : Forest) (row less more : ℕ) → within less more ≡ true
    → (within row (below_in f less) && within row (below_in f more)) ≡ within row (below_in f less)
either-below f row less more w =
    same_truth _ _ (λ e. (parts _ _ e).0) (λ e. both _ _ e (within-trans row (below_in f less) (below_in f more) e (below-mono f less more w)))

pub returns-then-not-lies_below : goal.returns-then-not-lies_below
unfolding below_sets
returns-then-not-lies_below c =
    let f = forest_by c.args.count c.args.table.now in
    rw (asked_together f c.args.sets _ _ c.union.ensures c.lies_below.ensures ∙ c.if-not-lies_below.true)

-- the default groups are in the write groups
pub returns-then-within : goal.returns-then-within
unfolding below_sets
returns-then-within c =
    let f = forest_by c.args.count c.args.table.now in
    rw (asked_together f c.args.sets _ _ c.union.ensures c.lies_below.ensures ∙ c.if-not-lies_below.false)
    (c.lies_below-then-within.ensures ∙ sym (either-below _ _ _ _ (sym c.within.ensures ∙ c.if-within.true)))

pub returns-then-not-lies_below-2 : goal.returns-then-not-lies_below-2
unfolding below_sets
returns-then-not-lies_below-2 c =
    let no = sym c.lies_below-2.ensures ∙ c.if-not-lies_below-2.true in
    let f = forest_by c.args.count c.args.table.now in
    rw (asked_together f c.args.sets _ _ c.union.ensures c.lies_below.ensures ∙ c.if-not-lies_below.false, no)

pub returns : goal.returns
unfolding below_sets
returns c =
    let yes = sym c.lies_below-2.ensures ∙ c.if-not-lies_below-2.false in
    let f = forest_by c.args.count c.args.table.now in
    rw (asked_together f c.args.sets _ _ c.union.ensures c.lies_below.ensures ∙ c.if-not-lies_below.false, yes) c.lies_below-3.ensures
